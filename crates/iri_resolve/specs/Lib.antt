pub mod Scheme
pub mod Components
pub mod Parts
pub mod DotSegments
pub mod Resolution
pub mod PlainPaths

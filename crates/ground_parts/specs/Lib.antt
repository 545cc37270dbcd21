pub mod Ground
pub mod Laws
pub mod Lines
pub mod Parts

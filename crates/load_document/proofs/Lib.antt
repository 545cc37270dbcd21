pub mod Parts
pub mod Whole
pub mod Statements
pub mod Sizes
pub mod NoFault

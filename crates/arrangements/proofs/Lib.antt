pub mod Permuting
pub mod Order
pub mod Stepping
pub mod Sequence
pub mod Ending

pub mod Meaning
pub mod Leaves
pub mod Values

pub mod Arrangements
pub mod Falling

pub mod Moving
pub mod Tails
pub mod Witness

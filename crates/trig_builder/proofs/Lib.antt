pub mod Growth
pub mod Putting
pub mod Items
pub mod Meanings

pub mod Entries
pub mod Grouping
pub mod Gathering

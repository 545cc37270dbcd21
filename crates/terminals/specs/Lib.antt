pub mod Terminal
pub mod Escapes
pub mod Spellings
pub mod Terminals

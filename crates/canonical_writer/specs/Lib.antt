pub mod Names
pub mod Escapes
pub mod Pieces
pub mod Places
pub mod Determined
pub mod Runs
pub mod KeyNumbers

pub mod OneLeaf
pub mod TokenLists
pub mod Meanings
pub mod Numbering
pub mod Causes
pub mod Taking
pub mod Drafted
pub mod Lines

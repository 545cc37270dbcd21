pub mod Lines
pub mod Tokens
pub mod Document
pub mod Reading

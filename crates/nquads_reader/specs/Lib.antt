pub mod Suffixes
pub mod Lines
pub mod Grammar
pub mod Document
pub mod Reading
pub mod Pieces
pub mod Feeding
pub mod RoundTrip

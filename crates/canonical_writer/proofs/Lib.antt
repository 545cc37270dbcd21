pub mod Escaping
pub mod Texts
mod LinePlaces
pub mod Pieces
pub mod Placing
pub mod Splitting
mod Fronts
mod Groups
mod Stretches
pub mod NumberOrder
mod MovedKeys
pub mod Unescaping
pub mod TermTexts
pub mod LineTexts
pub mod NameTexts
pub mod Matching
pub mod Partners
pub mod TextTells
pub mod NamedNodes

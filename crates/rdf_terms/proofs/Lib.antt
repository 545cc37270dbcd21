pub mod Membership
pub mod MadeLists
pub mod Moving
pub mod Added
pub mod Equal
pub mod SameTerm
pub mod HashedTerms
pub mod Growing
pub mod Adding
pub mod AddingAll
pub mod KnownEnds
mod LastWords
pub mod Naming
pub mod Permutations
pub mod TextOrder
pub mod Arrangements
pub mod AscendingArrangements
pub mod SortedTexts
pub mod Numerals
pub mod Searching
pub mod Ranks
pub mod Finishing
pub mod Marking
pub mod Keeping
pub mod Leaving
mod FirstPlaces
pub mod Common

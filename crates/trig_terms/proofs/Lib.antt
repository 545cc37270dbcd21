pub mod Whole
pub mod LongStrings
pub mod Datatypes

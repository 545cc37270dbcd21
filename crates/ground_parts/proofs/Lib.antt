mod Filtered
pub mod Ground
pub mod SameHashes
pub mod SameRuns
pub mod SameOutcomes
pub mod SameSymmetries
pub mod Merging
mod AscendingLines
pub mod GroundTexts
pub mod Texts
pub mod Whole
pub mod MergedTexts

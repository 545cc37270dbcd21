pub mod Numbering
pub mod Along
pub mod SharedOutputs
pub mod OneForm
pub mod Openness
pub mod Answers
pub mod NewResults
pub mod TwoOutcomes

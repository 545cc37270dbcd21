pub mod Entailment
pub mod Laws
pub mod Answers
pub mod Numbers
pub mod Crossed
pub mod Workspace
pub mod Searched

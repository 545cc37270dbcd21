mod Inputs
pub mod QuadEntries
mod NodesOnce
mod SortedGroups
pub mod SoFar

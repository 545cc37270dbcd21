pub mod QuadOrder
pub mod ByKey
pub mod BySubject
pub mod Mentions
pub mod Segments
pub mod NodeTerms
pub mod HeldNodes
pub mod Indexed

pub mod Membership
pub mod NamedFiles

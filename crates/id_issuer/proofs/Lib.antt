pub mod Places
pub mod IssuedInTurn

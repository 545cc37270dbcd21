pub mod Images
pub mod Exchanging
pub mod Carrying
pub mod Judging
pub mod Terms
pub mod Places
pub mod PlaceByPlace
pub mod Whole

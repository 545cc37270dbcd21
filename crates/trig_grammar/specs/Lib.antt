pub mod Grammar
pub mod Places
pub mod Beginnings
pub mod Table
pub mod Stack
pub mod Published
pub mod Reach

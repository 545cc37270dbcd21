pub mod Canonical
pub mod Outputs
pub mod HashOrder
pub mod Results
pub mod Classes

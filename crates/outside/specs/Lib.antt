pub mod Faults
pub mod Reads
pub mod FaultPlan
pub mod MemoryShelf
pub mod MemorySink

pub mod Search
pub mod LaneLengths
pub mod ByteTables

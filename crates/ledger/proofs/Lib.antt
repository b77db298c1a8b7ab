pub mod Changed
pub mod Granting
pub mod Rowed
pub mod Writing

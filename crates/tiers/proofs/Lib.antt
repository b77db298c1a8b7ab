pub mod Testing
pub mod Splitting
pub mod Charging
pub mod Figured

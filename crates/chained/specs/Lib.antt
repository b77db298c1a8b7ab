pub mod Chain
pub mod Linked
pub mod Lines
pub mod Stepping
pub mod Telling

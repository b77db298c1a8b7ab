pub mod Texts
pub mod Shandong
pub mod Years
pub mod Lines
pub mod Walks
pub mod Arguments

pub mod Records
pub mod Reads
pub mod Windows

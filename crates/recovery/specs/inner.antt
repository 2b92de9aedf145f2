pub mod Faults
pub mod Found
pub mod Settles
pub mod Windows

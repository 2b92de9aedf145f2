pub mod Configuration
pub mod Faults
pub mod Places
pub mod Ranges
pub mod Views
pub mod laws

pub mod EditRates
pub mod Identifiers
pub mod Keys
pub mod Picture
pub mod laws

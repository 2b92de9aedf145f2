pub mod Interleaved
pub mod Coefficients
pub mod Products
pub mod Rebuilt
pub mod inner
pub mod laws

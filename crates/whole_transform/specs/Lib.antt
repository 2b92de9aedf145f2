pub mod inner
pub mod Sums
pub mod Transform

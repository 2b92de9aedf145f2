pub mod Grown
pub mod Growing
pub mod Takes
pub mod Walks
pub mod inner
pub mod laws

pub mod Essences
pub mod Rests
pub mod Walks
pub mod inner
pub mod laws

pub mod Head
pub mod Items
pub mod Outline
pub mod Reads
pub mod inner
pub mod laws

pub mod Metadata
pub mod inner

pub mod Looks
pub mod Notes
pub mod Recovers
pub mod Refusals
pub mod Says
pub mod inner
pub mod laws

pub mod Lends
pub mod Pools
pub mod Slots
pub mod inner

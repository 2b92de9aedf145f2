pub mod Joined
pub mod Dc
pub mod Pairs
pub mod Component
pub mod Bound
pub mod Faults
pub mod inner
pub mod laws

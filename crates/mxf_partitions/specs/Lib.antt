pub mod Partitions
pub mod RandomIndex
pub mod Ranges
pub mod Reads
pub mod Refusals
pub mod inner
pub mod laws

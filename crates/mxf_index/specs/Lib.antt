pub mod Dues
pub mod Reads
pub mod Segments
pub mod inner
pub mod laws

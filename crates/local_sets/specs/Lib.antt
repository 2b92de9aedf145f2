pub mod Reads
pub mod Sets
pub mod Values
pub mod laws

pub mod Weighed
pub mod Short

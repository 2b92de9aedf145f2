pub mod Files
pub mod Grown
pub mod Looks
pub mod Takes

pub mod Weighed
pub mod Written
pub mod Bounded

pub mod Bits
pub mod Read
pub mod Written
pub mod inner
pub mod laws

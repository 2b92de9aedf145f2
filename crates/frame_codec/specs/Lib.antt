pub mod Coded
pub mod Encodings
pub mod Sources
pub mod Frames
pub mod Faults
pub mod Readings
pub mod Laws
pub mod inner

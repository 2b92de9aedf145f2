pub mod Rooms
pub mod Writing
pub mod Decoding

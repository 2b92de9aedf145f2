pub mod Hands
pub mod Rooms
pub mod Readers

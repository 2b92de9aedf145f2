pub mod FreeSlots
pub mod Heap
pub mod Keeping
pub mod Lends
pub mod Links
pub mod Owned
pub mod Steps

pub mod Desks
pub mod Frames
pub mod Refusals
pub mod Slices
pub mod Told
pub mod inner

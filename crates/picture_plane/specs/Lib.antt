pub mod Slices
pub mod Sizes
pub mod Views
pub mod Pictures
pub mod Blocks
pub mod Covering
pub mod inner
pub mod laws

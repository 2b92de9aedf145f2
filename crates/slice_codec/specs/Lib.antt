pub mod Setups
pub mod Views
pub mod Slices
pub mod Coded
pub mod Faults
pub mod Reading
pub mod inner
pub mod laws
pub use Rattle.picture_plane.specs.Slices as Cutting
pub use Rattle.picture_plane.specs.Blocks
pub mod Codings

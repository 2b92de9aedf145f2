-- Proofs of the laws, for the trait and for proofs to cite.
pub mod Bounds
pub mod Counts
pub mod Fields
pub mod Items
pub mod Joins
pub mod Lengths
pub mod Next
pub mod Parts
pub mod Places
pub mod Trait
pub mod Units

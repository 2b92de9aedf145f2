-- What private functions alone cite: no definition of the format stands on these.
pub mod Kept
pub mod Standing

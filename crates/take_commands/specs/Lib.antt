pub mod Answers
pub mod Causes
pub mod Checks
pub mod Recovers
pub mod Shows
pub mod Views
pub mod inner

pub mod Causes
pub mod Crashes
pub mod Events
pub mod Refusals
pub mod Seen
pub mod Stands
pub mod inner

pub mod Causes
pub mod Crashes
pub mod Recoveries
pub mod inner

pub mod Causes
pub mod Files
pub mod Gains
pub mod Statuses
pub mod Units
pub mod inner

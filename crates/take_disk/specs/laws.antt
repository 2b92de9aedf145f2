pub mod LogLaws
pub mod MemoryLaws
pub mod TimeLaws
pub mod Untold

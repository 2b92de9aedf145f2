pub mod RangeLemmas
pub mod Rules
pub mod Spelling
pub mod Writes

pub mod Written
pub mod Progress
pub mod Marks
pub mod Counted

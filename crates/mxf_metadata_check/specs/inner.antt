pub mod Chain
pub mod Firsts
pub mod Held
pub mod Takes

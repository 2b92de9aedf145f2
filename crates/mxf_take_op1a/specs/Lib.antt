pub mod Take

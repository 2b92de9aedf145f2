pub mod ByteLemmas
pub mod EndLemmas
pub mod FrontLemmas
pub mod LawLemmas
pub mod LookLemmas

pub mod ItemLemmas
pub mod HeadLemmas
pub mod NumberLemmas
pub mod ReadLemmas
pub mod RefusalLemmas
pub mod OutlineLemmas

pub mod FileLemmas
pub mod HeadLemmas
pub mod LawLemmas
pub mod MarkLemmas
pub mod NoteLemmas
pub mod RangeLemmas
pub mod RecoverLemmas

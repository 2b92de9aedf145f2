pub mod KeptLemmas
pub mod SegmentLemmas
pub mod TailLemmas
pub mod LookLemmas
pub mod WalkLemmas

pub mod LaneLemmas
pub mod SampleLemmas
pub mod WeighedLemmas
pub mod CoefficientLemmas
pub mod LiteralLemmas
pub mod ShortLemmas

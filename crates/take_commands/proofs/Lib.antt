pub mod CauseLemmas
pub mod GainLemmas
pub mod LineLemmas
pub mod RecoverLemmas
pub mod SampleLemmas
pub mod ShowLemmas
pub mod ViewLemmas

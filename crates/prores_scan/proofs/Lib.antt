pub mod ScanLemmas
pub mod LevelLemmas
pub mod ReciprocalLemmas
pub mod ThresholdLemmas
pub mod EightLemmas

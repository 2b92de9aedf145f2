pub mod FlagLemmas
pub mod HistoryLemmas
pub mod KeepingLemmas
pub mod RowLemmas
pub mod SeenLemmas
pub mod ShowsLemmas
pub mod SoundLemmas
pub mod TakenLemmas

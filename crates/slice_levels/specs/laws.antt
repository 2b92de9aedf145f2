pub mod PlaceLaws
pub mod EntryLaws
pub mod SumLaws
pub mod LevelLaws
pub mod RebuiltLaws

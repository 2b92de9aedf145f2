pub mod DurationLemmas
pub mod Joins
pub mod LinkLemmas
pub mod LinkedSets
pub mod ListedLemmas
pub mod ListedSets
pub mod PrimerLemmas
pub mod TagLemmas

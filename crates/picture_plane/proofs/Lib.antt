mod RowLemmas
mod CutSteps
mod InsideSteps
mod PlaceSteps
mod PlaceRowSteps
pub mod PutSteps

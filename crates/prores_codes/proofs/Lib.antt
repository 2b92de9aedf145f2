pub mod HeadLemmas
pub mod Made
pub mod PairLemmas
pub mod Parsed
pub mod Signs

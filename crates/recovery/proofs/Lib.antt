mod CloseLemmas
mod FoundLemmas
mod KeepLemmas
mod SettleLemmas
mod StandLemmas
mod StayLemmas
mod WindowLemmas

pub mod WritesLemmas

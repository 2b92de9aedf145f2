mod CountLemmas
mod HeapLemmas
mod LinkLemmas
mod OwnedLemmas
mod PoolLemmas
mod SlotLemmas
mod ThreadLemmas

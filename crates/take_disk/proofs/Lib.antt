mod AreaLemmas
mod DiskLemmas
mod DiskNumbers
mod LogLemmas
mod MemoryLemmas
mod PickLemmas
mod RedoneLemmas
mod SoundLemmas

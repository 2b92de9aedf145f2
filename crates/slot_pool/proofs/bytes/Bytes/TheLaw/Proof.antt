-- A `&` to bytes shows each byte that was written. Assumes `Logic`.
use denote.Struct.Lending.{of_Lends}
use Rattle.slot_pool.specs.contracts.bytes.Bytes as C
use Rattle.slot_pool.proofs.bytes.Bytes.TheLaw.Statement.{statement}
use Rattle.slot_pool.proofs.OwnedLemmas.{lent_laws, lends}

pub shares : statement
shares = of_Lends C.struct C.the_codes C.the_heap C.the_lent (λ d p. lent_laws d.at d.written d.room) tt (λ M 𝓤 𝓛 d p. lends 𝓛 d.at d.written d.room)

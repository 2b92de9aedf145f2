-- What a source tells is of its feed's bytes (own). The laws of `Source` cite these.
use Rattle.std.proofs.Common.{◌≡◌, ℕ, List, take, drop, Option, Some, None}
use Rattle.std.proofs.lemmas.List.{take-append-drop}
use Rattle.raw_feed.specs.Told.{IsOf}

-- the first bytes of a feed were given, and the others are left
pub IsOf-whole : (at : ℕ) (bytes : List ℕ) {named : Option (List ℕ)} → named ≡ Some bytes
    → IsOf named (Some (record { given = take at bytes; left = drop at bytes }))
IsOf-whole at bytes e = rw e (take-append-drop at bytes)

-- neither the feed tells its bytes nor the source
pub IsOf-untold : {named : Option (List ℕ)} → named ≡ None → IsOf named None
IsOf-untold e = rw e tt

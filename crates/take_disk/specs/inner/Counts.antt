-- What the entries of a record count up to, for the room that it takes (own).
use Rattle.std.specs.Prelude.{◌≤◌, ◌+◌, ◌&&◌, ℕ, Bool, true, false, not, max, nat_lt, length, if◌then◌else◌, List, [], ◌∷◌}
use Rattle.take_disk.specs.declared.entry.Entry.{Entry}
use Rattle.take_disk.specs.declared.entry.Deed.{Deed}
use Rattle.take_disk.specs.declared.entry.Deed.TheVariants.{Write, Cut, Fail, Settle}
use Rattle.take_disk.specs.Logs.{Content, done}

-- whether a deed writes or cuts, or failed to
abbrev pub is_change : Deed → Bool
is_change (Write at from len) = true
is_change (Cut len end) = true
is_change (Fail from to) = true
is_change (Settle upto) = false

-- the writes and cuts
unfoldable pub changes : List Entry → ℕ
changes [] = 0
changes (entry ∷ entries) = (if is_change entry.deed then 1 else 0) + changes entries

-- whether an entry is a write or cut after one moment and up to another
abbrev pub in_span : ℕ → ℕ → Entry → Bool
in_span after to entry = nat_lt after entry.moment && not (nat_lt to entry.moment) && is_change entry.deed

-- the writes and cuts after a moment
unfoldable pub unsettled : ℕ → List Entry → ℕ
unsettled synced [] = 0
unsettled synced (entry ∷ entries) = (if nat_lt synced entry.moment && is_change entry.deed then 1 else 0) + unsettled synced entries

-- the latest moment
unfoldable pub latest : List Entry → ℕ
latest [] = 0
latest (entry ∷ entries) = max entry.moment (latest entries)

-- where the part of the pieces ends that a deed wrote
abbrev pub piece_end : Deed → ℕ
piece_end (Write at from len) = from + len
piece_end (Cut len end) = 0
piece_end (Fail from to) = 0
piece_end (Settle upto) = 0

unfoldable pub pieces_end : List Entry → ℕ
pieces_end [] = 0
pieces_end (entry ∷ entries) = max (piece_end entry.deed) (pieces_end entries)

-- whether a deed stands inside of an area so long, and its piece among so many bytes
abbrev pub fits_in : ℕ → ℕ → Deed → Bool
fits_in pieces long (Write at from len) = not (nat_lt long at) && not (nat_lt pieces (from + len))
fits_in pieces long (Cut len end) = not (nat_lt long len) && not (nat_lt end long)
fits_in pieces long (Fail from to) = true
fits_in pieces long (Settle upto) = true

-- entries come in the order of their moments, each inside of the area as it was
unfoldable pub is_sound : List ℕ → ℕ → Content → List Entry → Bool
is_sound pieces before kept [] = true
is_sound pieces before kept (entry ∷ entries) =
    nat_lt before entry.moment && (fits_in (length pieces) (length kept.reads) entry.deed
    && is_sound pieces entry.moment (done pieces entry.moment entry.deed kept) entries)

-- nothing was written or cut between the last settling that has an entry and the moment up to which all is kept
pub record IsSettledSo (kept : Content) (synced : ℕ) : Type 0 where
  pub places : (place : ℕ) → kept.touched place ≤ synced → kept.touched place ≤ kept.synced
  pub whole : kept.altered ≤ synced → kept.altered ≤ kept.synced

-- What an area reads after deeds, and when a place was last touched, without the rest of its content (own).
use Rattle.std.specs.Prelude.{◌+◌, ◌&&◌, ℕ, Bool, false, not, nat_lt, if◌then◌else◌, List, [], ◌∷◌, take, drop}
use Rattle.rec_bytes.specs.Places.{with_bytes}
use Rattle.take_disk.specs.declared.entry.Entry.{Entry}
use Rattle.take_disk.specs.declared.entry.Deed.{Deed}
use Rattle.take_disk.specs.declared.entry.Deed.TheVariants.{Write, Cut, Fail, Settle}

-- the bytes after a deed
abbrev pub redone : List ℕ → Deed → List ℕ → List ℕ
redone pieces (Write at from len) bytes = with_bytes bytes at (take len (drop from pieces))
redone pieces (Cut len end) bytes = take len bytes
redone pieces (Fail from to) bytes = bytes
redone pieces (Settle upto) bytes = bytes

-- and after deeds up to a moment
unfoldable pub redone_to : ℕ → List ℕ → List Entry → List ℕ → List ℕ
redone_to upto pieces [] bytes = bytes
redone_to upto pieces (entry ∷ entries) bytes = if nat_lt upto entry.moment then bytes else redone_to upto pieces entries (redone pieces entry.deed bytes)

-- whether a place lies between two others
abbrev pub between : ℕ → ℕ → ℕ → Bool
between from to place = not (nat_lt place from) && nat_lt place to

-- whether a deed writes or cuts a place
abbrev pub touches : Deed → ℕ → Bool
touches (Write at from len) place = between at (at + len) place
touches (Cut len end) place = between len end place
touches (Fail from to) place = between from to place
touches (Settle upto) place = false

-- the moment of the last deed that does, or this one where none does
unfoldable pub last_touch : ℕ → ℕ → List Entry → ℕ
last_touch place latest [] = latest
last_touch place latest (entry ∷ entries) = last_touch place (if touches entry.deed place then entry.moment else latest) entries

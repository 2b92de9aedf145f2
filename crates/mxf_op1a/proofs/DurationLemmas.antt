-- The clause on durations.
use Rattle.std.proofs.Common.{◌≡◌, inl, inr, ℕ, ◌||◌, Bool, true, false, not, List, None, ap}
use Rattle.std.proofs.lemmas.Bool.{cases_Bool, not-true, not_from_false, or_cases, or_left, or_right}
use Rattle.std.proofs.lemmas.Slice.Eq.{bytes_eq-Decides}
use Rattle.std.specs.List.{flat_map, AllByRecursion}
use Rattle.std.specs.Str.{bytes_eq}
use Rattle.byteorder.specs.Endian.{big_bytes}
use Rattle.local_sets.specs.Sets.{RawItem}
use Rattle.mxf_metadata.specs.Durations.{is_duration}
use Rattle.mxf_op1a.specs.Partitions.{File}
use Rattle.mxf_op1a.specs.Metadata.{SetAt, lasts, places_but, sets_of}
use Rattle.mxf_op1a.specs.Clauses.{broken_8, first_place}
use Rattle.mxf_op1a.specs.Kept.{HasDurations, StatesDuration}
use Rattle.mxf_op1a.proofs.Steps.{all_each, each_all, each_so, kept_sets, no_place, sets_kept}

-- an item that is a duration has these bytes
abbrev pub LastsSo : List ℕ → RawItem → Type 0
LastsSo bytes item = is_duration item.tag ≡ true → item.value ≡ bytes

abbrev pub lasts_so : List ℕ → RawItem → Bool
lasts_so bytes item = not (is_duration item.tag) || bytes_eq item.value bytes

so : (bytes : List ℕ) (item : RawItem) → lasts_so bytes item ≡ true → LastsSo bytes item
so bytes item e is = elim (or_cases (not (is_duration item.tag)) (bytes_eq item.value bytes) e) [
  | inl none ↦ let bad : is_duration item.tag ≡ false = not-true (is_duration item.tag) none in absurd (cc)
  | inr same ↦ (bytes_eq-Decides item.value bytes).0 same
]

so_back : (bytes : List ℕ) (item : RawItem) → LastsSo bytes item → lasts_so bytes item ≡ true
so_back bytes item k = elim (cases_Bool (is_duration item.tag)) [
  | inl is ↦ or_right (not (is_duration item.tag)) (bytes_eq item.value bytes) ((bytes_eq-Decides item.value bytes).1 (k is))
  | inr none ↦ or_left (not (is_duration item.tag)) (bytes_eq item.value bytes) (not_from_false (is_duration item.tag) none)
]

set_lasts : (bytes : List ℕ) (s : SetAt) → lasts bytes s ≡ true → HasDurations bytes s
set_lasts bytes s e = each_so (λ item. lasts_so bytes item ≡ true) (LastsSo bytes) (so bytes) s.set.items (all_each (lasts_so bytes) s.set.items e)

set_lasts_back : (bytes : List ℕ) (s : SetAt) → HasDurations bytes s → lasts bytes s ≡ true
set_lasts_back bytes s k = each_all (lasts_so bytes) s.set.items (each_so (LastsSo bytes) (λ item. lasts_so bytes item ≡ true) (so_back bytes) s.set.items k)

pub sets_last : (bytes : List ℕ) (sets : List SetAt) → first_place (places_but (lasts bytes) sets) ≡ None → AllByRecursion (HasDurations bytes) sets
sets_last bytes sets e =
    each_so (λ s. lasts bytes s ≡ true) (HasDurations bytes) (set_lasts bytes) sets (sets_kept (lasts bytes) sets (no_place (places_but (lasts bytes) sets) e))

pub sets_last_back : (bytes : List ℕ) (sets : List SetAt) → AllByRecursion (HasDurations bytes) sets → first_place (places_but (lasts bytes) sets) ≡ None
sets_last_back bytes sets k =
    ap first_place (kept_sets (lasts bytes) sets (each_so (HasDurations bytes) (λ s. lasts bytes s ≡ true) (set_lasts_back bytes) sets k))

pub lasting : (count : ℕ) (file : File) → broken_8 count file ≡ None → StatesDuration count file
lasting count file e = sets_last (big_bytes 8 count) (flat_map sets_of file.footer) e

pub lasting_back : (count : ℕ) (file : File) → StatesDuration count file → broken_8 count file ≡ None
lasting_back count file k = sets_last_back (big_bytes 8 count) (flat_map sets_of file.footer) k

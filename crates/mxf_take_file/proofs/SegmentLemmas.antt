-- When there is an index table segment, and which.
use Rattle.std.proofs.Common.{◌≡◌, ℕ, ◌+◌, ◌*◌, ◌<◌, List, [], ◌∷◌, ◌++◌, length, take, drop, map, refl, sym, ap, ◌∙◌, arith, append-nil}
use Rattle.std.proofs.lemmas.List.{drop_all, length-drop, take-append-drop, drop-map}
use Rattle.rec_bytes.specs.Configuration.{Fields}
use Rattle.rec_bytes.specs.Places.{with_bytes}
use Rattle.mxf_names.specs.Identifiers.{ids_of}
use Rattle.mxf_index.specs.Segments.{index_segment}
use Rattle.mxf_index.specs.laws.Lengths.{length-index_segment}
use Rattle.take_layout.specs.declared.place.Place.{Place}
use Rattle.mxf_take_file.specs.Extents.{Extents}
use Rattle.mxf_take_file.specs.inner.Kept.{extents_kept}
use Rattle.mxf_take_file.specs.Segments.{segment_of_entries, segment_from}
use Rattle.mxf_take_file.specs.laws.Parts.{IsWhole, ids_sized, kept_whole}

-- no units, no segment
pub none_from : (cfg : Fields) (e : Extents) (first : ℕ) → IsWhole e → first ≡ e.count → segment_from cfg e first ≡ []
unfolding segment_from segment_of_entries
none_from cfg e first whole all = rw (drop_all first e.offsets (omega (arith, whole, all))) refl

-- a write of nothing
pub with_nothing : (old : List ℕ) (at : ℕ) → old ≡ with_bytes old at []
with_nothing old at =
    let e : at ≡ at + length {A = ℕ} [] = omega arith in
    sym (take-append-drop at old)
    ∙ ap (λ (xs : List ℕ). xs ++ drop at old) (sym (append-nil (take at old)))
    ∙ ap (λ (n : ℕ). (take at old ++ []) ++ drop n old) e

-- entries that there are make a segment
entries_some : (cfg : Fields) (first : ℕ) (offsets : List ℕ) → 0 < length offsets → segment_of_entries cfg first offsets ≡ index_segment cfg (ids_of cfg) first offsets
unfolding segment_of_entries
entries_some cfg first [] h = absurd (omega arith)
entries_some cfg first (offset ∷ offsets) h = refl

-- the segment of units that there are
pub some_from : (cfg : Fields) (places : List Place) (first : ℕ) (streams : List ℕ) → first < length places → streams ≡ map (λ (place : Place). place.stream) (drop first places)
    → segment_from cfg (extents_kept places) first ≡ index_segment cfg (ids_of cfg) first streams
unfolding segment_from
some_from cfg places first streams h are =
    let offsets : List ℕ = map (λ (place : Place). place.stream) places in
    let same : drop first offsets ≡ streams = drop-map (λ (place : Place). place.stream) first places ∙ sym are in
    entries_some cfg first (drop first offsets) (omega (arith, length-drop first offsets, kept_whole places)) ∙ ap (λ (ss : List ℕ). index_segment cfg (ids_of cfg) first ss) same

-- its length
pub some_len : (cfg : Fields) (places : List Place) (first : ℕ) (streams : List ℕ) → first < length places → streams ≡ map (λ (place : Place). place.stream) (drop first places)
    → length (segment_from cfg (extents_kept places) first) ≡ 140 + 11 * length streams
some_len cfg places first streams h are = ap length (some_from cfg places first streams h are) ∙ length-index_segment cfg (ids_of cfg) first streams (ids_sized cfg)

-- The fields of an index table segment stand at their places.
use Rattle.std.proofs.Common.{◌≡◌, ℕ, ◌+◌, ◌*◌, ◌<◌, zero, suc, List, [], ◌∷◌, ◌++◌, length, map, take, drop, get_or, refl, sym, ap, ◌∙◌, arith, append_assoc}
use Rattle.std.proofs.lemmas.List.{drop_at, drop-drop}
use Rattle.byteorder.specs.Endian.{big_bytes}
use Rattle.klv.specs.Items.{length_bytes}
use Rattle.rec_bytes.specs.Configuration.{Fields}
use Rattle.local_sets.specs.Sets.{items_bytes}
use Rattle.mxf_names.specs.declared.ids.Ids.{Ids}
use Rattle.mxf_index.specs.Segments.{Segment, index_segment, segment_of, joined, entry_bytes}
use Rattle.mxf_index.specs.Segments.{entry_of_frame, range_items, delta_array, entry_array, closing_items}
use Rattle.mxf_take_file.specs.Stands.{SegmentStands}

-- the stream offset of an entry stands behind its three first bytes
entry_stands : (streams rest : List ℕ) (k : ℕ) → k < length streams
    → take 8 (drop (3 + 11 * k) (joined (map entry_bytes (map entry_of_frame streams)) ++ rest)) ≡ big_bytes 8 (get_or streams k 0)
entry_stands [] rest k h = absurd (omega arith)
entry_stands (stream ∷ streams) rest zero h = refl
entry_stands (stream ∷ streams) rest (suc k) h =
    let place : 3 + 11 * suc k ≡ 11 + (3 + 11 * k) = omega arith in
    let all : List ℕ = joined (map entry_bytes (map entry_of_frame (stream ∷ streams))) ++ rest in
    let behind : take 8 (drop (3 + 11 * k) (drop 11 all)) ≡ big_bytes 8 (get_or streams k 0) = entry_stands streams rest k (omega arith) in
    ap (λ (n : ℕ). take 8 (drop n all)) place ∙ ap (λ (xs : List ℕ). take 8 xs) (sym (drop-drop (3 + 11 * k) 11 all)) ∙ behind

-- seven parts, joined from either end
seven : (x y a b c d rest : List ℕ) → (((((x ++ y) ++ a) ++ b) ++ c) ++ d) ++ rest ≡ x ++ (y ++ (a ++ (b ++ (c ++ (d ++ rest)))))
seven x y a b c d rest = rw (
  append_assoc ((((x ++ y) ++ a) ++ b) ++ c) d rest,
  append_assoc (((x ++ y) ++ a) ++ b) c (d ++ rest),
  append_assoc ((x ++ y) ++ a) b (c ++ (d ++ rest)),
  append_assoc (x ++ y) a (b ++ (c ++ (d ++ rest))),
  append_assoc x y (a ++ (b ++ (c ++ (d ++ rest)))),
) refl

-- what stands behind the take's part of a segment's identifier
abbrev behind_take : Fields → Ids → ℕ → List ℕ → List ℕ → List ℕ
behind_take cfg ids first streams rest =
    let s : Segment = segment_of cfg ids first streams in
    big_bytes 8 first ++ (items_bytes (range_items s) ++ (delta_array s.deltas ++ (entry_array s.entries ++ (items_bytes closing_items ++ rest))))

-- it begins at byte 32
behind_stands : (cfg : Fields) (ids : Ids) (first : ℕ) (streams rest : List ℕ) → length ids.index ≡ 8
    → drop 32 (index_segment cfg ids first streams ++ rest) ≡ behind_take cfg ids first streams rest
unfolding index_segment length_bytes
behind_stands cfg ids first streams rest long =
    let parts : drop 24 (index_segment cfg ids first streams ++ rest) ≡ ids.index ++ behind_take cfg ids first streams rest =
    let s : Segment = segment_of cfg ids first streams in
    seven ids.index (big_bytes 8 first) (items_bytes (range_items s)) (delta_array s.deltas) (entry_array s.entries) (items_bytes closing_items) rest in
    sym (drop-drop 8 24 (index_segment cfg ids first streams ++ rest)) ∙ ap (λ (xs : List ℕ). drop 8 xs) parts
    ∙ drop_at ids.index (behind_take cfg ids first streams rest) 8 long

-- a place inside what stands there
inside : (bytes part : List ℕ) (at n m : ℕ) → drop (at + n) bytes ≡ part → drop (at + (n + m)) bytes ≡ drop m part
inside bytes part at n m e =
    let place : at + (n + m) ≡ (at + n) + m = omega arith in
    ap (λ (k : ℕ). drop k bytes) place ∙ sym (drop-drop m (at + n) bytes) ∙ ap (λ (xs : List ℕ). drop m xs) e

-- a segment stands where bytes go on with it
pub segment_stands : (cfg : Fields) (ids : Ids) (bytes rest : List ℕ) (at first : ℕ) (streams : List ℕ) → length ids.index ≡ 8
    → drop at bytes ≡ index_segment cfg ids first streams ++ rest → SegmentStands bytes at first streams
unfolding index_segment
segment_stands cfg ids bytes rest at first streams long e =
    let all : drop (at + 32) bytes ≡ behind_take cfg ids first streams rest =
    sym (drop-drop 32 at bytes) ∙ ap (λ (xs : List ℕ). drop 32 xs) e ∙ behind_stands cfg ids first streams rest long in
    let field : (m : ℕ) → drop (at + (32 + m)) bytes ≡ drop m (behind_take cfg ids first streams rest) =
    λ m. inside bytes (behind_take cfg ids first streams rest) at 32 m all in
    record {
      key = ap (λ (xs : List ℕ). take 16 xs) e;
      first_is = ap (λ (xs : List ℕ). take 8 xs) (field 24);
      count_is = ap (λ (xs : List ℕ). take 8 xs) (field 36);
      entry_is = λ k h.
          let place : at + (138 + 11 * k) ≡ at + (32 + (103 + (3 + 11 * k))) = omega arith in
          let rows : List ℕ = joined (map entry_bytes (map entry_of_frame streams)) ++ (items_bytes closing_items ++ rest) in
          let behind : drop 103 (behind_take cfg ids first streams rest) ≡ rows = refl in
          ap (λ (n : ℕ). take 8 (drop n bytes)) place
          ∙ ap (λ (xs : List ℕ). take 8 xs) (field (103 + (3 + 11 * k)) ∙ sym (drop-drop (3 + 11 * k) 103 (behind_take cfg ids first streams rest))
          ∙ ap (λ (xs : List ℕ). drop (3 + 11 * k) xs) behind)
          ∙ entry_stands streams (items_bytes closing_items ++ rest) k h;
    }

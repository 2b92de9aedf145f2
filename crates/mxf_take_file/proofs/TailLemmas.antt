-- The entries of the random index pack, one by one, and the parts of a tail.
use Rattle.std.proofs.Common.{◌≡◌, ℕ, ◌+◌, ◌-◌, ◌*◌, ◌<◌, ◌≤◌, List, [], ◌∷◌, ◌++◌, length, refl, sym, ap, ◌∙◌, arith, append_assoc, append-nil, Some}
use Rattle.std.specs.List.{flat_map}
use Rattle.std.proofs.lemmas.Nat.{mul-le}
use Rattle.std.proofs.lemmas.List.{length-append}
use Rattle.std.proofs.lemmas.List.Concat.{flat_map-append}
use Rattle.std.proofs.lemmas.List.FromFn.{map-range_with_len_more, length-map-range_with_len}
use Rattle.rec_bytes.specs.Configuration.{Fields}
use Rattle.klv.specs.Items.{length_bytes}
use Rattle.mxf_partitions.specs.Partitions.{partition_pack}
use Rattle.mxf_partitions.specs.RandomIndex.{entry_bytes, random_index_pack, random_index_head, random_index_end}
use Rattle.mxf_partitions.specs.laws.Lengths.{length-entries, length-partition_pack, random_index_pack-pieces, length-random_index_pack}
use Rattle.mxf_names.specs.Identifiers.{ids_of}
use Rattle.mxf_metadata.specs.Metadata.{metadata}
use Rattle.mxf_take_file.specs.Extents.{Extents, body_count}
use Rattle.mxf_take_file.specs.Layout.{tail_of}
use Rattle.mxf_take_file.specs.Segments.{segment_from, last_first}
use Rattle.rec_bytes.specs.Ranges.{IsInRange}
use Rattle.mxf_take_file.specs.Packs.{body_entries, pack_entries, entry, footer_pack}
use Rattle.mxf_names.specs.declared.streams.TheConstants.{ESSENCE_STREAM}
use Rattle.mxf_take_file.specs.laws.Counts.{last_within}
use Rattle.mxf_take_file.specs.laws.Parts.{entries_count, metadata_len}

-- so many entries have so many bytes
pub bodies_len : (part : ℕ) (e : Extents) (k : ℕ) → length (flat_map entry_bytes (body_entries part e k)) ≡ 12 * k
bodies_len part e k = length-entries (body_entries part e k) ∙ ap (λ (n : ℕ). 12 * n) (length-map-range_with_len _ 0 k)

-- one more entry
pub bodies_more : (part : ℕ) (e : Extents) (k : ℕ)
    → flat_map entry_bytes (body_entries part e k) ++ entry_bytes (entry ESSENCE_STREAM (e.end_of (k * part))) ≡ flat_map entry_bytes (body_entries part e (k + 1))
bodies_more part e k =
    let last : ℕ = e.end_of (k * part) in
    sym (ap (flat_map entry_bytes) (map-range_with_len_more (λ (n : ℕ). entry ESSENCE_STREAM (e.end_of (n * part))) 0 k k (omega arith))
    ∙ flat_map-append entry_bytes (body_entries part e k) (entry ESSENCE_STREAM last ∷ [])
    ∙ ap (λ (bytes : List ℕ). flat_map entry_bytes (body_entries part e k) ++ bytes) (append-nil (entry_bytes (entry ESSENCE_STREAM last))))

-- the body partition of a number begins at a unit that there is, or at their end
pub body_within : (part k n : ℕ) → 0 < part → k < body_count part n → k * part ≤ n
body_within part k n some h = omega (arith, mul-le k part (body_count part n - 1) part (omega arith) (omega arith), last_within part n some)

-- five parts in order
five : (h a x y : List ℕ) → h ++ (a ++ (x ++ (y ++ []))) ≡ ((h ++ a) ++ x) ++ y
five h a x y = rw (append-nil y, append_assoc (h ++ a) x y, append_assoc h a (x ++ y)) refl

-- the random index pack from its parts
pub packs_joined : (cfg : Fields) (e : Extents) (n : ℕ) → n ≡ body_count cfg.part e.count + 2
    → ((((random_index_head n ++ entry_bytes (entry 0 0)) ++ flat_map entry_bytes (body_entries cfg.part e (body_count cfg.part e.count))) ++ entry_bytes (entry 0 (e.end_of e.count))) ++ random_index_end n)
    ≡ random_index_pack (pack_entries cfg e)
unfolding pack_entries
packs_joined cfg e n h =
    let bodies : List ℕ = flat_map entry_bytes (body_entries cfg.part e (body_count cfg.part e.count)) in
    let count : n ≡ length (pack_entries cfg e) = h ∙ sym (entries_count cfg e) in
    let all : flat_map entry_bytes (pack_entries cfg e) ≡ entry_bytes (entry 0 0) ++ (bodies ++ (entry_bytes (entry 0 (e.end_of e.count)) ++ [])) =
    ap (λ (bytes : List ℕ). entry_bytes (entry 0 0) ++ bytes) (flat_map-append entry_bytes (body_entries cfg.part e (body_count cfg.part e.count)) (entry 0 (e.end_of e.count) ∷ [])) in
    ap (λ (bytes : List ℕ). bytes ++ random_index_end n) (sym (five (random_index_head n) (entry_bytes (entry 0 0)) bodies (entry_bytes (entry 0 (e.end_of e.count)))))
    ∙ ap (λ (bytes : List ℕ). (random_index_head n ++ bytes) ++ random_index_end n) (sym all)
    ∙ ap (λ (k : ℕ). (random_index_head k ++ flat_map entry_bytes (pack_entries cfg e)) ++ random_index_end k) count
    ∙ sym (random_index_pack-pieces (pack_entries cfg e))

-- its length
pub packs_len : (cfg : Fields) (e : Extents) → length (random_index_pack (pack_entries cfg e)) ≡ 24 + 12 * (body_count cfg.part e.count + 2)
packs_len cfg e = omega (arith, length-random_index_pack (pack_entries cfg e), entries_count cfg e)

-- the length of what stands before its entries
pub packs_head_len : (n : ℕ) → length (random_index_head n) ≡ 20
unfolding length_bytes
packs_head_len n = refl

-- the length of the footer's pack
pub footer_pack_len : (cfg : Fields) (e : Extents) → length (partition_pack (footer_pack cfg e)) ≡ 124
unfolding footer_pack
footer_pack_len cfg e = length-partition_pack (footer_pack cfg e) refl refl

-- its label count
pub footer_pack_labels : (cfg : Fields) (e : Extents) → (footer_pack cfg e).label_count ≡ 1
unfolding footer_pack
footer_pack_labels cfg e = refl

-- the length of a tail by its parts
pub tail_parts : (cfg : Fields) (e : Extents) → IsInRange cfg → length (tail_of cfg e) ≡ 124 + 3165 + length (segment_from cfg e (last_first cfg e)) + length (random_index_pack (pack_entries cfg e))
unfolding tail_of
tail_parts cfg e range =
    let p : List ℕ = partition_pack (footer_pack cfg e) in
    let m : List ℕ = metadata cfg (ids_of cfg) (Some e.count) in
    let s : List ℕ = segment_from cfg e (last_first cfg e) in
    omega (arith, length-append ((p ++ m) ++ s) (random_index_pack (pack_entries cfg e)), length-append (p ++ m) s, length-append p m, footer_pack_len cfg e, metadata_len cfg (Some e.count) range)

-- The length of an index table segment: proved here, for proofs to cite.
use Rattle.std.proofs.Common.{◌≡◌, ℕ, ◌+◌, ◌*◌, List, [], ◌∷◌, ◌++◌, length, map, refl, ap, ap₂, ◌∙◌, arith, length-append}
use Rattle.std.proofs.lemmas.List.{length-map}
use Rattle.std.specs.List.{flat_map}
use Rattle.byteorder.specs.Endian.{big_bytes}
use Rattle.klv.specs.laws.Lengths.{length-spelled}
use Rattle.rec_bytes.specs.Configuration.{Fields}
use Rattle.local_sets.specs.Sets.{items_bytes}
use Rattle.local_sets.specs.declared.value.TheConstants.{BATCH_HEAD_LEN}
use Rattle.mxf_names.specs.declared.ids.Ids.{Ids}
use Rattle.mxf_index.specs.declared.tags.TheConstants.{INDEX_ENTRIES, ENTRY_SIZE}
use Rattle.mxf_index.specs.declared.segment.TheConstants.{ARRAY_HEAD_LEN, CLOSING_LEN, DELTAS_LEN, ITEMS_LEN, OPENING_LEN, SEGMENT_LEN}
use Rattle.mxf_index.specs.Segments.{Segment, joined, range_items, opening_items, closing_items, delta_array, delta_of_picture, entry_array}
use Rattle.mxf_index.specs.Segments.{entry_bytes, entry_of_frame, frame_bytes, segment_id, segment_value, segment_item, segment_of, index_segment}

-- an entry has 11 bytes
pub length-entries : (streams : List ℕ) → length (flat_map frame_bytes streams) ≡ ENTRY_SIZE * length streams
length-entries [] = refl
length-entries (stream ∷ streams) = omega (arith, length-append (frame_bytes stream) (flat_map frame_bytes streams), length-entries streams)

-- the items before the arrays have 85 bytes
pub length-opening : (s : Segment) → length s.id ≡ 16 → length (items_bytes (opening_items s)) ≡ OPENING_LEN
length-opening s long = omega (arith, long, length-append s.id (items_bytes (range_items s)))

-- the entries of frames, joined
joined_is : (streams : List ℕ) → joined (map entry_bytes (map entry_of_frame streams)) ≡ flat_map frame_bytes streams
joined_is [] = refl
joined_is (stream ∷ streams) = ap (λ (rest : List ℕ). frame_bytes stream ++ rest) (joined_is streams)

-- the array of the entries, by the joined entries
pub array_is : (streams : List ℕ) → entry_array (map entry_of_frame streams)
    ≡ big_bytes 2 INDEX_ENTRIES ++ big_bytes 2 (BATCH_HEAD_LEN + ENTRY_SIZE * length streams) ++ big_bytes 4 (length streams)
    ++ big_bytes 4 ENTRY_SIZE ++ flat_map frame_bytes streams
array_is streams =
    let rows : List (List ℕ) = map entry_bytes (map entry_of_frame streams) in
    let count : length rows ≡ length streams = length-map (map entry_of_frame streams) entry_bytes ∙ length-map streams entry_of_frame in
    let size : length (big_bytes 4 (length rows) ++ big_bytes 4 ENTRY_SIZE ++ joined rows) ≡ BATCH_HEAD_LEN + ENTRY_SIZE * length streams =
    omega (arith, ap length (joined_is streams), length-entries streams) in
    let array : ℕ → ℕ → List ℕ → List ℕ = λ len n bytes. big_bytes 2 INDEX_ENTRIES ++ big_bytes 2 len ++ big_bytes 4 n ++ big_bytes 4 ENTRY_SIZE ++ bytes in
    ap (λ (len : ℕ). array len (length rows) (joined rows)) size
    ∙ ap₂ (λ (n : ℕ) (bytes : List ℕ). array (BATCH_HEAD_LEN + ENTRY_SIZE * length streams) n bytes) count (joined_is streams)

-- it has 12 bytes, and 11 for each entry
pub length-array : (streams : List ℕ) → length (entry_array (map entry_of_frame streams)) ≡ ARRAY_HEAD_LEN + ENTRY_SIZE * length streams
length-array streams = ap length (array_is streams) ∙ omega (arith, length-entries streams)

-- four parts one after the other
four_parts : (a b c d : List ℕ) (k l m n : ℕ) → length a ≡ k → length b ≡ l → length c ≡ m → length d ≡ n → length (a ++ b ++ c ++ d) ≡ k + l + m + n
four_parts a b c d k l m n p q r s = omega (arith, p, q, r, s, length-append (a ++ b ++ c) d, length-append (a ++ b) c, length-append a b)

-- the identifier of a segment has 16 bytes
pub length-id : (ids : Ids) (first : ℕ) → length ids.index ≡ 8 → length (segment_id ids first) ≡ 16
length-id ids first long = omega (arith, long, length-append ids.index (big_bytes 8 first))

-- the items of a segment have 120 bytes, and 11 for each entry
pub length-items : (cfg : Fields) (ids : Ids) (first : ℕ) (streams : List ℕ) → length ids.index ≡ 8
    → length (segment_value (segment_of cfg ids first streams)) ≡ ITEMS_LEN + ENTRY_SIZE * length streams
length-items cfg ids first streams long =
    four_parts (items_bytes (opening_items (segment_of cfg ids first streams))) (delta_array (delta_of_picture ∷ []))
    (entry_array (map entry_of_frame streams)) (items_bytes closing_items)
    OPENING_LEN DELTAS_LEN (ARRAY_HEAD_LEN + ENTRY_SIZE * length streams) CLOSING_LEN
    (length-opening (segment_of cfg ids first streams) (length-id ids first long)) refl (length-array streams) refl
    ∙ omega arith

-- a segment has 140 bytes, and 11 for each entry
pub length-index_segment : (cfg : Fields) (ids : Ids) (first : ℕ) (streams : List ℕ) → length ids.index ≡ 8
    → length (index_segment cfg ids first streams) ≡ SEGMENT_LEN + ENTRY_SIZE * length streams
unfolding index_segment
length-index_segment cfg ids first streams long =
    omega (arith, length-spelled (segment_item (segment_of cfg ids first streams)) refl, length-items cfg ids first streams long)

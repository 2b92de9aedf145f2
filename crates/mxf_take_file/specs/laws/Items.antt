-- A take's file is its items.
use Rattle.std.proofs.Common.{◌≡◌, ℕ, ◌%◌, ◌==◌, Bool, true, false, cond, List, [], ◌∷◌, ◌++◌, length, drop, Option, Some, None}
use Rattle.std.proofs.Common.{refl, sym, ap, ap₂, ◌∙◌, append_assoc, append-nil}
use Rattle.std.proofs.lemmas.List.Concat.{flat_map-append}
use Rattle.std.proofs.lemmas.List.Folds.{flat_map-map}
use Rattle.std.specs.List.{flat_map}
use Rattle.rec_bytes.specs.Configuration.{Fields}
use Rattle.klv.specs.Items.{Item, spelled, klv_head}
use Rattle.local_sets.specs.Sets.{local_set}
use Rattle.mxf_names.specs.Identifiers.{ids_of}
use Rattle.mxf_names.specs.Picture.{picture_item}
use Rattle.mxf_names.specs.declared.keys.TheConstants.{PICTURE_ELEMENT_KEY}
use Rattle.mxf_partitions.specs.Partitions.{partition_pack, pack_item}
use Rattle.mxf_partitions.specs.RandomIndex.{random_index_pack, random_index_item}
use Rattle.mxf_metadata.specs.Metadata.{sets, metadata}
use Rattle.mxf_metadata.specs.Primer.{primer}
use Rattle.mxf_index.specs.Segments.{index_segment}
use Rattle.take_layout.specs.Grown.{grown_behind}
use Rattle.mxf_take_file.specs.Extents.{Extents, extents}
use Rattle.mxf_take_file.specs.Items.{item_of_set, metadata_items, entries_items, segment_items, start_items, items_behind, tail_items, closed_items}
use Rattle.mxf_take_file.specs.Layout.{closed, head, lead, lead_of, start_of, body_start, tail_of}
use Rattle.mxf_take_file.specs.Packs.{header_pack, body_pack, footer_pack, pack_entries}
use Rattle.mxf_take_file.specs.Segments.{segment_of_entries, segment_from, whole_first, last_first}

-- items one after the other
abbrev joined : List Item → List ℕ
joined items = flat_map spelled items

metadata_spelled : (cfg : Fields) (frames : Option ℕ) → joined (metadata_items cfg frames) ≡ metadata cfg (ids_of cfg) frames
unfolding metadata primer local_set
metadata_spelled cfg frames = ap (λ (xs : List ℕ). primer ++ xs) (flat_map-map spelled item_of_set (sets cfg (ids_of cfg) frames))

entries_spelled : (cfg : Fields) (first : ℕ) (offsets : List ℕ) → joined (entries_items cfg first offsets) ≡ segment_of_entries cfg first offsets
unfolding entries_items segment_of_entries index_segment
entries_spelled cfg first [] = refl
entries_spelled cfg first (offset ∷ offsets) = append-nil (index_segment cfg (ids_of cfg) first (offset ∷ offsets))

segment_spelled : (cfg : Fields) (e : Extents) (first : ℕ) → joined (segment_items cfg e first) ≡ segment_from cfg e first
unfolding segment_from
segment_spelled cfg e first = entries_spelled cfg first (drop first e.offsets)

joined_if : (b : Bool) (items : List Item) → joined (cond b items []) ≡ cond b (joined items) []
joined_if true items = refl
joined_if false items = refl

start_spelled : (cfg : Fields) (e : Extents) → joined (start_items cfg e) ≡ start_of cfg e
unfolding start_items start_of body_start
start_spelled cfg e =
    joined_if (e.count % cfg.part == 0) (pack_item (body_pack cfg e) ∷ segment_items cfg e (whole_first cfg e))
    ∙ ap (λ (xs : List ℕ). cond (e.count % cfg.part == 0) (partition_pack (body_pack cfg e) ++ xs) []) (segment_spelled cfg e (whole_first cfg e))

-- units behind others are their items
behind_spelled : (cfg : Fields) (before units : List (List ℕ)) → joined (items_behind cfg before units) ≡ grown_behind (lead cfg) before units
unfolding items_behind grown_behind lead_of
behind_spelled cfg before [] = refl
behind_spelled cfg before (unit ∷ units) =
    let e : Extents = extents cfg.part before in
    let start : List ℕ = start_of cfg e in
    let front : List ℕ = klv_head PICTURE_ELEMENT_KEY 7 (length unit) in
    let rest : List ℕ = grown_behind (lead cfg) (before ++ unit ∷ []) units in
    flat_map-append spelled (start_items cfg e) (picture_item unit ∷ items_behind cfg (before ++ unit ∷ []) units)
    ∙ ap₂ (λ (xs ys : List ℕ). xs ++ ((front ++ unit) ++ ys)) (start_spelled cfg e) (behind_spelled cfg (before ++ unit ∷ []) units)
    ∙ ap (λ (xs : List ℕ). start ++ xs) (append_assoc front unit rest)
    ∙ sym (append_assoc start front (unit ++ rest))

-- four parts, joined from either end
four : (a b c d : List ℕ) → a ++ (b ++ (c ++ d)) ≡ ((a ++ b) ++ c) ++ d
four a b c d = sym (append_assoc a b (c ++ d)) ∙ sym (append_assoc (a ++ b) c d)

tail_spelled : (cfg : Fields) (e : Extents) → joined (tail_items cfg e) ≡ tail_of cfg e
unfolding tail_of
tail_spelled cfg e =
    let index : List Item = random_index_item (pack_entries cfg e) ∷ [] in
    let segment : List Item = segment_items cfg e (last_first cfg e) in
    let pack : List ℕ = partition_pack (footer_pack cfg e) in
    let there : List ℕ = segment_from cfg e (last_first cfg e) ++ random_index_pack (pack_entries cfg e) in
    let last : joined (segment ++ index) ≡ there =
    flat_map-append spelled segment index
    ∙ ap₂ (λ (xs ys : List ℕ). xs ++ ys) (segment_spelled cfg e (last_first cfg e)) (append-nil (random_index_pack (pack_entries cfg e))) in
    let behind : joined (metadata_items cfg (Some e.count) ++ (segment ++ index)) ≡ metadata cfg (ids_of cfg) (Some e.count) ++ there =
    flat_map-append spelled (metadata_items cfg (Some e.count)) (segment ++ index)
    ∙ ap₂ (λ (xs ys : List ℕ). xs ++ ys) (metadata_spelled cfg (Some e.count)) last in
    ap (λ (xs : List ℕ). pack ++ xs) behind
    ∙ four pack (metadata cfg (ids_of cfg) (Some e.count)) (segment_from cfg e (last_first cfg e)) (random_index_pack (pack_entries cfg e))

-- the closed file is its items
pub closed_spelled : (cfg : Fields) (units : List (List ℕ)) → closed cfg units ≡ flat_map spelled (closed_items cfg units)
unfolding head
closed_spelled cfg units =
    let e : Extents = extents cfg.part units in
    let pack : List ℕ = partition_pack header_pack in
    let body : List ℕ = grown_behind (lead cfg) [] units in
    let rest : joined (items_behind cfg [] units ++ tail_items cfg e) ≡ body ++ tail_of cfg e =
    flat_map-append spelled (items_behind cfg [] units) (tail_items cfg e)
    ∙ ap₂ (λ (xs ys : List ℕ). xs ++ ys) (behind_spelled cfg [] units) (tail_spelled cfg e) in
    let all : joined (metadata_items cfg None ++ (items_behind cfg [] units ++ tail_items cfg e)) ≡ metadata cfg (ids_of cfg) None ++ (body ++ tail_of cfg e) =
    flat_map-append spelled (metadata_items cfg None) (items_behind cfg [] units ++ tail_items cfg e)
    ∙ ap₂ (λ (xs ys : List ℕ). xs ++ ys) (metadata_spelled cfg None) rest in
    sym (ap (λ (xs : List ℕ). pack ++ xs) all ∙ four pack (metadata cfg (ids_of cfg) None) body (tail_of cfg e))

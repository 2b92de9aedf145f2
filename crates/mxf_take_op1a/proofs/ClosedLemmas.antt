-- The closed file of a take is an OP1a file of its units.
use Rattle.std.proofs.Common.{◌≡◌, ℕ, ◌+◌, ◌^◌, ◌≤◌, List, [], ◌∷◌, ◌++◌, length, map, Option, Some, None}
use Rattle.std.proofs.Common.{refl, sym, ap, ap₂, subst, ◌∙◌, inl, arith, append-nil, length-append}
use Rattle.std.specs.Prelude.{filter}
use Rattle.std.proofs.lemmas.List.{length-map}
use Rattle.std.proofs.lemmas.List.Elements.{recursion_from_All}
use Rattle.std.specs.List.{flat_map, AllByRecursion}
use Rattle.byteorder.specs.Endian.{big_bytes}
use Rattle.rec_bytes.specs.Configuration.{Fields}
use Rattle.rec_bytes.specs.Ranges.{IsInRange}
use Rattle.klv.specs.Items.{IsItem, AreItems, spelled}
use Rattle.take_layout.specs.Takes.{AreUnits}
use Rattle.mxf_names.specs.Identifiers.{AreIds, ids_of}
use Rattle.mxf_names.specs.laws.Lengths.{are-ids_of}
use Rattle.mxf_names.specs.declared.ids.Ids.{Ids}
use Rattle.mxf_metadata.specs.Durations.{HaveDuration}
use Rattle.mxf_metadata.specs.Metadata.{Set, sets, raw_sets}
use Rattle.mxf_metadata.specs.Primer.{primer_value}
use Rattle.mxf_metadata.specs.declared.labels.TheConstants.{MATERIAL_SET, FILE_SET}
use Rattle.mxf_metadata_reader.specs.PrimerTags.{tags_of_primer, entry_tags}
use Rattle.mxf_op1a.specs.Contents.{Placed, placed_from, is_pack, is_segment}
use Rattle.mxf_op1a.specs.Partitions.{Part, File, being, elements, file_of, up_to}
use Rattle.mxf_op1a.specs.Clauses.{broken_1, broken_2, broken_3, broken_4, broken_5, broken_6, broken_7, broken_8, broken_9, broken_10, stream_offsets}
use Rattle.mxf_op1a.specs.Clauses.{first_place}
use Rattle.mxf_op1a.specs.Metadata.{SetAt, set_at, is_sound, has_one_clip, is_of_file, all_of_kind, sequences_of, material_clips, places_but, wrong_sets}
use Rattle.mxf_op1a.specs.Metadata.{wrong_behind, wrong_from}
use Rattle.mxf_op1a.specs.Metadata.{wrong_metadata, sets_of, lasts, least}
use Rattle.mxf_op1a.specs.Op1a.{IsOp1a, first_broken, first_of_clauses, or_next, units_in}
use Rattle.mxf_take_file.specs.Items.{item_of_set, closed_items}
use Rattle.mxf_take_file.specs.Layout.{closed, is_unit}
use Rattle.mxf_take_file.specs.laws.Items.{closed_spelled}
use Rattle.mxf_take_op1a.proofs.ReadBack.{ReadBack}
use Rattle.mxf_take_op1a.proofs.IndexClauses.{kept_9}
use Rattle.mxf_take_op1a.proofs.ItemClauses.{kept_1, kept_2, kept_6, units_are}
use Rattle.mxf_take_op1a.proofs.LengthClauses.{kept_10}
use Rattle.mxf_take_op1a.proofs.LinkLemmas.{has_packages, material_has_clip, file_has_clip, clips_show_file}
use Rattle.mxf_take_op1a.proofs.MetadataLemmas.{has_sets, none_unsound, raw_sets_are}
use Rattle.mxf_take_op1a.proofs.MetadataRows.{tags, IsSound, all_sound}
use Rattle.mxf_take_op1a.proofs.PartLemmas.{all_parts, parts_are, file_with, file_is}
use Rattle.mxf_take_op1a.proofs.PlaceClauses.{kept_3, kept_4, kept_5}
use Rattle.mxf_take_op1a.proofs.PlacedLemmas.{bytes_of}
use Rattle.mxf_take_op1a.proofs.SetLemmas.{own_sets, foot_at, foot_rest, head_at, footer_from, footer_behind, footer_sets, header_from, header_behind}
use Rattle.mxf_take_op1a.proofs.SetLemmas.{read_sets, none_short}
use Rattle.mxf_take_op1a.proofs.Shapes.{Units, Shape, IsShape, all_items, bodies, header_part, footer_part}
use Rattle.mxf_take_op1a.proofs.SmallLemmas.{AreSmall}
use Rattle.mxf_take_op1a.proofs.TakeIndex.{name_parts, cover_offsets}
use Rattle.mxf_take_op1a.proofs.TakeItems.{each_item}
use Rattle.mxf_take_op1a.proofs.TakeSays.{first_due, name_places, name_kinds, count_stream, count_bytes, hold_units}
use Rattle.mxf_take_op1a.proofs.TakeShape.{shape, is_shape, items_are, primer_item, set_items, metadata_bytes_are}

-- the primer lists the tags of the table
primer_tags : tags_of_primer primer_item ≡ Some tags
unfolding primer_value entry_tags
primer_tags = refl

-- the sets as they are read
pub sets_read : (cfg : Fields) (frames : Option ℕ) (at : ℕ) → IsInRange cfg
    → map set_at (placed_from at (set_items cfg frames)) ≡ own_sets at (sets cfg (ids_of cfg) frames)
sets_read cfg frames at h =
    let ids : Ids = ids_of cfg in
    let list : List Set = sets cfg ids frames in
    let are : AreIds ids = are-ids_of cfg h.take_id in
    let short : bytes_of (map item_of_set list) ≤ 4000 =
    omega (arith, metadata_bytes_are cfg frames h, length-append (spelled primer_item) (flat_map spelled (map item_of_set list))) in
    let sound : AllByRecursion (IsSound (own_sets at list)) list = all_sound (own_sets at list) cfg ids frames are (has_sets cfg ids frames at are) in
    read_sets at list (raw_sets_are (own_sets at list) list sound short)

-- none of them is wrong
four : (a b c d : List ℕ) → a ≡ [] → b ≡ [] → c ≡ [] → d ≡ [] → a ++ b ++ c ++ d ≡ []
four a b c d p q r t = rw (p, q, r, t) refl

none_wrong : (cfg : Fields) (frames : Option ℕ) (at : ℕ) → IsInRange cfg → wrong_sets tags (own_sets at (sets cfg (ids_of cfg) frames)) ≡ []
none_wrong cfg frames at h =
    let ids : Ids = ids_of cfg in
    let list : List Set = sets cfg ids frames in
    let s : List SetAt = own_sets at list in
    let are : AreIds ids = are-ids_of cfg h.take_id in
    let packages = has_packages cfg ids frames at are in
    four
    (places_but (is_sound tags s) s)
    (places_but (has_one_clip s) (sequences_of s MATERIAL_SET))
    (places_but (has_one_clip s) (sequences_of s FILE_SET))
    (places_but (is_of_file (all_of_kind FILE_SET s)) (material_clips s))
    (none_unsound s at list (all_sound s cfg ids frames are (has_sets cfg ids frames at are)))
    (material_has_clip s cfg ids frames are packages)
    (file_has_clip s cfg ids frames are packages)
    (clips_show_file s cfg ids frames are packages)

header_sound : ReadBack → (cfg : Fields) (units : Units) (len : ℕ) → IsInRange cfg → AreSmall units
    → wrong_metadata len (header_part (shape cfg units) units) ≡ []
header_sound r cfg units len h small =
    let s : Shape = shape cfg units in
    let is : IsShape s units = is_shape r cfg units h small in
    let rest : List Placed = placed_from (head_at s) s.head_sets ++ [] in
    ap (wrong_from len) (header_from s units is (first_due cfg units h))
    ∙ ap (λ (found : Option (List ℕ)). wrong_behind (length (spelled s.header)) found rest) primer_tags
    ∙ ap (wrong_sets tags) (header_behind s units is ∙ sets_read cfg None (head_at s) h)
    ∙ none_wrong cfg None (head_at s) h

footer_sound : ReadBack → (cfg : Fields) (units : Units) (len : ℕ) → IsInRange cfg → AreSmall units
    → wrong_metadata len (footer_part (shape cfg units) units len) ≡ []
footer_sound r cfg units len h small =
    let s : Shape = shape cfg units in
    let is : IsShape s units = is_shape r cfg units h small in
    ap (wrong_from len) (footer_from s units len is)
    ∙ ap (λ (found : Option (List ℕ)). wrong_behind (s.place units + length (spelled s.footer)) found (foot_rest s units)) primer_tags
    ∙ ap (wrong_sets tags) (footer_behind s units is ∙ sets_read cfg (Some (length units)) (foot_at s units) h)
    ∙ none_wrong cfg (Some (length units)) (foot_at s units) h

-- 7.
kept_7 : ReadBack → (cfg : Fields) (units : Units) (len : ℕ) → IsInRange cfg → AreSmall units
    → broken_7 len (file_with (header_part (shape cfg units) units ∷ []) (bodies (shape cfg units) [] units)
    (footer_part (shape cfg units) units len ∷ [])) ≡ None
kept_7 r cfg units len h small =
    ap₂ (λ (xs ys : List ℕ). least ((xs ++ []) ++ (ys ++ []))) (header_sound r cfg units len h small) (footer_sound r cfg units len h small)

-- 8.
kept_8 : ReadBack → (cfg : Fields) (units : Units) (len count : ℕ) → IsInRange cfg → AreSmall units
    → HaveDuration (Some (length units)) (raw_sets cfg (ids_of cfg) (Some (length units))) → count ≡ length units
    → broken_8 count (file_with (header_part (shape cfg units) units ∷ []) (bodies (shape cfg units) [] units)
    (footer_part (shape cfg units) units len ∷ [])) ≡ None
kept_8 r cfg units len count h small last e =
    let s : Shape = shape cfg units in
    let is : IsShape s units = is_shape r cfg units h small in
    let list : List Set = sets cfg (ids_of cfg) (Some (length units)) in
    ap (λ (n : ℕ). first_place (places_but (lasts (big_bytes 8 n)) (sets_of (footer_part s units len) ++ []))) e
    ∙ ap (λ (ss : List SetAt). first_place (places_but (lasts (big_bytes 8 (length units))) (ss ++ []))) (
    footer_sets s units len is ∙ sets_read cfg (Some (length units)) (foot_at s units) h
    )
    ∙ ap (λ (ss : List SetAt). first_place (places_but (lasts (big_bytes 8 (length units))) ss)) (append-nil (own_sets (foot_at s units) list))
    ∙ ap first_place (none_short (Some (length units)) (foot_at s units) list last)

-- all clauses are kept
ten : (a b c d e f g h i j : Option ℕ) → a ≡ None → b ≡ None → c ≡ None → d ≡ None → e ≡ None → f ≡ None → g ≡ None → h ≡ None → i ≡ None → j ≡ None
    → or_next 1 a (or_next 2 b (or_next 3 c (or_next 4 d (or_next 5 e (or_next 6 f (or_next 7 g (or_next 8 h (or_next 9 i (or_next 10 j None))))))))) ≡ None
ten a b c d e f g h i j p q r t u v w x y z = rw (p, q, r, t, u, v, w, x, y, z) refl

none_broken : ReadBack → (cfg : Fields) (units : Units) (len : ℕ) → IsInRange cfg → AreSmall units
    → HaveDuration (Some (length units)) (raw_sets cfg (ids_of cfg) (Some (length units)))
    → len ≡ length (flat_map spelled (all_items (shape cfg units) units)) → first_broken len (all_items (shape cfg units) units) ≡ None
unfolding first_broken count_stream
none_broken r cfg units len h small last e =
    let s : Shape = shape cfg units in
    let is : IsShape s units = is_shape r cfg units h small in
    let due = first_due cfg units h in
    let stop : ℕ = length (flat_map spelled (all_items s units)) in
    let placed : List Placed = placed_from 0 (all_items s units) in
    let all : List Part = all_parts s units len in
    let file : File = file_with (header_part s units ∷ []) (bodies s [] units) (footer_part s units len ∷ []) in
    let stream = count_stream cfg units in
    let count : length (elements placed) ≡ length units =
    sym (length-map (elements placed) (λ (p : Placed). p.item.value)) ∙ ap length (units_are s units is (hold_units cfg units)) in
    ap (λ (ps : List Part). first_of_clauses len stop placed ps (file_of ps)) (parts_are s units len is)
    ∙ ap (λ (f : File). first_of_clauses len stop placed all f) (file_is (header_part s units) (bodies s [] units) (footer_part s units len))
    ∙ ten
    (broken_1 stop len placed) (broken_2 placed all) (broken_3 0 all) (broken_4 len all) (broken_5 0 (bodies s [] units))
    (broken_6 len (up_to is_pack placed) file) (broken_7 len file) (broken_8 (length (elements placed)) file)
    (broken_9 len 0 (stream_offsets 0 (bodies s [] units)) (filter (being is_segment) placed)) (broken_10 all)
    (kept_1 s units len stop is e)
    (kept_2 s units len is (name_parts r cfg units len h small))
    (kept_3 s units len (name_places cfg units h))
    (kept_4 s units len (name_kinds cfg units h))
    (kept_5 s units is stream due)
    (kept_6 s units len is (hold_units cfg units) due)
    (kept_7 r cfg units len h small)
    (kept_8 r cfg units len (length (elements placed)) h small last count)
    (kept_9 s units len stream (cover_offsets r cfg units h small) is due)
    (kept_10 s units len is (count_bytes cfg units h) due)

-- units of a take are small
pub are_small : (cfg : Fields) (units : Units) → IsInRange cfg → AreUnits (is_unit cfg) cfg.max_frames units → AreSmall units
are_small cfg units h are = record {
  each = recursion_from_All (λ (unit : List ℕ). length unit ≤ 2 ^ 28) units are.each;
  few = omega (arith, are.few, h.max_frames.most);
}

-- the closed file
pub closed_is_op1a : ((cfg : Fields) (ids : Ids) (frames : Option ℕ) → HaveDuration frames (raw_sets cfg ids frames)) → ReadBack
    → (cfg : Fields) (units : Units)
    → IsInRange cfg → AreUnits (is_unit cfg) cfg.max_frames units → IsOp1a (closed cfg units) units
closed_is_op1a lasting r cfg units h are =
    let small : AreSmall units = are_small cfg units h are in
    let s : Shape = shape cfg units in
    let is : IsShape s units = is_shape r cfg units h small in
    let bytes : closed cfg units ≡ flat_map spelled (all_items s units) = closed_spelled cfg units ∙ ap (flat_map spelled) (items_are cfg units) in
    record {
      outline = record {
        items = all_items s units;
        each = each_item cfg units h small;
        rest = [];
        bytes_are = bytes ∙ sym (append-nil (flat_map spelled (all_items s units)));
        ends = inl refl;
      };
      kept = none_broken r cfg units (length (closed cfg units)) h small (lasting cfg (ids_of cfg) (Some (length units))) (ap length bytes);
      units_are = sym (units_are s units is (hold_units cfg units));
    }

-- the items of which the layout makes it
pub items_stand : (cfg : Fields) (units : Units) → IsInRange cfg → AreUnits (is_unit cfg) cfg.max_frames units
    → AreItems (closed cfg units) (closed_items cfg units)
items_stand cfg units h are = record {
  bytes_are = closed_spelled cfg units;
  each = subst (AllByRecursion IsItem) (sym (items_are cfg units)) (each_item cfg units h (are_small cfg units h are));
}

pub units_stand : ReadBack → (cfg : Fields) (units : Units) → IsInRange cfg → AreUnits (is_unit cfg) cfg.max_frames units
    → units_in (closed_items cfg units) ≡ units
units_stand r cfg units h are =
    let s : Shape = shape cfg units in
    ap units_in (items_are cfg units) ∙ units_are s units (is_shape r cfg units h (are_small cfg units h are)) (hold_units cfg units)

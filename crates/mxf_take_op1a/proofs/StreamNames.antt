-- The packs of such a file name the streams of essence and of index tables.
use Rattle.std.proofs.Common.{◌≡◌, ℕ, ◌+◌, ◌==◌, true, cond, List, [], ◌∷◌, ◌++◌, length, drop, suc}
use Rattle.std.proofs.Common.{refl, sym, ap, subst, ◌∙◌, inl, inr, arith, append-nil}
use Rattle.std.specs.Prelude.{filter}
use Rattle.std.proofs.lemmas.Bool.{ne_eqb}
use Rattle.std.specs.List.{AllByRecursion}
use Rattle.rec_bytes.specs.Configuration.{Fields}
use Rattle.klv.specs.Items.{Item, spelled}
use Rattle.mxf_names.specs.Identifiers.{ids_of}
use Rattle.mxf_names.specs.declared.streams.TheConstants.{ESSENCE_STREAM, INDEX_STREAM}
use Rattle.mxf_index.specs.Segments.{index_segment}
use Rattle.mxf_index.specs.laws.Lengths.{length-index_segment}
use Rattle.mxf_op1a.specs.Contents.{Placed, placed_from, is_segment}
use Rattle.mxf_op1a.specs.Contents.Content.{Set}
use Rattle.mxf_op1a.specs.Partitions.{Part, being}
use Rattle.mxf_take_file.specs.Extents.{Extents, extents}
use Rattle.mxf_take_file.specs.Items.{entries_items}
use Rattle.mxf_take_file.specs.Packs.{body_pack, footer_pack, index_stream}
use Rattle.mxf_take_file.specs.Segments.{segment_of_entries, segment_from, whole_first, last_first}
use Rattle.mxf_take_file.specs.laws.Parts.{ids_sized}
use Rattle.mxf_take_op1a.specs.Take.{AreStreamsNamed, NamesStreams}
use Rattle.mxf_take_op1a.proofs.IndexClauses.{segments_past, segments_here, segments_next, segments_closing}
use Rattle.mxf_take_op1a.proofs.ItemClauses.{none_going}
use Rattle.mxf_take_op1a.proofs.PartLemmas.{file_with}
use Rattle.mxf_take_op1a.proofs.PlacedLemmas.{placed, all_none}
use Rattle.mxf_take_op1a.proofs.Says.{NameStreams, stream_of}
use Rattle.mxf_take_op1a.proofs.Shapes.{Units, Shape, IsShape, going, segments_at, body, bodies, header_part, footer_part}
use Rattle.mxf_take_op1a.proofs.Shapes.{tested, going_due, going_stays, bodies_due, bodies_stays}
use Rattle.mxf_take_op1a.proofs.TakeShape.{shape}

-- as many items at their places
length_placed : (at : ℕ) (items : List Item) → length (placed_from at items) ≡ length items
unfolding placed_from
length_placed at [] = refl
length_placed at (item ∷ items) = ap suc (length_placed (at + length (spelled item)) items)

-- the stream of a partition that has these segments
abbrev pub stream_with : List Placed → ℕ
stream_with segments = cond (length segments == 0) 0 INDEX_STREAM

-- it is that of the items
stream_placed : (at : ℕ) (items : List Item) → stream_of items ≡ stream_with (placed_from at items)
stream_placed at items = ap (λ (n : ℕ). cond (n == 0) 0 INDEX_STREAM) (sym (length_placed at items))

-- no segment stands among the elements that go on
none_in_going : (s : Shape) (all before units : Units) → IsShape s all → filter (being is_segment) (going s before units) ≡ []
unfolding going
none_in_going s all before [] h = refl
none_in_going s all before (unit ∷ units) h = elim (tested (s.due before)) [
  | inl due ↦ ap (filter (being is_segment)) (going_due s before unit units due)
  | inr stays ↦
      let more : Units = before ++ unit ∷ [] in
      ap (filter (being is_segment)) (going_stays s before unit units stays)
      ∙ segments_next (placed (s.key before) (s.element unit)) (going s more units) (ap is_segment (h.element_is unit))
      ∙ none_in_going s all more units h
]

-- the segments of a body are its own
body_segments : (s : Shape) (all before : Units) (unit : List ℕ) (units : Units) → IsShape s all
    → filter (being is_segment) (body s before unit units).items ≡ placed_from (segments_at s before) (s.segments before)
body_segments s all before unit units h =
    let more : Units = before ++ unit ∷ [] in
    let at : ℕ = segments_at s before in
    let segments : List Placed = placed_from at (s.segments before) in
    segments_here at (s.segments before) (placed (s.key before) (s.element unit) ∷ going s more units) (h.segments_are before)
    ∙ ap (λ (ps : List Placed). segments ++ ps) (
    segments_next (placed (s.key before) (s.element unit)) (going s more units) (ap is_segment (h.element_is unit))
    ∙ none_in_going s all more units h
    )
    ∙ append-nil segments

-- the header has none
header_segments : (s : Shape) (all : Units) → IsShape s all → s.due [] ≡ true → filter (being is_segment) (header_part s all).items ≡ []
header_segments s all h due =
    let at : ℕ = length (spelled s.header) in
    segments_past at (s.primer ∷ s.head_sets) (going s [] all) (ap is_segment h.primer_is, all_none is_segment Set s.head_sets refl h.head_sets_are)
    ∙ ap (filter (being is_segment)) (none_going s all due)

-- so the header's pack names its streams
header_names : (s : Shape) (all : Units) → IsShape s all → NameStreams s → s.due [] ≡ true → NamesStreams 0 (header_part s all)
header_names s all h n due = record {
  body = n.header_body;
  index = n.header_index ∙ ap stream_with (sym (header_segments s all h due));
}

-- and the footer's
footer_names : (s : Shape) (all : Units) (len : ℕ) → IsShape s all → NameStreams s → NamesStreams 0 (footer_part s all len)
footer_names s all len h n =
    let at : ℕ = s.place all + length (spelled s.footer) in
    record {
      body = n.footer_body;
      index = n.footer_index ∙ stream_placed _ s.last ∙ ap stream_with (sym (segments_closing s all at h));
    }

-- and a body's
body_names : (s : Shape) (all before : Units) (unit : List ℕ) (units : Units) → IsShape s all → NameStreams s
    → NamesStreams ESSENCE_STREAM (body s before unit units)
body_names s all before unit units h n = record {
  body = n.body_body before;
  index = n.body_index before ∙ stream_placed (segments_at s before) (s.segments before)
      ∙ ap stream_with (sym (body_segments s all before unit units h));
}

-- and those of all bodies
bodies_name : (s : Shape) (all before units : Units) → IsShape s all → NameStreams s
    → AllByRecursion (NamesStreams ESSENCE_STREAM) (bodies s before units)
unfolding bodies
bodies_name s all before [] h n = tt
bodies_name s all before (unit ∷ units) h n =
    let more : Units = before ++ unit ∷ [] in
    let each : List Part → Type 0 = AllByRecursion (NamesStreams ESSENCE_STREAM) in
    let later = bodies_name s all more units h n in
    elim (tested (s.due before)) [
      | inl due ↦ subst each (sym (bodies_due s before unit units due)) (body_names s all before unit units h n, later)
      | inr stays ↦ subst each (sym (bodies_stays s before unit units stays)) later
    ]

-- so do all packs
pub streams_named : (s : Shape) (all : Units) (len : ℕ) → IsShape s all → NameStreams s → s.due [] ≡ true
    → AreStreamsNamed (file_with (header_part s all ∷ []) (bodies s [] all) (footer_part s all len ∷ []))
streams_named s all len h n due = record {
  header = (header_names s all h n due, tt);
  bodies = bodies_name s all [] all h n;
  footer = (footer_names s all len h n, tt);
}

-- of a take's file: a segment has bytes, so its stream is named where there are entries
entries_stream : (cfg : Fields) (first : ℕ) (offsets : List ℕ)
    → index_stream (length (segment_of_entries cfg first offsets)) ≡ stream_of (entries_items cfg first offsets)
unfolding segment_of_entries entries_items
entries_stream cfg first [] = refl
entries_stream cfg first (offset ∷ offsets) =
    let bytes : ℕ = length (index_segment cfg (ids_of cfg) first (offset ∷ offsets)) in
    let long = length-index_segment cfg (ids_of cfg) first (offset ∷ offsets) (ids_sized cfg) in
    let some : bytes ≡ 0 → ⊥ = λ (q : bytes ≡ 0). omega (arith, long) in
    rw (ne_eqb bytes 0 some) refl

-- and so of the units from a number on
segments_stream : (cfg : Fields) (e : Extents) (first : ℕ)
    → index_stream (length (segment_from cfg e first)) ≡ stream_of (entries_items cfg first (drop first e.offsets))
unfolding segment_from
segments_stream cfg e first = entries_stream cfg first (drop first e.offsets)

-- its packs are such
pub name_streams : (cfg : Fields) (units : Units) → NameStreams (shape cfg units)
unfolding body_pack footer_pack
name_streams cfg units = record {
  header_body = refl;
  header_index = refl;
  body_body = λ us. refl;
  body_index = λ us. segments_stream cfg (extents cfg.part us) (whole_first cfg (extents cfg.part us));
  footer_body = refl;
  footer_index = segments_stream cfg (extents cfg.part units) (last_first cfg (extents cfg.part units));
}

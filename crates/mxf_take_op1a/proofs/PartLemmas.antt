-- The partitions of such a file.
use Rattle.std.proofs.Common.{◌≡◌, ℕ, ◌+◌, false, List, [], ◌∷◌, ◌++◌, length, refl, sym, ap, ap₂, ◌∙◌, inl, inr, arith}
use Rattle.std.proofs.Common.{append-nil}
use Rattle.klv.specs.Items.{Item, spelled}
use Rattle.mxf_partitions.specs.declared.partition.Partition.{Partition}
use Rattle.mxf_op1a.specs.Contents.{Content, Placed, content_of, placed_from, is_pack}
use Rattle.mxf_op1a.specs.Contents.Content.{Fill, Pack, Primer, Set, Segment, RandomIndex, Element, Other}
use Rattle.mxf_op1a.specs.Partitions.{Part, File, up_to, from_first, place_of, parts, part_of, file_of, all_but_last, last_of}
use Rattle.mxf_take_op1a.proofs.PlacedLemmas.{placed, AreNone, all_none, none_append, placed_append, placed_first, from_past, from_here}
use Rattle.mxf_take_op1a.proofs.PlacedLemmas.{from_next, from_none}
use Rattle.mxf_take_op1a.proofs.PlacedLemmas.{up_past, up_here, up_next, up_none}
use Rattle.mxf_take_op1a.proofs.Shapes.{Units, Shape, IsShape, closing, behind, all_items, going, end_at, segments_at, body, bodies, header_part, footer_part}
use Rattle.mxf_take_op1a.proofs.Shapes.{tested, going_due, going_stays, end_due, end_stays, bodies_due, bodies_stays, step, standing, standing_due}
use Rattle.mxf_take_op1a.proofs.Shapes.{standing_stays, standing_end}

-- an item that is no pack begins no partition
no_part : (len : ℕ) (p : Placed) (ps : List Placed) (content : Content) → is_pack content ≡ false → part_of len p ps content ≡ []
no_part len p ps Fill h = refl
no_part len p ps (Pack pack) h = absurd (cc)
no_part len p ps Primer h = refl
no_part len p ps Set h = refl
no_part len p ps Segment h = refl
no_part len p ps RandomIndex h = refl
no_part len p ps Element h = refl
no_part len p ps Other h = refl

pub parts_next : (len : ℕ) (p : Placed) (ps : List Placed) → is_pack (content_of p.item) ≡ false → parts len (p ∷ ps) ≡ parts len ps
unfolding parts
parts_next len p ps h = ap (λ (qs : List Part). qs ++ parts len ps) (no_part len p ps (content_of p.item) h)

pub parts_past : (len at : ℕ) (items : List Item) (ps : List Placed) → AreNone is_pack items → parts len (placed_from at items ++ ps) ≡ parts len ps
unfolding placed_from
parts_past len at [] ps h = refl
parts_past len at (item ∷ items) ps h =
    parts_next len (placed at item) (placed_from (at + length (spelled item)) items ++ ps) h.0
    ∙ parts_past len (at + length (spelled item)) items ps h.1

pub parts_none : (len : ℕ) → parts len [] ≡ []
unfolding parts
parts_none len = refl

-- a pack begins one
abbrev pub part_with : ℕ → Partition → List Placed → ℕ → Part
part_with at pack items end = record { at = at; pack = pack; items = items; end = end }

pub parts_pack : (len at : ℕ) (item : Item) (pack : Partition) (ps items : List Placed) (end : ℕ) → content_of item ≡ Pack pack → up_to is_pack ps ≡ items
    → place_of len (from_first is_pack ps) ≡ end → parts len (placed at item ∷ ps) ≡ part_with at pack items end ∷ parts len ps
unfolding parts
parts_pack len at item pack ps items end h up from =
    ap (λ (content : Content). part_of len (placed at item) ps content ++ parts len ps) h
    ∙ ap₂ (λ (is : List Placed) (e : ℕ). part_with at pack is e ∷ parts len ps) up from

-- no pack stands among the items behind the footer's
pub no_closing_pack : (s : Shape) (all : Units) → IsShape s all → AreNone is_pack (closing s)
no_closing_pack s all h = (
  ap is_pack h.primer_is,
  none_append is_pack s.foot_sets (s.last ++ (s.random ∷ [])) (all_none is_pack Set s.foot_sets refl h.foot_sets_are)
      (none_append is_pack s.last (s.random ∷ []) (all_none is_pack Segment s.last refl h.last_are) (ap is_pack h.random_is, tt)),
)

-- nor among those behind the header's
pub no_heading_pack : (s : Shape) (all : Units) → IsShape s all → AreNone is_pack (s.primer ∷ s.head_sets)
no_heading_pack s all h = (ap is_pack h.primer_is, all_none is_pack Set s.head_sets refl h.head_sets_are)

-- of the items behind units, those up to the next pack
pub up_standing : (s : Shape) (all before units : Units) → IsShape s all → before ++ units ≡ all
    → up_to is_pack (standing s before units) ≡ going s before units
unfolding going
up_standing s all before [] h e =
    ap (up_to is_pack) (standing_end s before) ∙ up_here is_pack (placed (s.place before) s.footer) _ (ap is_pack h.footer_is)
up_standing s all before (unit ∷ units) h e = elim (tested (s.due before)) [
  | inl due ↦
      ap (up_to is_pack) (standing_due s all before unit units h due)
      ∙ up_here is_pack (placed (s.place before) (s.pack before)) _ (ap is_pack (h.pack_is before (unit ∷ units) e))
      ∙ sym (going_due s before unit units due)
  | inr stays ↦
      ap (up_to is_pack) (standing_stays s all before unit units h stays)
      ∙ up_next is_pack (placed (s.key before) (s.element unit)) (standing s (before ++ unit ∷ []) units) (ap is_pack (h.element_is unit))
      ∙ ap (λ (ps : List Placed). placed (s.key before) (s.element unit) ∷ ps)
      (up_standing s all (before ++ unit ∷ []) units h (step before unit units all e))
      ∙ sym (going_stays s before unit units stays)
]

-- and where it stands
pub end_standing : (s : Shape) (all : Units) (len : ℕ) (before units : Units) → IsShape s all → before ++ units ≡ all
    → place_of len (from_first is_pack (standing s before units)) ≡ end_at s before units
unfolding end_at
end_standing s all len before [] h e =
    ap (λ (ps : List Placed). place_of len (from_first is_pack ps)) (standing_end s before)
    ∙ ap (place_of len) (from_here is_pack (placed (s.place before) s.footer) _ (ap is_pack h.footer_is))
end_standing s all len before (unit ∷ units) h e = elim (tested (s.due before)) [
  | inl due ↦
      ap (λ (ps : List Placed). place_of len (from_first is_pack ps)) (standing_due s all before unit units h due)
      ∙ ap (place_of len) (from_here is_pack (placed (s.place before) (s.pack before)) _ (ap is_pack (h.pack_is before (unit ∷ units) e)))
      ∙ sym (end_due s before unit units due)
  | inr stays ↦
      ap (λ (ps : List Placed). place_of len (from_first is_pack ps)) (standing_stays s all before unit units h stays)
      ∙ ap (place_of len) (from_next is_pack (placed (s.key before) (s.element unit)) (standing s (before ++ unit ∷ []) units)
      (ap is_pack (h.element_is unit)))
      ∙ end_standing s all len (before ++ unit ∷ []) units h (step before unit units all e)
      ∙ sym (end_stays s before unit units stays)
]

-- the footer's partition
parts_end : (s : Shape) (all : Units) (len : ℕ) → IsShape s all → parts len (standing s all []) ≡ footer_part s all len ∷ []
parts_end s all len h =
    let at : ℕ = s.place all + length (spelled s.footer) in
    let items : List Placed = placed_from at (closing s) in
    let none = no_closing_pack s all h in
    let whole : items ++ [] ≡ items = append-nil items in
    let up : up_to is_pack items ≡ items =
    ap (up_to is_pack) (sym whole) ∙ up_past is_pack at (closing s) [] none ∙ ap (λ (ps : List Placed). items ++ ps) (up_none is_pack) ∙ whole in
    let from : place_of len (from_first is_pack items) ≡ len =
    ap (λ (ps : List Placed). place_of len (from_first is_pack ps)) (sym whole)
    ∙ ap (place_of len) (from_past is_pack at (closing s) [] none ∙ from_none is_pack) in
    ap (parts len) (standing_end s all)
    ∙ parts_pack len (s.place all) s.footer s.closes items items len h.footer_is up from
    ∙ ap (λ (ps : List Part). footer_part s all len ∷ ps)
    (ap (parts len) (sym whole) ∙ parts_past len at (closing s) [] none ∙ parts_none len)

-- the partitions that begin behind units
pub parts_standing : (s : Shape) (all : Units) (len : ℕ) (before units : Units) → IsShape s all → before ++ units ≡ all
    → parts len (standing s before units) ≡ bodies s before units ++ (footer_part s all len ∷ [])
unfolding bodies
parts_standing s all len before [] h e =
    let whole : before ≡ all = sym (append-nil before) ∙ e in
    ap (λ (us : Units). parts len (standing s us [])) whole ∙ parts_end s all len h
parts_standing s all len before (unit ∷ units) h e =
    let more : Units = before ++ unit ∷ [] in
    let next = step before unit units all e in
    let later = parts_standing s all len more units h next in
    elim (tested (s.due before)) [
      | inl due ↦
          let segments : List Item = s.segments before in
          let at : ℕ = segments_at s before in
          let element = placed (s.key before) (s.element unit) in
          let rest : List Placed = element ∷ standing s more units in
          let no_segment = all_none is_pack Segment segments refl (h.segments_are before) in
          let no_element = ap is_pack (h.element_is unit) in
          let up : up_to is_pack (placed_from at segments ++ rest) ≡ placed_from at segments ++ (element ∷ going s more units) =
          up_past is_pack at segments rest no_segment
          ∙ ap (λ (ps : List Placed). placed_from at segments ++ ps) (
          up_next is_pack element (standing s more units) no_element
          ∙ ap (λ (ps : List Placed). element ∷ ps) (up_standing s all more units h next)
          ) in
          let from : place_of len (from_first is_pack (placed_from at segments ++ rest)) ≡ end_at s more units =
          ap (place_of len) (from_past is_pack at segments rest no_segment ∙ from_next is_pack element (standing s more units) no_element)
          ∙ end_standing s all len more units h next in
          ap (parts len) (standing_due s all before unit units h due)
          ∙ parts_pack len (s.place before) (s.pack before) (s.says before) (placed_from at segments ++ rest) _ _ (h.pack_is before (unit ∷ units) e) up from
          ∙ ap (λ (ps : List Part). body s before unit units ∷ ps) (
          parts_past len at segments rest no_segment ∙ parts_next len element (standing s more units) no_element ∙ later
          )
          ∙ ap (λ (ps : List Part). ps ++ (footer_part s all len ∷ [])) (sym (bodies_due s before unit units due))
      | inr stays ↦
          ap (parts len) (standing_stays s all before unit units h stays)
          ∙ parts_next len (placed (s.key before) (s.element unit)) (standing s more units) (ap is_pack (h.element_is unit))
          ∙ later
          ∙ ap (λ (ps : List Part). ps ++ (footer_part s all len ∷ [])) (sym (bodies_stays s before unit units stays))
    ]

-- all items at their places
pub all_standing : (s : Shape) (all : Units) → IsShape s all
    → placed_from 0 (all_items s all) ≡ placed 0 s.header ∷ (placed_from (length (spelled s.header)) (s.primer ∷ s.head_sets) ++ standing s [] all)
all_standing s all h =
    let at : ℕ = length (spelled s.header) in
    placed_first 0 s.header ((s.primer ∷ s.head_sets) ++ behind s [] all)
    ∙ ap (λ (n : ℕ). placed 0 s.header ∷ placed_from n ((s.primer ∷ s.head_sets) ++ behind s [] all)) (omega arith)
    ∙ ap (λ (ps : List Placed). placed 0 s.header ∷ ps) (placed_append at (s.primer ∷ s.head_sets) (behind s [] all))
    ∙ ap (λ (n : ℕ). placed 0 s.header ∷ (placed_from at (s.primer ∷ s.head_sets) ++ placed_from n (behind s [] all))) (sym h.starts)

-- all partitions
abbrev pub all_parts : Shape → Units → ℕ → List Part
all_parts s all len = header_part s all ∷ (bodies s [] all ++ (footer_part s all len ∷ []))

pub parts_are : (s : Shape) (all : Units) (len : ℕ) → IsShape s all → parts len (placed_from 0 (all_items s all)) ≡ all_parts s all len
parts_are s all len h =
    let at : ℕ = length (spelled s.header) in
    let heading : List Item = s.primer ∷ s.head_sets in
    let rest : List Placed = standing s [] all in
    let none = no_heading_pack s all h in
    let up : up_to is_pack (placed_from at heading ++ rest) ≡ placed_from at heading ++ going s [] all =
    up_past is_pack at heading rest none ∙ ap (λ (ps : List Placed). placed_from at heading ++ ps) (up_standing s all [] all h refl) in
    let from : place_of len (from_first is_pack (placed_from at heading ++ rest)) ≡ end_at s [] all =
    ap (place_of len) (from_past is_pack at heading rest none) ∙ end_standing s all len [] all h refl in
    ap (parts len) (all_standing s all h)
    ∙ parts_pack len 0 s.header s.opens (placed_from at heading ++ rest) _ _ h.header_is up from
    ∙ ap (λ (ps : List Part). header_part s all ∷ ps) (parts_past len at heading rest none ∙ parts_standing s all len [] all h refl)

-- the last of partitions, and those before
last_is : (part : Part) (bodies : List Part) (footer : Part) → last_of part (bodies ++ (footer ∷ [])) ≡ footer
unfolding last_of
last_is part [] footer = refl
last_is part (next ∷ bodies) footer = last_is next bodies footer

but_last_is : (part : Part) (bodies : List Part) (footer : Part) → all_but_last part (bodies ++ (footer ∷ [])) ≡ part ∷ bodies
unfolding all_but_last
but_last_is part [] footer = refl
but_last_is part (next ∷ bodies) footer = ap (λ (ps : List Part). part ∷ ps) (but_last_is next bodies footer)

abbrev pub file_with : List Part → List Part → List Part → File
file_with header middle footer = record { header = header; bodies = middle; footer = footer }

-- the file of a header, bodies and a footer
pub file_is : (header : Part) (middle : List Part) (footer : Part)
    → file_of (header ∷ (middle ++ (footer ∷ []))) ≡ file_with (header ∷ []) middle (footer ∷ [])
unfolding last_of all_but_last
file_is header [] footer = refl
file_is header (part ∷ middle) footer =
    ap₂ (λ (bs : List Part) (last : Part). file_with (header ∷ []) bs (last ∷ [])) (but_last_is part middle footer) (last_is part middle footer)

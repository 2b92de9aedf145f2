-- The clauses on the random index, on elements and on lengths hold of such a file.
use Rattle.std.proofs.Common.{◌≡◌, ℕ, ◌+◌, not, true, false, cond, List, [], ◌∷◌, ◌++◌, length, map, Option, Some, None}
use Rattle.std.proofs.Common.{refl, sym, ap, ◌∙◌, inl, inr, arith, append-nil}
use Rattle.std.specs.Prelude.{filter}
use Rattle.std.specs.Str.{bytes_eq}
use Rattle.std.proofs.lemmas.Bool.{eq-eqb, ne_eqb, le-ltb}
use Rattle.std.specs.List.{flat_map}
use Rattle.klv.specs.Items.{Item, spelled}
use Rattle.mxf_names.specs.declared.keys.TheConstants.{PICTURE_ELEMENT_KEY}
use Rattle.mxf_partitions.specs.declared.random_index.PackEntry.{PackEntry}
use Rattle.mxf_op1a.specs.Contents.{Placed, content_of, placed_from, is_fill, is_pack, is_element, is_random_index}
use Rattle.mxf_op1a.specs.Contents.Content.{Set, Segment}
use Rattle.mxf_op1a.specs.Partitions.{Part, being, elements, up_to}
use Rattle.mxf_op1a.specs.Clauses.{broken_1, broken_2, broken_6, last_item, ends_well, names_parts, entries_match, first_place, places}
use Rattle.mxf_op1a.specs.Clauses.{other_elements, lacking}
use Rattle.mxf_op1a.specs.Op1a.{units_in}
use Rattle.mxf_take_op1a.proofs.PlacedLemmas.{placed, bytes_of, AreNone, all_none, none_append, filter_none, filter_append}
use Rattle.mxf_take_op1a.proofs.PlacedLemmas.{placed_append, placed_first, up_here}
use Rattle.mxf_take_op1a.proofs.Shapes.{Units, Shape, IsShape, closing, all_items, going, segments_at, body, bodies, header_part, footer_part}
use Rattle.mxf_take_op1a.proofs.Shapes.{standing, standing_due, standing_stays, standing_end}
use Rattle.mxf_take_op1a.proofs.Shapes.{tested, going_due, bodies_due, bodies_stays, step}
use Rattle.mxf_take_op1a.proofs.PartLemmas.{all_parts, all_standing, file_with}
use Rattle.mxf_take_op1a.proofs.PlaceClauses.{elements_body}
use Rattle.mxf_take_op1a.proofs.Says.{HoldUnits, NameParts, entry_of_part}

-- 1. the last of joined items
last_append : (last : Option Placed) (xs ys : List Placed) → last_item last (xs ++ ys) ≡ last_item (last_item last xs) ys
unfolding last_item
last_append last [] ys = refl
last_append last (x ∷ xs) ys = last_append (cond (being is_fill x) last (Some x)) xs ys

last_next : (last : Option Placed) (p : Placed) (ps : List Placed) → last_item last (p ∷ ps) ≡ last_item (cond (being is_fill p) last (Some p)) ps
unfolding last_item
last_next last p ps = refl

last_one : (last : Option Placed) (p : Placed) → is_fill (content_of p.item) ≡ false → last_item last (p ∷ []) ≡ Some p
unfolding last_item
last_one last p h = rw h refl

-- the random index at its place
abbrev pub random_at : Shape → Units → Placed
random_at s all =
    placed (((s.place all + length (spelled s.footer)) + length (spelled s.primer)) + (bytes_of s.foot_sets + bytes_of s.last)) s.random

pub closing_placed : (s : Shape) (at : ℕ) → placed_from at (closing s) ≡ placed at s.primer
    ∷ (placed_from (at + length (spelled s.primer)) s.foot_sets
    ++ (placed_from ((at + length (spelled s.primer)) + bytes_of s.foot_sets) s.last
    ++ (placed (at + length (spelled s.primer) + (bytes_of s.foot_sets + bytes_of s.last)) s.random ∷ [])))
unfolding placed_from
closing_placed s at =
    let next : ℕ = at + length (spelled s.primer) in
    let third : ℕ = next + bytes_of s.foot_sets in
    let sum : third + bytes_of s.last ≡ next + (bytes_of s.foot_sets + bytes_of s.last) = omega arith in
    let end : placed_from (third + bytes_of s.last) (s.random ∷ []) ≡ placed (next + (bytes_of s.foot_sets + bytes_of s.last)) s.random ∷ [] =
    placed_first (third + bytes_of s.last) s.random [] ∙ ap (λ (n : ℕ). placed n s.random ∷ []) sum in
    placed_first at s.primer (s.foot_sets ++ (s.last ++ (s.random ∷ [])))
    ∙ ap (λ (ps : List Placed). placed at s.primer ∷ ps) (
    placed_append next s.foot_sets (s.last ++ (s.random ∷ []))
    ∙ ap (λ (ps : List Placed). placed_from next s.foot_sets ++ ps) (
    placed_append third s.last (s.random ∷ []) ∙ ap (λ (ps : List Placed). placed_from third s.last ++ ps) end
    )
    )

last_closing : (s : Shape) (all : Units) (last : Option Placed) → IsShape s all
    → last_item last (placed_from (s.place all + length (spelled s.footer)) (closing s)) ≡ Some (random_at s all)
last_closing s all last h =
    let at : ℕ = s.place all + length (spelled s.footer) in
    let sets : List Placed = placed_from (at + length (spelled s.primer)) s.foot_sets in
    let segments : List Placed = placed_from ((at + length (spelled s.primer)) + bytes_of s.foot_sets) s.last in
    let end : List Placed = random_at s all ∷ [] in
    let one : Option Placed = cond (being is_fill (placed at s.primer)) last (Some (placed at s.primer)) in
    ap (last_item last) (closing_placed s at)
    ∙ last_next last (placed at s.primer) (sets ++ (segments ++ end))
    ∙ last_append one sets (segments ++ end)
    ∙ last_append (last_item one sets) segments end
    ∙ last_one (last_item (last_item one sets) segments) (random_at s all) (ap is_fill h.random_is)

last_standing : (s : Shape) (all before units : Units) (last : Option Placed) → IsShape s all → before ++ units ≡ all
    → last_item last (standing s before units) ≡ Some (random_at s all)
last_standing s all before [] last h e =
    let whole : before ≡ all = sym (append-nil before) ∙ e in
    let pack = placed (s.place all) s.footer in
    ap (λ (us : Units). last_item last (standing s us [])) whole
    ∙ ap (last_item last) (standing_end s all)
    ∙ last_next last pack (placed_from (s.place all + length (spelled s.footer)) (closing s))
    ∙ last_closing s all (cond (being is_fill pack) last (Some pack)) h
last_standing s all before (unit ∷ units) last h e =
    let more : Units = before ++ unit ∷ [] in
    let element = placed (s.key before) (s.element unit) in
    let next = step before unit units all e in
    elim (tested (s.due before)) [
      | inl due ↦
          let pack = placed (s.place before) (s.pack before) in
          let segments : List Placed = placed_from (segments_at s before) (s.segments before) in
          let one : Option Placed = cond (being is_fill pack) last (Some pack) in
          let two : Option Placed = last_item one segments in
          ap (last_item last) (standing_due s all before unit units h due)
          ∙ last_next last pack (segments ++ (element ∷ standing s more units))
          ∙ last_append one segments (element ∷ standing s more units)
          ∙ last_next two element (standing s more units)
          ∙ last_standing s all more units (cond (being is_fill element) two (Some element)) h next
      | inr stays ↦
          ap (last_item last) (standing_stays s all before unit units h stays)
          ∙ last_next last element (standing s more units)
          ∙ last_standing s all more units (cond (being is_fill element) last (Some element)) h next
    ]

pub last_is_random : (s : Shape) (all : Units) → IsShape s all → last_item None (placed_from 0 (all_items s all)) ≡ Some (random_at s all)
last_is_random s all h =
    let pack = placed 0 s.header in
    let heading : List Placed = placed_from (length (spelled s.header)) (s.primer ∷ s.head_sets) in
    let one : Option Placed = cond (being is_fill pack) None (Some pack) in
    ap (last_item None) (all_standing s all h)
    ∙ last_next None pack (heading ++ standing s [] all)
    ∙ last_append one heading (standing s [] all)
    ∙ last_standing s all [] all (last_item one heading) h refl

pub kept_1 : (s : Shape) (all : Units) (len stop : ℕ) → IsShape s all → len ≡ stop → broken_1 stop len (placed_from 0 (all_items s all)) ≡ None
kept_1 s all len stop h e =
    rw (le-ltb stop len (omega arith)) (ap (ends_well len) (last_is_random s all h) ∙ rw (ap is_random_index h.random_is) refl)

-- 2. the random index names the partitions
match_own : (parts : List Part) → entries_match (Some (map entry_of_part parts)) parts ≡ true
match_own [] = refl
match_own (part ∷ parts) = rw (eq-eqb part.pack.body_sid part.pack.body_sid refl, eq-eqb part.at part.at refl) (match_own parts)

pub kept_2 : (s : Shape) (all : Units) (len : ℕ) → IsShape s all → NameParts s all len
    → broken_2 (placed_from 0 (all_items s all)) (all_parts s all len) ≡ None
kept_2 s all len h n =
    ap (names_parts (all_parts s all len)) (last_is_random s all h)
    ∙ rw (ap (λ (es : Option (List PackEntry)). entries_match es (all_parts s all len)) n.says ∙ match_own (all_parts s all len)) refl

-- 6. elements stand in bodies alone, all with the same key
pub bytes_self : (xs : List ℕ) → bytes_eq xs xs ≡ true
bytes_self [] = refl
bytes_self (x ∷ xs) = rw (eq-eqb x x refl) (bytes_self xs)

none_other : (s : Shape) (before units : Units) → HoldUnits s → filter (λ p. not (bytes_eq p.item.key PICTURE_ELEMENT_KEY)) (going s before units) ≡ []
unfolding going
none_other s before [] n = refl
none_other s before (unit ∷ units) n = elim (tested (s.due before)) [
  | inl due ↦ rw due refl
  | inr stays ↦ rw (stays, n.key unit) (none_other s (before ++ unit ∷ []) units n)
]

body_other : (s : Shape) (all before : Units) (unit : List ℕ) (units : Units) → IsShape s all → HoldUnits s
    → other_elements (body s before unit units).items ≡ []
body_other s all before unit units h n =
    ap (filter (λ p. not (bytes_eq p.item.key PICTURE_ELEMENT_KEY))) (elements_body s all before unit units h)
    ∙ rw (n.key unit) (none_other s (before ++ unit ∷ []) units n)

abbrev pub wrong_in : List Part → List ℕ
wrong_in bodies = flat_map (λ body. places (other_elements body.items)) bodies

wrong_next : (part : Part) (parts : List Part) → other_elements part.items ≡ [] → wrong_in (part ∷ parts) ≡ wrong_in parts
wrong_next part parts h = ap (λ (ps : List Placed). places ps ++ wrong_in parts) h

none_wrong : (s : Shape) (all before units : Units) → IsShape s all → HoldUnits s → wrong_in (bodies s before units) ≡ []
unfolding bodies
none_wrong s all before [] h n = refl
none_wrong s all before (unit ∷ units) h n =
    let later = none_wrong s all (before ++ unit ∷ []) units h n in
    elim (tested (s.due before)) [
      | inl due ↦
          ap wrong_in (bodies_due s before unit units due)
          ∙ wrong_next (body s before unit units) (bodies s (before ++ unit ∷ []) units) (body_other s all before unit units h n)
          ∙ later
      | inr stays ↦ ap wrong_in (bodies_stays s before unit units stays) ∙ later
    ]

lacks_next : (len : ℕ) (part : Part) (parts : List Part) (p : Placed) (ps : List Placed) → elements part.items ≡ p ∷ ps
    → lacking len (part ∷ parts) ≡ lacking len parts
lacks_next len part parts p ps h =
    let some : length (elements part.items) ≡ 0 → ⊥ = λ (q : length (elements part.items) ≡ 0). omega (arith, ap length h, q) in
    rw (ne_eqb (length (elements part.items)) 0 some) refl

none_lacks : (s : Shape) (all before units : Units) (len : ℕ) → IsShape s all → lacking len (bodies s before units) ≡ []
unfolding bodies
none_lacks s all before [] len h = refl
none_lacks s all before (unit ∷ units) len h =
    let later = none_lacks s all (before ++ unit ∷ []) units len h in
    elim (tested (s.due before)) [
      | inl due ↦
          ap (lacking len) (bodies_due s before unit units due)
          ∙ lacks_next len (body s before unit units) (bodies s (before ++ unit ∷ []) units) _ _ (elements_body s all before unit units h)
          ∙ later
      | inr stays ↦ ap (lacking len) (bodies_stays s before unit units stays) ∙ later
    ]

-- the elements of header and footer: none
pub no_heading_element : (s : Shape) (all : Units) → IsShape s all → AreNone is_element (s.primer ∷ s.head_sets)
no_heading_element s all h = (ap is_element h.primer_is, all_none is_element Set s.head_sets refl h.head_sets_are)

pub no_closing_element : (s : Shape) (all : Units) → IsShape s all → AreNone is_element (closing s)
no_closing_element s all h = (
  ap is_element h.primer_is,
  none_append is_element s.foot_sets (s.last ++ (s.random ∷ [])) (all_none is_element Set s.foot_sets refl h.foot_sets_are)
      (none_append is_element s.last (s.random ∷ []) (all_none is_element Segment s.last refl h.last_are) (ap is_element h.random_is, tt)),
)

-- nothing goes on before the first unit's body
pub none_going : (s : Shape) (all : Units) → s.due [] ≡ true → going s [] all ≡ []
unfolding going
none_going s [] due = refl
none_going s (unit ∷ units) due = going_due s [] unit units due

header_elements : (s : Shape) (all : Units) → IsShape s all → s.due [] ≡ true → elements (header_part s all).items ≡ []
header_elements s all h due =
    let heading : List Placed = placed_from (length (spelled s.header)) (s.primer ∷ s.head_sets) in
    ap (λ (ps : List Placed). elements (heading ++ ps)) (none_going s all due)
    ∙ ap elements (append-nil heading)
    ∙ filter_none is_element (length (spelled s.header)) (s.primer ∷ s.head_sets) (no_heading_element s all h)

footer_elements : (s : Shape) (all : Units) (len : ℕ) → IsShape s all → elements (footer_part s all len).items ≡ []
footer_elements s all len h = filter_none is_element (s.place all + length (spelled s.footer)) (closing s) (no_closing_element s all h)

five : (a b c d e : List ℕ) → a ≡ [] → b ≡ [] → c ≡ [] → d ≡ [] → e ≡ [] → first_place (a ++ b ++ c ++ d ++ e) ≡ None
five a b c d e p q r t u = rw (p, q, r, t, u) refl

pub kept_6 : (s : Shape) (all : Units) (len : ℕ) → IsShape s all → HoldUnits s → s.due [] ≡ true
    → broken_6 len (up_to is_pack (placed_from 0 (all_items s all))) (file_with (header_part s all ∷ []) (bodies s [] all) (footer_part s all len ∷ [])) ≡ None
kept_6 s all len h n due =
    let front : up_to is_pack (placed_from 0 (all_items s all)) ≡ [] =
    ap (up_to is_pack) (all_standing s all h) ∙ up_here is_pack (placed 0 s.header) _ (ap is_pack h.header_is) in
    five
    (places (elements (up_to is_pack (placed_from 0 (all_items s all)))))
    (places (elements (header_part s all).items) ++ [])
    (wrong_in (bodies s [] all))
    (places (elements (footer_part s all len).items) ++ [])
    (lacking len (bodies s [] all))
    (ap (λ (ps : List Placed). places (elements ps)) front)
    (ap (λ (ps : List Placed). places ps ++ []) (header_elements s all h due))
    (none_wrong s all [] all h n)
    (ap (λ (ps : List Placed). places ps ++ []) (footer_elements s all len h))
    (none_lacks s all [] all len h)

-- the elements of all items, by the elements behind units
abbrev pub values : List Placed → List (List ℕ)
values items = map (λ p. p.item.value) items

values_element : (s : Shape) (all : Units) (at : ℕ) (unit : List ℕ) (ps : List Placed) → IsShape s all → HoldUnits s
    → values (elements (placed at (s.element unit) ∷ ps)) ≡ unit ∷ values (elements ps)
values_element s all at unit ps h n = rw (ap is_element (h.element_is unit)) (ap (λ (value : List ℕ). value ∷ values (elements ps)) (n.value unit))

values_other : (p : Placed) (ps : List Placed) → is_element (content_of p.item) ≡ false → values (elements (p ∷ ps)) ≡ values (elements ps)
values_other p ps h = rw h refl

values_past : (at : ℕ) (items : List Item) (ps : List Placed) → AreNone is_element items
    → values (elements (placed_from at items ++ ps)) ≡ values (elements ps)
values_past at items ps h =
    ap values (filter_append (being is_element) (placed_from at items) ps)
    ∙ ap (λ (qs : List Placed). values (qs ++ elements ps)) (filter_none is_element at items h)

values_standing : (s : Shape) (all before units : Units) → IsShape s all → HoldUnits s → before ++ units ≡ all
    → values (elements (standing s before units)) ≡ units
values_standing s all before [] h n e =
    ap (λ (ps : List Placed). values (elements ps)) (standing_end s before)
    ∙ values_other (placed (s.place before) s.footer) (placed_from (s.place before + length (spelled s.footer)) (closing s)) (ap is_element h.footer_is)
    ∙ ap values (filter_none is_element (s.place before + length (spelled s.footer)) (closing s) (no_closing_element s all h))
values_standing s all before (unit ∷ units) h n e =
    let more : Units = before ++ unit ∷ [] in
    let element = placed (s.key before) (s.element unit) in
    let later : unit ∷ values (elements (standing s more units)) ≡ unit ∷ units =
    ap (λ (us : Units). unit ∷ us) (values_standing s all more units h n (step before unit units all e)) in
    elim (tested (s.due before)) [
      | inl due ↦
          let segments : List Item = s.segments before in
          let at : ℕ = segments_at s before in
          ap (λ (ps : List Placed). values (elements ps)) (standing_due s all before unit units h due)
          ∙ values_other (placed (s.place before) (s.pack before)) (placed_from at segments ++ (element ∷ standing s more units))
          (ap is_element (h.pack_is before (unit ∷ units) e))
          ∙ values_past at segments (element ∷ standing s more units) (all_none is_element Segment segments refl (h.segments_are before))
          ∙ values_element s all (s.key before) unit (standing s more units) h n
          ∙ later
      | inr stays ↦
          ap (λ (ps : List Placed). values (elements ps)) (standing_stays s all before unit units h stays)
          ∙ values_element s all (s.key before) unit (standing s more units) h n
          ∙ later
    ]

-- the units of all items
pub units_are : (s : Shape) (all : Units) → IsShape s all → HoldUnits s → units_in (all_items s all) ≡ all
units_are s all h n =
    let heading : List Item = s.primer ∷ s.head_sets in
    let at : ℕ = length (spelled s.header) in
    ap (λ (ps : List Placed). values (elements ps)) (all_standing s all h)
    ∙ values_other (placed 0 s.header) (placed_from at heading ++ standing s [] all) (ap is_element h.header_is)
    ∙ values_past at heading (standing s [] all) (no_heading_element s all h)
    ∙ values_standing s all [] all h n refl

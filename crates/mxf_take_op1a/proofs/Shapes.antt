-- Files of a header, bodies that begin before some of the units, and a footer, whatever their items say.
use Rattle.std.proofs.Common.{◌≡◌, ℕ, ◌+◌, Bool, true, false, cond, List, [], ◌∷◌, ◌++◌, length, refl, sym, ap, ap₂, ◌∙◌, inl, inr, ◌⊎◌}
use Rattle.std.proofs.Common.{append_assoc}
use Rattle.klv.specs.Items.{Item, spelled}
use Rattle.mxf_partitions.specs.declared.partition.Partition.{Partition}
use Rattle.mxf_op1a.specs.Contents.{Placed, content_of, placed_from}
use Rattle.mxf_op1a.specs.Contents.Content.{Pack, Primer, Set, Segment, RandomIndex, Element}
use Rattle.mxf_op1a.specs.Partitions.{Part}
use Rattle.mxf_take_op1a.proofs.PlacedLemmas.{placed, bytes_of, AreAll, placed_append, placed_first}

-- units
abbrev pub Units : Type 0
Units = List (List ℕ)

-- the items of such a file, by the units before, and where they stand
pub record Shape : Type 0 where
  -- the header's pack, primer and sets
  pub header : Item
  pub opens : Partition
  pub primer : Item
  pub head_sets : List Item
  -- whether a body begins before the next unit, its pack and segments, and the element of a unit
  pub due : Units → Bool
  pub pack : Units → Item
  pub says : Units → Partition
  pub segments : Units → List Item
  pub element : List ℕ → Item
  -- the footer's pack, sets and segments, and the random index pack
  pub footer : Item
  pub closes : Partition
  pub foot_sets : List Item
  pub last : List Item
  pub random : Item
  -- where the file of some units ends, and where the key of the element behind them stands
  pub place : Units → ℕ
  pub key : Units → ℕ

-- the items behind the footer's pack
abbrev pub closing : Shape → List Item
closing s = s.primer ∷ (s.foot_sets ++ (s.last ++ (s.random ∷ [])))

-- the items behind some units
unfoldable pub behind : Shape → Units → Units → List Item
behind s before [] = s.footer ∷ closing s
behind s before (unit ∷ units) =
    cond (s.due before) (s.pack before ∷ s.segments before) [] ++ (s.element unit ∷ behind s (before ++ unit ∷ []) units)

-- all items
abbrev pub all_items : Shape → Units → List Item
all_items s units = s.header ∷ ((s.primer ∷ s.head_sets) ++ behind s [] units)

-- what the items are, and how long, where these are all units
pub record IsShape (s : Shape) (all : Units) : Type 0 where
  pub header_is : content_of s.header ≡ Pack s.opens
  pub primer_is : content_of s.primer ≡ Primer
  pub head_sets_are : AreAll Set s.head_sets
  pub pack_is : (before rest : Units) → before ++ rest ≡ all → content_of (s.pack before) ≡ Pack (s.says before)
  pub segments_are : (before : Units) → AreAll Segment (s.segments before)
  pub element_is : (unit : List ℕ) → content_of (s.element unit) ≡ Element
  pub footer_is : content_of s.footer ≡ Pack s.closes
  pub foot_sets_are : AreAll Set s.foot_sets
  pub last_are : AreAll Segment s.last
  pub random_is : content_of s.random ≡ RandomIndex
  pub starts : s.place [] ≡ length (spelled s.header) + bytes_of (s.primer ∷ s.head_sets)
  pub due_key : (before : Units) → s.due before ≡ true → s.key before ≡ s.place before + length (spelled (s.pack before)) + bytes_of (s.segments before)
  pub stays_key : (before : Units) → s.due before ≡ false → s.key before ≡ s.place before
  pub next : (before : Units) (unit : List ℕ) → s.place (before ++ unit ∷ []) ≡ s.key before + length (spelled (s.element unit))

-- of the items behind some units, those up to the next pack
unfoldable pub going : Shape → Units → Units → List Placed
going s before [] = []
going s before (unit ∷ units) =
    cond (s.due before) [] (placed (s.key before) (s.element unit) ∷ going s (before ++ unit ∷ []) units)

-- the place of that pack
unfoldable pub end_at : Shape → Units → Units → ℕ
end_at s before [] = s.place before
end_at s before (unit ∷ units) = cond (s.due before) (s.place before) (end_at s (before ++ unit ∷ []) units)

-- where the segments of a body stand
abbrev pub segments_at : Shape → Units → ℕ
segments_at s before = s.place before + length (spelled (s.pack before))

-- the body that begins before a unit
abbrev pub body : Shape → Units → List ℕ → Units → Part
body s before unit units = record {
  at = s.place before;
  pack = s.says before;
  items = placed_from (segments_at s before) (s.segments before)
      ++ (placed (s.key before) (s.element unit) ∷ going s (before ++ unit ∷ []) units);
  end = end_at s (before ++ unit ∷ []) units;
}

-- the bodies that begin behind some units
unfoldable pub bodies : Shape → Units → Units → List Part
bodies s before [] = []
bodies s before (unit ∷ units) =
    cond (s.due before) (body s before unit units ∷ bodies s (before ++ unit ∷ []) units) (bodies s (before ++ unit ∷ []) units)

-- the header's partition and the footer's
abbrev pub header_part : Shape → Units → Part
header_part s all = record {
  at = 0;
  pack = s.opens;
  items = placed_from (length (spelled s.header)) (s.primer ∷ s.head_sets) ++ going s [] all;
  end = end_at s [] all;
}

abbrev pub footer_part : Shape → Units → ℕ → Part
footer_part s all len = record {
  at = s.place all;
  pack = s.closes;
  items = placed_from (s.place all + length (spelled s.footer)) (closing s);
  end = len;
}

-- a test is kept or not
pub tested : (b : Bool) → (b ≡ true) ⊎ (b ≡ false)
tested true = inl refl
tested false = inr refl

-- items behind units, by cases
pub behind_due : (s : Shape) (before : Units) (unit : List ℕ) (units : Units) → s.due before ≡ true
    → behind s before (unit ∷ units) ≡ s.pack before ∷ (s.segments before ++ (s.element unit ∷ behind s (before ++ unit ∷ []) units))
unfolding behind
behind_due s before unit units e = rw e refl

pub behind_stays : (s : Shape) (before : Units) (unit : List ℕ) (units : Units) → s.due before ≡ false
    → behind s before (unit ∷ units) ≡ s.element unit ∷ behind s (before ++ unit ∷ []) units
unfolding behind
behind_stays s before unit units e = rw e refl

pub going_due : (s : Shape) (before : Units) (unit : List ℕ) (units : Units) → s.due before ≡ true → going s before (unit ∷ units) ≡ []
unfolding going
going_due s before unit units e = rw e refl

pub going_stays : (s : Shape) (before : Units) (unit : List ℕ) (units : Units) → s.due before ≡ false
    → going s before (unit ∷ units) ≡ placed (s.key before) (s.element unit) ∷ going s (before ++ unit ∷ []) units
unfolding going
going_stays s before unit units e = rw e refl

pub end_due : (s : Shape) (before : Units) (unit : List ℕ) (units : Units) → s.due before ≡ true → end_at s before (unit ∷ units) ≡ s.place before
unfolding end_at
end_due s before unit units e = rw e refl

pub end_stays : (s : Shape) (before : Units) (unit : List ℕ) (units : Units) → s.due before ≡ false
    → end_at s before (unit ∷ units) ≡ end_at s (before ++ unit ∷ []) units
unfolding end_at
end_stays s before unit units e = rw e refl

pub bodies_due : (s : Shape) (before : Units) (unit : List ℕ) (units : Units) → s.due before ≡ true
    → bodies s before (unit ∷ units) ≡ body s before unit units ∷ bodies s (before ++ unit ∷ []) units
unfolding bodies
bodies_due s before unit units e = rw e refl

pub bodies_stays : (s : Shape) (before : Units) (unit : List ℕ) (units : Units) → s.due before ≡ false
    → bodies s before (unit ∷ units) ≡ bodies s (before ++ unit ∷ []) units
unfolding bodies
bodies_stays s before unit units e = rw e refl

-- the next step's units
pub step : (before : Units) (unit : List ℕ) (units all : Units) → before ++ (unit ∷ units) ≡ all → (before ++ unit ∷ []) ++ units ≡ all
step before unit units all e = append_assoc before (unit ∷ []) units ∙ e

-- the items behind units, at their places, by cases
abbrev pub standing : Shape → Units → Units → List Placed
standing s before units = placed_from (s.place before) (behind s before units)

pub standing_stays : (s : Shape) (all before : Units) (unit : List ℕ) (units : Units) → IsShape s all → s.due before ≡ false
    → standing s before (unit ∷ units) ≡ placed (s.key before) (s.element unit) ∷ standing s (before ++ unit ∷ []) units
standing_stays s all before unit units h e =
    let later : List Item = behind s (before ++ unit ∷ []) units in
    ap₂ (λ (n : ℕ) (items : List Item). placed_from n items) (sym (h.stays_key before e)) (behind_stays s before unit units e)
    ∙ placed_first (s.key before) (s.element unit) later
    ∙ ap (λ (n : ℕ). placed (s.key before) (s.element unit) ∷ placed_from n later) (sym (h.next before unit))

pub standing_due : (s : Shape) (all before : Units) (unit : List ℕ) (units : Units) → IsShape s all → s.due before ≡ true
    → standing s before (unit ∷ units) ≡ placed (s.place before) (s.pack before)
    ∷ (placed_from (segments_at s before) (s.segments before) ++ (placed (s.key before) (s.element unit) ∷ standing s (before ++ unit ∷ []) units))
standing_due s all before unit units h e =
    let later : List Item = behind s (before ++ unit ∷ []) units in
    let at : ℕ = segments_at s before in
    ap (λ (items : List Item). placed_from (s.place before) items) (behind_due s before unit units e)
    ∙ placed_first (s.place before) (s.pack before) (s.segments before ++ (s.element unit ∷ later))
    ∙ ap (λ (ps : List Placed). placed (s.place before) (s.pack before) ∷ ps) (
    placed_append at (s.segments before) (s.element unit ∷ later)
    ∙ ap (λ (ps : List Placed). placed_from at (s.segments before) ++ ps) (
    ap (λ (n : ℕ). placed_from n (s.element unit ∷ later)) (sym (h.due_key before e))
    ∙ placed_first (s.key before) (s.element unit) later
    ∙ ap (λ (n : ℕ). placed (s.key before) (s.element unit) ∷ placed_from n later) (sym (h.next before unit))
    )
    )

pub standing_end : (s : Shape) (before : Units)
    → standing s before [] ≡ placed (s.place before) s.footer ∷ placed_from (s.place before + length (spelled s.footer)) (closing s)
unfolding behind
standing_end s before = placed_first (s.place before) s.footer (closing s)

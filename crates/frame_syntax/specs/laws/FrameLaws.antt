-- Laws of what a frame's rules give: proved here, for proofs to cite.
use Rattle.std.proofs.Common.{◌≡◌, ◌≢◌, ◌≤◌, ◌<◌, ◌%◌, ◌==◌, ◌&&◌, ◌||◌, ℕ, ◌+◌, List, Option, [], ◌∷◌, ◌++◌, Bool, true, false, not, None, Some, IfSome, nat_le, eq-eqb, inl, inr, refl, sym, subst, ◌∙◌, arith}
use Rattle.std.proofs.lemmas.List.Sums.{sum_by-take-le}
use Rattle.std.proofs.lemmas.Bool.{and_parts, or_cases, leb-true, eqb-true}
use Rattle.rec_bytes.specs.Configuration.{within, is_even}
use Rattle.rec_bytes.specs.declared.config_fields.TheConstants.{MAX_WIDTH, MAX_HEIGHT, MAX_INTERLACE}
use Rattle.picture_plane.specs.Sizes.{IsSize}
use Rattle.frame_syntax.specs.Headers.{header_of, size_of}
use Rattle.frame_syntax.specs.Rules.{Rule, first_broken, opening_rules, head_rules, picture_rules, frame_rules, rules_from}
use Rattle.frame_syntax.specs.Pictures.{SlicesFit, Passes, sizes_of}
use Rattle.frame_syntax.specs.Frames.{IsFrame, RefusesTable, Refuses, parts_of}
use Rattle.frame_syntax.specs.declared.fault.FrameFault.{FrameFault}
use Rattle.frame_syntax.specs.declared.frame.FrameParts.{FrameParts}
use Rattle.frame_syntax.specs.declared.frame_head.FrameHead.{FrameHead}
use Rattle.frame_syntax.specs.declared.frame_head.TheConstants.{RESERVED_INTERLACE}
use Rattle.frame_syntax.specs.declared.picture_head.PictureHead.{PictureHead}

-- where two lists of rules are kept, the first is
kept_before : (rules more : List Rule) → first_broken (rules ++ more) ≡ None → first_broken rules ≡ None
unfolding first_broken
kept_before [] more e = refl
kept_before ((broken, true) ∷ rules) more e = kept_before rules more e
kept_before ((broken, false) ∷ rules) more e = absurd (cc)

-- and so is the second
kept_behind : (rules more : List Rule) → first_broken (rules ++ more) ≡ None → first_broken more ≡ None
unfolding first_broken
kept_behind [] more e = e
kept_behind ((broken, true) ∷ rules) more e = kept_behind rules more e
kept_behind ((broken, false) ∷ rules) more e = absurd (cc)

-- a rule before others that is kept
kept_first : (rule : Rule) (rules : List Rule) → first_broken (rule ∷ rules) ≡ None → rule.1 ≡ true
unfolding first_broken
kept_first (broken, true) rules e = refl
kept_first (broken, false) rules e = absurd (cc)

-- and the others
kept_rest : (rule : Rule) (rules : List Rule) → first_broken (rule ∷ rules) ≡ None → first_broken rules ≡ None
unfolding first_broken
kept_rest (broken, true) rules e = e
kept_rest (broken, false) rules e = absurd (cc)

-- the frame header of a frame keeps its rules
head_kept : (bytes : List ℕ) → first_broken (frame_rules bytes) ≡ None → first_broken (head_rules (header_of bytes)) ≡ None
unfolding frame_rules opening_rules head_rules rules_from
head_kept bytes e =
    kept_before (head_rules (header_of bytes)) (picture_rules bytes (header_of bytes))
    (kept_behind (opening_rules bytes) (head_rules (header_of bytes) ++ picture_rules bytes (header_of bytes)) e)

-- a test that doesn't hold
not_kept : (test : Bool) → not test ≡ true → test ≡ false
not_kept true e = cc
not_kept false e = refl

-- an interlace mode of two bits that isn't the reserved one
mode_within : (mode : ℕ) → mode < 4 → not (mode == RESERVED_INTERLACE) ≡ true → mode ≤ MAX_INTERLACE
mode_within mode small kept =
    let differs : (mode == RESERVED_INTERLACE) ≡ false = not_kept (mode == RESERVED_INTERLACE) kept in
    let other : mode ≢ RESERVED_INTERLACE = λ e. let same : (mode == RESERVED_INTERLACE) ≡ true = eq-eqb mode RESERVED_INTERLACE e in cc in
    omega arith

-- a height that is even where there are two fields
even_where : (mode height : ℕ) → (mode == 0 || is_even height) ≡ true → mode ≢ 0 → height % 2 ≡ 0
even_where mode height h some = elim (or_cases (mode == 0) (is_even height) h) [
  | inl progressive ↦ absurd (some (eqb-true mode 0 progressive))
  | inr even ↦ eqb-true (height % 2) 0 even
]

-- a frame header that keeps its rules has a size
head_sized : (head : FrameHead) → head.interlace < 4 → first_broken (head_rules head) ≡ None → IsSize (size_of head)
unfolding head_rules
head_sized head small kept =
    let behind_version = kept_rest _ _ kept in
    let behind_chroma = kept_rest _ _ behind_version in
    let mode : not (head.interlace == RESERVED_INTERLACE) ≡ true = kept_first _ _ behind_chroma in
    let behind_mode = kept_rest _ _ behind_chroma in
    let width : (within 2 head.width MAX_WIDTH && is_even head.width) ≡ true = kept_first _ _ behind_mode in
    let behind_width = kept_rest _ _ behind_mode in
    let height : (within 1 head.height MAX_HEIGHT && (head.interlace == 0 || is_even head.height)) ≡ true = kept_first _ _ behind_width in
    let widths = and_parts (within 2 head.width MAX_WIDTH) (is_even head.width) width in
    let heights = and_parts (within 1 head.height MAX_HEIGHT) (head.interlace == 0 || is_even head.height) height in
    let columns = and_parts (nat_le 2 head.width) (nat_le head.width MAX_WIDTH) widths.0 in
    let rows = and_parts (nat_le 1 head.height) (nat_le head.height MAX_HEIGHT) heights.0 in
    record {
      some_columns = leb-true 2 head.width columns.0;
      most_columns = leb-true head.width MAX_WIDTH columns.1;
      even_columns = eqb-true (head.width % 2) 0 widths.1;
      some_rows = leb-true 1 head.height rows.0;
      most_rows = leb-true head.height MAX_HEIGHT rows.1;
      mode = mode_within head.interlace small mode;
      even_rows = even_where head.interlace head.height heights.1;
    }

-- a frame has a size
pub frame_sized : (bytes : List ℕ) (parts : FrameParts) → IsFrame bytes parts → IsSize (size_of parts.head)
unfolding header_of
frame_sized bytes parts frame =
    subst (λ (p : FrameParts). IsSize (size_of p.head)) frame.stand
    (head_sized (header_of bytes) (omega arith) (head_kept bytes frame.kept))

-- slices that end inside their coded picture don't pass it
pub none_passes : (bytes : List ℕ) (picture : PictureHead) (number : ℕ) (fault : FrameFault) → SlicesFit bytes picture → Passes bytes picture number fault → ⊥
none_passes bytes picture number fault fit p =
    let less = sum_by-take-le (λ (x : ℕ). x) (sizes_of bytes picture) (p.n + 1) in
    let past = p.passes.past in
    omega (arith, less, past, fit)

-- nor do those of a second coded picture
none_passes_second : (bytes : List ℕ) (second : Option PictureHead) (picture : PictureHead) (number : ℕ) (fault : FrameFault) → IfSome second (SlicesFit bytes)
    → second ≡ Some picture → Passes bytes picture number fault → ⊥
none_passes_second bytes None picture number fault fit e p = absurd (cc)
none_passes_second bytes (Some second) picture number fault fit e p =
    let same : second ≡ picture = cc in
    none_passes bytes picture number fault (subst (SlicesFit bytes) same fit) p

-- so no slice table of a frame is refused
table_holds : (bytes : List ℕ) (fault : FrameFault) → SlicesFit bytes (parts_of bytes).first → IfSome (parts_of bytes).second (SlicesFit bytes)
    → RefusesTable bytes fault → ⊥
table_holds bytes fault first second table = elim (table.passes) [
  | inl one ↦ none_passes bytes (parts_of bytes).first 0 fault first one
  | inr two ↦ none_passes_second bytes (parts_of bytes).second two.picture (parts_of bytes).first.slices fault second two.is_second two.passes
]

-- a frame breaks no rule
pub frame_not_refused : (bytes : List ℕ) (parts : FrameParts) (fault : FrameFault) → IsFrame bytes parts → Refuses bytes fault → ⊥
frame_not_refused bytes parts fault frame (inl broken) = let both : Some fault ≡ None = sym broken ∙ frame.kept in absurd (cc)
frame_not_refused bytes parts fault frame (inr table) =
    table_holds bytes fault (subst (λ (p : FrameParts). SlicesFit bytes p.first) (sym frame.stand) frame.first_fits)
    (subst (λ (p : FrameParts). IfSome p.second (SlicesFit bytes)) (sym frame.stand) frame.second_fits) table

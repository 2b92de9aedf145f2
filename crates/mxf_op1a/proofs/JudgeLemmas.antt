-- Whole files: what outlines tell of them.
use Rattle.std.proofs.Common.{◌≡◌, ◌⊎◌, inl, inr, ℕ, List, length, Option, Some, None, refl, sym, ap, ◌∙◌}
use Rattle.klv.specs.Outline.{Outline}
use Rattle.mxf_op1a.specs.Op1a.{BreaksFirst, IsOp1a, first_broken, units_in}
use Rattle.mxf_op1a.specs.declared.breaks.Break.{Break}

-- outlines of the same bytes have the same items
abbrev pub HaveSameItems : Type 0
HaveSameItems = (bytes : List ℕ) (a b : Outline bytes) → a.items ≡ b.items

pub units_are_one : HaveSameItems → (bytes : List ℕ) (a b : List (List ℕ)) → IsOp1a bytes a → IsOp1a bytes b → a ≡ b
units_are_one one bytes a b x y = x.units_are ∙ ap units_in (one bytes x.outline y.outline) ∙ sym y.units_are

-- two outlines tell the same of the first clause that is broken
pub told : HaveSameItems → (bytes : List ℕ) (a b : Outline bytes) → first_broken (length bytes) a.items ≡ first_broken (length bytes) b.items
told one bytes a b = ap (first_broken (length bytes)) (one bytes a b)

pub first_is_one : HaveSameItems → (bytes : List ℕ) (a b : Break) → BreaksFirst bytes a → BreaksFirst bytes b → a ≡ b
first_is_one one bytes a b x y = let same = told one bytes x.outline y.outline in let p = x.is in let q = y.is in cc

pub are_apart : HaveSameItems → (bytes : List ℕ) (units : List (List ℕ)) (broken : Break) → IsOp1a bytes units → ¬ BreaksFirst bytes broken
are_apart one bytes units broken x y = let same = told one bytes x.outline y.outline in let p = x.kept in let q = y.is in cc

judged_by : (bytes : List ℕ) (outline : Outline bytes) (first : Option Break) → first_broken (length bytes) outline.items ≡ first
    → IsOp1a bytes (units_in outline.items) ⊎ ((broken : Break) × BreaksFirst bytes broken)
judged_by bytes outline None e = inl (record { outline = outline; kept = e; units_are = refl })
judged_by bytes outline (Some broken) e = inr (broken, record { outline = outline; is = e })

pub is_judged : (bytes : List ℕ) (outline : Outline bytes) → IsOp1a bytes (units_in outline.items) ⊎ ((broken : Break) × BreaksFirst bytes broken)
is_judged bytes outline = judged_by bytes outline (first_broken (length bytes) outline.items) refl

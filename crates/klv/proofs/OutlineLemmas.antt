-- Bytes have one outline at most.
use Rattle.std.proofs.Common.{◌≡◌, ◌⊎◌, inl, inr, ℕ, List, [], ◌∷◌, ◌++◌, length, refl, sym, ap, ap₂, ◌∙◌, arith, append_assoc}
use Rattle.std.proofs.lemmas.List.{length-append}
use Rattle.std.specs.List.{flat_map, AllByRecursion}
use Rattle.klv.specs.Items.{Item, IsItem, spelled}
use Rattle.klv.specs.Reads.{HasItemAt}
use Rattle.klv.specs.Outline.{Outline}
use Rattle.klv.specs.laws.Lengths.{length-spelled}
use Rattle.klv.proofs.ItemLemmas.{first_is_one}

-- what begins with an item is no rest
goes_on : (item : Item) (behind rest : List ℕ) → IsItem item → rest ≡ spelled item ++ behind → (rest ≡ []) ⊎ ¬ HasItemAt rest 0 → ⊥
goes_on item behind rest is e ends = elim ends [
  | inl none ↦
      let long = length-spelled item is.key in
      omega (arith, ap length (sym e ∙ none), length-append (spelled item) behind, long)
  | inr bare ↦ bare (item, record { is_item = is; rest = behind; bytes_are = e })
]

-- two outlines have the same items and the same rest
outlines_one : (a b : List Item) (r s : List ℕ) → AllByRecursion IsItem a → AllByRecursion IsItem b → flat_map spelled a ++ r ≡ flat_map spelled b ++ s
    → (r ≡ []) ⊎ ¬ HasItemAt r 0 → (s ≡ []) ⊎ ¬ HasItemAt s 0 → (a ≡ b) × (r ≡ s)
outlines_one [] [] r s p q e f g = (refl, e)
outlines_one [] (j ∷ b) r s p q e f g = absurd (goes_on j (flat_map spelled b ++ s) r q.0 (e ∙ append_assoc (spelled j) (flat_map spelled b) s) f)
outlines_one (i ∷ a) [] r s p q e f g = absurd (goes_on i (flat_map spelled a ++ r) s p.0 (sym e ∙ append_assoc (spelled i) (flat_map spelled a) r) g)
outlines_one (i ∷ a) (j ∷ b) r s p q e f g =
    let whole = sym (append_assoc (spelled i) (flat_map spelled a) r) ∙ e ∙ append_assoc (spelled j) (flat_map spelled b) s in
    let one = first_is_one i j (flat_map spelled a ++ r) (flat_map spelled b ++ s) p.0 q.0 whole in
    let more = outlines_one a b r s p.1 q.1 one.1 f g in
    (ap₂ (λ (x : Item) (xs : List Item). x ∷ xs) one.0 more.0, more.1)

-- the same of outlines of the same bytes
pub outline_is_one : (bytes : List ℕ) (a b : Outline bytes) → (a.items ≡ b.items) × (a.rest ≡ b.rest)
outline_is_one bytes a b = outlines_one a.items b.items a.rest b.rest a.each b.each (sym a.bytes_are ∙ b.bytes_are) a.ends b.ends

-- Laws of setups and chosen indices: proved here, for proofs to cite.
use Rattle.std.proofs.Common.{◌≡◌, ◌≤◌, ◌<◌, ℕ, Bool, true, false, List, length, arith, sym, ◌∙◌, ⊎_elim}
use Rattle.std.proofs.lemmas.Bool.{cases_lt}
use Rattle.std.proofs.lemmas.List.{ext_get_or}
use Rattle.rec_bytes.specs.Configuration.{Fields}
use Rattle.prores_scan.specs.WeightsAndScales.{AreWeights}
use Rattle.slice_codec.specs.Setups.{Setup, IsSetup}
use Rattle.slice_codec.specs.Coded.{IsChosen}

-- a kind has one matrix
weights_are_one : (kind : ℕ) (chroma : Bool) (a b : List ℕ) → length a ≡ 64 → length b ≡ 64 → AreWeights kind chroma a → AreWeights kind chroma b → a ≡ b
weights_are_one kind chroma a b a_long b_long one two =
    ext_get_or 0 a b (a_long ∙ sym b_long) (λ p lt. one p (omega (arith, lt, a_long)) ∙ sym (two p (omega (arith, lt, a_long))))

same_setup : (a b : Setup) → a.scan ≡ b.scan → a.luma ≡ b.luma → a.chroma ≡ b.chroma → a ≡ b
same_setup a b scan luma chroma = λ i. record { scan = scan i; luma = luma i; chroma = chroma i }

-- a configuration has one setup
pub setups_are_one : (fields : Fields) (a b : Setup) → IsSetup fields a → IsSetup fields b → a ≡ b
setups_are_one fields a b one two =
    same_setup a b (one.scan ∙ sym two.scan)
    (weights_are_one fields.weights false a.luma b.luma one.luma_long two.luma_long one.luma two.luma)
    (weights_are_one fields.weights true a.chroma b.chroma one.chroma_long two.chroma_long one.chroma two.chroma)

none_before : (fits : ℕ → Type 0) (first last i j : ℕ) → IsChosen fits first last i → IsChosen fits first last j → i < j → ⊥
none_before fits first last i j one two lt =
    ⊎_elim (λ (f : fits i). two.least i one.from lt f) (λ (e : i ≡ last). absurd (omega (arith, e, two.to, lt))) one.found

-- one index is chosen
pub chosen_is_one : (fits : ℕ → Type 0) (first last i j : ℕ) → IsChosen fits first last i → IsChosen fits first last j → i ≡ j
chosen_is_one fits first last i j one two = ⊎_elim
    (λ (lt : i < j). absurd (none_before fits first last i j one two lt))
    (λ (ge : j ≤ i). ⊎_elim
    (λ (lt : j < i). absurd (none_before fits first last j i two one lt))
    (λ (le : i ≤ j). omega (arith, ge, le))
    (cases_lt j i))
    (cases_lt i j)

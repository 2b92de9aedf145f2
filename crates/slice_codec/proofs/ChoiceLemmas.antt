-- The least index that fits.
use Rattle.std.proofs.Common.{◌≡◌, ◌≤◌, ◌<◌, ◌+◌, ◌*◌, ℕ, List, ◌++◌, length, take, arith, subst, inl, inr, refl, ⊎_elim}
use Rattle.std.proofs.lemmas.Bool.{cases_lt}
use Rattle.std.proofs.lemmas.List.{take-append-le, length-take-le}
use Rattle.rec_bytes.specs.Configuration.{Fields}
use Rattle.slice_codec.specs.Setups.{Setup, IsSetup}
use Rattle.slice_codec.specs.Coded.{IsSliceAt, Fits, IsCodedSlice}
use Rattle.slice_codec.specs.inner.Written.{SlicePasses, IsChosenSlice}

-- no index from the first up to another fits
abbrev pub NoneFits : Setup → ℕ → List (List ℕ) → ℕ → ℕ → ℕ → Type 0
NoneFits setup count samples room first to = (i : ℕ) → first ≤ i → i < to → ¬ Fits setup count samples room i

-- one more index that doesn't fit
pub none_more : (setup : Setup) (count : ℕ) (samples : List (List ℕ)) (room rest first index : ℕ) → rest ≡ room
    → NoneFits setup count samples room first index → SlicePasses setup count samples index rest
    → NoneFits setup count samples room first (index + 1)
none_more setup count samples room rest first index whole none passes i least most fits = ⊎_elim
    (λ (lt : i < index). none i least lt fits)
    (λ (ge : index ≤ i). let same : i ≡ index = omega (arith, most, ge) in
    let slice : IsSliceAt setup count samples index fits.0 = subst (λ (n : ℕ). IsSliceAt setup count samples n fits.0) same fits.1 in
    absurd (omega (arith, whole, passes fits.0 slice, fits.2)))
    (cases_lt i index)

-- the first that fits into the lent bytes is chosen
pub chosen_fits : (setup : Setup) (count : ℕ) (samples : List (List ℕ)) (room first last index used : ℕ) (bytes behind : List ℕ)
    → NoneFits setup count samples room first index → first ≤ index → index ≤ last
    → IsSliceAt setup count samples index (take used bytes) → used ≤ length bytes → length bytes ≡ room
    → IsChosenSlice setup count samples room first last (take used (bytes ++ behind))
chosen_fits setup count samples room first last index used bytes behind none from to slice within long =
    let short : length (take used bytes) ≤ room = omega (arith, within, long, length-take-le used bytes within) in
    rw (take-append-le used bytes behind within) (record {
      index = index;
      chosen = record { from = from; to = to; found = inl (take used bytes, slice, short); least = none };
      coded = slice;
    })

-- else the last
pub chosen_last : (setup : Setup) (count : ℕ) (samples : List (List ℕ)) (room first last : ℕ) (bytes : List ℕ)
    → NoneFits setup count samples room first last → first ≤ last → IsSliceAt setup count samples last bytes
    → IsChosenSlice setup count samples room first last bytes
chosen_last setup count samples room first last bytes none order slice = record {
  index = last;
  chosen = record { from = order; to = omega arith; found = inr refl; least = none };
  coded = slice;
}

-- by the indices and the budget of a configuration
pub coded_slice : (fields : Fields) (setup : Setup) (count : ℕ) (samples : List (List ℕ)) (room first last : ℕ) (bytes : List ℕ)
    → IsSetup fields setup → room ≡ fields.budget * count → first ≡ fields.qmin → last ≡ fields.qmax
    → IsChosenSlice setup count samples room first last bytes → IsCodedSlice fields count samples bytes
coded_slice fields setup count samples room first last bytes is room_is first_is last_is slice = record {
  setup = setup;
  of_configuration = is;
  index = slice.index;
  chosen = rw (← room_is, ← first_is, ← last_is) slice.chosen;
  coded = slice.coded;
}

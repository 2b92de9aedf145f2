-- Laws of slices that are written and read back: proved here, for proofs to cite.
use Rattle.std.proofs.Common.{◌≡◌, ◌<◌, ◌≤◌, ◌+◌, ◌*◌, ◌/◌, ◌%◌, ℕ, ℤ, List, ◌∷◌, ◌++◌, length, take, drop, arith, sym, ap, subst, ◌∙◌, inl, inr, ◌⊎◌, ⊎_elim, Bool, true, false}
use Rattle.std.proofs.lemmas.Bool.{cases_order}
use Rattle.std.proofs.lemmas.List.{append_assoc, drop-drop, drop_at, ext_get_or, length-append, take_at}
use Rattle.rec_bytes.specs.Configuration.{Fields}
use Rattle.prores_scan.specs.WeightsAndScales.{AreSmall, AreWeights, scale_of}
use Rattle.prores_scan.specs.laws.ScaleLaws.{scale_is_some, scale_is_small, weight_is_some, weight_is_small}
use Rattle.slice_parts.specs.Component.{IsPadded}
use Rattle.slice_parts.specs.laws.OneComponent.{spelled_is_read}
use Rattle.slice_levels.specs.Coefficients.{AreSamples}
use Rattle.slice_levels.specs.Rebuilt.{AreRebuilt}
use Rattle.slice_levels.specs.laws.LevelLaws.{levels_are_one, own_levels_are_in_range}
use Rattle.picture_plane.specs.declared.planes.Plane.{Plane}
use Rattle.picture_plane.specs.declared.planes.Plane.TheVariants.{Y, Cb, Cr}
use Rattle.picture_plane.specs.Blocks.{blocks_in}
use Rattle.slice_codec.specs.Setups.{Setup, IsSetup, weights_of}
use Rattle.slice_codec.specs.Slices.{HasHead, MeansPart, MeansSlice, y_len, cb_len, part_bytes}
use Rattle.slice_codec.specs.Reading.{AreSliceSamples}
use Rattle.slice_codec.specs.Coded.{IsSpelledPart, IsSliceAt, IsChosen, Fits, IsChosenIndex, IsCodedSlice, IsRebuiltPart, IsRebuiltSlice}

-- the bytes of a slice of three parts
abbrev joined : ℕ → List ℕ → List ℕ → List ℕ → List ℕ
joined index y cb cr = 48 ∷ index ∷ length y / 256 ∷ length y % 256 ∷ length cb / 256 ∷ length cb % 256 ∷ y ++ cb ++ cr

y_len_is : (index : ℕ) (y cb cr : List ℕ) → y_len (joined index y cb cr) ≡ length y
y_len_is index y cb cr = omega arith

cb_len_is : (index : ℕ) (y cb cr : List ℕ) → cb_len (joined index y cb cr) ≡ length cb
cb_len_is index y cb cr = omega arith

joined_len : (index : ℕ) (y cb cr : List ℕ) → length (joined index y cb cr) ≡ 6 + length y + length cb + length cr
joined_len index y cb cr =
    let parts = length-append (y ++ cb) cr ∙ ap (λ n. n + length cr) (length-append y cb) in
    omega (arith, parts)

-- its header holds
joined_head : (index : ℕ) (y cb cr : List ℕ) → 1 ≤ index → index ≤ 224 → HasHead (joined index y cb cr)
joined_head index y cb cr some most =
    let long = joined_len index y cb cr in
    record {
      sized = record { long = omega (arith, long); size = omega arith; within = omega (arith, long) };
      some = some;
      most = most;
      parts = omega (arith, long, y_len_is index y cb cr, cb_len_is index y cb cr);
    }

-- its parts are those that were joined
joined_y : (index : ℕ) (y cb cr : List ℕ) → part_bytes (joined index y cb cr) Y ≡ y
joined_y index y cb cr =
    ap (λ (parts : List ℕ). take (y_len (joined index y cb cr)) parts) (append_assoc y cb cr)
    ∙ take_at y (cb ++ cr) (y_len (joined index y cb cr)) (sym (y_len_is index y cb cr))

behind_y : (index : ℕ) (y cb cr : List ℕ) → drop (6 + y_len (joined index y cb cr)) (joined index y cb cr) ≡ cb ++ cr
behind_y index y cb cr =
    sym (drop-drop (y_len (joined index y cb cr)) 6 (joined index y cb cr))
    ∙ (ap (λ (parts : List ℕ). drop (y_len (joined index y cb cr)) parts) (append_assoc y cb cr)
    ∙ drop_at y (cb ++ cr) (y_len (joined index y cb cr)) (sym (y_len_is index y cb cr)))

joined_cb : (index : ℕ) (y cb cr : List ℕ) → part_bytes (joined index y cb cr) Cb ≡ cb
joined_cb index y cb cr =
    ap (λ (parts : List ℕ). take (cb_len (joined index y cb cr)) parts) (behind_y index y cb cr)
    ∙ take_at cb cr (cb_len (joined index y cb cr)) (sym (cb_len_is index y cb cr))

joined_cr : (index : ℕ) (y cb cr : List ℕ) → part_bytes (joined index y cb cr) Cr ≡ cr
joined_cr index y cb cr =
    sym (drop-drop (cb_len (joined index y cb cr)) (6 + y_len (joined index y cb cr)) (joined index y cb cr))
    ∙ (ap (λ (parts : List ℕ). drop (cb_len (joined index y cb cr)) parts) (behind_y index y cb cr)
    ∙ drop_at cb cr (cb_len (joined index y cb cr)) (sym (cb_len_is index y cb cr)))

-- a part that is written means the blocks that its levels give back
pub written_part_means : (setup : Setup) (index : ℕ) (plane : Plane) (blocks rebuilt : List (List ℕ)) (bits bytes : List ℕ)
    → IsSpelledPart setup index plane blocks bits → IsPadded bits bytes → IsRebuiltPart setup index plane blocks rebuilt
    → AreSamples blocks → AreSmall (weights_of setup plane) → 1 ≤ index → index ≤ 224 → MeansPart setup index plane bytes rebuilt
written_part_means setup index plane blocks rebuilt bits bytes spelled padded given samples small some most =
    let same = levels_are_one setup.scan (weights_of setup plane) (scale_of index) blocks given.levels spelled.levels given.quantised spelled.quantised in
    record {
      levels = spelled.levels;
      coded = rw given.same (spelled_is_read (length blocks) spelled.levels bits bytes spelled.spelled padded);
      in_range = rw given.same (own_levels_are_in_range setup.scan (weights_of setup plane) (scale_of index) blocks spelled.levels samples small
          (scale_is_some index some) (scale_is_small index most) spelled.quantised);
      rebuilt = subst (λ (levels : List ℤ). AreRebuilt setup.scan (weights_of setup plane) (scale_of index) levels rebuilt) same given.inverse;
    }

-- a slice that is written means the samples that its levels give back
pub written_slice_means : (setup : Setup) (count index : ℕ) (source samples : List (List ℕ)) (bytes : List ℕ) → IsSliceAt setup count source index bytes
    → ((plane : Plane) → IsRebuiltPart setup index plane (blocks_in source plane count) (blocks_in samples plane count))
    → AreSliceSamples count source → ((plane : Plane) → AreSmall (weights_of setup plane)) → 1 ≤ index → index ≤ 224
    → MeansSlice setup count bytes samples
written_slice_means setup count index source samples bytes slice given of_ten small some most =
    subst (λ (all : List ℕ). MeansSlice setup count all samples) (sym slice.joined.joined) (record {
      head = joined_head index y cb cr some most;
      counted = λ plane. (given plane).same ∙ of_ten.counted plane;
      parts = part;
    })
  where
    y : List ℕ
    y = slice.joined.y_bytes

    cb : List ℕ
    cb = slice.joined.cb_bytes

    cr : List ℕ
    cr = slice.joined.cr_bytes

    means : (plane : Plane) (bits part : List ℕ) → IsSpelledPart setup index plane (blocks_in source plane count) bits → IsPadded bits part
        → MeansPart setup index plane part (blocks_in samples plane count)
    means plane bits part spelled padded = written_part_means setup index plane (blocks_in source plane count) (blocks_in samples plane count) bits part
        spelled padded (given plane) (of_ten.small plane) (small plane) some most

    part : (plane : Plane) → MeansPart setup index plane (part_bytes (joined index y cb cr) plane) (blocks_in samples plane count)
    part Y = subst (λ (bs : List ℕ). MeansPart setup index Y bs (blocks_in samples Y count)) (sym (joined_y index y cb cr)) (means Y slice.y y slice.y_spelled slice.joined.y_padded)
    part Cb = subst (λ (bs : List ℕ). MeansPart setup index Cb bs (blocks_in samples Cb count)) (sym (joined_cb index y cb cr)) (means Cb slice.cb cb slice.cb_spelled slice.joined.cb_padded)
    part Cr = subst (λ (bs : List ℕ). MeansPart setup index Cr bs (blocks_in samples Cr count)) (sym (joined_cr index y cb cr)) (means Cr slice.cr cr slice.cr_spelled slice.joined.cr_padded)

-- the weights of a kind are small
kind_is_small : (kind : ℕ) (chroma : Bool) (matrix : List ℕ) → AreWeights kind chroma matrix → AreSmall matrix
kind_is_small kind chroma matrix are p lt = (
  subst (λ (w : ℕ). 4 ≤ w) (sym (are p lt)) (weight_is_some kind chroma (p / 8) (p % 8)),
  subst (λ (w : ℕ). w ≤ 18) (sym (are p lt)) (weight_is_small kind chroma (p / 8) (p % 8) (omega arith) (omega arith)),
)

-- a configuration's weights are small
pub setup_is_small : (fields : Fields) (setup : Setup) → IsSetup fields setup → (plane : Plane) → AreSmall (weights_of setup plane)
setup_is_small fields setup is Y = kind_is_small fields.weights false setup.luma is.luma
setup_is_small fields setup is Cb = kind_is_small fields.weights true setup.chroma is.chroma
setup_is_small fields setup is Cr = kind_is_small fields.weights true setup.chroma is.chroma

same_weights : (kind : ℕ) (chroma : Bool) (one two : List ℕ) → length one ≡ 64 → length two ≡ 64 → AreWeights kind chroma one → AreWeights kind chroma two → one ≡ two
same_weights kind chroma one two long same first second =
    ext_get_or 0 one two (long ∙ sym same) (λ p lt. first p (omega (arith, lt, long)) ∙ sym (second p (omega (arith, lt, long))))

-- a configuration has one setup
pub setup_is_one : (fields : Fields) (one two : Setup) → IsSetup fields one → IsSetup fields two → one ≡ two
setup_is_one fields one two first second =
    let scan = first.scan ∙ sym second.scan in
    let luma = same_weights fields.weights false one.luma two.luma first.luma_long second.luma_long first.luma second.luma in
    let chroma = same_weights fields.weights true one.chroma two.chroma first.chroma_long second.chroma_long first.chroma second.chroma in
    λ i. record { scan = scan i; luma = luma i; chroma = chroma i }

-- one index is chosen
pub chosen_is_one : (fits : ℕ → Type 0) (first last one two : ℕ) → IsChosen fits first last one → IsChosen fits first last two → one ≡ two
chosen_is_one fits first last one two is other = cases (cases_order one two)
  where
    not_less : (a b : ℕ) → IsChosen fits first last a → IsChosen fits first last b → a < b → ⊥
    not_less a b low high lt = ⊎_elim (λ fit. high.least a low.from lt fit) (λ e. absurd (omega (arith, e, lt, high.to))) low.found

    cases : (one ≡ two) ⊎ ((one < two) ⊎ (two < one)) → one ≡ two
    cases (inl e) = e
    cases (inr (inl lt)) = absurd (not_less one two is other lt)
    cases (inr (inr lt)) = absurd (not_less two one other is lt)

-- the slice of samples means the samples that it gives back
pub coded_slices_mean : (fields : Fields) (setup : Setup) (count : ℕ) (source samples : List (List ℕ)) (bytes : List ℕ) → IsSetup fields setup
    → 1 ≤ fields.qmin → fields.qmax ≤ 224 → AreSliceSamples count source
    → IsCodedSlice fields count source bytes → IsRebuiltSlice fields count source samples → MeansSlice setup count bytes samples
coded_slices_mean fields setup count source samples bytes is some most of_ten coded rebuilt =
    let to_setup = setup_is_one fields coded.setup setup coded.of_configuration is in
    let from_setup = setup_is_one fields rebuilt.setup setup rebuilt.of_configuration is in
    let slice = subst (λ (s : Setup). IsSliceAt s count source coded.index bytes) to_setup coded.coded in
    let chosen = subst (λ (s : Setup). IsChosenIndex fields s count source coded.index) to_setup coded.chosen in
    let again = subst (λ (s : Setup). IsChosenIndex fields s count source rebuilt.index) from_setup rebuilt.chosen in
    let index = chosen_is_one (Fits setup count source (fields.budget * count)) fields.qmin fields.qmax rebuilt.index coded.index again chosen in
    written_slice_means setup count coded.index source samples bytes slice
    (λ plane. subst (λ (i : ℕ). IsRebuiltPart setup i plane (blocks_in source plane count) (blocks_in samples plane count)) index
    (subst (λ (s : Setup). IsRebuiltPart s rebuilt.index plane (blocks_in source plane count) (blocks_in samples plane count)) from_setup (rebuilt.parts plane)))
    of_ten (setup_is_small fields setup is) (omega (arith, some, coded.chosen.from)) (omega (arith, most, coded.chosen.to))

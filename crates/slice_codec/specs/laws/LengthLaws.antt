-- A coded slice is short: proved here, for proofs to cite.
use Rattle.std.proofs.Common.{◌≡◌, ◌≤◌, ◌<◌, ◌+◌, ◌*◌, ◌^◌, ℕ, ℤ, pos, List, length, get_or, arith, sym, subst, inl, inr}
use Rattle.std.specs.Int.RustNames.{unsigned_abs}
use Rattle.std.proofs.lemmas.Bool.{cases_lt}
use Rattle.std.proofs.lemmas.List.{get_or_past}
use Rattle.rec_bytes.specs.Configuration.{Fields}
use Rattle.prores_scan.specs.WeightsAndScales.{AreSmall as AreSmallWeights, scale_of}
use Rattle.prores_scan.specs.laws.ScaleLaws.{scale_is_some, scale_is_small}
use Rattle.slice_levels.specs.Coefficients.{AreSamples}
use Rattle.slice_levels.specs.laws.LevelLaws.{own_levels_are_small}
use Rattle.slice_parts.specs.Component.{AreSmall}
use Rattle.slice_parts.specs.laws.SpelledLaws.{spelled_short}
use Rattle.picture_plane.specs.declared.planes.Plane.{Plane}
use Rattle.picture_plane.specs.declared.planes.Plane.TheVariants.{Y, Cb, Cr}
use Rattle.picture_plane.specs.Blocks.{blocks_in, blocks_of}
use Rattle.slice_codec.specs.Setups.{Setup, weights_of}
use Rattle.slice_codec.specs.Reading.{AreSliceSamples}
use Rattle.slice_codec.specs.Coded.{IsSpelledPart, IsCodedSlice}
use Rattle.slice_codec.specs.laws.CodedLaws.{slice_len}
use Rattle.slice_codec.specs.laws.RoundLaws.{setup_is_small}

-- levels that are small where they stand are small
small_past : (levels : List ℤ) → ((n : ℕ) → n < length levels → unsigned_abs (get_or levels n (pos 0)) < 2 ^ 13) → AreSmall levels
small_past levels small n =
    elim (cases_lt n (length levels)) [
      | inl lt ↦ omega (arith, small n lt)
      | inr ge ↦ subst (λ (level : ℤ). unsigned_abs level ≤ 2 ^ 13) (sym (get_or_past levels n (pos 0) ge)) (omega arith)
    ]

-- a spelled part has at most 3875 bits for each of its blocks
pub spelled_part_short : (setup : Setup) (index : ℕ) (plane : Plane) (blocks : List (List ℕ)) (bits : List ℕ) → length blocks ≤ 32 → AreSamples blocks
    → AreSmallWeights (weights_of setup plane) → 1 ≤ index → index ≤ 224 → IsSpelledPart setup index plane blocks bits → length bits ≤ 3875 * length blocks
spelled_part_short setup index plane blocks bits few samples small some most part =
    let below = own_levels_are_small setup.scan (weights_of setup plane) (scale_of index) blocks part.levels samples small
    (scale_is_some index some) (scale_is_small index most) part.quantised in
    spelled_short (length blocks) part.levels bits few (small_past part.levels below) part.spelled

few_blocks : (count : ℕ) (plane : Plane) (blocks : List (List ℕ)) → count ≤ 8 → length blocks ≡ blocks_of plane count → length blocks ≤ 32
few_blocks count Y blocks few long = omega (arith, few, long)
few_blocks count Cb blocks few long = omega (arith, few, long)
few_blocks count Cr blocks few long = omega (arith, few, long)

-- a slice by a configuration has at most 4096 bytes for each of its macroblocks and 8 more
pub coded_slice_len : (fields : Fields) (count : ℕ) (samples : List (List ℕ)) (bytes : List ℕ) → count ≤ 8 → 1 ≤ fields.qmin → fields.qmax ≤ 224
    → AreSliceSamples count samples → IsCodedSlice fields count samples bytes → length bytes ≤ 4096 * count + 8
coded_slice_len fields count samples bytes few least greatest are coded =
    let slice = coded.coded in
    let some : 1 ≤ coded.index = omega (arith, least, coded.chosen.from) in
    let most : coded.index ≤ 224 = omega (arith, greatest, coded.chosen.to) in
    let small = setup_is_small fields coded.setup coded.of_configuration in
    let part = λ (plane : Plane) (bits : List ℕ). spelled_part_short coded.setup coded.index plane (blocks_in samples plane count) bits
    (few_blocks count plane (blocks_in samples plane count) few (are.counted plane)) (are.small plane) (small plane) some most in
    let y = part Y slice.y slice.y_spelled in
    let cb = part Cb slice.cb slice.cb_spelled in
    let cr = part Cr slice.cr slice.cr_spelled in
    omega (arith, slice_len coded.index slice.y slice.cb slice.cr bytes slice.joined, y, cb, cr, are.counted Y, are.counted Cb, are.counted Cr)

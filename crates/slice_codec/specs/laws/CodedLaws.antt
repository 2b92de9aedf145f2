-- Laws of coded slices: proved here, for proofs to cite.
use Rattle.std.proofs.Common.{◌≡◌, ◌+◌, ℕ, List, ◌++◌, length, arith, ap, subst, ◌∙◌}
use Rattle.std.proofs.lemmas.List.{length-append}
use Rattle.bit_io.specs.Bits.{bytes_for}
use Rattle.prores_scan.specs.WeightsAndScales.{scale_of}
use Rattle.slice_levels.specs.laws.LevelLaws.{levels_are_one}
use Rattle.slice_parts.specs.Component.{IsSpelled}
use Rattle.slice_parts.specs.laws.SpelledLaws.{one_spelling_each}
use Rattle.picture_plane.specs.declared.planes.Plane.{Plane}
use Rattle.picture_plane.specs.declared.planes.Plane.TheVariants.{Y, Cb, Cr}
use Rattle.picture_plane.specs.Blocks.{blocks_in}
use Rattle.slice_codec.specs.Setups.{Setup, weights_of}
use Rattle.slice_codec.specs.Slices.{IsSliceOf}
use Rattle.slice_codec.specs.Coded.{IsSpelledPart, IsSliceAt}

-- blocks have one spelled part at an index
pub spelled_part_is_one : (setup : Setup) (index : ℕ) (plane : Plane) (blocks : List (List ℕ)) (a b : List ℕ)
    → IsSpelledPart setup index plane blocks a → IsSpelledPart setup index plane blocks b → a ≡ b
spelled_part_is_one setup index plane blocks a b one two =
    let same = levels_are_one setup.scan (weights_of setup plane) (scale_of index) blocks one.levels two.levels one.quantised two.quantised in
    one_spelling_each (length blocks) two.levels a b (subst (λ levels. IsSpelled (length blocks) levels a) same one.spelled) two.spelled

-- a slice's length comes from those of its parts
pub slice_len : (index : ℕ) (y cb cr bytes : List ℕ) → IsSliceOf index y cb cr bytes
    → length bytes ≡ 6 + bytes_for (length y) + bytes_for (length cb) + bytes_for (length cr)
slice_len index y cb cr bytes slice =
    let parts = slice.y_bytes ++ slice.cb_bytes ++ slice.cr_bytes in
    let long : length parts ≡ length slice.y_bytes + length slice.cb_bytes + length slice.cr_bytes =
    length-append (slice.y_bytes ++ slice.cb_bytes) slice.cr_bytes ∙ ap (λ n. n + length slice.cr_bytes) (length-append slice.y_bytes slice.cb_bytes) in
    omega (arith, ap length slice.joined, long, slice.y_padded.long, slice.cb_padded.long, slice.cr_padded.long)

-- the length of the slice of samples at an index, by any spelling of its parts
pub slice_at_len : (setup : Setup) (count : ℕ) (samples : List (List ℕ)) (index : ℕ) (bytes y cb cr : List ℕ)
    → IsSliceAt setup count samples index bytes
    → IsSpelledPart setup index Y (blocks_in samples Y count) y → IsSpelledPart setup index Cb (blocks_in samples Cb count) cb
    → IsSpelledPart setup index Cr (blocks_in samples Cr count) cr
    → length bytes ≡ 6 + bytes_for (length y) + bytes_for (length cb) + bytes_for (length cr)
slice_at_len setup count samples index bytes y cb cr slice y_part cb_part cr_part =
    let y_same = spelled_part_is_one setup index Y (blocks_in samples Y count) slice.y y slice.y_spelled y_part in
    let cb_same = spelled_part_is_one setup index Cb (blocks_in samples Cb count) slice.cb cb slice.cb_spelled cb_part in
    let cr_same = spelled_part_is_one setup index Cr (blocks_in samples Cr count) slice.cr cr slice.cr_spelled cr_part in
    rw (← y_same, ← cb_same, ← cr_same) (slice_len index slice.y slice.cb slice.cr bytes slice.joined)

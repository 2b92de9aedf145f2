-- What parts have at least, and the room that is kept for it.
use Rattle.std.proofs.Common.{◌≡◌, ◌≤◌, ◌<◌, ◌+◌, ◌-◌, ◌*◌, ◌%◌, ◌∙◌, ℕ, ℤ, pos, List, ◌++◌, length, get_or, slice_index, arith, sym, Option, Some, None, IfSome}
use Rattle.std.proofs.lemmas.List.{ext_get_or, get_or-map, length-map, take-append-le}
use Rattle.bit_io.specs.Bits.{bytes_for}
use Rattle.prores_scan.specs.ScaledLevels.{AreLevels, signed_of}
use Rattle.prores_scan.specs.WeightsAndScales.{scale_of}
use Rattle.slice_parts.specs.Bound.{numbers_at, size_at, AreLeft}
use Rattle.slice_parts.specs.Component.{signed_levels}
use Rattle.slice_parts.specs.laws.PartBound.{has_half_steps}
use Rattle.picture_plane.specs.declared.planes.Plane.{Plane}
use Rattle.picture_plane.specs.declared.planes.Plane.TheVariants.{Y, Cb, Cr}
use Rattle.picture_plane.specs.Blocks.{blocks_in}
use Rattle.slice_codec.specs.Setups.{Setup}
use Rattle.slice_codec.specs.Coded.{IsSpelledPart}
use Rattle.slice_codec.specs.inner.Bounded.{IsLeast}
use Rattle.slice_codec.specs.inner.Weighed.{AreHalves, IsWeighed, IsWritten}
use Rattle.slice_codec.specs.inner.Written.{ChromaPasses, PartsPass}
use Rattle.slice_codec.proofs.WeighedLemmas.{part_passes}
use Rattle.slice_codec.proofs.BoundLemmas.{numbers_are, part_low}
use Rattle.slice_parts.specs.declared.bound.Least.{Least}

-- levels by half steps at a scale are those that the bound counts
pub levels_same : (scale : ℕ) (half_steps numbers : List ℕ) → length numbers ≡ length half_steps → AreLevels half_steps scale numbers
    → signed_levels (numbers_at scale half_steps) ≡ signed_levels numbers
levels_same scale half_steps numbers long are =
    ext_get_or (pos 0) (signed_levels (numbers_at scale half_steps)) (signed_levels numbers) (length-map others signed_of ∙ (same ∙ (sym long ∙ sym (length-map numbers signed_of)))) (λ k lt. each k (omega (arith, lt, length-map others signed_of)))
  where
    others : List ℕ
    others = numbers_at scale half_steps

    same : length others ≡ length half_steps
    same = length-map half_steps (λ (v : ℕ). 2 * size_at scale v + v % 2)

    each : (k : ℕ) → k < length others → get_or (signed_levels others) k (pos 0) ≡ get_or (signed_levels numbers) k (pos 0)
    each k lt =
        let h = has_half_steps (slice_index half_steps k) in
        let inside : k < length half_steps = omega (arith, lt, same) in
        get_or-map signed_of others k 0 (pos 0) lt
        ∙ (numbers_are scale half_steps k inside h.g 1 (omega arith) h.is
        ∙ (sym (are k inside h.g 1 (omega arith) h.is) ∙ sym (get_or-map signed_of numbers k 0 (pos 0) (omega (arith, inside, long)))))

-- what stands behind the bytes of a part doesn't matter
pub written_front : (setup : Setup) (index : ℕ) (plane : Plane) (blocks : List (List ℕ)) (room : ℕ) (result : Option ℕ) (bytes behind : List ℕ)
    → IfSome result (λ used. used ≤ length bytes) → IsWritten setup index plane blocks room result bytes → IsWritten setup index plane blocks room result (bytes ++ behind)
written_front setup index plane blocks room None bytes behind within is = record { bits = is.bits; part = is.part; fits = is.fits; written = is.written }
written_front setup index plane blocks room (Some used) bytes behind within is = record {
  bits = is.bits;
  part = is.part;
  fits = is.fits;
  written = rw (take-append-le used bytes behind within) is.written;
}

-- a part has no fewer bytes than those of its bound
pub least_bytes : (setup : Setup) (index : ℕ) (plane : Plane) (blocks : List (List ℕ)) (half_steps bits : List ℕ) (least : Least) → 1 ≤ scale_of index
    → AreHalves half_steps → IsWeighed setup plane blocks half_steps → IsLeast (scale_of index) half_steps least → IsSpelledPart setup index plane blocks bits
    → bytes_for least.bits ≤ bytes_for (length bits)
least_bytes setup index plane blocks half_steps bits least some halves weighed is part =
    omega (arith, is.bits, part_low setup index plane blocks half_steps bits some halves.some weighed part)

-- no bits are those of each part at least
pub none_least : (scale : ℕ) (half_steps : List ℕ) (least : Least) → least.bits ≡ 0 → ((levels : List ℤ) → AreLeft levels least.left) → IsLeast scale half_steps least
none_least scale half_steps least none left = record {
  bits = omega (arith, none);
  left = left (signed_levels (numbers_at scale half_steps));
  few = omega (arith, none);
}

-- the first of two has no room before what the second has at least
pub first_passes_before : (setup : Setup) (index : ℕ) (cb_blocks cr_blocks : List (List ℕ)) (room reserve : ℕ) (cr xs : List ℕ) (least : Least) → 1 ≤ scale_of index
    → AreHalves cr → IsWeighed setup Cr cr_blocks cr → IsLeast (scale_of index) cr least → reserve ≡ bytes_for least.bits
    → IsWritten setup index Cb cb_blocks (room - reserve) None xs → ChromaPasses setup index cb_blocks cr_blocks room
first_passes_before setup index cb_blocks cr_blocks room reserve cr xs least some halves weighed is kept none cb_bits cr_bits cb_part cr_part =
    omega (
      arith,
      kept,
      part_passes setup index Cb cb_blocks (room - reserve) xs cb_bits none cb_part,
      least_bytes setup index Cr cr_blocks cr cr_bits least some halves weighed is cr_part,
    )

-- the first of three has no room before what the others have at least
pub luma_passes_before : (setup : Setup) (index count : ℕ) (samples : List (List ℕ)) (room reserve : ℕ) (cb cr xs : List ℕ) (cb_least cr_least : Least) → 1 ≤ scale_of index
    → AreHalves cb → AreHalves cr → IsWeighed setup Cb (blocks_in samples Cb count) cb → IsWeighed setup Cr (blocks_in samples Cr count) cr
    → IsLeast (scale_of index) cb cb_least → IsLeast (scale_of index) cr cr_least → reserve ≡ bytes_for cb_least.bits + bytes_for cr_least.bits
    → IsWritten setup index Y (blocks_in samples Y count) (room - reserve) None xs → PartsPass setup index count samples room
luma_passes_before setup index count samples room reserve cb cr xs cb_least cr_least some cb_halves cr_halves cb_weighed cr_weighed cb_is cr_is kept none y_bits cb_bits cr_bits y_part cb_part cr_part =
    omega (
      arith,
      kept,
      part_passes setup index Y (blocks_in samples Y count) (room - reserve) xs y_bits none y_part,
      least_bytes setup index Cb (blocks_in samples Cb count) cb cb_bits cb_least some cb_halves cb_weighed cb_is cb_part,
      least_bytes setup index Cr (blocks_in samples Cr count) cr cr_bits cr_least some cr_halves cr_weighed cr_is cr_part,
    )

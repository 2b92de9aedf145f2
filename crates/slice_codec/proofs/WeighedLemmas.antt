-- The levels of weighed blocks, and their bits.
use Rattle.std.proofs.Common.{◌≡◌, ◌≤◌, ◌<◌, ◌+◌, ◌*◌, ◌/◌, ◌^◌, ◌↔◌, ◌∙◌, ℕ, List, length, take, arith, sym, ap, Option, Some, None, IsSome, IfSome, false, true, ⊎_elim}
use Rattle.std.proofs.lemmas.Bool.{cases_lt}
use Rattle.std.proofs.lemmas.List.{length-map, length-take-le}
use Rattle.bit_io.specs.Bits.{bytes_for}
use Rattle.prores_scan.specs.HalfSteps.{AreAtMost}
use Rattle.prores_scan.specs.ScaledLevels.{AreLevels, signed_of}
use Rattle.prores_scan.specs.WeightsAndScales.{scale_of}
use Rattle.slice_levels.specs.laws.LevelLaws.{levels_of_half_steps}
use Rattle.slice_parts.specs.Component.{IsSpelled, IsPadded, signed_levels}
use Rattle.slice_parts.specs.laws.SpelledLaws.{numbers_small, has_spelling, spelled_short}
use Rattle.picture_plane.specs.declared.planes.Plane.{Plane}
use Rattle.slice_codec.specs.Setups.{Setup, weights_of}
use Rattle.slice_codec.specs.Coded.{IsSpelledPart}
use Rattle.slice_codec.specs.inner.Weighed.{IsWeighed, IsWritten}
use Rattle.slice_codec.specs.laws.CodedLaws.{spelled_part_is_one}

pub never : false ≡ true → ⊥
never e = cc

-- levels that are given as numbers have a spelling
pub spelling_of : (blocks : ℕ) (numbers : List ℕ) → blocks ≤ 32 → length numbers ≡ 64 * blocks → AreAtMost (2 ^ 14 + 1) numbers
    → (bits : List ℕ) × IsSpelled blocks (signed_levels numbers) bits
spelling_of blocks numbers few long small =
    has_spelling blocks (signed_levels numbers) few (length-map numbers signed_of ∙ long) (numbers_small numbers small)

-- and a short one
pub short_spelling : (blocks : ℕ) (numbers bits : List ℕ) → blocks ≤ 32 → AreAtMost (2 ^ 14 + 1) numbers
    → IsSpelled blocks (signed_levels numbers) bits → 8 * bytes_for (length bits) ≤ 3875 * blocks + 7
short_spelling blocks numbers bits few small spelled =
    omega (arith, spelled_short blocks (signed_levels numbers) bits few (numbers_small numbers small) spelled)

-- a part is written from weighed blocks
pub written_part : (setup : Setup) (index : ℕ) (plane : Plane) (blocks : List (List ℕ)) (half_steps numbers : List ℕ) (room : ℕ) (result : Option ℕ) (out : List ℕ)
    → IsWeighed setup plane blocks half_steps → length numbers ≡ length half_steps → AreLevels half_steps (scale_of index) numbers → AreAtMost (2 ^ 14 + 1) numbers
    → ((s : List ℕ) → IsSpelled (length half_steps / 64) (signed_levels numbers) s → (IsSome result ↔ (bytes_for (length s) ≤ room)))
    → ((s : List ℕ) → IsSpelled (length half_steps / 64) (signed_levels numbers) s → IfSome result (λ used. IsPadded s (take used out)))
    → IsWritten setup index plane blocks room result out
written_part setup index plane blocks half_steps numbers room result out weighed same levels small accepted written =
    let are = levels_of_half_steps setup.scan (weights_of setup plane) (scale_of index) blocks half_steps numbers weighed.long same weighed.large weighed.are levels in
    let count : length half_steps / 64 ≡ length blocks = omega (arith, weighed.long) in
    let found = spelling_of (length blocks) numbers weighed.few (same ∙ weighed.long) small in
    let spelled : IsSpelled (length half_steps / 64) (signed_levels numbers) found.0 = rw count found.1 in
    record {
      bits = found.0;
      part = record { levels = signed_levels numbers; quantised = are; spelled = found.1 };
      fits = accepted found.0 spelled;
      written = written found.0 spelled;
    }

-- the last few bits of a part that has no room
pub part_passes : (setup : Setup) (index : ℕ) (plane : Plane) (blocks : List (List ℕ)) (room : ℕ) (out bits : List ℕ)
    → IsWritten setup index plane blocks room None out → IsSpelledPart setup index plane blocks bits → room < bytes_for (length bits)
part_passes setup index plane blocks room out bits is part =
    let same : is.bits ≡ bits = spelled_part_is_one setup index plane blocks is.bits bits is.part part in
    let none : ¬ (bytes_for (length is.bits) ≤ room) = λ fits. never (is.fits.1 fits) in
    ⊎_elim (λ lt. lt) (λ ge. absurd (none (rw same ge))) (cases_lt room (bytes_for (length bits)))

-- a part that has room has its bytes
pub part_length : (setup : Setup) (index : ℕ) (plane : Plane) (blocks : List (List ℕ)) (room used : ℕ) (out bits : List ℕ)
    → IsWritten setup index plane blocks room (Some used) out → used ≤ length out → IsSpelledPart setup index plane blocks bits
    → used ≡ bytes_for (length bits)
part_length setup index plane blocks room used out bits is within part =
    let same : is.bits ≡ bits = spelled_part_is_one setup index plane blocks is.bits bits is.part part in
    sym (length-take-le used out within) ∙ (is.written.long ∙ ap (λ (bs : List ℕ). bytes_for (length bs)) same)

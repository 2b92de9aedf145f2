-- Where the bound of a slice passes the room the slice doesn't fit.
use Rattle.std.proofs.Common.{◌≡◌, ◌≤◌, ◌<◌, ◌+◌, ◌*◌, ◌/◌, ◌%◌, ◌∙◌, ℕ, ℤ, List, length, slice_index, arith, sym, ap, subst}
use Rattle.std.proofs.lemmas.List.{length-map, get_or-map}
use Rattle.prores_scan.specs.ScaledLevels.{AreLevels, signed_of}
use Rattle.prores_scan.specs.WeightsAndScales.{scale_of}
use Rattle.prores_scan.specs.laws.HalfStepLaws.{level_from_half_steps}
use Rattle.prores_scan.specs.laws.ScaleLaws.{scale_is_some, scales_rise}
use Rattle.slice_levels.specs.laws.LevelLaws.{levels_of_half_steps, levels_are_one}
use Rattle.slice_parts.specs.Bound.{part_bound, numbers_at, size_at}
use Rattle.slice_parts.specs.Component.{IsSpelled, signed_levels}
use Rattle.slice_parts.specs.laws.PartBound.{part_bound_falls, part_bound_is_low}
use Rattle.picture_plane.specs.declared.planes.Plane.{Plane}
use Rattle.picture_plane.specs.declared.planes.Plane.TheVariants.{Y, Cb, Cr}
use Rattle.picture_plane.specs.Blocks.{blocks_in}
use Rattle.slice_codec.specs.Setups.{Setup, weights_of}
use Rattle.slice_codec.specs.Coded.{IsSpelledPart}
use Rattle.slice_codec.specs.inner.Bounded.{slice_bound, AllPass}
use Rattle.slice_codec.specs.inner.Weighed.{AreHalves, IsWeighed, IsWeighedSlice}
use Rattle.slice_codec.specs.laws.CodedLaws.{slice_len}
use Rattle.slice_codec.proofs.ChoiceLemmas.{NoneFits}

-- the numbers that half steps tell are those of the levels
pub numbers_are : (scale : ℕ) (half_steps : List ℕ) → AreLevels half_steps scale (numbers_at scale half_steps)
numbers_are scale half_steps k lt g weight some is =
    ap (λ (n : ℕ). signed_of n) (get_or-map (λ (v : ℕ). 2 * size_at scale v + v % 2) half_steps k 0 0 lt)
    ∙ level_from_half_steps g weight scale (slice_index half_steps k) some is

-- a part has no fewer bits than the bound of its half steps
pub part_low : (setup : Setup) (index : ℕ) (plane : Plane) (blocks : List (List ℕ)) (half_steps bits : List ℕ) → 1 ≤ scale_of index → 64 ≤ length half_steps
    → IsWeighed setup plane blocks half_steps → IsSpelledPart setup index plane blocks bits
    → part_bound (scale_of index) (length half_steps / 64) half_steps ≤ length bits
part_low setup index plane blocks half_steps bits some long weighed part =
    let scale : ℕ = scale_of index in
    let numbers : List ℕ = numbers_at scale half_steps in
    let count : length half_steps / 64 ≡ length blocks = omega (arith, weighed.long) in
    let are = levels_of_half_steps setup.scan (weights_of setup plane) scale blocks half_steps numbers weighed.long (length-map half_steps (λ (v : ℕ). 2 * size_at scale v + v % 2)) weighed.large weighed.are
    (numbers_are scale half_steps) in
    let same : part.levels ≡ signed_levels numbers = levels_are_one setup.scan (weights_of setup plane) scale blocks part.levels (signed_levels numbers) part.quantised are in
    let spelled : IsSpelled (length blocks) (signed_levels numbers) bits = subst (λ (levels : List ℤ). IsSpelled (length blocks) levels bits) same part.spelled in
    subst (λ (n : ℕ). part_bound scale n half_steps ≤ length bits) (sym count)
    (part_bound_is_low scale (length blocks) half_steps bits some (omega (arith, long, weighed.long)) weighed.long spelled)

-- an index at which the bound passes the room is none at which the slice fits
pub none_pass : (setup : Setup) (count : ℕ) (samples : List (List ℕ)) (room first to : ℕ) (y cb cr : List ℕ) → 1 ≤ first
    → AreHalves y → AreHalves cb → AreHalves cr → AllPass room first to y cb cr
    → IsWeighedSlice setup count samples y cb cr → NoneFits setup count samples room first to
none_pass setup count samples room first to y cb cr some y_are cb_are cr_are pass weighed i least most fits =
    let slice = fits.1 in
    absurd (omega (
      arith,
      fits.2,
      pass i least most,
      slice_len i slice.y slice.cb slice.cr fits.0 slice.joined,
      part_low setup i Y (blocks_in samples Y count) y slice.y (scale_is_some i (omega (arith, some, least))) y_are.some weighed.y_weighed slice.y_spelled,
      part_low setup i Cb (blocks_in samples Cb count) cb slice.cb (scale_is_some i (omega (arith, some, least))) cb_are.some weighed.cb_weighed slice.cb_spelled,
      part_low setup i Cr (blocks_in samples Cr count) cr slice.cr (scale_is_some i (omega (arith, some, least))) cr_are.some weighed.cr_weighed slice.cr_spelled,
    ))

-- the bound doesn't rise with the index
slice_bound_falls : (from to : ℕ) (y cb cr : List ℕ) → 1 ≤ from → from ≤ to → slice_bound to y cb cr ≤ slice_bound from y cb cr
slice_bound_falls from to y cb cr some order =
    let one = scale_is_some from some in
    let rise = scales_rise from to order in
    omega (
      arith,
      part_bound_falls (scale_of from) (scale_of to) (length y / 64) y one rise,
      part_bound_falls (scale_of from) (scale_of to) (length cb / 64) cb one rise,
      part_bound_falls (scale_of from) (scale_of to) (length cr / 64) cr one rise,
    )

-- so where it passes the room it does at each index before
pub all_pass : (room first index bits : ℕ) (y cb cr : List ℕ) → 1 ≤ first → bits ≤ slice_bound index y cb cr → 8 * room < 48 + bits
    → AllPass room first (index + 1) y cb cr
all_pass room first index bits y cb cr some low pass i least most =
    omega (arith, low, pass, slice_bound_falls i index y cb cr (omega (arith, some, least)) (omega (arith, most)))

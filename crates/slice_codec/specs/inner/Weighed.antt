-- The half steps of a slice's parts, from which its levels at any index come, and parts that are written from them.
use Rattle.std.specs.Prelude.{◌≡◌, ◌≤◌, ◌*◌, ◌/◌, ◌+◌, ◌↔◌, ℕ, List, length, take, Option, IsSome, IfSome}
use Rattle.bit_io.specs.Bits.{bytes_for}
use Rattle.prores_scan.specs.HalfSteps.{AreShort}
use Rattle.slice_parts.specs.Component.{IsPadded}
use Rattle.slice_levels.specs.Coefficients.{AreHalfStepsOf, AreWeighable}
use Rattle.picture_plane.specs.declared.planes.Plane.{Plane}
use Rattle.picture_plane.specs.declared.planes.Plane.TheVariants.{Y, Cb, Cr}
use Rattle.picture_plane.specs.Blocks.{blocks_in}
use Rattle.slice_codec.specs.Setups.{Setup, weights_of}
use Rattle.slice_codec.specs.Coded.{IsSpelledPart}

-- half steps of the 1 to 32 blocks of a part
pub record AreHalves (half_steps : List ℕ) : Type 0 where
  pub some : 64 ≤ length half_steps
  pub most : length half_steps ≤ 2048
  pub whole : length half_steps / 64 * 64 ≡ length half_steps
  pub short : AreShort half_steps

-- what a part's bytes have bits at most
abbrev pub most_bits : List ℕ → ℕ
most_bits half_steps = 3875 * (length half_steps / 64) + 7

-- the half steps are those of a plane's blocks
pub record IsWeighed (setup : Setup) (plane : Plane) (blocks : List (List ℕ)) (half_steps : List ℕ) : Type 0 where
  pub long : length half_steps ≡ 64 * length blocks
  pub few : length blocks ≤ 32
  pub large : AreWeighable (weights_of setup plane)
  pub are : AreHalfStepsOf setup.scan (weights_of setup plane) blocks half_steps

-- those of the three planes of a slice
pub record IsWeighedSlice (setup : Setup) (count : ℕ) (samples : List (List ℕ)) (y cb cr : List ℕ) : Type 0 where
  pub y_weighed : IsWeighed setup Y (blocks_in samples Y count) y
  pub cb_weighed : IsWeighed setup Cb (blocks_in samples Cb count) cb
  pub cr_weighed : IsWeighed setup Cr (blocks_in samples Cr count) cr

-- a part is written exactly where it has room, and these are its bytes
pub record IsWritten (setup : Setup) (index : ℕ) (plane : Plane) (blocks : List (List ℕ)) (room : ℕ) (result : Option ℕ) (out : List ℕ) : Type 0 where
  pub bits : List ℕ
  pub part : IsSpelledPart setup index plane blocks bits
  pub fits : IsSome result ↔ (bytes_for (length bits) ≤ room)
  pub written : IfSome result (λ used. IsPadded bits (take used out))

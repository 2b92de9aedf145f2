-- Slices that a worker has read, none of them and one more.
use Rattle.std.proofs.Common.{◌≡◌, ℕ, ◌+◌, ◌<◌, ◌≤◌, List, length, set, arith, refl}
use Rattle.std.proofs.lemmas.List.{length-set}
use Rattle.std.proofs.lemmas.List.Elements.{AllWithin-more_set}
use Rattle.std.specs.List.{AllWithin}
use Rattle.picture_plane.specs.Pictures.{Planes}
use Rattle.slice_codec.specs.Setups.{Setup}
use Rattle.frame_codec.specs.Frames.{MeansFrame}
use Rattle.frame_codec.specs.Faults.{Refuses}
use Rattle.frame_codec.specs.Laws.{RefusedMeansNothing}
use Rattle.frame_codec.specs.declared.fault.DecodeFault.{DecodeFault}
use Rattle.frame_codec.specs.declared.fault.DecodeFault.TheVariants.{Memory, Frame, OneMatrix, Slice}
use Rattle.slice_workers.specs.declared.reader.Reading.{Reading}
use Rattle.slice_workers.specs.declared.reader.Reader.{Reader}
use Rattle.slice_workers.specs.inner.Readers.{HasReadings, IsReading}

-- a worker that has read nothing
pub none_read : (setup : Setup) (bytes : List ℕ) (reader : Reader) → reader.used ≡ 0 → HasReadings setup bytes reader
none_read setup bytes reader none = record { used = omega (arith, none); readings = λ k d low high. absurd (omega (arith, none, high)) }

-- one slice more
pub more_read : (setup : Setup) (bytes : List ℕ) (used : ℕ) (readings : List Reading) (reading : Reading) → used < length readings
    → AllWithin (IsReading setup bytes) readings 0 used → IsReading setup bytes reading
    → AllWithin (IsReading setup bytes) (set readings used reading) 0 (used + 1)
more_read setup bytes used readings reading room are is = AllWithin-more_set readings used reading room (IsReading setup bytes) are is

-- one slice more has room
pub still_within : (used : ℕ) (readings : List Reading) (reading : Reading) → used < length readings → used + 1 ≤ length (set readings used reading)
still_within used readings reading room = omega (arith, length-set readings used reading, room)

-- of bytes that mean a picture only want of memory is a fault
pub memory_alone : RefusedMeansNothing → (bytes : List ℕ) (fault : DecodeFault) (picture : Planes) → Refuses bytes fault → MeansFrame bytes picture → fault ≡ Memory
memory_alone law bytes Memory picture refuses means = refl
memory_alone law bytes (Frame fault) picture refuses means = absurd (law bytes (Frame fault) picture (λ e. cc) refuses means)
memory_alone law bytes (OneMatrix at) picture refuses means = absurd (law bytes (OneMatrix at) picture (λ e. cc) refuses means)
memory_alone law bytes (Slice index fault) picture refuses means = absurd (law bytes (Slice index fault) picture (λ e. cc) refuses means)

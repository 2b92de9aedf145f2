-- What workers have read of a frame.
use Rattle.std.specs.Prelude.{◌≡◌, ◌≤◌, ◌+◌, ℕ, List, Result, None, IfSome, OnOk, IfErr, All, length}
use Rattle.std.specs.List.{AllWithin}
use Rattle.picture_plane.specs.Pictures.{Planes}
use Rattle.picture_plane.specs.declared.slice_names.SliceName.{SliceName}
use Rattle.slice_codec.specs.Setups.{Setup}
use Rattle.slice_codec.specs.Slices.{MeansSlice}
use Rattle.slice_codec.specs.Faults.{Refuses as RefusesSlice}
use Rattle.slice_codec.specs.declared.fault.SliceFault.{SliceFault}
use Rattle.frame_syntax.specs.Written.{slice_bytes}
use Rattle.frame_codec.specs.Readings.{IsRead}
use Rattle.slice_workers.specs.declared.jobs.Job.{Job}
use Rattle.slice_workers.specs.declared.reader.Reading.{Reading}
use Rattle.slice_workers.specs.declared.reader.Reader.{Reader}

-- the bytes of a slice are there, and it has one to eight macroblocks
pub record IsJob (bytes : List ℕ) (job : Job) : Type 0 where
  pub within : job.at + job.len ≤ length bytes
  pub some : 1 ≤ job.count
  pub most : job.count ≤ 8

-- slices of a frame
abbrev pub AreJobs : List ℕ → List Job → Type 0
AreJobs bytes jobs = All (IsJob bytes) jobs

-- the bytes of the slice that was read
abbrev pub bytes_of : List ℕ → Reading → List ℕ
bytes_of bytes reading = slice_bytes bytes (reading.at, reading.len)

-- what was read of a slice is what it means, or the first rule that it breaks
pub record IsReading (setup : Setup) (bytes : List ℕ) (reading : Reading) : Type 0 where
  pub means : reading.fault ≡ None → MeansSlice setup reading.count (bytes_of bytes reading) reading.samples
  pub refused : IfSome reading.fault (RefusesSlice setup reading.count (bytes_of bytes reading))

-- the first that a worker has, it has read of a frame
pub record HasReadings (setup : Setup) (bytes : List ℕ) (reader : Reader) : Type 0 where
  pub used : reader.used ≤ length reader.readings.items
  pub readings : AllWithin (IsReading setup bytes) reader.readings.items 0 reader.used

-- and so it is of all workers
abbrev pub HaveReadings : Setup → List ℕ → List Reader → Type 0
HaveReadings setup bytes readers = All (HasReadings setup bytes) readers

-- a slice is read into a picture, or the fault names the first rule that it breaks
pub record IsAnswer (setup : Setup) (slice : List ℕ) (name : SliceName) (old new : Planes) (answer : Result (Unit {0}) SliceFault) : Type 0 where
  pub read : OnOk answer (IsRead setup slice name old new)
  pub refused : IfErr answer (RefusesSlice setup name.count slice)

-- What `frame` writes and answers (own). docs/FORMATS.md, "Lines and samples".
use Rattle.std.specs.Prelude.{◌≡◌, ◌≢◌, ◌⊎◌, ◌≤◌, ℕ, List, [], length, slice_get, Some}
use Rattle.rec_bytes.specs.declared.status.Status.{Status}
use Rattle.picture_plane.specs.Pictures.{Planes}
use Rattle.raw_feed.specs.Pictures.{picture_bytes}
use Rattle.frame_codec.specs.Faults.{Refuses}
use Rattle.frame_codec.specs.Frames.{MeansFrame}
use Rattle.frame_codec.specs.declared.fault.DecodeFault.{DecodeFault}
use Rattle.frame_codec.specs.declared.fault.DecodeFault.TheVariants.{Memory}
use Rattle.mxf_op1a.specs.Op1a.{IsOp1a}
use Rattle.run_parts.specs.Statuses.{answer}
use Rattle.take_commands.specs.Answers.{decode_answer, past_answer}
use Rattle.take_commands.specs.Checks.{RefusesFile}

-- the bytes are an OP1a file with a unit of this number, and this holds of the unit
pub record HasUnit (number : ℕ) (bytes : List ℕ) (P : List ℕ → Type 0) : Type 0 where
  pub units : List (List ℕ)
  pub file : IsOp1a bytes units
  pub unit : List ℕ
  pub is_unit : slice_get units number ≡ Some unit
  pub holds : P unit

-- the samples of the picture that a unit means are written, in the order and form of a feed's picture
pub record ShowsPicture (unit written : List ℕ) (status : Status) : Type 0 where
  pub picture : Planes
  pub means : MeansFrame unit picture
  pub samples : written ≡ picture_bytes picture
  pub answered : status ≡ answer 0 0 0 0

-- a unit means no picture: nothing is written, and the answer names the first rule that it breaks
pub record RefusesUnit (number : ℕ) (unit written : List ℕ) (status : Status) : Type 0 where
  pub fault : DecodeFault
  pub broken : fault ≢ Memory
  pub refused : Refuses unit fault
  pub nothing : written ≡ []
  pub answered : status ≡ decode_answer number fault

-- the file has no unit of this number
pub record LacksUnit (number : ℕ) (bytes written : List ℕ) (status : Status) : Type 0 where
  pub units : List (List ℕ)
  pub file : IsOp1a bytes units
  pub few : length units ≤ number
  pub nothing : written ≡ []
  pub answered : status ≡ past_answer (length units) number

-- what `frame` writes and answers for a number and the bytes of a take's file
abbrev pub Shows : ℕ → List ℕ → List ℕ → Status → Type 0
Shows number bytes written status =
    (HasUnit number bytes (λ unit. ShowsPicture unit written status ⊎ RefusesUnit number unit written status)
    ⊎ LacksUnit number bytes written status) ⊎ RefusesFile bytes written status

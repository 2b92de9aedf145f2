-- The range of each field of a configuration (own). docs/FORMATS.md, "Configuration".
use Rattle.std.specs.Prelude.{◌≡◌, ◌≢◌, ◌≤◌, ◌<◌, ◌^◌, ◌%◌, ℕ, length}
use Rattle.rec_bytes.specs.Configuration.{Fields}
use Rattle.rec_bytes.specs.declared.config_fields.TheConstants.{MAX_WIDTH, MAX_HEIGHT, MAX_INTERLACE, MAX_RATE, MAX_ASPECT, MAX_LOG2, MAX_INDEX, MAX_WEIGHTS}
use Rattle.rec_bytes.specs.declared.config_fields.TheConstants.{MAX_CODING, MAX_DROP, MAX_BUDGET, MAX_PART, MAX_FRAMES, MAX_LAG}

-- from low to high, both among them
pub record IsWithin (low n high : ℕ) : Type 0 where
  pub least : low ≤ n
  pub most : n ≤ high

-- each field is in its range
pub record IsInRange (f : Fields) : Type 0 where
  pub width : IsWithin 2 f.width MAX_WIDTH
  pub width_even : f.width % 2 ≡ 0
  pub height : IsWithin 1 f.height MAX_HEIGHT
  pub height_even : f.interlace ≢ 0 → f.height % 2 ≡ 0
  pub interlace : f.interlace ≤ MAX_INTERLACE
  pub rate : IsWithin 1 f.rate MAX_RATE
  pub aspect : f.aspect ≤ MAX_ASPECT
  pub log2 : f.log2 ≤ MAX_LOG2
  pub qmin : IsWithin 1 f.qmin MAX_INDEX
  pub qmax : IsWithin f.qmin f.qmax MAX_INDEX
  pub weights : f.weights ≤ MAX_WEIGHTS
  pub coding : f.coding ≤ MAX_CODING
  pub drop : f.drop ≤ MAX_DROP
  pub budget : IsWithin 1 f.budget MAX_BUDGET
  pub part : IsWithin 1 f.part MAX_PART
  pub max_frames : IsWithin 1 f.max_frames MAX_FRAMES
  pub lag : IsWithin 1 f.lag MAX_LAG
  pub start : f.start < 2 ^ 32
  pub take_id : length f.take_id ≡ 16
  pub encoder : length f.encoder ≡ 4

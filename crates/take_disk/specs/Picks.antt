-- Which image of a disk in memory a pick is (own). docs/ARCHITECTURE.md, "The disk".
use Rattle.std.specs.Prelude.{◌≡◌, ◌<◌, ℕ, nat_lt, if◌then◌else◌, List, length, get_or}
use Rattle.take_disk.specs.declared.pick.Pick.{Pick}
use Rattle.take_disk.specs.declared.pick.Pick.TheVariants.{Kept, Lost, Torn}
use Rattle.take_disk.specs.Logs.{Content, Log, kept_at, kept_now}

-- what is read, with this byte in each place that was touched since all was last kept
pub record IsTorn (byte : ℕ) (content : Content) (image : List ℕ) : Type 0 where
  pub long : length image ≡ length content.reads
  pub each : (place : ℕ) → place < length content.reads
      → get_or image place 0 ≡ (if nat_lt content.synced (content.touched place) then byte else get_or content.reads place 0)

-- what the area reads; what it read at the moment up to which all is kept; or torn
abbrev pub IsPicked : Pick → Log → List ℕ → Type 0
IsPicked Kept log image = image ≡ (kept_now log).reads
IsPicked Lost log image = image ≡ (kept_at log.synced log).reads
IsPicked (Torn byte) log image = IsTorn byte (kept_now log) image

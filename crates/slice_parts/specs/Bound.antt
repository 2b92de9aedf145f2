-- A number of bits that the spelling of levels has at least, from the sizes of the levels alone (own). docs/formats/frames.md, "Rate rule".
use Rattle.std.specs.Prelude.{◌≡◌, ◌<◌, ◌≤◌, ◌+◌, ◌-◌, ◌*◌, ◌/◌, ◌%◌, ℕ, zero, suc, ℤ, ◌-ℤ◌, List, [], ◌∷◌, length, take, drop, map, slice_index, if◌then◌else◌, nat_le}
use Rattle.std.specs.Int.RustNames.{unsigned_abs}
use Rattle.prores_scan.specs.ScaledLevels.{signed_of}
use Rattle.slice_parts.specs.Pairs.{PairState, ArePairsOf}
use Rattle.slice_parts.specs.Component.{level_at}

-- 1 where a number reaches a limit
abbrev pub reaches : ℕ → ℕ → ℕ
reaches limit n = if nat_le limit n then 1 else 0

-- how many bits the code behind a run saves at most, where the next run is long: behind a run below 4 it saves none
unfoldable pub saved : ℕ → ℕ
saved run = reaches 4 run + reaches 15 run

-- the fewest bits of a run by a code that saves none, less those that the code behind it may save; of a run from 32 on there are more
unfoldable pub least_run : ℕ → ℕ
least_run run = 1 + reaches 1 run + reaches 2 run + reaches 3 run + reaches 6 run + reaches 8 run + reaches 16 run

-- the fewest bits of a size less one below 124, by whichever code; a greater one has more
unfoldable pub least_size : ℕ → ℕ
least_size n = 1 + reaches 1 n + reaches 2 n + reaches 4 n + reaches 6 n + reaches 12 n + reaches 14 n + reaches 28 n + reaches 30 n + reaches 60 n + reaches 62 n

-- the fewest bits of a DC level whose difference has this size or more, below 125; a greater one has more
unfoldable pub least_change : ℕ → ℕ
least_change n = 1 + reaches 1 n + reaches 2 n + reaches 3 n + 2 * (reaches 5 n + reaches 13 n + reaches 29 n + reaches 61 n)

-- the sum over the sizes of the AC levels that aren't zero: the sign, the size less one, and the run before it
abbrev pub ac_bound : ℕ → List ℕ → ℕ
ac_bound run [] = 0
ac_bound run (zero ∷ sizes) = ac_bound (run + 1) sizes
ac_bound run (suc n ∷ sizes) = 1 + least_size n + least_run run + ac_bound 0 sizes

-- the sum over the differences of the DC levels
abbrev pub dc_bound : List ℕ → ℕ
dc_bound [] = 0
dc_bound (change ∷ changes) = least_change change + dc_bound changes

-- each level is this far from the one before, or farther
pub record AreChanges (levels : List ℤ) (changes : List ℕ) : Type 0 where
  pub long : length levels ≡ length changes + 1
  pub each : (k : ℕ) → k < length changes → slice_index changes k ≤ unsigned_abs (level_at levels (suc k) -ℤ level_at levels k)

-- none is greater than the other list's at its place
pub record AreNoGreater (ys xs : List ℕ) : Type 0 where
  pub long : length ys ≡ length xs
  pub each : (k : ℕ) → k < length ys → slice_index ys k ≤ slice_index xs k

-- the size of the level at a scale of a coefficient with these half steps
abbrev pub size_at : ℕ → ℕ → ℕ
size_at scale v = (v / 2 + scale) / (2 * scale)

-- the levels of coefficients with these half steps, each a size with its sign as the last bit
abbrev pub numbers_at : ℕ → List ℕ → List ℕ
numbers_at scale half_steps = map (λ v. 2 * size_at scale v + v % 2) half_steps

-- what the levels of two such coefficients differ by at least
abbrev pub change_at : ℕ → ℕ → ℕ → ℕ
change_at scale v w = (unsigned_abs (signed_of w -ℤ signed_of v) - 1) / (2 * scale)

-- the same of each and the one before it
abbrev pub changes_at : ℕ → List ℕ → List ℕ
changes_at scale [] = []
changes_at scale (v ∷ []) = []
changes_at scale (v ∷ w ∷ half_steps) = change_at scale v w ∷ changes_at scale (w ∷ half_steps)

-- a number of bits that the spelling of a part of so many blocks has at least at a scale, from its half steps: the first DC
-- level has 6, and the first run's code may save one
abbrev pub part_bound : ℕ → ℕ → List ℕ → ℕ
part_bound scale blocks half_steps =
    5 + dc_bound (changes_at scale (take blocks half_steps)) + ac_bound 0 (map (λ v. size_at scale v) (drop blocks half_steps))

-- no spelling of the levels from the first entry of each 64 on has fewer bits, whatever pair and zeros stand before
abbrev pub AreLeft : List ℤ → List ℕ → Type 0
AreLeft levels left =
    (word before : ℕ) (state : PairState) (bits : List ℕ) → word < length left → ArePairsOf state before (drop (64 * word) levels) bits → slice_index left word ≤ length bits

-- The slices of a coded picture by their numbers in the frame.
use Rattle.std.proofs.Common.{◌≡◌, ℕ, ◌+◌, ◌*◌, ◌%◌, ◌<◌, ◌≤◌, ap, ◌∙◌, arith}
use Rattle.std.proofs.lemmas.Nat.{mul-le, mod-mul-add}
use Rattle.std.proofs.Common.{Bool, true, false, if◌then◌else◌, ◌==◌}
use Rattle.rec_bytes.specs.Ranges.{IsInRange}
use Rattle.rec_bytes.specs.Configuration.{Fields}
use Rattle.picture_plane.specs.Sizes.{size_of}
use Rattle.picture_plane.specs.Slices.{picture_count}
use Rattle.slice_desk.specs.Slices.{slices_of, slices_in_picture, slice_room}
use Rattle.slice_desk.specs.inner.Rooms.{slices_room}
use Rattle.slice_desk.proofs.RoomLemmas.{room_within, picture_small}

at_most_two : (one : Bool) → (if one then 1 else 2) ≤ 2
at_most_two true = omega arith
at_most_two false = omega arith

-- the slices before a coded picture are few
pub number_small : (config : Fields) (number count : ℕ) → IsInRange config → number < picture_count (size_of config) → count ≡ slices_in_picture config
    → number * count ≤ 36864
number_small config number count r there same =
    let small = picture_small config r in
    let few = at_most_two (config.interlace == 0) in
    omega (arith, mul-le number count 1 36864 (omega (arith, there, few)) (omega (arith, same, small.slices)))

-- the n-th slice of a coded picture is one of the frame
pub record IsNumber (config : Fields) (number n index : ℕ) : Type 0 where
  pub is : index ≡ number * slices_in_picture config + n
  pub within : index < slices_of config
  pub place : index % slices_in_picture config ≡ n

pub number_is : (config : Fields) (number count n index : ℕ) → number < picture_count (size_of config) → count ≡ slices_in_picture config → n < count
    → index ≡ number * count + n → IsNumber config number n index
number_is config number count n index there same lt e =
    let per : ℕ = slices_in_picture config in
    let pictures : ℕ = picture_count (size_of config) in
    let is : index ≡ number * per + n = e ∙ ap (λ (k : ℕ). number * k + n) same in
    let below : n < per = omega (arith, lt, same) in
    record {
      is = is;
      within = omega (arith, is, below, mul-le (number + 1) per pictures per (omega (arith, there)) (omega arith));
      place = ap (λ (k : ℕ). k % per) is ∙ mod-mul-add number per n below;
    }

-- the next slice has room behind those before it
pub next_room : (config : Fields) (start at n count room : ℕ) → count ≡ slices_in_picture config → n < count → at ≤ start + slices_room config n
    → start + slices_room config count ≤ room → at + slice_room config n ≤ room
next_room config start at n count room same below before all =
    omega (arith, ap (λ (k : ℕ). slices_room config k) same, before, all, room_within config n (omega (arith, same, below)))

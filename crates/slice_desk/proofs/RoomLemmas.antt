-- The room of the slices of a coded picture, and of a frame.
use Rattle.std.proofs.Common.{◌≡◌, ℕ, zero, suc, ◌+◌, ◌*◌, ◌/◌, ◌%◌, ◌^◌, ◌<◌, ◌≤◌, ◌==◌, List, [], ◌∷◌, length, take, get_or, sym, ap, ap₂, ◌∙◌, arith, inl, inr, if◌then◌else◌, Bool, true, false}
use Rattle.std.specs.Prelude.{sum}
use Rattle.std.proofs.lemmas.Bool.{cases_lt, cases_eq, ne_eqb, eq-eqb}
use Rattle.std.proofs.lemmas.List.{take_all}
use Rattle.std.proofs.lemmas.List.Sums.{sum_by_more_le}
use Rattle.std.proofs.Math.Nat.{mul-pos}
use Rattle.std.proofs.lemmas.Nat.{mul-le, div-mul-add, mod-mul-add, div_below, mod_below, div-add-mod'}
use Rattle.rec_bytes.specs.Configuration.{Fields}
use Rattle.rec_bytes.specs.Ranges.{IsInRange}
use Rattle.picture_plane.specs.Sizes.{size_of}
use Rattle.picture_plane.specs.Slices.{macroblocks, row_count, picture_count}
use Rattle.picture_plane.specs.laws.WidthLaws.{sum-widths, sum-take_next, counts_of_widths, length-widths-le, IsCount}
use Rattle.frame_syntax.specs.Headers.{least_head}
use Rattle.frame_syntax.specs.Written.{frame_room_of}
use Rattle.slice_desk.specs.Slices.{slices_of, widths_of, slices_in_picture, slice_room}
use Rattle.slice_desk.specs.inner.Rooms.{width_before, slices_room, room_of}

-- macroblocks before a place of rows of these widths
abbrev before : List ℕ → ℕ → ℕ
before ws n = n / length ws * sum ws + sum (take (n % length ws) ws)

same_place : (ws : List ℕ) (n q r : ℕ) → n ≡ q * length ws + r → r < length ws → before ws n ≡ q * sum ws + sum (take r ws)
same_place ws n q r e lt =
    ap₂ (λ (a b : ℕ). a * sum ws + sum (take b ws))
    (ap (λ (k : ℕ). k / length ws) e ∙ div-mul-add q (length ws) r lt)
    (ap (λ (k : ℕ). k % length ws) e ∙ mod-mul-add q (length ws) r lt)

-- those before the next place
before_next : (ws : List ℕ) (n : ℕ) → 0 < length ws → before ws (n + 1) ≡ before ws n + get_or ws (n % length ws) 0
before_next ws n some =
    let q : ℕ = n / length ws in
    let r : ℕ = n % length ws in
    let at : r < length ws = mod_below n (length ws) some in
    let split : q * length ws + r ≡ n = div-add-mod' n (length ws) in
    let next = sum-take_next ws r at in
    elim (cases_lt (r + 1) (length ws)) [
      | inl lt ↦ omega (arith, same_place ws (n + 1) q (r + 1) (omega (arith, split)) lt, next)
      | inr ge ↦
          let all : take (r + 1) ws ≡ ws = take_all (r + 1) ws ge in
          let up : (q + 1) * length ws + 0 ≡ n + 1 = omega (arith, split, at, ge) in
          omega (arith, same_place ws (n + 1) (q + 1) 0 (sym up) some, next, ap sum all)
    ]

-- those of all rows
before_all : (ws : List ℕ) (rows : ℕ) → 0 < length ws → before ws (rows * length ws) ≡ rows * sum ws
before_all ws rows some = omega (arith, same_place ws (rows * length ws) rows 0 (omega arith) some)

-- a slice has no macroblock past its row
before_within : (ws : List ℕ) (rows n : ℕ) → 0 < length ws → n < rows * length ws → before ws n + get_or ws (n % length ws) 0 ≤ rows * sum ws
before_within ws rows n some lt =
    let at : n % length ws < length ws = mod_below n (length ws) some in
    let below : n / length ws < rows = div_below n (length ws) rows some lt in
    omega (arith, sum_by_more_le (λ (x : ℕ). x) ws (n % length ws) 0 at, mul-le (n / length ws + 1) (sum ws) rows (sum ws) (omega (arith, below)) (omega arith))

-- where a coded picture has slices, a row has
pub some_in_row : (rows long n : ℕ) → n < rows * long → 0 < long
some_in_row rows zero n lt = absurd (omega (arith, lt))
some_in_row rows (suc long) n lt = omega arith

row_has_some : (config : Fields) (n : ℕ) → n < slices_in_picture config → 0 < length (widths_of config)
row_has_some config n lt = some_in_row (row_count (size_of config)) (length (widths_of config)) n lt

before_is : (config : Fields) (n : ℕ) → width_before config n ≡ before (widths_of config) n
before_is config n =
    let ws = widths_of config in
    ap (λ (m : ℕ). n / length ws * m + sum (take (n % length ws) ws)) (sym (sum-widths config.log2 (macroblocks config.width)))

-- the room of the slices before the next one
pub room_next : (config : Fields) (n : ℕ) → n < slices_in_picture config → slices_room config (n + 1) ≡ slices_room config n + slice_room config n
room_next config n lt =
    omega (arith, before_is config n, before_is config (n + 1), before_next (widths_of config) n (row_has_some config n lt))

-- all slices of a coded picture have room for each of them
pub room_within : (config : Fields) (n : ℕ) → n < slices_in_picture config → slices_room config n + slice_room config n ≤ slices_room config (slices_in_picture config)
room_within config n lt =
    let ws = widths_of config in
    let rows = row_count (size_of config) in
    let some = row_has_some config n lt in
    omega (arith, lt, before_is config n, before_is config (slices_in_picture config), before_all ws rows some, before_within ws rows n some lt)

count_most : (n : ℕ) → IsCount n → n ≤ 8
count_most n (inl one) = omega arith
count_most n (inr (inl two)) = omega arith
count_most n (inr (inr (inl four))) = omega arith
count_most n (inr (inr (inr eight))) = omega arith

-- a slice's length fits the slice table
pub slice_room_small : (config : Fields) (n : ℕ) → config.log2 ≤ 3 → n < slices_in_picture config → slice_room config n ≤ 32776
slice_room_small config n small lt =
    let at : n % length (widths_of config) < length (widths_of config) = mod_below n (length (widths_of config)) (row_has_some config n lt) in
    omega (arith, count_most (get_or (widths_of config) (n % length (widths_of config)) 0) (counts_of_widths config.log2 (macroblocks config.width) (n % length (widths_of config)) small at))

-- where there are macroblocks, a row has slices
some_width : (ws : List ℕ) → 0 < sum ws → 0 < length ws
some_width [] lt = absurd (omega (arith, lt))
some_width (w ∷ ws) lt = omega arith

-- the room of all slices of a coded picture
pub room_all : (config : Fields) → IsInRange config
    → slices_room config (slices_in_picture config) ≡ 8 * slices_in_picture config + 4096 * (row_count (size_of config) * macroblocks config.width)
room_all config r =
    let ws = widths_of config in
    let rows = row_count (size_of config) in
    let least = r.width.least in
    let across = sum-widths config.log2 (macroblocks config.width) in
    let some : 0 < length ws = some_width ws (omega (arith, across, least)) in
    omega (arith, before_is config (slices_in_picture config), before_all ws rows some, ap (λ (m : ℕ). rows * m) across)

-- a coded picture has at most so many slices and macroblocks
pub record IsSmall (config : Fields) (rows : ℕ) : Type 0 where
  pub slices : slices_in_picture config ≤ rows * 256
  pub macroblocks_most : row_count (size_of config) * macroblocks config.width ≤ rows * 256

small_by_rows : (config : Fields) (rows : ℕ) → IsInRange config → row_count (size_of config) ≤ rows → IsSmall config rows
small_by_rows config rows r few =
    let narrow = r.width.most in
    let row : macroblocks config.width ≤ 256 = omega (arith, narrow) in
    let short = length-widths-le config.log2 (macroblocks config.width) in
    record {
      slices = mul-le (row_count (size_of config)) (length (widths_of config)) rows 256 few (omega (arith, row, short));
      macroblocks_most = mul-le (row_count (size_of config)) (macroblocks config.width) rows 256 few row;
    }

-- a whole frame has at most 144 rows of macroblocks
whole_small : (config : Fields) → IsInRange config → config.interlace ≡ 0 → IsSmall config 144
whole_small config r one = small_by_rows config 144 r (rw (eq-eqb config.interlace 0 one) (let most = r.height.most in omega (arith, most)))

-- and a field half of that
field_small : (config : Fields) → IsInRange config → (config.interlace ≡ 0 → ⊥) → IsSmall config 72
field_small config r two = small_by_rows config 72 r (rw (ne_eqb config.interlace 0 two) (let most = r.height.most in omega (arith, most)))

-- a coded picture is small
pub picture_small : (config : Fields) → IsInRange config → IsSmall config 144
picture_small config r = elim (cases_eq config.interlace 0) [
  | inl one ↦ whole_small config r one
  | inr two ↦
      let half = field_small config r two in
      record { slices = omega (arith, half.slices); macroblocks_most = omega (arith, half.macroblocks_most) }
]

one_or_two : (one : Bool) → 0 < (if one then 1 else 2)
one_or_two true = omega arith
one_or_two false = omega arith

-- a coded picture has a row of macroblocks
some_rows : (config : Fields) → IsInRange config → 0 < row_count (size_of config)
some_rows config r = elim (cases_eq config.interlace 0) [
  | inl one ↦ rw (eq-eqb config.interlace 0 one) (let least = r.height.least in omega (arith, least))
  | inr two ↦ rw (ne_eqb config.interlace 0 two) (let least = r.height.least in let even = r.height_even two in omega (arith, least, even))
]

-- a frame has slices
pub some_slices : (config : Fields) → IsInRange config → 0 < slices_of config
some_slices config r =
    let least = r.width.least in
    let across = sum-widths config.log2 (macroblocks config.width) in
    let row : 0 < length (widths_of config) = some_width (widths_of config) (omega (arith, across, least)) in
    mul-pos (one_or_two (config.interlace == 0)) (mul-pos (some_rows config r) row)

head_small : (loaded : Bool) → least_head loaded loaded ≤ 148
head_small true = omega arith
head_small false = omega arith

-- the longest frame is short
pub frame_room_small : (config : Fields) → IsInRange config → frame_room_of config ≤ 2 ^ 28
frame_room_small config r =
    let head = head_small (config.weights == 1) in
    elim (cases_eq config.interlace 0) [
      | inl one ↦
          let small = whole_small config r one in
          let room : picture_count (size_of config) * room_of config ≡ 1 * room_of config = ap (λ (b : Bool). (if b then 1 else 2) * room_of config) (eq-eqb config.interlace 0 one) in
          omega (arith, small.slices, small.macroblocks_most, head, room)
      | inr two ↦
          let small = field_small config r two in
          let room : picture_count (size_of config) * room_of config ≡ 2 * room_of config = ap (λ (b : Bool). (if b then 1 else 2) * room_of config) (ne_eqb config.interlace 0 two) in
          omega (arith, small.slices, small.macroblocks_most, head, room)
    ]

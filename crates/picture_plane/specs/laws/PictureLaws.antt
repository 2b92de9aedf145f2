-- Laws of the places of samples: proved here, for proofs to cite.
use Rattle.std.proofs.Common.{◌≡◌, ℕ, ◌+◌, ◌*◌, ◌/◌, ◌%◌, ◌<◌, ◌≤◌, List, length, drop, ap, ◌∙◌, arith, get_or}
use Rattle.picture_plane.specs.declared.planes.Plane.{Plane}
use Rattle.picture_plane.specs.declared.planes.Plane.TheVariants.{Y, Cb, Cr}
use Rattle.std.proofs.lemmas.Nat.{mul-le}
use Rattle.picture_plane.specs.Slices.{Size}
use Rattle.picture_plane.specs.Pictures.{columns, sample_count, row_start, row_of, sample_at, IsPicture, Planes, with_samples}
use Rattle.picture_plane.specs.Sizes.{IsSize}
use Rattle.std.proofs.lemmas.List.{get_or-take, get_or-drop}
use Rattle.picture_plane.specs.laws.RunLaws.{run_is_small}
use Rattle.rec_bytes.specs.laws.Places.{length-with_bytes}

-- chroma has half of luma's samples
pub half_of_luma : (height width : ℕ) → width % 2 ≡ 0 → height * width ≡ 2 * (height * (width / 2))
half_of_luma height width even =
    let twice : width ≡ 2 * (width / 2) = omega arith in
    ap (λ (w : ℕ). height * w) twice ∙ omega arith

pub chroma_start : (height width luma : ℕ) → width % 2 ≡ 0 → luma ≡ height * width → luma + luma / 2 ≡ height * width + height * (width / 2)
chroma_start height width luma even e = omega (arith, half_of_luma height width even)

pub all_samples : (height width luma : ℕ) → width % 2 ≡ 0 → luma ≡ height * width → 2 * luma ≡ height * width + height * (width / 2) + height * (width / 2)
all_samples height width luma even e = omega (arith, half_of_luma height width even)

-- the row after a row of a plane begins inside the picture or at its end
pub row_room : (size : Size) (plane : Plane) (row : ℕ) → row < size.height → row_start size plane row + columns size plane ≤ sample_count size
row_room size Y row h = let next = mul-le (row + 1) size.width size.height size.width (omega arith) (omega arith) in omega (arith, next)
row_room size Cb row h = let next = mul-le (row + 1) (size.width / 2) size.height (size.width / 2) (omega arith) (omega arith) in omega (arith, next)
row_room size Cr row h = let next = mul-le (row + 1) (size.width / 2) size.height (size.width / 2) (omega arith) (omega arith) in omega (arith, next)

-- a picture with a run of small samples is a picture
pub run_keeps_picture : (old : Planes) (at : ℕ) (run : List ℕ) → IsPicture old → at + length run ≤ length old.samples → ((k : ℕ) → get_or run k 0 < 1024) → IsPicture (with_samples old at run)
run_keeps_picture old at run p room small = record {
  size = p.size;
  all = length-with_bytes old.samples at run room ∙ p.all;
  small = run_is_small old.samples run at 1024 room p.small small;
}

-- a row has its samples of the picture
pub row_of_is : (planes : Planes) (plane : Plane) (row column : ℕ) → column < columns planes.size plane
    → get_or (row_of planes plane row) column 0 ≡ sample_at planes plane row column
row_of_is planes plane row column h =
    get_or-take (columns planes.size plane) (drop (row_start planes.size plane row) planes.samples) column 0 h
    ∙ get_or-drop (row_start planes.size plane row) planes.samples column 0

-- each plane has columns
pub some_columns : (size : Size) (plane : Plane) → IsSize size → 1 ≤ columns size plane
some_columns size Y s = omega (arith, s.some_columns)
some_columns size Cb s = omega (arith, s.some_columns)
some_columns size Cr s = omega (arith, s.some_columns)

-- The coded pictures of a frame: header, slice table and slices (RDD 36). docs/formats/frames.md, "Frames".
use Rattle.std.specs.Prelude.{◌≡◌, ℕ, zero, suc, ◌+◌, ◌-◌, ◌*◌, ◌/◌, ◌%◌, ◌<◌, ◌≤◌, List, [], ◌∷◌, sum, take, drop, slice_index}
use Rattle.byteorder.specs.Endian.{big_number}
use Rattle.picture_plane.specs.Slices.{Size, slices_per_picture}
use Rattle.frame_syntax.specs.declared.fault.FrameFault.{FrameFault}
use Rattle.frame_syntax.specs.declared.fault.FrameFault.TheVariants.{SliceTable}
use Rattle.frame_syntax.specs.declared.picture_head.PictureHead.{PictureHead}
use Rattle.frame_syntax.specs.declared.picture_head.TheConstants.{PICTURE_SIZE_AT, SLICE_SIZE_AT, ENTRY_LEN}

-- the coded picture whose header stands at a place of a frame of this size
unfoldable pub picture_of : List ℕ → Size → ℕ → PictureHead
picture_of bytes size at = record {
  at = at;
  head_size = slice_index bytes at / 8;
  size = big_number 4 (drop (at + PICTURE_SIZE_AT) bytes);
  log2 = slice_index bytes (at + SLICE_SIZE_AT) / 16 % 4;
  slices = slices_per_picture size (slice_index bytes (at + SLICE_SIZE_AT) / 16 % 4);
}

-- where the slice table of a coded picture begins
abbrev pub table_at : PictureHead → ℕ
table_at picture = picture.at + picture.head_size

-- bytes before the slices of a coded picture: its header and its slice table
abbrev pub front_len : PictureHead → ℕ
front_len picture = picture.head_size + ENTRY_LEN * picture.slices

-- the numbers of two bytes each with which the bytes begin
unfoldable pub slice_sizes : ℕ → List ℕ → List ℕ
slice_sizes zero bytes = []
slice_sizes (suc count) bytes = big_number ENTRY_LEN bytes ∷ slice_sizes count (drop ENTRY_LEN bytes)

-- the bytes of each slice of a coded picture, by its slice table
abbrev pub sizes_of : List ℕ → PictureHead → List ℕ
sizes_of bytes picture = slice_sizes picture.slices (drop (table_at picture) bytes)

-- a slice's place in the frame, and its bytes
abbrev pub Span : Type 0
Span = ℕ × ℕ

-- slices of these sizes that lie one behind the other from a place
unfoldable pub spans_from : ℕ → List ℕ → List Span
spans_from at [] = []
spans_from at (size ∷ sizes) = (at, size) ∷ spans_from (at + size) sizes

-- the slices of a coded picture, which begin behind its slice table
abbrev pub spans_of : List ℕ → PictureHead → List Span
spans_of bytes picture = spans_from (picture.at + front_len picture) (sizes_of bytes picture)

-- bytes that a coded picture has for its slices
abbrev pub slice_room : PictureHead → ℕ
slice_room picture = picture.size - front_len picture

-- the slices of a coded picture end inside it
abbrev pub SlicesFit : List ℕ → PictureHead → Type 0
SlicesFit bytes picture = sum (sizes_of bytes picture) ≤ slice_room picture

-- the slices of a coded picture before the n-th end inside it, and the n-th doesn't
pub record PassesAt (bytes : List ℕ) (picture : PictureHead) (n : ℕ) : Type 0 where
  pub there : n < picture.slices
  pub before : sum (take n (sizes_of bytes picture)) ≤ slice_room picture
  pub past : slice_room picture < sum (take (n + 1) (sizes_of bytes picture))

-- where the size of the n-th slice of a coded picture stands
abbrev pub entry_at : PictureHead → ℕ → ℕ
entry_at picture n = table_at picture + ENTRY_LEN * n

-- a slice passes its coded picture, before which so many slices of the frame stand: slices are numbered over both pictures
pub record Passes (bytes : List ℕ) (picture : PictureHead) (number : ℕ) (fault : FrameFault) : Type 0 where
  pub n : ℕ
  pub passes : PassesAt bytes picture n
  pub named : fault ≡ SliceTable (entry_at picture n) (number + n)

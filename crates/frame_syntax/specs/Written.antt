-- A frame as it is written: one joined list of bytes (RDD 36). docs/formats/frames.md, "Frames".
use Rattle.std.specs.Prelude.{◌≡◌, ◌≢◌, ℕ, ◌<◌, ◌≤◌, ◌+◌, ◌*◌, ◌%◌, ◌^◌, ◌==◌, List, [], ◌∷◌, ◌++◌, Bool, true, false, IfSome, All}
use Rattle.std.specs.Prelude.{length, take, drop, map, sum, replicate, if◌then◌else◌}
use Rattle.std.specs.List.{flat_map}
use Rattle.byteorder.specs.Endian.{big_bytes}
use Rattle.picture_plane.specs.Slices.{Size, picture_count, row_count, macroblocks, slices_per_picture}
use Rattle.rec_bytes.specs.Configuration.{Fields}
use Rattle.rec_bytes.specs.Ranges.{IsWithin}
use Rattle.rec_bytes.specs.declared.config_fields.TheConstants.{MAX_WIDTH, MAX_HEIGHT}
use Rattle.frame_syntax.specs.Pictures.{Span}
use Rattle.frame_syntax.specs.Frames.{IsFrame, slices_of}
use Rattle.frame_syntax.specs.declared.frame.FrameParts.{FrameParts}
use Rattle.frame_syntax.specs.Headers.{size_of, least_head}
use Rattle.frame_syntax.specs.declared.frame_head.FrameHead.{FrameHead}
use Rattle.frame_syntax.specs.declared.frame_head.TheConstants.{FRAME_NAME, HEAD_AT, CHROMA_422, MATRIX_LEN, MAX_VERSION, RESERVED_INTERLACE}
use Rattle.frame_syntax.specs.declared.picture_head.TheConstants.{LEAST_PICTURE_HEAD, ENTRY_LEN}
use Rattle.frame_syntax.specs.declared.front.TheConstants.{SLICE_ROOM, MACROBLOCK_ROOM}

-- the frame header of a configuration with these quantisation matrices, which are both loaded or both 4 everywhere
abbrev pub head_of : Fields → List ℕ → List ℕ → FrameHead
head_of config luma chroma =
    let loaded = config.weights == 1 in
    record {
      head_size = least_head loaded loaded;
      version = 0;
      encoder = config.encoder;
      width = config.width;
      height = config.height;
      chroma_format = CHROMA_422;
      interlace = config.interlace;
      aspect = config.aspect;
      rate = config.rate;
      primaries = config.primaries;
      transfer = config.transfer;
      matrix = config.matrix;
      alpha = 0;
      load_luma = loaded;
      load_chroma = loaded;
      luma = luma;
      chroma = chroma;
    }

-- the fields that share a byte have room in it
pub record IsPacked (head : FrameHead) : Type 0 where
  pub chroma_format : head.chroma_format < 4
  pub interlace : head.interlace < 4
  pub aspect : head.aspect < 16
  pub rate : head.rate < 16

-- a matrix as it is written: nothing where it isn't loaded
abbrev pub loaded_bytes : Bool → List ℕ → List ℕ
loaded_bytes loaded matrix = if loaded then matrix else []

-- a flag as a number
abbrev pub flag_of : Bool → ℕ
flag_of flag = if flag then 1 else 0

-- the fields of a frame header, in the order of their bytes, with 0 in all that is reserved: its size, version and encoder
abbrev pub identity_bytes : FrameHead → List ℕ
identity_bytes head = big_bytes 2 head.head_size ++ (0 ∷ head.version ∷ []) ++ head.encoder

-- the packed fields behind the sizes of the frame
abbrev pub packed_bytes : FrameHead → List ℕ
packed_bytes head =
    (64 * head.chroma_format + 4 * head.interlace) ∷ (16 * head.aspect + head.rate) ∷ head.primaries ∷ head.transfer ∷ head.matrix
    ∷ head.alpha ∷ 0 ∷ (2 * flag_of head.load_luma + flag_of head.load_chroma) ∷ []

-- its sizes, and the packed fields
abbrev pub format_bytes : FrameHead → List ℕ
format_bytes head = big_bytes 2 head.width ++ big_bytes 2 head.height ++ packed_bytes head

-- its matrices
abbrev pub matrix_bytes : FrameHead → List ℕ
matrix_bytes head = loaded_bytes head.load_luma head.luma ++ loaded_bytes head.load_chroma head.chroma

-- the frame header
abbrev pub head_bytes : FrameHead → List ℕ
head_bytes head = identity_bytes head ++ format_bytes head ++ matrix_bytes head

-- what stands in a frame before its coded pictures: its size, its name and its header
abbrev pub frame_front : FrameHead → ℕ → List ℕ
frame_front head frame_len = big_bytes 4 frame_len ++ FRAME_NAME ++ head_bytes head

-- slices one behind the other
abbrev pub joined : List (List ℕ) → List ℕ
joined slices = flat_map (λ slice. slice) slices

-- the bytes of each slice
abbrev pub lengths : List (List ℕ) → List ℕ
lengths slices = map (λ slice. length slice) slices

-- the slice table of slices that have so many bytes each
abbrev pub table_of : List ℕ → List ℕ
table_of sizes = flat_map (λ size. big_bytes ENTRY_LEN size) sizes

-- what stands in a coded picture before its slices, which have so many bytes each: its header and its slice table
unfoldable pub picture_front : ℕ → List ℕ → List ℕ
picture_front log2 sizes =
    ((8 * LEAST_PICTURE_HEAD) ∷ []) ++ big_bytes 4 (LEAST_PICTURE_HEAD + ENTRY_LEN * length sizes + sum sizes)
    ++ big_bytes 2 (length sizes) ++ ((16 * log2) ∷ []) ++ table_of sizes

-- a coded picture: its header, its slice table and its slices
abbrev pub picture_bytes : ℕ → List (List ℕ) → List ℕ
picture_bytes log2 slices = picture_front log2 (lengths slices) ++ joined slices

-- the coded pictures of a frame of this size: one, or two with half the slices each
abbrev pub pictures_bytes : Size → ℕ → List (List ℕ) → List ℕ
pictures_bytes size log2 slices =
    if size.interlace == 0 then picture_bytes log2 slices
    else picture_bytes log2 (take (slices_per_picture size log2) slices) ++ picture_bytes log2 (drop (slices_per_picture size log2) slices)

-- a frame of these slices
unfoldable pub frame_bytes : FrameHead → ℕ → List (List ℕ) → List ℕ
frame_bytes head log2 slices =
    let pictures = pictures_bytes (size_of head) log2 slices in
    frame_front head (8 + length (head_bytes head) + length pictures) ++ pictures

-- a matrix of 64 weights, which are 4 everywhere where it isn't loaded
abbrev pub IsMatrix : Bool → List ℕ → Type 0
IsMatrix true matrix = length matrix ≡ MATRIX_LEN
IsMatrix false matrix = matrix ≡ replicate MATRIX_LEN 4

-- a frame header that may be written: each field in its range, and its size that of its fields
pub record IsWritable (head : FrameHead) : Type 0 where
  pub head_size : head.head_size ≡ least_head head.load_luma head.load_chroma
  pub version : head.version ≤ MAX_VERSION
  pub encoder : length head.encoder ≡ 4
  pub width : IsWithin 2 head.width MAX_WIDTH
  pub width_even : head.width % 2 ≡ 0
  pub height : IsWithin 1 head.height MAX_HEIGHT
  pub height_even : head.interlace ≢ 0 → head.height % 2 ≡ 0
  pub chroma_format : head.chroma_format ≡ CHROMA_422
  pub interlace : head.interlace < RESERVED_INTERLACE
  pub aspect : head.aspect < 16
  pub rate : head.rate < 16
  pub alpha : head.alpha ≡ 0
  pub luma : IsMatrix head.load_luma head.luma
  pub chroma : IsMatrix head.load_chroma head.chroma

-- as many slices as the frame's size asks for, none too long for the slice table, and together not too long for the frame's size
pub record AreSlices (head : FrameHead) (log2 : ℕ) (slices : List (List ℕ)) : Type 0 where
  pub desired : log2 ≤ 3
  pub count : length slices ≡ picture_count (size_of head) * slices_per_picture (size_of head) log2
  pub short : All (λ slice. length slice < 256 ^ ENTRY_LEN) slices
  pub fit : length (frame_bytes head log2 slices) < 256 ^ 4

-- the bytes of a slice
abbrev pub slice_bytes : List ℕ → Span → List ℕ
slice_bytes bytes span = take span.1 (drop span.0 bytes)

-- the bytes are a frame of this header, this desired slice size and just these slices
pub record Holds (bytes : List ℕ) (head : FrameHead) (log2 : ℕ) (slices : List (List ℕ)) : Type 0 where
  pub parts : FrameParts
  pub frame : IsFrame bytes parts
  pub head_is : parts.head ≡ head
  pub first_is : parts.first.log2 ≡ log2
  pub second_is : IfSome parts.second (λ picture. picture.log2 ≡ log2)
  pub slices_are : map (slice_bytes bytes) (slices_of bytes parts) ≡ slices

-- the most bytes of a coded picture whose slices have at most 4096 for each of their macroblocks and 8 more (own)
abbrev pub picture_room : Size → ℕ → ℕ
picture_room size log2 =
    LEAST_PICTURE_HEAD + (ENTRY_LEN + SLICE_ROOM) * slices_per_picture size log2 + MACROBLOCK_ROOM * (row_count size * macroblocks size.width)

-- a frame's size and interlace mode, as configured
abbrev pub configured_size : Fields → Size
configured_size config = record { width = config.width; height = config.height; interlace = config.interlace }

-- the most bytes of a frame of such slices
abbrev pub frame_room_of : Fields → ℕ
frame_room_of config =
    HEAD_AT + least_head (config.weights == 1) (config.weights == 1)
    + picture_count (configured_size config) * picture_room (configured_size config) config.log2

-- The header of a frame: its fields at their bytes (RDD 36). docs/formats/frames.md, "Frames".
use Rattle.std.specs.Prelude.{ℕ, ◌+◌, ◌/◌, ◌%◌, ◌==◌, List, Bool, drop, take, replicate, slice_index, if◌then◌else◌}
use Rattle.byteorder.specs.Endian.{big_number}
use Rattle.picture_plane.specs.Slices.{Size}
use Rattle.frame_syntax.specs.declared.frame_head.FrameHead.{FrameHead}
use Rattle.frame_syntax.specs.declared.frame_head.TheConstants.{HEAD_AT, VERSION_AT, ENCODER_AT, WIDTH_AT, HEIGHT_AT, FORMAT_AT, RATE_AT, PRIMARIES_AT}
use Rattle.frame_syntax.specs.declared.frame_head.TheConstants.{TRANSFER_AT, COEFFICIENTS_AT, ALPHA_AT, LOADS_AT, MATRICES_AT, MATRIX_LEN, LEAST_HEAD}

-- a quantisation matrix that is loaded from a place, 4 everywhere where none is loaded
abbrev pub matrix_of : List ℕ → ℕ → Bool → List ℕ
matrix_of bytes at loaded = if loaded then take MATRIX_LEN (drop at bytes) else replicate MATRIX_LEN 4

-- the luma matrix is loaded
abbrev pub loads_luma : List ℕ → Bool
loads_luma bytes = slice_index bytes LOADS_AT / 2 % 2 == 1

-- the chroma matrix is loaded
abbrev pub loads_chroma : List ℕ → Bool
loads_chroma bytes = slice_index bytes LOADS_AT % 2 == 1

-- bytes of a matrix, none where it isn't loaded
abbrev pub loaded_len : Bool → ℕ
loaded_len loaded = if loaded then MATRIX_LEN else 0

-- the least size of a frame header with these matrices
abbrev pub least_head : Bool → Bool → ℕ
least_head luma chroma = LEAST_HEAD + loaded_len luma + loaded_len chroma

-- the frame header that stands in the bytes of a frame; bits and bytes that no field has are reserved
unfoldable pub header_of : List ℕ → FrameHead
header_of bytes = record {
  head_size = big_number 2 (drop HEAD_AT bytes);
  version = slice_index bytes VERSION_AT;
  encoder = take 4 (drop ENCODER_AT bytes);
  width = big_number 2 (drop WIDTH_AT bytes);
  height = big_number 2 (drop HEIGHT_AT bytes);
  chroma_format = slice_index bytes FORMAT_AT / 64;
  interlace = slice_index bytes FORMAT_AT / 4 % 4;
  aspect = slice_index bytes RATE_AT / 16;
  rate = slice_index bytes RATE_AT % 16;
  primaries = slice_index bytes PRIMARIES_AT;
  transfer = slice_index bytes TRANSFER_AT;
  matrix = slice_index bytes COEFFICIENTS_AT;
  alpha = slice_index bytes ALPHA_AT % 16;
  load_luma = loads_luma bytes;
  load_chroma = loads_chroma bytes;
  luma = matrix_of bytes MATRICES_AT (loads_luma bytes);
  chroma = matrix_of bytes (MATRICES_AT + loaded_len (loads_luma bytes)) (loads_chroma bytes);
}

-- the frame's size and interlace mode
abbrev pub size_of : FrameHead → Size
size_of head = record { width = head.width; height = head.height; interlace = head.interlace }

-- The rules of a frame, each with the refusal of bytes that break it (RDD 36; the ranges are own).
-- docs/formats/frames.md, "Refusals of frames".
use Rattle.std.specs.Prelude.{ℕ, ◌+◌, ◌==◌, ◌&&◌, ◌||◌, List, [], ◌∷◌, ◌++◌, Bool, not, nat_le, Option, Some, None, length, take, drop, if◌then◌else◌}
use Rattle.std.specs.Str.{bytes_eq}
use Rattle.byteorder.specs.Endian.{big_number}
use Rattle.rec_bytes.specs.Configuration.{within, is_even}
use Rattle.rec_bytes.specs.declared.config_fields.TheConstants.{MAX_WIDTH, MAX_HEIGHT}
use Rattle.frame_syntax.specs.Headers.{header_of, size_of, least_head, loads_luma, loads_chroma}
use Rattle.frame_syntax.specs.Pictures.{picture_of, front_len}
use Rattle.frame_syntax.specs.declared.fault.FrameFault.{FrameFault}
use Rattle.frame_syntax.specs.declared.fault.FrameFault.TheVariants.{FrameShort, NotIcpf, SizeWord, HeadSize, Version, Chroma, Interlace, Dimensions, Alpha, PictureSize}
use Rattle.frame_syntax.specs.declared.frame_head.FrameHead.{FrameHead}
use Rattle.frame_syntax.specs.declared.frame_head.TheConstants.{LEAST_FRAME, FRAME_NAME, NAME_AT, HEAD_AT, VERSION_AT, WIDTH_AT, HEIGHT_AT, FORMAT_AT, ALPHA_AT}
use Rattle.frame_syntax.specs.declared.frame_head.TheConstants.{MAX_VERSION, CHROMA_422, RESERVED_INTERLACE}
use Rattle.frame_syntax.specs.declared.picture_head.PictureHead.{PictureHead}
use Rattle.frame_syntax.specs.declared.picture_head.TheConstants.{LEAST_PICTURE_HEAD}

-- a rule: the refusal of bytes that break it, and whether it is kept
abbrev pub Rule : Type 0
Rule = FrameFault × Bool

-- the refusal of the first rule that is broken
unfoldable pub first_broken : List Rule → Option FrameFault
first_broken [] = None
first_broken (rule ∷ rules) = if rule.1 then first_broken rules else Some rule.0

-- the bytes of the frame header, which are all in the frame
abbrev pub is_head_size : List ℕ → ℕ → Bool
is_head_size bytes head_size =
    nat_le (least_head (loads_luma bytes) (loads_chroma bytes)) head_size && nat_le (HEAD_AT + head_size) (length bytes)

-- the rules on the frame's size and name, and on the size of its header
unfoldable pub opening_rules : List ℕ → List Rule
opening_rules bytes =
    (FrameShort (length bytes) 0, nat_le LEAST_FRAME (length bytes))
    ∷ (NotIcpf NAME_AT 0, bytes_eq (take 4 (drop NAME_AT bytes)) FRAME_NAME)
    ∷ (SizeWord 0 (big_number 4 bytes), big_number 4 bytes == length bytes)
    ∷ (HeadSize HEAD_AT (big_number 2 (drop HEAD_AT bytes)), is_head_size bytes (big_number 2 (drop HEAD_AT bytes)))
    ∷ []

-- the rules on the fields of the frame header
unfoldable pub head_rules : FrameHead → List Rule
head_rules head =
    (Version VERSION_AT head.version, nat_le head.version MAX_VERSION)
    ∷ (Chroma FORMAT_AT head.chroma_format, head.chroma_format == CHROMA_422)
    ∷ (Interlace FORMAT_AT head.interlace, not (head.interlace == RESERVED_INTERLACE))
    ∷ (Dimensions WIDTH_AT head.width, within 2 head.width MAX_WIDTH && is_even head.width)
    ∷ (Dimensions HEIGHT_AT head.height, within 1 head.height MAX_HEIGHT && (head.interlace == 0 || is_even head.height))
    ∷ (Alpha ALPHA_AT head.alpha, head.alpha == 0)
    ∷ []

-- a coded picture has room for its header and its slice table, and lies in the frame
abbrev pub is_sized : ℕ → PictureHead → Bool
is_sized frame_len picture =
    nat_le (picture.at + LEAST_PICTURE_HEAD) frame_len && nat_le LEAST_PICTURE_HEAD picture.head_size
    && nat_le (front_len picture) picture.size && nat_le (picture.at + picture.size) frame_len

-- the rule on a coded picture of this number
abbrev pub picture_rule : List ℕ → ℕ → PictureHead → Rule
picture_rule bytes number picture = (PictureSize picture.at number, is_sized (length bytes) picture)

-- the first coded picture of a frame with this header, behind the header
abbrev pub first_picture : List ℕ → FrameHead → PictureHead
first_picture bytes head = picture_of bytes (size_of head) (HEAD_AT + head.head_size)

-- the coded picture behind another
abbrev pub picture_behind : List ℕ → FrameHead → PictureHead → PictureHead
picture_behind bytes head first = picture_of bytes (size_of head) (first.at + first.size)

-- the rules on the coded pictures from the first on: one, or two fields
unfoldable pub rules_from : List ℕ → FrameHead → PictureHead → List Rule
rules_from bytes head first =
    picture_rule bytes 0 first
    ∷ (if head.interlace == 0 then [] else picture_rule bytes 1 (picture_behind bytes head first) ∷ [])

-- the rules on the coded pictures
abbrev pub picture_rules : List ℕ → FrameHead → List Rule
picture_rules bytes head = rules_from bytes head (first_picture bytes head)

-- the rules that are tried before any slice table is read, in their order
unfoldable pub frame_rules : List ℕ → List Rule
frame_rules bytes = opening_rules bytes ++ head_rules (header_of bytes) ++ picture_rules bytes (header_of bytes)

-- What stands in the bytes of a frame, or why they are none (RDD 36). docs/formats/frames.md, "Frames".
use Rattle.std.specs.Prelude.{◌≡◌, ◌⊎◌, ◌==◌, ℕ, ◌+◌, List, [], ◌++◌, Option, Some, None, IfSome, if◌then◌else◌}
use Rattle.frame_syntax.specs.Headers.{header_of}
use Rattle.frame_syntax.specs.Pictures.{Span, spans_of, SlicesFit, Passes}
use Rattle.frame_syntax.specs.Rules.{first_broken, frame_rules, first_picture, picture_behind}
use Rattle.frame_syntax.specs.declared.fault.FrameFault.{FrameFault}
use Rattle.frame_syntax.specs.declared.frame.FrameParts.{FrameParts}
use Rattle.frame_syntax.specs.declared.frame_head.FrameHead.{FrameHead}
use Rattle.frame_syntax.specs.declared.picture_head.PictureHead.{PictureHead}

-- the second coded picture of an interlaced frame, behind the first
abbrev pub second_picture : List ℕ → FrameHead → PictureHead → Option PictureHead
second_picture bytes head first = if head.interlace == 0 then None else Some (picture_behind bytes head first)

-- slices of one coded picture or of two
abbrev pub slices_in : PictureHead → Option PictureHead → ℕ
slices_in first None = first.slices
slices_in first (Some second) = first.slices + second.slices

-- a frame header and the coded pictures behind it
abbrev pub parts_with : FrameHead → PictureHead → Option PictureHead → FrameParts
parts_with head first second = record { head = head; first = first; second = second; slices = slices_in first second }

-- the parts that stand in the bytes behind a frame header
abbrev pub parts_behind : List ℕ → FrameHead → FrameParts
parts_behind bytes head =
    let first = first_picture bytes head in
    parts_with head first (second_picture bytes head first)

-- the parts that stand in the bytes
abbrev pub parts_of : List ℕ → FrameParts
parts_of bytes = parts_behind bytes (header_of bytes)

-- the bytes are a frame of these parts; bytes behind the last slice of a coded picture and behind the last picture are free
pub record IsFrame (bytes : List ℕ) (parts : FrameParts) : Type 0 where
  pub kept : first_broken (frame_rules bytes) ≡ None
  pub stand : parts_of bytes ≡ parts
  pub first_fits : SlicesFit bytes parts.first
  pub second_fits : IfSome parts.second (SlicesFit bytes)

-- the slices of a second coded picture, if there is one
abbrev pub spans_in : List ℕ → Option PictureHead → List Span
spans_in bytes None = []
spans_in bytes (Some picture) = spans_of bytes picture

-- the slices of a frame, in the order of the file
abbrev pub slices_of : List ℕ → FrameParts → List Span
slices_of bytes parts = spans_of bytes parts.first ++ spans_in bytes parts.second

-- a slice of the second coded picture passes it, and none of the first does
pub record PassesSecond (bytes : List ℕ) (parts : FrameParts) (fault : FrameFault) : Type 0 where
  pub picture : PictureHead
  pub is_second : parts.second ≡ Some picture
  pub before : SlicesFit bytes parts.first
  pub passes : Passes bytes picture parts.first.slices fault

-- a slice passes its coded picture, and no rule that is tried before is broken
pub record RefusesTable (bytes : List ℕ) (fault : FrameFault) : Type 0 where
  pub kept : first_broken (frame_rules bytes) ≡ None
  pub passes : Passes bytes (parts_of bytes).first 0 fault ⊎ PassesSecond bytes (parts_of bytes) fault

-- why bytes are no frame: the first rule that they break
abbrev pub Refuses : List ℕ → FrameFault → Type 0
Refuses bytes fault = (first_broken (frame_rules bytes) ≡ Some fault) ⊎ RefusesTable bytes fault

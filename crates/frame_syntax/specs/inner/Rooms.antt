-- Frames of which no rule is broken that is tried before the slice tables.
use Rattle.std.specs.Prelude.{◌≡◌, ℕ, ◌+◌, ◌≤◌, List, length, None, IfSome}
use Rattle.frame_syntax.specs.Pictures.{front_len}
use Rattle.frame_syntax.specs.Rules.{first_broken, frame_rules}
use Rattle.frame_syntax.specs.Frames.{parts_of}
use Rattle.frame_syntax.specs.declared.frame.FrameParts.{FrameParts}
use Rattle.frame_syntax.specs.declared.picture_head.PictureHead.{PictureHead}
use Rattle.frame_syntax.specs.declared.picture_head.TheConstants.{LEAST_PICTURE_HEAD}

-- a coded picture has room for its header and its slice table, and lies in a frame of so many bytes
pub record IsRoomy (frame_len : ℕ) (picture : PictureHead) : Type 0 where
  pub there : picture.at + LEAST_PICTURE_HEAD ≤ frame_len
  pub head : LEAST_PICTURE_HEAD ≤ picture.head_size
  pub table : front_len picture ≤ picture.size
  pub within : picture.at + picture.size ≤ frame_len

-- the bytes keep every rule before the slice tables, and these are their parts
pub record AreParts (bytes : List ℕ) (parts : FrameParts) : Type 0 where
  pub kept : first_broken (frame_rules bytes) ≡ None
  pub stand : parts_of bytes ≡ parts
  pub first : IsRoomy (length bytes) parts.first
  pub second : IfSome parts.second (IsRoomy (length bytes))

-- What workers have coded of a picture.
use Rattle.std.specs.Prelude.{◌≡◌, ◌≤◌, ◌+◌, ℕ, List, All, length, take, drop}
use Rattle.rec_bytes.specs.Configuration.{Fields}
use Rattle.rec_bytes.specs.Views.{view}
use Rattle.picture_plane.specs.Pictures.{Planes}
use Rattle.frame_codec.specs.Sources.{IsNth, slice_room}
use Rattle.slice_workers.specs.declared.hand.Hand.{Hand}
use Rattle.slice_workers.specs.declared.hand.Piece.{Piece}

-- the configuration of a worker
abbrev pub config_of : Hand → Fields
config_of hand = view hand.writer.coder.coding.config

-- a slice of a picture stands in the first bytes of a worker's memory
pub record IsPiece (fields : Fields) (picture : Planes) (bytes : List ℕ) (used : ℕ) (piece : Piece) : Type 0 where
  pub within : piece.at + piece.len ≤ used
  pub most : piece.len ≤ slice_room fields piece.n
  pub coded : IsNth fields picture piece.number piece.n (take piece.len (drop piece.at bytes))

-- what a worker has coded are slices of a picture
pub record HasPieces (fields : Fields) (picture : Planes) (hand : Hand) : Type 0 where
  pub config : config_of hand ≡ fields
  pub used : hand.used ≤ length hand.bytes.items
  pub pieces : All (IsPiece fields picture hand.bytes.items hand.used) hand.pieces.items

-- and so it is of all workers
abbrev pub HavePieces : Fields → Planes → List Hand → Type 0
HavePieces fields picture hands = All (HasPieces fields picture) hands

-- workers of one configuration
abbrev pub AreFor : Fields → List Hand → Type 0
AreFor fields hands = All (λ hand. config_of hand ≡ fields) hands

-- What the packs of such a file say, and what its index tables name.
use Rattle.std.proofs.Common.{◌≡◌, ℕ, ◌+◌, ◌==◌, ◌⊎◌, cond, true, false, List, [], ◌∷◌, ◌++◌, length, map, Some}
use Rattle.klv.specs.Items.{Item, spelled}
use Rattle.mxf_partitions.specs.Reads.{entries_of}
use Rattle.mxf_partitions.specs.declared.random_index.PackEntry.{PackEntry}
use Rattle.mxf_index.specs.Reads.{Frames, frames_of}
use Rattle.mxf_names.specs.declared.keys.TheConstants.{PICTURE_ELEMENT_KEY}
use Rattle.mxf_names.specs.declared.streams.TheConstants.{ESSENCE_STREAM, INDEX_STREAM}
use Rattle.mxf_op1a.specs.Partitions.{Part}
use Rattle.mxf_op1a.specs.Clauses.{is_header, is_body, is_footer, is_open, is_closed}
use Rattle.mxf_take_op1a.proofs.PlacedLemmas.{bytes_of}
use Rattle.mxf_take_op1a.proofs.PartLemmas.{all_parts}
use Rattle.mxf_take_op1a.proofs.Shapes.{Units, Shape}

-- each pack names its place and the one before
pub record NamePlaces (s : Shape) (all : Units) : Type 0 where
  -- the place of the pack before, by the units before
  pub before : Units → ℕ
  pub header_this : s.opens.this ≡ 0
  pub header_previous : s.opens.previous ≡ 0
  pub starts : before [] ≡ 0
  pub this : (units : Units) → (s.says units).this ≡ s.place units
  pub previous : (units : Units) → s.due units ≡ true → (s.says units).previous ≡ before units
  pub due : (units : Units) (unit : List ℕ) → s.due units ≡ true → before (units ++ unit ∷ []) ≡ s.place units
  pub stays : (units : Units) (unit : List ℕ) → s.due units ≡ false → before (units ++ unit ∷ []) ≡ before units
  pub footer_this : s.closes.this ≡ s.place all
  pub footer_previous : s.closes.previous ≡ before all

-- packs are of an open header, of bodies, and of a closed footer that names itself
pub record NameKinds (s : Shape) (all : Units) : Type 0 where
  pub header_is : is_header s.opens.kind ≡ true
  pub header_open : is_open s.opens.status ≡ true
  pub body_is : (units : Units) → is_body (s.says units).kind ≡ true
  pub footer_is : is_footer s.closes.kind ≡ true
  pub footer_closed : is_closed s.closes.status ≡ true
  pub footer_named : s.closes.footer ≡ s.place all

-- bodies say how much of the essence stream stands before them
pub record CountStream (s : Shape) (all : Units) : Type 0 where
  pub stream : Units → ℕ
  pub starts : stream [] ≡ 0
  pub more : (units : Units) (unit : List ℕ) → stream (units ++ unit ∷ []) ≡ stream units + length (spelled (s.element unit))
  pub offset : (units : Units) → (s.says units).body_offset ≡ stream units

-- packs say how many bytes of metadata and index tables stand behind them
pub record CountBytes (s : Shape) (all : Units) : Type 0 where
  pub header_metadata : s.opens.header_bytes ≡ bytes_of (s.primer ∷ s.head_sets)
  pub header_index : s.opens.index_bytes ≡ 0
  pub body_metadata : (units : Units) → (s.says units).header_bytes ≡ 0
  pub body_index : (units : Units) → (s.says units).index_bytes ≡ bytes_of (s.segments units)
  pub footer_metadata : s.closes.header_bytes ≡ bytes_of (s.primer ∷ s.foot_sets)
  pub footer_index : s.closes.index_bytes ≡ bytes_of s.last

-- elements are the units under the picture element's key
pub record HoldUnits (s : Shape) : Type 0 where
  pub key : (unit : List ℕ) → (s.element unit).key ≡ PICTURE_ELEMENT_KEY
  pub value : (unit : List ℕ) → (s.element unit).value ≡ unit

-- an entry of a partition
abbrev pub entry_of_part : Part → PackEntry
entry_of_part part = record { body_sid = part.pack.body_sid; at = part.at }

-- the random index names the partitions
pub record NameParts (s : Shape) (all : Units) (len : ℕ) : Type 0 where
  pub says : entries_of s.random ≡ Some (map entry_of_part (all_parts s all len))

-- segments say this of frames: none, or one that does
pub record Covers (items : List Item) (first : ℕ) (streams : List ℕ) : Type 0 where
  pub frames : Frames
  pub first_is : frames.first ≡ first
  pub streams_are : frames.streams ≡ streams
  pub cases : ((items ≡ []) × (streams ≡ [])) ⊎ ((item : Item) × (items ≡ item ∷ []) × (frames_of item ≡ Some frames))

-- segments cover the offsets of the elements
pub record CoverOffsets (s : Shape) (all : Units) (offsets : List ℕ) : Type 0 where
  -- how many offsets the segments before have, and those that are left
  pub first : Units → ℕ
  pub left : Units → List ℕ
  pub streams : Units → List ℕ
  pub starts : first [] ≡ 0
  pub left_starts : left [] ≡ offsets
  pub covers : (units rest : Units) → units ++ rest ≡ all → s.due units ≡ true → Covers (s.segments units) (first units) (streams units)
  pub due : (units : Units) (unit : List ℕ) (rest : Units) → units ++ (unit ∷ rest) ≡ all → s.due units ≡ true
      → (first (units ++ unit ∷ []) ≡ first units + length (streams units)) × (left units ≡ streams units ++ left (units ++ unit ∷ []))
  pub stays : (units : Units) (unit : List ℕ) → s.due units ≡ false
      → (first (units ++ unit ∷ []) ≡ first units) × (left (units ++ unit ∷ []) ≡ left units)
  pub last : Covers s.last (first all) (left all)

-- the stream of index tables of these segments
abbrev pub stream_of : List Item → ℕ
stream_of items = cond (length items == 0) 0 INDEX_STREAM

-- packs name the streams of essence and of index tables
pub record NameStreams (s : Shape) : Type 0 where
  pub header_body : s.opens.body_sid ≡ 0
  pub header_index : s.opens.index_sid ≡ 0
  pub body_body : (units : Units) → (s.says units).body_sid ≡ ESSENCE_STREAM
  pub body_index : (units : Units) → (s.says units).index_sid ≡ stream_of (s.segments units)
  pub footer_body : s.closes.body_sid ≡ 0
  pub footer_index : s.closes.index_sid ≡ stream_of s.last

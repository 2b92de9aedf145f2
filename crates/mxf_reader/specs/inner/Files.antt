-- What is kept of a whole file (own). The walk and the clauses that are judged by it cite this, and no crate above.
use Rattle.std.specs.Prelude.{◌≡◌, ℕ, ◌+◌, List, ◌++◌, length, filter, map, true, Option, Some, None}
use Rattle.std.specs.List.{flat_map}
use Rattle.klv.specs.Items.{spelled}
use Rattle.klv.specs.Outline.{Outline}
use Rattle.mxf_op1a.specs.Clauses.{first_place, last_item, places}
use Rattle.mxf_op1a.specs.Contents.{Placed, is_pack, is_segment, placed_from}
use Rattle.mxf_op1a.specs.Partitions.{being, elements, parts, up_to}
use Rattle.mxf_reader.specs.declared.file.SeenFile.{SeenFile}
use Rattle.mxf_reader.specs.declared.items.Walked.{Walked}
use Rattle.mxf_reader.specs.declared.mark.Mark.{Mark}
use Rattle.mxf_reader.specs.inner.Marks.{mark_of}
use Rattle.mxf_reader.specs.inner.Parts.{closed_at}
use Rattle.mxf_reader.specs.inner.Index.{streams_of}
use Rattle.mxf_reader.specs.inner.Seen.{seen_parts, streams_in}
use Rattle.take_layout.specs.declared.place.Place.{Place}

-- what is kept of items, where the last partition ends with a file of this length
pub record IsClosed (w : Walked) (len : ℕ) (file : SeenFile) : Type 0 where
  pub parts : file.parts.items ≡ w.seen.closed.items ++ closed_at len w.seen.going
  pub front : file.front ≡ w.seen.front
  pub elements : file.elements.items ≡ w.seen.elements.items
  pub segments : file.segments.items ≡ w.seen.segments.items
  pub last : file.last ≡ w.seen.last
  pub stop : file.stop ≡ w.stop
  pub len_is : file.len ≡ len

-- what is kept of an item that may be
abbrev pub mark_if : Option Placed → Option Mark
mark_if None = None
mark_if (Some p) = Some (mark_of p)

-- this is kept of items that stand in a file
pub record AreSeen (items : List Placed) (file : SeenFile) : Type 0 where
  pub parts : file.parts.items ≡ seen_parts true 0 (parts file.len items)
  pub front : file.front ≡ first_place (places (elements (up_to is_pack items)))
  pub values : map (λ (e : Place). e.at) file.elements.items ≡ map (λ (p : Placed). p.at + (17 + p.item.form)) (elements items)
  pub sizes : map (λ (e : Place). e.len) file.elements.items ≡ map (λ (p : Placed). length p.item.value) (elements items)
  pub streams : streams_of file.elements.items ≡ streams_in file.len items
  pub segments : file.segments.items ≡ map mark_of (filter (being is_segment) items)
  pub last : file.last ≡ mark_if (last_item None items)

-- this is kept of a file
pub record IsSeen (bytes : List ℕ) (file : SeenFile) : Type 0 where
  pub outline : Outline bytes
  pub stop : file.stop ≡ length (flat_map spelled outline.items)
  pub len : file.len ≡ length bytes
  pub seen : AreSeen (placed_from 0 outline.items) file

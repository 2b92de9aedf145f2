-- What a take's closed file says of its take (SMPTE ST 377-1; choices own). docs/FORMATS.md, "A take's file".
use Rattle.std.specs.Prelude.{◌≡◌, ℕ, ◌==◌, Bool, true, false, List, [], length, map, filter, replicate, Option, Some, None, if◌then◌else◌}
use Rattle.std.specs.List.{flat_map, list_all, AllByRecursion}
use Rattle.rec_bytes.specs.Configuration.{Fields}
use Rattle.mxf_names.specs.declared.streams.TheConstants.{ESSENCE_STREAM, INDEX_STREAM}
use Rattle.local_sets.specs.Sets.{RawItem}
use Rattle.mxf_metadata.specs.Durations.{HaveDuration}
use Rattle.mxf_metadata.specs.Links.{kinds_named}
use Rattle.mxf_metadata.specs.RawSets.{RawSet}
use Rattle.mxf_metadata.specs.Tags.{is_among}
use Rattle.mxf_metadata_check.specs.Metadata.{take_id_in}
use Rattle.mxf_metadata_reader.specs.References.{names_of}
use Rattle.mxf_op1a.specs.Contents.{placed_from, is_segment}
use Rattle.mxf_op1a.specs.Metadata.{SetAt, lasts, places_but, set_with, sets_of}
use Rattle.mxf_op1a.specs.Partitions.{File, Part, being, file_of, parts}
use Rattle.mxf_take_file.specs.Items.{closed_items}
use Rattle.mxf_take_file.specs.Layout.{closed}

-- the partitions of the closed file
abbrev pub take_file : Fields → List (List ℕ) → File
take_file cfg units = file_of (parts (length (closed cfg units)) (placed_from 0 (closed_items cfg units)))

-- header and footer name the take
pub record NamesTake (take_id : List ℕ) (file : File) : Type 0 where
  pub header : take_id_in (flat_map sets_of file.header) ≡ take_id
  pub footer : take_id_in (flat_map sets_of file.footer) ≡ take_id

-- each duration of the header is the 8 bytes of -1, which stand where it isn't known
abbrev pub IsUnknown : File → Type 0
IsUnknown file = places_but (lasts (replicate 8 0xff)) (flat_map sets_of file.header) ≡ []

-- a set that is read, without its place
abbrev pub raw_of : SetAt → RawSet
raw_of s = record { kind = s.set.kind; items = s.set.items }

-- sequences, components and descriptors have one duration each, and no other set has any: in the header it isn't known,
-- and in the footer it is a number of frames
pub record SaysDurations (count : ℕ) (file : File) : Type 0 where
  pub header : HaveDuration None (map raw_of (flat_map sets_of file.header))
  pub footer : HaveDuration (Some count) (map raw_of (flat_map sets_of file.footer))

-- the stream of a partition's index tables, 0 where it has no segment
abbrev pub index_stream_of : Part → ℕ
index_stream_of part = if length (filter (being is_segment) part.items) == 0 then 0 else INDEX_STREAM

-- a pack names this stream of essence, and the one of its partition's index tables
pub record NamesStreams (essence : ℕ) (part : Part) : Type 0 where
  pub body : part.pack.body_sid ≡ essence
  pub index : part.pack.index_sid ≡ index_stream_of part

-- bodies name the stream of essence, header and footer none
pub record AreStreamsNamed (file : File) : Type 0 where
  pub header : AllByRecursion (NamesStreams 0) file.header
  pub bodies : AllByRecursion (NamesStreams ESSENCE_STREAM) file.bodies
  pub footer : AllByRecursion (NamesStreams 0) file.footer

-- a name leads to a set of one of these kinds
abbrev pub leads_to : List ℕ → Option SetAt → Bool
leads_to kinds None = false
leads_to kinds (Some s) = is_among s.set.kind kinds

-- the sets that an item names are of the kinds that its tag may name
abbrev pub is_linked : List SetAt → RawItem → Bool
is_linked sets item = list_all (λ id. leads_to (kinds_named item.tag) (set_with sets id)) (names_of item)

-- so are those that each item of each set names
abbrev pub AreLinked : List SetAt → Type 0
AreLinked sets = AllByRecursion (λ s. list_all (is_linked sets) s.set.items ≡ true) sets

-- the sets of header and footer are linked so
pub record HoldLinks (file : File) : Type 0 where
  pub header : AreLinked (flat_map sets_of file.header)
  pub footer : AreLinked (flat_map sets_of file.footer)

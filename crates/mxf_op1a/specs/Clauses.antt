-- The clauses of an OP1a file: of each, where it is broken first (SMPTE ST 377-1, ST 378). docs/formats/mxf.md, "What an OP1a file is".
use Rattle.std.specs.Prelude.{ℕ, ◌+◌, ◌-◌, ◌==◌, ◌&&◌, not, nat_eq, nat_lt, Bool, true, false, if◌then◌else◌, List, [], ◌∷◌, ◌++◌, length, map, filter}
use Rattle.std.specs.Prelude.{drop, Option, Some, None}
use Rattle.std.specs.List.{flat_map, starts_with}
use Rattle.std.specs.Str.{bytes_eq}
use Rattle.byteorder.specs.Endian.{big_bytes}
use Rattle.mxf_names.specs.declared.keys.TheConstants.{PICTURE_ELEMENT_KEY}
use Rattle.mxf_names.specs.declared.partition_keys.PartitionKind.{PartitionKind}
use Rattle.mxf_names.specs.declared.partition_keys.PartitionKind.TheVariants.{Header, Body, Footer}
use Rattle.mxf_names.specs.declared.partition_keys.PartitionStatus.{PartitionStatus}
use Rattle.mxf_names.specs.declared.partition_keys.PartitionStatus.TheVariants.{OpenIncomplete, ClosedIncomplete, OpenComplete, ClosedComplete}
use Rattle.mxf_partitions.specs.Reads.{entries_of}
use Rattle.mxf_partitions.specs.declared.random_index.PackEntry.{PackEntry}
use Rattle.mxf_index.specs.Reads.{Frames, frames_of}
use Rattle.mxf_op1a.specs.Contents.{Placed, is_fill, is_random_index}
use Rattle.mxf_op1a.specs.Partitions.{File, Part, being, elements, place_of, stream_len, metadata_len, index_len}
use Rattle.mxf_op1a.specs.Metadata.{least, lasts, places_but, sets_of, wrong_metadata}

-- a partition's kind and status
abbrev pub is_header : PartitionKind → Bool
is_header Header = true
is_header Body = false
is_header Footer = false

abbrev pub is_body : PartitionKind → Bool
is_body Body = true
is_body Header = false
is_body Footer = false

abbrev pub is_footer : PartitionKind → Bool
is_footer Footer = true
is_footer Header = false
is_footer Body = false

abbrev pub is_open : PartitionStatus → Bool
is_open OpenIncomplete = true
is_open ClosedIncomplete = false
is_open OpenComplete = false
is_open ClosedComplete = false

abbrev pub is_closed : PartitionStatus → Bool
is_closed ClosedComplete = true
is_closed OpenIncomplete = false
is_closed ClosedIncomplete = false
is_closed OpenComplete = false

-- the first of places, if there are any
abbrev pub first_place : List ℕ → Option ℕ
first_place [] = None
first_place (place ∷ places) = Some place

-- the last item that isn't fill
unfoldable pub last_item : Option Placed → List Placed → Option Placed
last_item last [] = last
last_item last (p ∷ ps) = last_item (if being is_fill p then last else Some p) ps

-- 1. The file is items, and the last is a random index pack.
abbrev pub ends_well : ℕ → Option Placed → Option ℕ
ends_well len None = Some len
ends_well len (Some p) = if being is_random_index p then None else Some len

abbrev pub broken_1 : ℕ → ℕ → List Placed → Option ℕ
broken_1 stop len items = if nat_lt stop len then Some stop else ends_well len (last_item None items)

-- 2. The random index pack at the end names the partitions in order, by place and body SID.
abbrev pub entries_match : Option (List PackEntry) → List Part → Bool
entries_match None parts = false
entries_match (Some []) [] = true
entries_match (Some []) (part ∷ parts) = false
entries_match (Some (entry ∷ entries)) [] = false
entries_match (Some (entry ∷ entries)) (part ∷ parts) =
    entry.body_sid == part.pack.body_sid && entry.at == part.at && entries_match (Some entries) parts

abbrev pub names_parts : List Part → Option Placed → Option ℕ
names_parts parts None = None
names_parts parts (Some p) = if entries_match (entries_of p.item) parts then None else Some p.at

abbrev pub broken_2 : List Placed → List Part → Option ℕ
broken_2 items parts = names_parts parts (last_item None items)

-- 3. Each pack names its own place and that of the one before, the first 0.
unfoldable pub broken_3 : ℕ → List Part → Option ℕ
broken_3 before [] = None
broken_3 before (part ∷ parts) =
    if part.pack.this == part.at && part.pack.previous == before then broken_3 part.at parts else Some part.at

-- 4. The first partition is an open and incomplete header, the last a closed and complete footer that names itself, and
-- all between are bodies.
abbrev pub is_open_header : Part → Bool
is_open_header part = is_header part.pack.kind && is_open part.pack.status

abbrev pub is_closed_footer : Part → Bool
is_closed_footer part = is_footer part.pack.kind && is_closed part.pack.status && part.pack.footer == part.at

unfoldable pub broken_behind : List Part → Option ℕ
broken_behind [] = None
broken_behind (part ∷ []) = if is_closed_footer part then None else Some part.at
broken_behind (part ∷ next ∷ parts) = if is_body part.pack.kind then broken_behind (next ∷ parts) else Some part.at

abbrev pub broken_4 : ℕ → List Part → Option ℕ
broken_4 len [] = Some len
broken_4 len (part ∷ []) = Some part.at
broken_4 len (part ∷ next ∷ parts) = if is_open_header part then broken_behind (next ∷ parts) else Some part.at

-- 5. The body offset of a body is what the bodies before it add to the essence stream.
unfoldable pub broken_5 : ℕ → List Part → Option ℕ
broken_5 before [] = None
broken_5 before (body ∷ bodies) =
    if body.pack.body_offset == before then broken_5 (before + stream_len body) bodies else Some body.at

-- 6. Elements stand only in bodies, at least one in each, all with the picture element's key.
abbrev pub places : List Placed → List ℕ
places items = map (λ p. p.at) items

abbrev pub other_elements : List Placed → List Placed
other_elements items = filter (λ p. not (bytes_eq p.item.key PICTURE_ELEMENT_KEY)) (elements items)

-- the file's length for each body without an element
abbrev pub lacking : ℕ → List Part → List ℕ
lacking len bodies = flat_map (λ body. if length (elements body.items) == 0 then len ∷ [] else []) bodies

abbrev pub broken_6 : ℕ → List Placed → File → Option ℕ
broken_6 len front file =
    first_place (places (elements front) ++ flat_map (λ part. places (elements part.items)) file.header
    ++ flat_map (λ body. places (other_elements body.items)) file.bodies
    ++ flat_map (λ part. places (elements part.items)) file.footer ++ lacking len file.bodies)

-- 7. Header and footer have a primer and sound sets behind it, and their picture tracks show one clip each.
abbrev pub broken_7 : ℕ → File → Option ℕ
broken_7 len file = least (flat_map (wrong_metadata len) file.header ++ flat_map (wrong_metadata len) file.footer)

-- 8. The footer's durations are the number of elements.
abbrev pub broken_8 : ℕ → File → Option ℕ
broken_8 count file = first_place (places_but (lasts (big_bytes 8 count)) (flat_map sets_of file.footer))

-- 9. The index table segments start at 0 and join without gap. Their entries' stream offsets are those of the elements,
-- and each element has one.
abbrev pub offset_in : Part → ℕ → Placed → ℕ
offset_in body before p = before + (p.at - place_of body.end (elements body.items))

unfoldable pub stream_offsets : ℕ → List Part → List ℕ
stream_offsets before [] = []
stream_offsets before (body ∷ bodies) =
    map (offset_in body before) (elements body.items) ++ stream_offsets (before + stream_len body) bodies

-- a segment starts at a frame, and its entries are the first of these offsets
abbrev pub joins : ℕ → List ℕ → Option Frames → Bool
joins first offsets None = false
joins first offsets (Some frames) = frames.first == first && starts_with nat_eq offsets frames.streams

abbrev pub entry_count : Option Frames → ℕ
entry_count None = 0
entry_count (Some frames) = length frames.streams

unfoldable pub broken_9 : ℕ → ℕ → List ℕ → List Placed → Option ℕ
broken_9 len first offsets [] = if length offsets == 0 then None else Some len
broken_9 len first offsets (p ∷ ps) =
    if joins first offsets (frames_of p.item)
    then broken_9 len (first + entry_count (frames_of p.item)) (drop (entry_count (frames_of p.item)) offsets) ps
    else Some p.at

-- 10. Header bytes and index bytes are the lengths of what stands there.
unfoldable pub broken_10 : List Part → Option ℕ
broken_10 [] = None
broken_10 (part ∷ parts) =
    if part.pack.header_bytes == metadata_len part && part.pack.index_bytes == index_len part then broken_10 parts else Some part.at

-- What the packs of a take's file say (SMPTE ST 377-1; choices own). docs/FORMATS.md, "A take's file".
use Rattle.std.specs.Prelude.{ℕ, ◌*◌, ◌==◌, if◌then◌else◌, List, [], ◌∷◌, ◌++◌, length, map}
use Rattle.std.specs.List.{range_with_len}
use Rattle.rec_bytes.specs.Configuration.{Fields}
use Rattle.mxf_partitions.specs.declared.partition.Partition.{Partition}
use Rattle.mxf_names.specs.declared.partition_keys.PartitionKind.{PartitionKind}
use Rattle.mxf_names.specs.declared.partition_keys.PartitionKind.TheVariants.{Header, Body, Footer}
use Rattle.mxf_names.specs.declared.partition_keys.PartitionStatus.{PartitionStatus}
use Rattle.mxf_names.specs.declared.partition_keys.PartitionStatus.TheVariants.{OpenIncomplete, ClosedComplete}
use Rattle.mxf_names.specs.declared.labels.TheConstants.{OPERATIONAL_PATTERN_1A, ESSENCE_CONTAINER_LABEL}
use Rattle.mxf_partitions.specs.declared.random_index.PackEntry.{PackEntry}
use Rattle.mxf_metadata.specs.declared.lengths.TheConstants.{METADATA}
use Rattle.mxf_take_file.specs.Extents.{Extents, body_count}
use Rattle.mxf_take_file.specs.Segments.{segment_from, whole_first, last_first, pack_before}
use Rattle.mxf_names.specs.declared.streams.TheConstants.{ESSENCE_STREAM, INDEX_STREAM}

-- a pack of a partition at 0 that has neither metadata nor index tables nor essence
abbrev pub bare_pack : PartitionKind → PartitionStatus → Partition
bare_pack kind status = record {
  kind = kind;
  status = status;
  major = 1;
  minor = 3;
  kag = 1;
  this = 0;
  previous = 0;
  footer = 0;
  header_bytes = 0;
  index_bytes = 0;
  index_sid = 0;
  body_offset = 0;
  body_sid = 0;
  pattern = OPERATIONAL_PATTERN_1A;
  label_count = 1;
  label = ESSENCE_CONTAINER_LABEL;
}

-- the stream of so many bytes of index tables
abbrev pub index_stream : ℕ → ℕ
index_stream bytes = if bytes == 0 then 0 else INDEX_STREAM

-- the header's
abbrev pub header_pack : Partition
header_pack = record (bare_pack Header OpenIncomplete) { header_bytes = METADATA }

-- that of the body partition which begins behind the units
unfoldable pub body_pack : Fields → Extents → Partition
body_pack cfg e = record (bare_pack Body OpenIncomplete) {
  this = e.end_of e.count;
  previous = pack_before e (whole_first cfg e);
  index_bytes = length (segment_from cfg e (whole_first cfg e));
  index_sid = index_stream (length (segment_from cfg e (whole_first cfg e)));
  body_offset = e.total;
  body_sid = ESSENCE_STREAM;
}

-- the footer's
unfoldable pub footer_pack : Fields → Extents → Partition
footer_pack cfg e = record (bare_pack Footer ClosedComplete) {
  this = e.end_of e.count;
  previous = pack_before e (last_first cfg e);
  footer = e.end_of e.count;
  header_bytes = METADATA;
  index_bytes = length (segment_from cfg e (last_first cfg e));
  index_sid = index_stream (length (segment_from cfg e (last_first cfg e)));
}

-- an entry of the random index pack
abbrev pub entry : ℕ → ℕ → PackEntry
entry body_sid at = record { body_sid = body_sid; at = at }

-- those of the first body partitions: each stands where the units before it end
abbrev pub body_entries : ℕ → Extents → ℕ → List PackEntry
body_entries part e count = map (λ n. entry ESSENCE_STREAM (e.end_of (n * part))) (range_with_len 0 count)

-- those of all partitions in order: the header, the body partitions, the footer
unfoldable pub pack_entries : Fields → Extents → List PackEntry
pack_entries cfg e =
    entry 0 0 ∷ body_entries cfg.part e (body_count cfg.part e.count) ++ entry 0 (e.end_of e.count) ∷ []

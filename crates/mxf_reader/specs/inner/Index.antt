-- What an index table segment says of frames, against the elements (own). Private functions alone cite this.
use Rattle.std.specs.Prelude.{ℕ, if◌then◌else◌, List, map, Option, Some, None}
use Rattle.mxf_index.specs.Reads.{Frames}
use Rattle.mxf_op1a.specs.Clauses.{entry_count, joins}
use Rattle.take_layout.specs.declared.place.Place.{Place}

-- the stream offsets of elements
abbrev pub streams_of : List Place → List ℕ
streams_of elements = map (λ (place : Place). place.stream) elements

-- how many entries a segment has that joins at a frame, where the elements from there on have these offsets
abbrev pub added : ℕ → List ℕ → Option Frames → Option ℕ
added first offsets frames = if joins first offsets frames then Some (entry_count frames) else None

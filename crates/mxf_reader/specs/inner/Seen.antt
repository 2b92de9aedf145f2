-- What is kept of a file, by the definitions of OP1a (own). Private functions alone cite this.
use Rattle.std.specs.Prelude.{ℕ, ◌+◌, ◌||◌, not, Bool, true, false, List, [], ◌∷◌, ◌++◌, map, Option, None}
use Rattle.mxf_op1a.specs.Clauses.{first_place, offset_in, other_elements, places}
use Rattle.mxf_op1a.specs.Contents.{Content, Placed, is_fill, is_pack, is_primer, is_segment, is_set}
use Rattle.mxf_op1a.specs.Partitions.{Part, elements, from_first, parts, stream_len, up_to}
use Rattle.mxf_reader.specs.declared.part.SeenPart.{SeenPart}

-- where a run ends that begins with the first of these items, none where they end first
abbrev pub run_end : (Content → Bool) → List Placed → Option ℕ
run_end goes [] = None
run_end goes (p ∷ ps) = first_place (places (from_first (λ content. not (goes content || is_fill content)) ps))

-- what is kept of a partition
abbrev pub seen_part : Bool → ℕ → Part → SeenPart
seen_part is_first due part = record {
  at = part.at;
  pack = part.pack;
  is_first = is_first;
  due = due;
  element = first_place (places (elements part.items));
  other = first_place (places (other_elements part.items));
  primer = first_place (places (from_first is_primer part.items));
  primer_end = run_end is_set (from_first is_primer part.items);
  segment = first_place (places (from_first is_segment part.items));
  segment_end = run_end is_segment (from_first is_segment part.items);
  end = part.end;
}

-- what a partition and those before it add to the essence stream, the first left out
abbrev pub due_with : Bool → ℕ → Part → ℕ
due_with true due part = 0
due_with false due part = due + stream_len part

-- what is kept of partitions
unfoldable pub seen_parts : Bool → ℕ → List Part → List SeenPart
seen_parts is_first due [] = []
seen_parts is_first due (part ∷ parts) = seen_part is_first due part ∷ seen_parts false (due_with is_first due part) parts

-- elements before all packs have no place in the essence stream
abbrev pub front_streams : List Placed → List ℕ
front_streams items = map (λ p. 0) (elements items)

-- the places of elements in the essence stream, by their partitions
unfoldable pub part_streams : Bool → ℕ → List Part → List ℕ
part_streams is_first due [] = []
part_streams is_first due (part ∷ parts) =
    map (offset_in part due) (elements part.items) ++ part_streams false (due_with is_first due part) parts

-- those of all elements of a file of this length
abbrev pub streams_in : ℕ → List Placed → List ℕ
streams_in len items = front_streams (up_to is_pack items) ++ part_streams true 0 (parts len items)

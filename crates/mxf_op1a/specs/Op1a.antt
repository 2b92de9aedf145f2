-- Files of operational pattern OP1a (SMPTE ST 377-1, ST 378). docs/formats/mxf.md, "What an OP1a file is".
use Rattle.std.specs.Prelude.{◌≡◌, ℕ, List, length, map, filter, Option, Some, None}
use Rattle.std.specs.List.{flat_map}
use Rattle.klv.specs.Items.{Item, spelled}
use Rattle.klv.specs.Outline.{Outline}
use Rattle.mxf_op1a.specs.Contents.{Placed, placed_from, is_pack, is_segment}
use Rattle.mxf_op1a.specs.Partitions.{Part, File, being, elements, file_of, parts, up_to}
use Rattle.mxf_op1a.specs.Clauses.{broken_1, broken_2, broken_3, broken_4, broken_5, broken_6, broken_7, broken_8, broken_9, broken_10, stream_offsets}
use Rattle.mxf_op1a.specs.declared.breaks.Break.{Break}

-- a clause that is broken at a place
abbrev pub at_place : ℕ → ℕ → Break
at_place clause at = record { clause = clause; at = at }

-- a clause that may be broken, and the clauses behind it
abbrev pub or_next : ℕ → Option ℕ → Option Break → Option Break
or_next clause (Some at) next = Some (at_place clause at)
or_next clause None next = next

-- the first clause that a file of this length breaks, whose partitions and items these are; items stand up to `stop`
abbrev pub first_of_clauses : ℕ → ℕ → List Placed → List Part → File → Option Break
first_of_clauses len stop items all file =
    or_next 1 (broken_1 stop len items)
    (or_next 2 (broken_2 items all)
    (or_next 3 (broken_3 0 all)
    (or_next 4 (broken_4 len all)
    (or_next 5 (broken_5 0 file.bodies)
    (or_next 6 (broken_6 len (up_to is_pack items) file)
    (or_next 7 (broken_7 len file)
    (or_next 8 (broken_8 (length (elements items)) file)
    (or_next 9 (broken_9 len 0 (stream_offsets 0 file.bodies) (filter (being is_segment) items))
    (or_next 10 (broken_10 all) None)))))))))

-- the same of bytes of this length that are so many items and a rest
unfoldable pub first_broken : ℕ → List Item → Option Break
first_broken len items =
    let stop : ℕ = length (flat_map spelled items) in
    let placed : List Placed = placed_from 0 items in
    let all : List Part = parts len placed in
    first_of_clauses len stop placed all (file_of all)

-- the units of items: the values of the elements, in order
abbrev pub units_in : List Item → List (List ℕ)
units_in items = map (λ p. p.item.value) (elements (placed_from 0 items))

-- the bytes are an OP1a file of these units
pub record IsOp1a (bytes : List ℕ) (units : List (List ℕ)) : Type 0 where
  pub outline : Outline bytes
  pub kept : first_broken (length bytes) outline.items ≡ None
  pub units_are : units ≡ units_in outline.items

-- the bytes break this clause first, and there first
pub record BreaksFirst (bytes : List ℕ) (broken : Break) : Type 0 where
  pub outline : Outline bytes
  pub is : first_broken (length bytes) outline.items ≡ Some broken

-- The first clause that a file breaks, and where (SMPTE ST 377-1, ST 378). docs/formats/mxf.md, "What an OP1a file is".
use Rattle.std.specs.Prelude.{◌≡◌, ◌⊎◌, ℕ, List, length, filter}
use Rattle.std.specs.List.{flat_map, AllByRecursion}
use Rattle.klv.specs.Items.{Item, spelled}
use Rattle.mxf_op1a.specs.Broken.{BreaksDuration, BreaksElements, BreaksEnd, BreaksIndex, BreaksKinds, BreaksLengths, BreaksNames, BreaksPlaces, BreaksStream}
use Rattle.mxf_op1a.specs.BrokenMetadata.{BreaksMetadata}
use Rattle.mxf_op1a.specs.Contents.{Placed, is_pack, is_segment, placed_from}
use Rattle.mxf_op1a.specs.Kept.{CountsLengths, CountsStream, EndsWithRandomIndex, HasMetadata, HoldsElements, IndexesElements, IsHeaderToFooter}
use Rattle.mxf_op1a.specs.Kept.{NamesPartitions, NamesPlaces, StatesDuration}
use Rattle.mxf_op1a.specs.Partitions.{File, Part, being, elements, file_of, parts, up_to}
use Rattle.mxf_op1a.specs.declared.breaks.Break.{Break}

-- a clause is broken at a place, or it is kept, and one behind it is broken first
abbrev pub OrBehind : ℕ → (ℕ → Type 0) → Type 0 → (Break → Type 0) → Break → Type 0
OrBehind clause Breaks Kept Behind broken = ((broken.clause ≡ clause) × Breaks broken.at) ⊎ (Kept × Behind broken)

-- the first clause that is broken by a file of this length, whose partitions and items these are, and where
abbrev pub BreaksClause : ℕ → ℕ → List Placed → List Part → File → Break → Type 0
BreaksClause len stop items all file =
    OrBehind 1 (BreaksEnd len stop items) (EndsWithRandomIndex len stop items)
    (OrBehind 2 (BreaksNames items all) (NamesPartitions items all)
    (OrBehind 3 (BreaksPlaces all) (NamesPlaces all)
    (OrBehind 4 (BreaksKinds len all) (IsHeaderToFooter all)
    (OrBehind 5 (BreaksStream file.bodies) (CountsStream file.bodies)
    (OrBehind 6 (BreaksElements len (up_to is_pack items) file) (HoldsElements (up_to is_pack items) file)
    (OrBehind 7 (BreaksMetadata len file) (HasMetadata file)
    (OrBehind 8 (BreaksDuration (length (elements items)) file) (StatesDuration (length (elements items)) file)
    (OrBehind 9 (BreaksIndex len file.bodies (filter (being is_segment) items)) (IndexesElements file.bodies (filter (being is_segment) items))
    (OrBehind 10 (BreaksLengths all) (AllByRecursion CountsLengths all) (λ broken. ⊥))))))))))

-- the same of bytes of this length that are so many items and a rest
abbrev pub Breaks : ℕ → List Item → Break → Type 0
Breaks len items =
    let stop : ℕ = length (flat_map spelled items) in
    let placed : List Placed = placed_from 0 items in
    let all : List Part = parts len placed in
    BreaksClause len stop placed all (file_of all)

-- The first broken clause in parts: those on partitions and on where elements stand, and those behind them (own). Private
-- functions alone cite this.
use Rattle.std.specs.Prelude.{ℕ, List, length, filter, Option, None}
use Rattle.mxf_op1a.specs.Clauses.{broken_1, broken_2, broken_3, broken_4, broken_5, broken_6, broken_7, broken_8, broken_9, broken_10, stream_offsets}
use Rattle.mxf_op1a.specs.Contents.{Placed, is_pack, is_segment}
use Rattle.mxf_op1a.specs.Op1a.{or_next}
use Rattle.mxf_op1a.specs.Partitions.{being, elements, file_of, parts, up_to}
use Rattle.mxf_op1a.specs.declared.breaks.Break.{Break}

-- clauses 3 to 6, over what is kept of a file
abbrev pub order_broken : ℕ → List Placed → Option Break
order_broken len items =
    or_next 3 (broken_3 0 (parts len items))
    (or_next 4 (broken_4 len (parts len items))
    (or_next 5 (broken_5 0 (file_of (parts len items)).bodies)
    (or_next 6 (broken_6 len (up_to is_pack items) (file_of (parts len items))) None)))

-- clauses 1 to 6
abbrev pub structure_broken : ℕ → ℕ → List Placed → Option Break
structure_broken len stop items =
    or_next 1 (broken_1 stop len items) (or_next 2 (broken_2 items (parts len items)) (order_broken len items))

-- clauses 7 to 10
abbrev pub contents_broken : ℕ → List Placed → Option Break
contents_broken len items =
    or_next 7 (broken_7 len (file_of (parts len items)))
    (or_next 8 (broken_8 (length (elements items)) (file_of (parts len items)))
    (or_next 9 (broken_9 len 0 (stream_offsets 0 (file_of (parts len items)).bodies) (filter (being is_segment) items))
    (or_next 10 (broken_10 (parts len items)) None)))

use Rattle.std.proofs.Common.{◌∷◌, [], ◌++◌, List, map, length, ap, ◌∙◌, arith, sym}
use Rattle.std.proofs.lemmas.List.FromFn.{map-range_with_len_more, length-map-range_with_len}
use Rattle.std.specs.List.{range_with_len}
use Rattle.mxf_partitions.specs.Reads.{entry_at}
use Rattle.mxf_partitions.specs.declared.random_index.PackEntry.{PackEntry}
use Rattle.mxf_partitions.proofs.index_reading.read_entries.Goals as goal

pub push_reserved-requires : goal.push_reserved-requires
push_reserved-requires c =
    let room = c.entries.invariant.1 in
    let below = c.entries-test.true in
    let full = c.entries.entries.ok in
    omega (arith, room, below, ap length c.entries.invariant.0, length-map-range_with_len (entry_at c.args.value.now) 0 c.entries.k)

pub entries-preserved : goal.entries-preserved
entries-preserved c = (
  c.push_reserved.ensures.items
      ∙ ap (λ (xs : List PackEntry). xs ++ c.read_pack_entry.result ∷ []) c.entries.invariant.0
      ∙ ap (λ (entry : PackEntry). map (entry_at c.args.value.now) (range_with_len 0 c.entries.k) ++ entry ∷ []) c.read_pack_entry.ensures
      ∙ sym (map-range_with_len_more (entry_at c.args.value.now) 0 c.entries.k c.entries.k (omega arith)),
  omega (arith, c.push_reserved.ensures.capacity, c.entries.invariant.1),
)

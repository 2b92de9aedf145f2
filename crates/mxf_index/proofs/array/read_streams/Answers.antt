use Rattle.std.proofs.Common.{ℕ, ◌+◌, List, [], ◌∷◌, ◌++◌, sym, ap, ap₂, ◌∙◌, arith}
use Rattle.std.proofs.lemmas.List.FromFn.{map-range_with_len_more}
use Rattle.mxf_index.specs.Reads.{stream_in}
use Rattle.mxf_index.proofs.array.read_streams.Goals as goal

pub push_reserved-requires : goal.push_reserved-requires
push_reserved-requires c = omega (arith, c.entries.invariant.len, c.entries.invariant.room, c.entries-test.true)

pub entries-preserved : goal.entries-preserved
entries-preserved c =
    let value = c.args.value.now in
    record {
      streams = c.push_reserved.ensures.items
          ∙ ap₂ (λ (xs : List ℕ) (x : ℕ). xs ++ x ∷ []) c.entries.invariant.streams c.stream_at.ensures
          ∙ sym (map-range_with_len_more (stream_in value) 0 c.entries.k c.entries.k (omega arith));
      len = c.push_reserved.ensures.len ∙ ap (λ (n : ℕ). n + 1) c.entries.invariant.len;
      room = omega (arith, c.entries.invariant.room, c.push_reserved.ensures.capacity);
    }

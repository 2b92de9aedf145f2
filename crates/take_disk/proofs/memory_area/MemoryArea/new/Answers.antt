use Rattle.std.proofs.Common.{rules, ◌≡◌, [], sym, ◌∙◌, ap, subst, arith}
use Rattle.take_disk.specs.Logs.{Content}
use Rattle.take_disk.specs.inner.Counts.{IsSettledSo}
use Rattle.take_disk.proofs.LogLemmas.{fresh_settled, fresh_replayed, fresh_counts}
use Rattle.take_disk.proofs.SoundLemmas.{fresh_sound}
use Rattle.take_disk.proofs.memory_area.MemoryArea.new.Goals as goal

pub invariant_of-result : goal.invariant_of-result
invariant_of-result c =
    let none : c.in_ok-with_capacity.field-0.items ≡ [] = search rules in
    let same : c.in_ok-to_vec.field-0.items ≡ c.extend_from_slice.new.self.items = search rules in
    let fresh_is = fresh_replayed c.in_ok-with_capacity-2.field-0.items c.in_ok-to_vec.field-0.items c.in_ok-with_capacity.field-0.items none in
    let counts = fresh_counts c.in_ok-with_capacity.field-0.items none in
    record {
      reads = ap (λ (k : Content). k.reads) fresh_is ∙ same;
      settled = subst (λ (k : Content). IsSettledSo k 0) (sym fresh_is) (fresh_settled c.in_ok-to_vec.field-0.items);
      sound = fresh_sound c.in_ok-with_capacity-2.field-0.items c.in_ok-to_vec.field-0.items c.in_ok-with_capacity.field-0.items none;
      pieced = omega (arith, counts.2);
      few = omega (arith, counts.0, counts.1, c.in_ok-with_capacity.ensures.len);
      recorded = omega (arith, counts.0);
      entry_room = omega (arith, c.in_ok-with_capacity.ensures.capacity);
      piece_room = omega (arith, c.in_ok-with_capacity-2.ensures.capacity);
      byte_room = omega (arith, c.in_ok-now.ensures.capacity, c.extend_from_slice.ensures.capacity);
    }

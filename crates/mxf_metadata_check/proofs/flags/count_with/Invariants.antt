use Rattle.std.proofs.Common.{◌≡◌, ◌≤◌, ◌+◌, ◌-◌, ◌*◌, ℕ, List, length, drop}
use Rattle.mxf_metadata_reader.specs.References.{ids_in}
use Rattle.mxf_metadata_check.specs.inner.Chain.{with_ids}
use Rattle.mxf_metadata_check.specs.inner.Firsts.{TellsFirsts, ids_within}
use Rattle.mxf_metadata_check.specs.inner.Held.{sets_held}
use Rattle.mxf_metadata_check.proofs.flags.count_with.Given as goal

abbrev pub invariant-loop-k : goal.invariant-loop-k
invariant-loop-k l = record {
  small : l.found ≤ l.k;
  same : (bytes : List ℕ) → TellsFirsts l.firsts (sets_held bytes l.sets)
      → l.found + length (with_ids (sets_held bytes l.sets) l.kind (ids_in (l.count - l.k) (drop (16 * l.k) l.ids)))
      ≡ length (with_ids (sets_held bytes l.sets) l.kind (ids_within l.ids));
}

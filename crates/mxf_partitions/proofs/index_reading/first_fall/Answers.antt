use Rattle.std.proofs.Common.{◌≡◌, ◌<◌, ◌-◌, inl, inr, ℕ, List, slice_index, subst, arith}
use Rattle.std.proofs.lemmas.Bool.{cases_lt}
use Rattle.std.proofs.Math.ListN.{get_or-map}
use Rattle.mxf_partitions.specs.Refusals.{places}
use Rattle.mxf_partitions.specs.declared.random_index.PackEntry.{PackEntry}
use Rattle.mxf_partitions.proofs.index_reading.first_fall.Goals as goal

pub entries-preserved : goal.entries-preserved
entries-preserved c = λ k some below. elim (cases_lt k c.entries.k) [
  | inl lt ↦ c.entries.invariant k some lt
  | inr ge ↦
      let entries : List PackEntry = c.args.entries.now in
      let none : PackEntry = record { body_sid = 0; at = 0 } in
      let same : c.entries.k ≡ k = omega arith in
      let place = λ (j : ℕ). get_or-map (λ (entry : PackEntry). entry.at) entries j none in
      let above : slice_index (places entries) (c.entries.k - 1) < slice_index (places entries) c.entries.k =
      omega (arith, place (c.entries.k - 1), place c.entries.k, c.if-entries-k.false) in
      subst (λ (j : ℕ). slice_index (places entries) (j - 1) < slice_index (places entries) j) same above
]

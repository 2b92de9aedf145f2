use Rattle.std.proofs.Common.{◌≡◌, ◌+◌, ◌*◌, ◌<◌, ◌≤◌, ℕ, slice_index, ap, sym, subst, inl, ⊎_elim, ◌∙◌, arith}
use Rattle.std.proofs.lemmas.Bool.{cases_lt}
use Rattle.prores_scan.specs.Scans.{place_of}
use Rattle.slice_levels.specs.Interleaved.{entry_of, weight_of}
use Rattle.slice_levels.specs.inner.Weighed.{IsWeighed}
use Rattle.slice_levels.specs.laws.EntryLaws.{entry_before, entry_apart, add_assoc_back}
use Rattle.slice_levels.proofs.WeighedLemmas.{weighed_as}
use Rattle.slice_levels.proofs.half_steps.put_weighed.Goals as goal

pub loop-k-preserved : goal.loop-k-preserved
loop-k-preserved c =
    let count = c.args.count in
    let first = c.args.first in
    let k = c.loop-k.k in
    let sizes = c.args.sizes.now in
    let negative = c.args.negative.now in
    let scan = c.args.weighing.now.scan in
    let weights = c.args.weighing.now.weights in
    let filled = c.min-filled.result in
    record {
      weighed = λ lane j lane_lt within j_lt. ⊎_elim
          (λ (lt : j < k). subst (λ (n : ℕ). IsWeighed sizes negative (8 * place_of scan j + lane) (weight_of scan weights j) n)
          (sym (c.put_place.ensures.kept (entry_of count j (first + lane)) (inl (entry_before count j k (first + lane) first lt within))))
          (c.loop-k.invariant.weighed lane j lane_lt within lt))
          (λ (ge : k ≤ j). let e : k ≡ j = omega arith in
          subst (λ (n : ℕ). IsWeighed sizes negative (8 * place_of scan n + lane) (weight_of scan weights n) (slice_index c.put_place.new.out (entry_of count n (first + lane)))) e
          (weighed_as sizes negative c.place-p.result (place_of scan k) (weight_of scan weights k) c.reciprocal.result.divisor (slice_index c.put_place.new.out (k * count + first + lane))
          (slice_index c.put_place.new.out (entry_of count k (first + lane))) lane c.place-p.ensures.entry (c.reciprocal.ensures.weight ∙ ap (slice_index weights) c.place-p.ensures.entry)
          (ap (slice_index c.put_place.new.out) (add_assoc_back (k * count) first lane))
          (c.put_place.ensures.placed lane (omega arith))))
          (cases_lt j k);
      kept = λ b j b_lt j_lt. c.put_place.ensures.kept (entry_of count j b) (entry_apart count j k b first filled b_lt (omega arith) c.requires.first) ∙ c.loop-k.invariant.kept b j b_lt j_lt;
    }

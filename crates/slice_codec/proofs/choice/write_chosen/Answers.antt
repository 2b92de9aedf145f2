use Rattle.std.proofs.Common.{rules, ◌≡◌, length, take, drop, arith, refl}
use Rattle.std.proofs.lemmas.List.{length-take-le}
use Rattle.prores_scan.specs.WeightsAndScales.{scale_of}
use Rattle.slice_codec.proofs.BoundLemmas.{none_pass}
use Rattle.slice_codec.proofs.ChoiceLemmas.{none_more, chosen_fits, chosen_last}
use Rattle.slice_codec.proofs.choice.write_chosen.Goals as goal

pub returns-in-Some-clause-chosen : goal.returns-in-Some-clause-chosen
returns-in-Some-clause-chosen c = λ setup count samples weighed.
    let rule = c.args.rule in
    let long : length c.write_slice.new.out ≡ rule.room = search rules in
    chosen_fits setup count samples rule.room rule.first rule.last c.loop-index.index c.in-Some.used c.write_slice.new.out (drop rule.room c.loop-index.out)
    (c.loop-index.invariant.least setup count samples weighed) (search rules) (omega (arith, c.loop-index-test.true))
    (c.in-Some.ensures.written setup count samples weighed) c.in-Some.ensures.within long

pub write_slice-requires-clause-least : goal.write_slice-requires-clause-least
write_slice-requires-clause-least c = c.at-bounds.ensures c.args.y.now c.args.cb.now c.args.cr.now c.first_possible-start.ensures.least

pub write_slice-requires-2-clause-least : goal.write_slice-requires-2-clause-least
write_slice-requires-2-clause-least c = c.none.ensures.least (scale_of c.args.rule.last) c.args.y.now c.args.cb.now c.args.cr.now

pub loop-index-init : goal.loop-index-init
loop-index-init c = record {
  least = λ setup count samples weighed.
      none_pass setup count samples c.args.rule.room c.args.rule.first c.first_possible-start.result.index c.args.y.now c.args.cb.now c.args.cr.now
      c.requires.some c.requires.y c.requires.cb c.requires.cr c.first_possible-start.ensures.passed weighed;
  from = search rules;
  long = search rules;
}

pub loop-index-preserved : goal.loop-index-preserved
loop-index-preserved c = record {
  least = λ setup count samples weighed.
      let rule = c.args.rule in
      let whole : length (take rule.room c.loop-index.out) ≡ rule.room = length-take-le rule.room c.loop-index.out (omega (arith, c.requires.room, c.loop-index.invariant.long)) in
      none_more setup count samples rule.room (length (take rule.room c.loop-index.out)) rule.first c.loop-index.index whole
      (c.loop-index.invariant.least setup count samples weighed) (c.in-None.ensures.refused setup count samples weighed refl);
  from = search rules;
  long = search rules;
}

pub returns-clause-chosen : goal.returns-clause-chosen
returns-clause-chosen c = λ setup count samples weighed.
    let rule = c.args.rule in
    chosen_last setup count samples rule.room rule.first rule.last (take c.in-Some-write_slice.used c.write_slice-2.new.out)
    (λ i least most. c.loop-index.invariant.least setup count samples weighed i least (omega (arith, most, c.loop-index-test.false))) c.requires.order
    (c.in-Some-write_slice.ensures.written setup count samples weighed)

use Rattle.std.proofs.Common.{◌∙◌, arith}
use Rattle.mxf_metadata_check.specs.declared.outline.Held.{Held}
use Rattle.mxf_metadata_check.specs.inner.Chain.{place_but}
use Rattle.mxf_metadata_check.specs.inner.Held.{set_held, sets_held}
use Rattle.std.proofs.Common.{get_or}
use Rattle.mxf_metadata_check.proofs.Numbered.{held_long, held_nth, longer, map_end, map_more}
use Rattle.mxf_op1a.specs.Metadata.{least}
use Rattle.mxf_metadata_check.proofs.chain.places_but.Goals as goal

pub loop-k-preserved : goal.loop-k-preserved
loop-k-preserved c = record {
  long = longer c.loop-k.found.items c.push.new.self.items _ c.loop-k.k c.in_ok-push.ensures.items c.loop-k.invariant.long;
  least = λ bytes test tells.
      let d : Held = record { at = 0; kind = 0; value_at = 0; value_len = 0 } in
      let nth = held_nth bytes c.args.sets.now c.loop-k.k d c.loop-k-test.true in
      c.in_ok-push.ensures.items
      ∙ map_more (λ s. least (place_but test s)) (sets_held bytes c.args.sets.now) c.loop-k.k (set_held bytes (get_or c.args.sets.now c.loop-k.k d)) c.loop-k.found.items _ nth
      (c.loop-k.invariant.least bytes test tells) (c.place_but.ensures bytes test (set_held bytes (get_or c.args.sets.now c.loop-k.k d)) tells nth);
}

pub returns-clause-least : goal.returns-clause-least
returns-clause-least c = λ bytes test tells.
    let past = c.loop-k-test.false in
    map_end (λ s. least (place_but test s)) (sets_held bytes c.args.sets.now) c.loop-k.k c.loop-k.found.items (omega (arith, held_long bytes c.args.sets.now, past))
    (c.loop-k.invariant.least bytes test tells)

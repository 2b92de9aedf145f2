use Rattle.std.proofs.Common.{ℕ, List, get_or, sym, ap, ◌∙◌, arith}
use Rattle.std.specs.List.{flat_map}
use Rattle.local_sets.specs.Reads.{items_in}
use Rattle.mxf_metadata_reader.specs.References.{first_value}
use Rattle.mxf_metadata_check.specs.declared.outline.Held.{Held}
use Rattle.mxf_metadata_check.specs.inner.Chain.{with_ids}
use Rattle.mxf_metadata_check.specs.inner.Held.{set_held, sets_held}
use Rattle.mxf_metadata_check.proofs.Numbered.{held_long, held_nth, longer, map_end, map_more}
use Rattle.mxf_op1a.specs.Metadata.{SetAt, ids_in_value, least, named}
use Rattle.mxf_metadata_check.proofs.chain.least_named.Goals as goal

pub loop-k-preserved : goal.loop-k-preserved
loop-k-preserved c = record {
  long = longer c.loop-k.found.items c.push.new.self.items _ c.loop-k.k c.in_ok-push.ensures.items c.loop-k.invariant.long;
  least = λ places has.
      let d : Held = record { at = 0; kind = 0; value_at = 0; value_len = 0 } in
      let bytes : List ℕ = c.args.bytes.now in
      let all : List SetAt = sets_held bytes c.args.sets.now in
      let k : ℕ = c.loop-k.k in
      let tag : ℕ = c.args.tag in
      let nth = held_nth bytes c.args.sets.now k d c.loop-k-test.true in
      let v = c.least_with.ensures bytes places c.requires.firsts has
      ∙ ap (λ (ids : List (List ℕ)). least (flat_map places (with_ids all c.args.kind ids)))
      (sym c.ids_at-ids.ensures ∙ ap (λ (xs : List ℕ). ids_in_value tag (first_value tag (items_in xs))) c.held_value.ensures) in
      c.in_ok-push.ensures.items
      ∙ map_more (λ s. least (flat_map places (named all tag c.args.kind s))) all k (set_held bytes (get_or c.args.sets.now k d)) c.loop-k.found.items _ nth
      (c.loop-k.invariant.least places has) v;
}

pub returns-clause-least : goal.returns-clause-least
returns-clause-least c = λ places has.
    let bytes : List ℕ = c.args.bytes.now in
    let all : List SetAt = sets_held bytes c.args.sets.now in
    let past = c.loop-k-test.false in
    map_end (λ s. least (flat_map places (named all c.args.tag c.args.kind s))) all c.loop-k.k c.loop-k.found.items (omega (arith, held_long bytes c.args.sets.now, past))
    (c.loop-k.invariant.least places has)

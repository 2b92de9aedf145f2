use Rattle.std.proofs.Common.{ℕ, List, get_or, ap, ◌∙◌, arith}
use Rattle.local_sets.specs.Reads.{items_in}
use Rattle.mxf_metadata_reader.specs.References.{first_value}
use Rattle.mxf_metadata_check.specs.declared.outline.Held.{Held}
use Rattle.mxf_metadata_check.specs.inner.Held.{set_held, sets_held}
use Rattle.mxf_metadata_check.proofs.Numbered.{held_long, held_nth, map_end, map_more}
use Rattle.mxf_metadata.specs.declared.labels.TheConstants.{PICTURE_KIND}
use Rattle.mxf_metadata.specs.declared.tags.TheConstants.{DATA_DEFINITION}
use Rattle.mxf_metadata_check.specs.inner.Chain.{is_picture}
use Rattle.mxf_op1a.specs.Metadata.{is_value}
use Rattle.mxf_metadata_check.proofs.flags.pictures.Goals as goal

pub loop-k-preserved : goal.loop-k-preserved
loop-k-preserved c =
    let d : Held = record { at = 0; kind = 0; value_at = 0; value_len = 0 } in
    let bytes : List ℕ = c.args.bytes.now in
    let k : ℕ = c.loop-k.k in
    let nth = held_nth bytes c.args.sets.now k d c.loop-k-test.true in
    let v = c.is_picture.ensures ∙ ap (λ (xs : List ℕ). is_value PICTURE_KIND (first_value DATA_DEFINITION (items_in xs))) c.held_value.ensures in
    c.in_ok-push.ensures.items
    ∙ map_more is_picture (sets_held bytes c.args.sets.now) k (set_held bytes (get_or c.args.sets.now k d)) c.loop-k.flags.items _ nth c.loop-k.invariant v

pub returns : goal.returns
returns c =
    let past = c.loop-k-test.false in
    map_end is_picture (sets_held c.args.bytes.now c.args.sets.now) c.loop-k.k c.loop-k.flags.items (omega (arith, held_long c.args.bytes.now c.args.sets.now, past))
    c.loop-k.invariant

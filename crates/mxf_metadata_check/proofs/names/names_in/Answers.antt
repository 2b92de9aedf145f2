use Rattle.std.proofs.Common.{sym, ap, ◌∙◌}
use Rattle.local_sets.specs.Sets.{RawItem}
use Rattle.mxf_metadata_check.specs.inner.Firsts.{ids_within}
use Rattle.mxf_metadata_check.proofs.Naming.{batch_named, none_within, not_named, one_named}
use Rattle.mxf_metadata_check.proofs.names.names_in.Goals as goal

pub returns-then-not-is_name : goal.returns-then-not-is_name
returns-then-not-is_name c =
    let item : RawItem = record { tag = c.args.tag; value = c.args.value.now } in
    not_named item (sym c.is_name.ensures ∙ c.if-not-is_name.true) ∙ sym none_within

pub returns-then-is_batch : goal.returns-then-is_batch
returns-then-is_batch c =
    let item : RawItem = record { tag = c.args.tag; value = c.args.value.now } in
    batch_named item (sym c.is_name.ensures ∙ c.if-not-is_name.false) (sym c.is_batch.ensures ∙ c.if-is_batch.true)
    ∙ ap ids_within (sym c.behind_head.ensures)

pub returns : goal.returns
returns c =
    let item : RawItem = record { tag = c.args.tag; value = c.args.value.now } in
    one_named item (sym c.is_name.ensures ∙ c.if-not-is_name.false) (sym c.is_batch.ensures ∙ c.if-is_batch.false)

use Rattle.std.proofs.Common.{sym, ◌∙◌}
use Rattle.mxf_reader.proofs.ItemLemmas.{size_is}
use Rattle.mxf_reader.proofs.NameLemmas.{marked_key, other_kind, other_size}
use Rattle.mxf_reader.proofs.names.names_parts.Goals as goal

pub returns-then-not-is_index-clause-named : goal.returns-then-not-is_index-clause-named
returns-then-not-is_index-clause-named g c =
    λ told is p mark. other_kind told.essence.reads c.args.m.now p c.args.parts.now mark (sym c.is_index.ensures ∙ c.if-not-is_index.true)

pub returns-then-not-holds_entries-clause-named : goal.returns-then-not-holds_entries-clause-named
returns-then-not-holds_entries-clause-named g c =
    λ told is p mark. other_size told.essence.reads c.args.m.now p c.args.parts.now mark (sym c.holds_entries.ensures ∙ c.if-not-holds_entries.true)

pub returns-clause-named : goal.returns-clause-named
returns-clause-named g c =
    λ told is p mark.
    c.names_each.ensures p.item (marked_key told.essence.reads c.args.m.now p mark (sym c.is_index.ensures ∙ c.if-not-is_index.false))
    (sym (c.deref.ensures.value ∙ c.in_ok-value.ensures.read told is p mark)) (size_is told.essence.reads c.args.m.now p mark)

use Rattle.std.proofs.Common.{◌≡◌, ℕ, Bool, List, Some, None, if◌then◌else◌, sym, ap, ap₂, ◌∙◌}
use Rattle.mxf_op1a.specs.Clauses.{entries_match, names_parts}
use Rattle.mxf_op1a.specs.Contents.{Placed, placed_from}
use Rattle.mxf_op1a.specs.Partitions.{Part, parts}
use Rattle.mxf_partitions.specs.Reads.{entries_of}
use Rattle.mxf_reader.proofs.ItemLemmas.{at_is}
use Rattle.mxf_reader.proofs.NameLemmas.{has_last, no_last}
use Rattle.mxf_reader.proofs.names.clause_2.Goals as goal

pub returns-in-None-clause-broken : goal.returns-in-None-clause-broken
returns-in-None-clause-broken g c =
    λ told is seen.
    let items : List Placed = placed_from 0 seen.outline.items in
    sym (ap (names_parts (parts c.args.file.now.len items)) (no_last items (sym seen.seen.last ∙ c.in-None.is)))

pub returns-in_ok-names-in-Some-clause-broken : goal.returns-in_ok-names-in-Some-clause-broken
returns-in_ok-names-in-Some-clause-broken g c =
    λ told is seen.
    let items : List Placed = placed_from 0 seen.outline.items in
    let all : List Part = parts c.args.file.now.len items in
    let stand = c.items_stand_at_their_places.ensures.stand told.essence.reads seen.outline in
    let last = has_last told.essence.reads items c.in-Some.m stand (sym seen.seen.last ∙ c.in-Some.is) in
    let names : c.in_ok-names-in-Some.names ≡ entries_match (entries_of last.p.item) all =
    c.in_ok-names-in-Some.ensures.named told is last.p last.mark all (c.deref.ensures.value ∙ seen.seen.parts) in
    c.unless.ensures
    ∙ ap₂ (λ (b : Bool) (at : ℕ). if b then None else Some at) names (at_is told.essence.reads c.in-Some.m last.p last.mark)
    ∙ sym (ap (names_parts all) last.last)

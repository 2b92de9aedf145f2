use Rattle.std.proofs.Common.{Some, sym, subst, ap, ◌∙◌}
use Rattle.local_sets.specs.Sets.{RawItem}
use Rattle.mxf_metadata.specs.declared.tags.Size.{Size}
use Rattle.mxf_metadata_reader.proofs.FoundLemmas.{IsNoBatch, batch_named, batch_sized, not_named, one_named, and_second}
use Rattle.mxf_metadata_reader.proofs.links.names_found.Goals as goal

pub returns-then-not-is_name : goal.returns-then-not-is_name
returns-then-not-is_name c = λ sets holds.
    let item : RawItem = record { tag = c.args.tag; value = c.args.value.now } in
    sym (not_named sets item (sym c.is_name.ensures ∙ c.if-not-is_name.true))

pub returns-in-None : goal.returns-in-None
returns-in-None c = λ sets holds.
    let item : RawItem = record { tag = c.args.tag; value = c.args.value.now } in
    c.is_found.ensures sets holds ∙ sym (one_named sets item (sym c.is_name.ensures ∙ c.if-not-is_name.false) (subst IsNoBatch c.in-None.ensures tt))

pub batch_found-requires : goal.batch_found-requires
batch_found-requires c =
    let size = sym c.in-Some.ensures ∙ ap (λ (s : Size). Some s) c.in-Batch.is in
    batch_sized c.args.tag c.args.value.now (and_second _ _ (sym c.is_name.ensures ∙ c.if-not-is_name.false)) size

pub returns-in-Batch : goal.returns-in-Batch
returns-in-Batch c = λ sets holds.
    let item : RawItem = record { tag = c.args.tag; value = c.args.value.now } in
    let size = sym c.in-Some.ensures ∙ ap (λ (s : Size). Some s) c.in-Batch.is in
    c.batch_found.ensures sets holds ∙ sym (batch_named sets item (sym c.is_name.ensures ∙ c.if-not-is_name.false) size)

pub returns-in-Fixed : goal.returns-in-Fixed
returns-in-Fixed c = λ sets holds.
    let item : RawItem = record { tag = c.args.tag; value = c.args.value.now } in
    let size = sym (sym c.in-Some.ensures ∙ ap (λ (s : Size). Some s) c.in-Fixed.is) in
    c.is_found-in-Fixed.ensures sets holds ∙ sym (one_named sets item (sym c.is_name.ensures ∙ c.if-not-is_name.false) (subst IsNoBatch size tt))

pub returns-in-Letters : goal.returns-in-Letters
returns-in-Letters c = λ sets holds.
    let item : RawItem = record { tag = c.args.tag; value = c.args.value.now } in
    let size = sym (sym c.in-Some.ensures ∙ ap (λ (s : Size). Some s) c.in-Letters.is) in
    c.is_found-in-Letters.ensures sets holds ∙ sym (one_named sets item (sym c.is_name.ensures ∙ c.if-not-is_name.false) (subst IsNoBatch size tt))

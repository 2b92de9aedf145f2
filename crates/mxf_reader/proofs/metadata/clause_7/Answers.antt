use Rattle.std.proofs.Common.{◌<◌, ◌+◌, ◌-◌, ◌≡◌, ℕ, List, length, sym, subst, ◌∙◌, arith}
use Rattle.mxf_op1a.specs.Contents.{placed_from}
use Rattle.mxf_op1a.specs.Partitions.{file_of, parts}
use Rattle.mxf_reader.specs.declared.file.SeenFile.{SeenFile}
use Rattle.mxf_reader.specs.declared.part.SeenPart.{SeenPart}
use Rattle.mxf_reader.specs.inner.Metadata.{IsPartOf}
use Rattle.mxf_reader.proofs.MetadataParts.{footer_is, header_is, no_footer, no_parts}
use Rattle.mxf_reader.proofs.MetadataRules.{wrong_both, wrong_none, wrong_one}
use Rattle.mxf_reader.proofs.metadata.clause_7.Goals as goal

pub returns-then-count-eq0-clause-broken : goal.returns-then-count-eq0-clause-broken
returns-then-count-eq0-clause-broken g c = λ told is seen.
    let none : length c.args.file.now.parts.items ≡ 0 = omega (arith, c.len-count.ensures, c.if-count-eq0.true) in
    wrong_none c.args.file.now.len (parts c.args.file.now.len (placed_from 0 seen.outline.items))
    (no_parts told.essence.reads c.args.file.now seen none)

pub returns-then-count-lt2-clause-broken : goal.returns-then-count-lt2-clause-broken
returns-then-count-lt2-clause-broken g c = λ told is seen.
    let bytes : List ℕ = told.essence.reads in
    let file : SeenFile = c.args.file.now in
    let long = c.len-count.ensures in
    let some : 0 < length file.parts.items = omega (arith, c.if-count-eq0.false, long) in
    let few : length file.parts.items < 2 = omega (arith, c.if-count-lt2.true, long) in
    let header = header_is bytes file seen c.index.result.now some in
    let kept = subst (λ (p : SeenPart). IsPartOf bytes file.stop p header.part) (sym c.index.ensures) header.kept in
    wrong_one file.len (file_of (parts file.len (placed_from 0 seen.outline.items))) header.part c.in_ok-header.header header.all_are
    (no_footer bytes file seen few) (c.in_ok-header.ensures.wrong told is header.part kept)

pub returns-clause-broken : goal.returns-clause-broken
returns-clause-broken g c = λ told is seen.
    let bytes : List ℕ = told.essence.reads in
    let file : SeenFile = c.args.file.now in
    let long = c.len-count.ensures in
    let two = c.if-count-lt2.false in
    let some : 0 < length file.parts.items = omega (arith, two, long) in
    let last : c.len-count.result - 1 + 1 ≡ length file.parts.items = omega (arith, two, long) in
    let behind : 0 < c.len-count.result - 1 = omega (arith, two) in
    let header = header_is bytes file seen c.index.result.now some in
    let footer = footer_is bytes file seen c.index-2.result.now (c.len-count.result - 1) last behind in
    let first = subst (λ (p : SeenPart). IsPartOf bytes file.stop p header.part) (sym c.index.ensures) header.kept in
    let second = subst (λ (p : SeenPart). IsPartOf bytes file.stop p footer.part) (sym c.index-2.ensures) footer.kept in
    wrong_both file.len (file_of (parts file.len (placed_from 0 seen.outline.items))) header.part footer.part
    c.in_ok-header.header c.in_ok-footer.footer c.lesser.result header.all_are footer.all_are
    (c.in_ok-header.ensures.wrong told is header.part first)
    (c.in_ok-footer.ensures.wrong told (c.in_ok-header.ensures.stays.same ∙ is) footer.part second)
    c.lesser.ensures

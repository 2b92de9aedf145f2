use Rattle.std.proofs.Common.{◌<◌, ◌+◌, ◌-◌, ◌≡◌, ℕ, Option, Some, length, sym, subst, arith}
use Rattle.std.proofs.lemmas.Result.{IfOk-weaker}
use Rattle.byteorder.specs.Endian.{big_bytes}
use Rattle.take_disk.specs.Held.{Disk}
use Rattle.mxf_op1a.specs.Clauses.{broken_8, first_place}
use Rattle.mxf_op1a.specs.Contents.{placed_from}
use Rattle.mxf_op1a.specs.Metadata.{lasts, places_but, sets_of}
use Rattle.mxf_op1a.specs.Partitions.{Part, elements, file_of, parts}
use Rattle.mxf_reader.specs.declared.file.SeenFile.{SeenFile}
use Rattle.mxf_reader.specs.declared.part.SeenPart.{SeenPart}
use Rattle.mxf_reader.specs.inner.Files.{IsSeen}
use Rattle.mxf_reader.specs.inner.Metadata.{IsPartOf}
use Rattle.mxf_reader.proofs.MetadataParts.{footer_is, no_footer}
use Rattle.mxf_reader.proofs.MetadataRules.{elements_counted, lasting_none, lasting_one}
use Rattle.mxf_reader.proofs.metadata.clause_8.Goals as goal

pub returns-then-count-lt2-clause-broken : goal.returns-then-count-lt2-clause-broken
returns-then-count-lt2-clause-broken g c = λ told is seen.
    let file : SeenFile = c.args.file.now in
    let few : length file.parts.items < 2 = omega (arith, c.if-count-lt2.true, c.len-count.ensures) in
    lasting_none (length (elements (placed_from 0 seen.outline.items))) (file_of (parts file.len (placed_from 0 seen.outline.items)))
    (no_footer told.essence.reads file seen few)

pub returns-clause-broken : goal.returns-clause-broken
returns-clause-broken g c =
    let file : SeenFile = c.args.file.now in
    IfOk-weaker c.other_in.result
    (λ (place : Option ℕ). (told : Disk) → g.D.TakeDisk.told c.args.disk.now ≡ Some told → (whole : Part)
    → IsPartOf told.essence.reads file.stop c.index.result.now whole
    → place ≡ first_place (places_but (lasts (big_bytes 8 c.len.result)) (sets_of whole)))
    (λ (place : Option ℕ). (told : Disk) → g.D.TakeDisk.told c.args.disk.now ≡ Some told → (seen : IsSeen told.essence.reads file)
    → place ≡ broken_8 (length (elements (placed_from 0 seen.outline.items))) (file_of (parts file.len (placed_from 0 seen.outline.items))))
    (λ place so told is seen.
    let two = c.if-count-lt2.false in
    let long = c.len-count.ensures in
    let last : c.len-count.result - 1 + 1 ≡ length file.parts.items = omega (arith, two, long) in
    let behind : 0 < c.len-count.result - 1 = omega (arith, two) in
    let footer = footer_is told.essence.reads file seen c.index.result.now (c.len-count.result - 1) last behind in
    let kept = subst (λ (p : SeenPart). IsPartOf told.essence.reads file.stop p footer.part) (sym c.index.ensures) footer.kept in
    let all = elements_counted file (placed_from 0 seen.outline.items) seen.seen in
    let counted : c.len.result ≡ length (elements (placed_from 0 seen.outline.items)) = omega (arith, c.len.ensures, all) in
    lasting_one c.len.result (length (elements (placed_from 0 seen.outline.items))) (file_of (parts file.len (placed_from 0 seen.outline.items)))
    footer.part place footer.all_are
    counted
    (so told is footer.part kept))
    c.other_in.ensures.other

use Rattle.std.proofs.Common.{◌<◌, ◌≡◌, ℕ, List, Some, length, sym, subst, arith}
use Rattle.std.proofs.lemmas.Result.{IfOk-weaker}
use Rattle.std.specs.List.{flat_map}
use Rattle.take_disk.specs.Held.{Disk}
use Rattle.mxf_metadata_check.specs.Metadata.{take_id_in}
use Rattle.mxf_op1a.specs.Contents.{placed_from}
use Rattle.mxf_op1a.specs.Metadata.{sets_of}
use Rattle.mxf_op1a.specs.Partitions.{Part, file_of, parts}
use Rattle.mxf_reader.specs.declared.file.SeenFile.{SeenFile}
use Rattle.mxf_reader.specs.declared.part.SeenPart.{SeenPart}
use Rattle.mxf_reader.specs.inner.Files.{IsSeen}
use Rattle.mxf_reader.specs.inner.Metadata.{IsPartOf}
use Rattle.mxf_reader.proofs.MetadataParts.{header_is, no_parts}
use Rattle.mxf_reader.proofs.MetadataRules.{named_none, named_one}
use Rattle.mxf_reader.proofs.metadata.read_take_id.Goals as goal

pub returns-then-len-eq0-clause-id : goal.returns-then-len-eq0-clause-id
returns-then-len-eq0-clause-id g c = λ told is seen.
    let none : length c.args.file.now.parts.items ≡ 0 = omega (arith, c.len.ensures, c.if-len-eq0.true) in
    named_none (parts c.args.file.now.len (placed_from 0 seen.outline.items))
    (no_parts told.essence.reads c.args.file.now seen none)

pub returns-clause-id : goal.returns-clause-id
returns-clause-id g c =
    let file : SeenFile = c.args.file.now in
    IfOk-weaker c.id_in.result
    (λ (id : List ℕ). (told : Disk) → g.D.TakeDisk.told c.args.disk.now ≡ Some told → (whole : Part)
    → IsPartOf told.essence.reads file.stop c.index.result.now whole → id ≡ take_id_in (sets_of whole))
    (λ (id : List ℕ). (told : Disk) → g.D.TakeDisk.told c.args.disk.now ≡ Some told → (seen : IsSeen told.essence.reads file)
    → id ≡ take_id_in (flat_map sets_of (file_of (parts file.len (placed_from 0 seen.outline.items))).header))
    (λ id so told is seen.
    let some : 0 < length file.parts.items = omega (arith, c.if-len-eq0.false, c.len.ensures) in
    let header = header_is told.essence.reads file seen c.index.result.now some in
    let kept = subst (λ (p : SeenPart). IsPartOf told.essence.reads file.stop p header.part) (sym c.index.ensures) header.kept in
    named_one (file_of (parts file.len (placed_from 0 seen.outline.items))) header.part id header.all_are (so told is header.part kept))
    c.id_in.ensures.id

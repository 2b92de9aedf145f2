use Rattle.std.proofs.Common.{◌≡◌, ◌-◌, ℕ, Some, take, drop, ap, ◌∙◌}
use Rattle.std.proofs.lemmas.Result.{IfOk-weaker}
use Rattle.std.proofs.Common.{Vec, Global}
use Rattle.take_disk.specs.Held.{Disk}
use Rattle.mxf_op1a.specs.Partitions.{Part}
use Rattle.mxf_reader.specs.inner.Metadata.{HoldsMetadata, IsPartOf}
use Rattle.mxf_reader.proofs.MetadataHeld.{metadata_held}
use Rattle.mxf_reader.proofs.metadata.read_metadata.Goals as goal

pub returns-clause-held : goal.returns-clause-held
returns-clause-held g c =
    IfOk-weaker c.read_span.result
    (λ (bytes : Vec ℕ Global). (told : Disk) → g.D.TakeDisk.told c.args.disk.now ≡ Some told
    → bytes.items ≡ take (c.metadata_end-end.result - c.args.first) (drop c.args.first told.essence.reads))
    (λ (bytes : Vec ℕ Global). (told : Disk) → g.D.TakeDisk.told c.args.disk.now ≡ Some told → (whole : Part)
    → IsPartOf told.essence.reads c.args.stop c.args.part.now whole → HoldsMetadata bytes.items c.args.first whole)
    (λ bytes so told is whole part.
    metadata_held told.essence.reads bytes.items c.args.stop c.args.first c.args.part.now whole part c.requires.primer
    (so told is ∙ ap (λ (end : ℕ). take (end - c.args.first) (drop c.args.first told.essence.reads)) c.metadata_end-end.ensures))
    c.read_span.ensures.read

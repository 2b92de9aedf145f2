use Rattle.std.proofs.Common.{◌≡◌, ◌∙◌, take, length, arith}
use Rattle.std.proofs.lemmas.List.{take_all}
use Rattle.rec_bytes.specs.Views.{view}
use Rattle.commit_sidecar.specs.declared.head.TheConstants.{MAGIC}
use Rattle.commit_sidecar.proofs.HeadLemmas.{begins_head}
use Rattle.commit_sidecar.proofs.head.read_head.Goals as goal

pub returns-in-Ok-clause-head : goal.returns-in-Ok-clause-head
returns-in-Ok-clause-head c =
    let bytes = c.args.bytes.now in
    let magic : take 8 bytes ≡ MAGIC = c.other_magic.ensures.same c.in_default.is ∙ take_all (length bytes) MAGIC (omega (arith, c.if-bytes-lt-HEAD_LEN.false)) in
    begins_head bytes c.copy_from_slice.new.self (view c.in-Ok.config) c.if-bytes-lt-HEAD_LEN.false magic c.copy_from_slice.ensures.after c.in-Ok.ensures.spelled

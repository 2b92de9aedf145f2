use Rattle.std.proofs.lemmas.Result.{err_from_is_err_and}
use Rattle.slice_codec.specs.Views.{as_setup}
use Rattle.slice_codec.proofs.decoder.decode_parts.Goals as goal

pub returns-in_err-check_head-clause-refused : goal.returns-in_err-check_head-clause-refused
returns-in_err-check_head-clause-refused c =
    let p = err_from_is_err_and c.from_residual.result c.from_residual.ensures.1 in
    rw (p.1, p.2) (c.in_err-check_head.ensures.refused (as_setup c.args.setup.now) c.args.count)

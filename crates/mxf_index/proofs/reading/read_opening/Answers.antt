use Rattle.std.proofs.Common.{ap, arith}
use Rattle.mxf_index.specs.inner.Items.{dues_len}
use Rattle.mxf_index.proofs.DueLemmas.{opening_len}
use Rattle.mxf_index.proofs.reading.read_opening.Goals as goal

pub returns-clause-within : goal.returns-clause-within
returns-clause-within c =
    omega (arith, c.in_ok-read_dues.ensures.within, c.in_ok-read_dues.ensures.behind, ap dues_len c.opening_dues.ensures, opening_len)

use Rattle.std.specs.Prelude.{⊤}
use Rattle.std.proofs.lemmas.Result.{MatchResult-weaker}
use Rattle.raw_feed.proofs.UnitLemmas.{ItemRead-broken}
use Rattle.raw_feed.proofs.unit.read_unit.Goals as goal

pub returns-clause-broken : goal.returns-clause-broken
returns-clause-broken g c =
    MatchResult-weaker c.read_bytes.result {P = λ x. ⊤} {P' = λ x. ⊤} c.read_bytes.ensures.broken (λ x h. h)
    (λ f b config. ItemRead-broken config c.args.at c.in_ok-len.len _ _ _ f c.in_ok-len.ensures.spelled b)

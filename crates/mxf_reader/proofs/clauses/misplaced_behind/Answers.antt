use Rattle.std.proofs.Common.{◌≡◌, ◌-◌, length, get_or, ap₂, ◌∙◌, arith}
use Rattle.mxf_reader.specs.inner.Parts.{first_of}
use Rattle.mxf_reader.specs.inner.Rules.{last_element}
use Rattle.mxf_reader.proofs.ElementLemmas.{behind_none, last_at}
use Rattle.mxf_reader.proofs.RuleLemmas.{nobody}
use Rattle.mxf_reader.proofs.clauses.misplaced_behind.Goals as goal

pub returns-then-rest-eq0 : goal.returns-then-rest-eq0
returns-then-rest-eq0 c = behind_none c.args.len c.args.rest.now c.if-rest-eq0.true

pub returns : goal.returns
returns c =
    let some = c.if-rest-eq0.false in
    let footer : (get_or c.args.rest.now (length c.args.rest.now - 1) nobody).element ≡ last_element c.args.rest.now =
    last_at c.args.rest.now (omega arith) in
    c.first_of.ensures ∙ ap₂ first_of c.first_other.ensures (c.first_of-lacking.ensures ∙ ap₂ first_of footer c.lack_seen.ensures)

use Rattle.std.proofs.Common.{◌≡◌, ◌++◌, ◌∷◌, ◌∙◌, sym, ap, arith}
use Rattle.std.proofs.lemmas.Str.Pattern.{strip_prefix_char}
use Rattle.clap.specs.Walk.{Text}
use Rattle.ingest_run.proofs.PathLemmas.{attached_none, attached_rest}
use Rattle.ingest_run.proofs.paths.attached.Goals as goal

pub returns-in_default : goal.returns-in_default
returns-in_default c = sym (attached_none c.args.option.now c.args.word.now (λ value e. c.in_default.ensures.cases (61 ∷ value) e))

pub returns : goal.returns
returns c =
    let stripped = c.in-Some.ensures.cases in
    let whole : c.args.word.now ≡ c.args.option.now ++ c.in-Some.rest.now = stripped.1.1 ∙ ap (λ (t : Text). c.args.option.now ++ t) (sym stripped.2) in
    attached_rest c.args.option.now c.args.word.now c.in-Some.rest.now c.strip_prefix-2.result whole
    (strip_prefix_char 61 c.in-Some.rest.now c.strip_prefix-2.result c.strip_prefix-2.ensures.cases (omega arith))

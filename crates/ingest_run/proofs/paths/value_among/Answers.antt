use Rattle.std.proofs.Common.{rules, ◌≡◌, ◌∙◌, true, false, Some, None, sym, string_bytes}
use Rattle.std.specs.Str.{bytes_eq}
use Rattle.ingest_run.specs.Words.{attached as attached_of}
use Rattle.ingest_run.proofs.PathLemmas.{step_at, step_here, step_later, step_none}
use Rattle.ingest_run.proofs.paths.value_among.Goals as goal

pub returns-then-eq : goal.returns-then-eq
returns-then-eq c =
    let is : bytes_eq (string_bytes c.in-Some.word.now) c.args.option.now ≡ true = search rules in
    c.first_of.ensures ∙ (sym (step_here c.args.option.now c.words.left.now c.in-Some.rest.now c.in-Some.word.now c.in-Some.ensures.cases.0 is) ∙ c.words.invariant.same)

pub returns-in-Some-attached : goal.returns-in-Some-attached
returns-in-Some-attached c =
    let other : bytes_eq (string_bytes c.in-Some.word.now) c.args.option.now ≡ false = search rules in
    let at : attached_of c.args.option.now (string_bytes c.in-Some.word.now) ≡ Some c.in-Some-attached.value.now = search rules in
    sym (step_at c.args.option.now c.in-Some-attached.value.now c.words.left.now c.in-Some.rest.now c.in-Some.word.now c.in-Some.ensures.cases.0 other at) ∙ c.words.invariant.same

pub words-preserved : goal.words-preserved
words-preserved c =
    let other : bytes_eq (string_bytes c.in-Some.word.now) c.args.option.now ≡ false = search rules in
    let none : attached_of c.args.option.now (string_bytes c.in-Some.word.now) ≡ None = search rules in
    record {
      same = sym (step_later c.args.option.now c.words.left.now c.in-Some.rest.now c.in-Some.word.now c.in-Some.ensures.cases.0 other none) ∙ c.words.invariant.same;
    }

pub returns : goal.returns
returns c = sym (step_none c.args.option.now c.words.left.now c.in_default.ensures.cases) ∙ c.words.invariant.same

use Rattle.std.proofs.Common.{◌∙◌, sym, codes, arith}
use Rattle.std.specs.Str.Parse.{ParsesUnsigned, ExplainsUnsignedError, HasUnsignedDigitsIfOk}
use Rattle.ingest_run.specs.Words.{texts}
use Rattle.clap.specs.Words.{app_of}
use Rattle.ingest_run.proofs.OptionLemmas.{none_some, number_given, simple_of, some_least, some_most}
use Rattle.ingest_run.proofs.words.take_workers.Goals as goal

pub returns-in-Some-clause-number : goal.returns-in-Some-clause-number
returns-in-Some-clause-number c =
    let got = number_given _ (λ u r. ParsesUnsigned 8 10 u r × ExplainsUnsignedError 10 u r × HasUnsignedDigitsIfOk u r) (codes "workers") 8 1 64
    (texts c.args.words.now) c.args.command c.in-Ok.matches c.get_one.result (λ u x g. g.0) (omega arith) (simple_of (app_of c.args.command) c.requires.simple)
    c.requires.asks c.in-Ok.ensures.parsed c.in-Ok.ensures.matches c.get_one.ensures.value in
    got.given ∙ (sym got.read ∙ c.in-Some.is)

pub returns-in-Some-clause-some : goal.returns-in-Some-clause-some
returns-in-Some-clause-some c =
    let got = number_given _ (λ u r. ParsesUnsigned 8 10 u r × ExplainsUnsignedError 10 u r × HasUnsignedDigitsIfOk u r) (codes "workers") 8 1 64
    (texts c.args.words.now) c.args.command c.in-Ok.matches c.get_one.result (λ u x g. g.0) (omega arith) (simple_of (app_of c.args.command) c.requires.simple)
    c.requires.asks c.in-Ok.ensures.parsed c.in-Ok.ensures.matches c.get_one.ensures.value in
    some_least c.get_one.result got.number c.in-Some.workers 1 got.read c.in-Some.is got.least

pub returns-in-Some-clause-few : goal.returns-in-Some-clause-few
returns-in-Some-clause-few c =
    let got = number_given _ (λ u r. ParsesUnsigned 8 10 u r × ExplainsUnsignedError 10 u r × HasUnsignedDigitsIfOk u r) (codes "workers") 8 1 64
    (texts c.args.words.now) c.args.command c.in-Ok.matches c.get_one.result (λ u x g. g.0) (omega arith) (simple_of (app_of c.args.command) c.requires.simple)
    c.requires.asks c.in-Ok.ensures.parsed c.in-Ok.ensures.matches c.get_one.ensures.value in
    some_most c.get_one.result got.number c.in-Some.workers 64 got.read c.in-Some.is got.most

pub returns-in-Ok-clause-refused : goal.returns-in-Ok-clause-refused
returns-in-Ok-clause-refused c = λ _ _.
    let got = number_given _ (λ u r. ParsesUnsigned 8 10 u r × ExplainsUnsignedError 10 u r × HasUnsignedDigitsIfOk u r) (codes "workers") 8 1 64
    (texts c.args.words.now) c.args.command c.in-Ok.matches c.get_one.result (λ u x g. g.0) (omega arith) (simple_of (app_of c.args.command) c.requires.simple)
    c.requires.asks c.in-Ok.ensures.parsed c.in-Ok.ensures.matches c.get_one.ensures.value in
    absurd (none_some c.get_one.result got.number c.in-None.is got.read)

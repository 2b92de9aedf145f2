use Rattle.std.proofs.Common.{ap, ap₂, codes, pos, refl, ◌≡◌, ◌∙◌}
use Rattle.std.specs.List.{slice_index_or}
use Rattle.clap.proofs.CallerReads.{required_reads}
use Rattle.clap.specs.Facts.{args_of, groups_of}
use Rattle.clap.specs.Simple.{app_of_fields}
use Rattle.clap.specs.Words.{app_of, with_rule, new_app}
use Rattle.clap.specs.declared.builder.value_parser.ValueParser.TheVariants as vp
use Rattle.ingest_run.specs.Words.{without_help}
use Rattle.ingest_run.proofs.OptionLemmas.{has_name, holds_number, not_auto, number_named}
use Rattle.ingest_run.proofs.options.frame_command.Goals as goal

pub returns-in-Ok-arg-clause-shape : goal.returns-in-Ok-arg-clause-shape
returns-in-Ok-arg-clause-shape c =
    let helpless : app_of c.disable_help_flag-command.result ≡ without_help (new_app (codes "frame")) = ap app_of_fields c.disable_help_flag-command.ensures ∙ ap without_help c.new.ensures.app in
    let first = c.in-Ok.ensures.shape c.dir_option-dir.ensures.option.here ∙ ap₂ with_rule helpless c.dir_option-dir.ensures.rule in
    c.in-Ok-arg.ensures.shape c.number_option-number.ensures.option.here ∙ ap₂ with_rule first c.number_option-number.ensures.rule

pub returns-in-Ok-arg-clause-number : goal.returns-in-Ok-arg-clause-number
returns-in-Ok-arg-clause-number c = λ m parsed.
    let one = c.in-Ok.ensures in
    let two = c.in-Ok-arg.ensures in
    let folder = c.dir_option-dir.ensures.option in
    let number = c.number_option-number.ensures.option in
    let holds = holds_number c.disable_help_flag-command.result c.in-Ok.with_dir c.in-Ok-arg.command c.dir_option-dir.result c.number_option-number.result
    one two (rw (c.disable_help_flag-command.ensures, args_of) c.new.ensures.empty.0) (rw (c.disable_help_flag-command.ensures, groups_of) c.new.ensures.empty.1)
    folder number c.number_option-number.ensures.takes in
    let option = slice_index_or (args_of c.in-Ok-arg.command) 1 holds.option in
    number_named m option holds.named (required_reads c.in-Ok-arg.command m parsed holds.plain
    (rw (two.globals, one.globals, c.disable_help_flag-command.ensures, c.new.ensures.local, folder.here, number.here) refl)
    (rw (two.negates, one.negates, c.disable_help_flag-command.ensures) c.new.ensures.negates) 1 holds.option holds.more
    holds.required holds.action holds.whole holds.least holds.only (has_name option holds.named) (not_auto option holds.named)
    (vp.Signed (pos 0) (pos 4294967295)) holds.parser)

use Rattle.std.proofs.Common.{ap, ap₂, codes, ◌≡◌, ◌∙◌}
use Rattle.clap.specs.Simple.{app_of_fields}
use Rattle.clap.specs.Words.{app_of, with_rule, new_app}
use Rattle.ingest_run.specs.Words.{without_help}
use Rattle.ingest_run.proofs.options.recover_command.Goals as goal

pub returns-in-Ok : goal.returns-in-Ok
returns-in-Ok c =
    let helpless : app_of c.disable_help_flag-command.result ≡ without_help (new_app (codes "recover")) = ap app_of_fields c.disable_help_flag-command.ensures ∙ ap without_help c.new.ensures.app in
    c.in-Ok.ensures.shape c.dir_option-dir.ensures.option.here ∙ ap₂ with_rule helpless c.dir_option-dir.ensures.rule

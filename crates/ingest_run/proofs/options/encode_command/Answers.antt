use Rattle.std.proofs.Common.{ap, ap₂, codes, refl, [], ◌≡◌, ◌∙◌}
use Rattle.clap.specs.Facts.{args_of, groups_of}
use Rattle.clap.specs.Simple.{app_of_fields}
use Rattle.clap.specs.Words.{app_of, with_rule, new_app}
use Rattle.ingest_run.specs.Words.{without_help}
use Rattle.ingest_run.proofs.OptionLemmas.{asks_one, differ}
use Rattle.ingest_run.proofs.options.encode_command.Goals as goal

pub returns-in-Ok-clause-shape : goal.returns-in-Ok-clause-shape
returns-in-Ok-clause-shape c =
    let helpless : app_of c.disable_help_flag-command.result ≡ without_help (new_app (codes "encode")) = ap app_of_fields c.disable_help_flag-command.ensures ∙ ap without_help c.new.ensures.app in
    c.in-Ok.ensures.shape c.workers_option-workers.ensures.option.here ∙ ap₂ with_rule helpless c.workers_option-workers.ensures.rule

pub returns-in-Ok-clause-workers : goal.returns-in-Ok-clause-workers
returns-in-Ok-clause-workers c = λ m parsed.
    asks_one c.disable_help_flag-command.result c.in-Ok.command c.workers_option-workers.result (codes "workers") 1 64 c.in-Ok.ensures
    (rw (c.disable_help_flag-command.ensures, args_of) c.new.ensures.empty.0) (rw (c.disable_help_flag-command.ensures, groups_of) c.new.ensures.empty.1)
    (rw c.disable_help_flag-command.ensures c.new.ensures.local) (rw c.disable_help_flag-command.ensures c.new.ensures.negates)
    c.workers_option-workers.ensures.option c.workers_option-workers.ensures.takes
    (differ (codes "workers") [] refl) (differ (codes "workers") (codes "help") refl) (differ (codes "workers") (codes "version") refl) m parsed

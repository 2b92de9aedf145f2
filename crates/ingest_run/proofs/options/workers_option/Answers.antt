use Rattle.std.proofs.Common.{rules, ap, Some, codes, true, ◌≡◌, ◌∙◌, pos}
use Rattle.clap.specs.Words.{Rule, rule_of, new_rule}
use Rattle.clap.specs.declared.builder.value_parser.ValueParser.TheVariants as vp
use Rattle.clap.specs.declared.builder.ArgAction.TheVariants.{Set}
use Rattle.ingest_run.proofs.options.workers_option.Goals as goal

-- the option before its values were told
abbrev plain : Rule
plain = record (new_rule (codes "workers")) { long = Some (codes "workers"); action = Some Set; required = true }

pub returns-clause-rule : goal.returns-clause-rule
returns-clause-rule c =
    let first : rule_of c.action.result ≡ plain = search rules in
    let parser_is : c.range.result ≡ vp.Signed (pos 1) (pos 64) = rw c.value_parser.ensures at c.range.ensures in
    let given = c.value_parser-2.ensures.given in
    let others = c.value_parser-2.ensures.others in
    let value_parser : c.value_parser-2.result.value_parser ≡ Some (vp.Signed (pos 1) (pos 64)) = given.1 ∙ ap Some (given.2 ∙ parser_is) in
    ap rule_of others ∙ (ap (λ (r : Rule). record r { parser = c.value_parser-2.result.value_parser }) first ∙ ap (λ p. record plain { parser = p }) value_parser)

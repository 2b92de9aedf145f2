use Rattle.std.proofs.Common.{◌++◌, ◌∙◌, ap, ℕ, List, length, arith}
use Rattle.std.proofs.lemmas.List.{length-append}
use Rattle.std.specs.Fmt.InlineText.{inline_text}
use Rattle.take_commands.proofs.LineLemmas.{cut_whole}
use Rattle.take_commands.proofs.line.joined.Goals as goal

pub returns-clause-text : goal.returns-clause-text
returns-clause-text c =
    c.and_str.ensures.within c.requires.room ∙ ap (λ (xs : List ℕ). inline_text c.args.text ++ xs) (cut_whole 40 c.args.part.now c.requires.short)

pub returns-clause-most : goal.returns-clause-most
returns-clause-most c =
    let text = c.and_str.ensures.within c.requires.room ∙ ap (λ (xs : List ℕ). inline_text c.args.text ++ xs) (cut_whole 40 c.args.part.now c.requires.short) in
    let long = ap (length {A = ℕ}) text in
    let short = c.requires.short in
    omega (arith, length-append (inline_text c.args.text) c.args.part.now)

use Rattle.std.proofs.Common.{◌≡◌, ◌==◌, true, false, length, Some, sym, ap, subst, ◌∙◌}
use Rattle.std.proofs.lemmas.Bool.{eq-eqb, ne_eqb}
use Rattle.std.proofs.lemmas.Result.{err_from_is_err_and}
use Rattle.frame_syntax.specs.Pictures.{picture_of}
use Rattle.frame_syntax.specs.Rules.{first_broken, rules_from, first_picture, is_sized}
use Rattle.frame_syntax.specs.declared.picture_head.PictureHead.{PictureHead}
use Rattle.frame_syntax.proofs.RuleLemmas.{first_short, only_sized, second_short, both_sized}
use Rattle.frame_syntax.proofs.frame.read_pictures.Goals as goal

pub returns-in_err-first-clause-refused : goal.returns-in_err-first-clause-refused
unfolding picture_of
returns-in_err-first-clause-refused c =
    let p = err_from_is_err_and c.from_residual.result c.from_residual.ensures.1 in
    let e = first_short c.args.bytes.now c.args.head (first_picture c.args.bytes.now c.args.head) c.in_err-first.ensures.short in
    rw (p.1, p.2) (e ∙ ap Some (sym c.in_err-first.ensures.refused))

pub returns-then-head-eq0-clause-kept : goal.returns-then-head-eq0-clause-kept
returns-then-head-eq0-clause-kept c =
    let one : (c.args.head.interlace == 0) ≡ true = eq-eqb c.args.head.interlace 0 c.if-head-eq0.true in
    ap (λ (p : PictureHead). first_broken (rules_from c.args.bytes.now c.args.head p)) (sym c.in_ok-first.ensures.read)
    ∙ only_sized c.args.bytes.now c.args.head c.in_ok-first.first one c.in_ok-first.ensures.sized

pub returns-in_err-second-clause-refused : goal.returns-in_err-second-clause-refused
unfolding picture_of
returns-in_err-second-clause-refused c =
    let p = err_from_is_err_and c.from_residual-in_err-second.result c.from_residual-in_err-second.ensures.1 in
    let two : (c.args.head.interlace == 0) ≡ false = ne_eqb c.args.head.interlace 0 c.if-head-eq0.false in
    let e = ap (λ (p : PictureHead). first_broken (rules_from c.args.bytes.now c.args.head p)) (sym c.in_ok-first.ensures.read)
    ∙ second_short c.args.bytes.now c.args.head c.in_ok-first.first two c.in_ok-first.ensures.sized c.in_err-second.ensures.short in
    rw (p.1, p.2) (e ∙ ap Some (sym c.in_err-second.ensures.refused))

pub returns-clause-kept : goal.returns-clause-kept
returns-clause-kept c =
    let two : (c.args.head.interlace == 0) ≡ false = ne_eqb c.args.head.interlace 0 c.if-head-eq0.false in
    ap (λ (p : PictureHead). first_broken (rules_from c.args.bytes.now c.args.head p)) (sym c.in_ok-first.ensures.read)
    ∙ both_sized c.args.bytes.now c.args.head c.in_ok-first.first two c.in_ok-first.ensures.sized
    (subst (λ (p : PictureHead). is_sized (length c.args.bytes.now) p ≡ true) c.in_ok-second.ensures.read c.in_ok-second.ensures.sized)

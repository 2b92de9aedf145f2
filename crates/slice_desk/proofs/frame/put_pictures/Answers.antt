use Rattle.std.proofs.Common.{◌≡◌, sym, ap, subst, ◌∙◌}
use Rattle.rec_bytes.specs.Configuration.{Fields}
use Rattle.slice_desk.proofs.SlicesLemmas.{one_picture, two_pictures}
use Rattle.slice_desk.proofs.frame.put_pictures.Goals as goal

pub returns-then-config-eq0-clause-put : goal.returns-then-config-eq0-clause-put
returns-then-config-eq0-clause-put g c =
    let first = c.put_picture-second_at in
    let one = sym (ap (λ (f : Fields). f.interlace) c.requires.named) ∙ c.if-config-eq0.true in
    one_picture g.N.Feed.bytes g.P.DeskName.config c.args.frame c.args.at first.result c.args.out.now first.new.out one first.ensures.put

pub returns-clause-put : goal.returns-clause-put
returns-clause-put g c =
    let first = c.put_picture-second_at in
    let second = c.put_picture in
    let two = subst (λ (f : Fields). f.interlace ≡ 0 → ⊥) c.requires.named c.if-config-eq0.false in
    two_pictures g.N.Feed.bytes g.P.DeskName.config c.args.frame c.args.at first.result second.result c.args.out.now first.new.out second.new.out two first.ensures.put second.ensures.put

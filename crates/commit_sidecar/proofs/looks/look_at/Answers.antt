use Rattle.std.proofs.Common.{◌≡◌, refl, ◌∙◌, inr, ◌∷◌, drop}
use Rattle.std.proofs.lemmas.List.{take_rest}
use Rattle.commit_sidecar.proofs.FileLemmas.{gate_open}
use Rattle.commit_sidecar.proofs.looks.look_at.Goals as goal

pub returns-in-None : goal.returns-in-None
returns-in-None c =
    let rest = c.args.rest.now in
    let open_gate : rest ≡ 1 ∷ drop 1 rest = gate_open rest c.is_empty.result c.is_empty.ensures c.if-is_empty.false c.if-rest-ne1.false in
    inr (drop 1 rest, open_gate, λ mark more e follows. c.in-None.ensures.none refl mark more (take_rest rest 1 ∙ e))

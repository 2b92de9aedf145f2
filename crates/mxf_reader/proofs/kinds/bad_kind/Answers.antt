use Rattle.std.proofs.Common.{◌≡◌, ◌-◌, List, ◌∷◌, length, take, drop, get_or, inl, inr, sym, ap, ◌∙◌, arith}
use Rattle.std.proofs.lemmas.List.{take_rest}
use Rattle.mxf_reader.specs.declared.part.SeenPart.{SeenPart}
use Rattle.mxf_reader.specs.inner.Rules.{bad_behind}
use Rattle.mxf_reader.proofs.RuleLemmas.{nobody}
use Rattle.mxf_reader.proofs.OrderLemmas.{order_behind, order_first, order_none}
use Rattle.mxf_reader.proofs.kinds.bad_kind.Goals as goal

pub returns-then-parts-eq0 : goal.returns-then-parts-eq0
returns-then-parts-eq0 c = order_none c.args.len c.args.parts.now c.if-parts-eq0.true

pub returns-then-parts-eq1 : goal.returns-then-parts-eq1
returns-then-parts-eq1 c =
    let one : length c.args.parts.now ≡ 1 = c.if-parts-eq1.true in
    order_first c.args.len c.args.parts.now (omega arith) (inl one)

pub returns-then-not-is_first_kept : goal.returns-then-not-is_first_kept
returns-then-not-is_first_kept c =
    let none = c.if-parts-eq0.false in
    order_first c.args.len c.args.parts.now (omega arith) (inr (sym c.is_first_kept.ensures ∙ c.if-not-is_first_kept.true))

pub returns : goal.returns
returns c =
    let none = c.if-parts-eq0.false in
    let one = c.if-parts-eq1.false in
    let ps : List SeenPart = c.args.parts.now in
    let found : c.bad_behind.result ≡ bad_behind (get_or ps 1 nobody ∷ take (length ps - 2) (drop 2 ps)) = c.bad_behind.ensures in
    found
    ∙ ap (λ (xs : List SeenPart). bad_behind (get_or ps 1 nobody ∷ xs)) (take_rest ps 2)
    ∙ order_behind c.args.len ps (omega arith) (sym c.is_first_kept.ensures ∙ c.if-not-is_first_kept.false)

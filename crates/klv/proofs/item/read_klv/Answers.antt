use Rattle.std.proofs.Common.{◌-◌, length, refl, sym, arith}
use Rattle.std.proofs.lemmas.List.{length-drop, take_rest}
use Rattle.std.proofs.lemmas.Result.{err_from_is_err_and}
use Rattle.klv.proofs.NumberLemmas.{AreBytes}
use Rattle.klv.proofs.ReadLemmas.{part_bytes, klv_stands}
use Rattle.klv.proofs.RefusalLemmas.{head_refused, refused_none}
use Rattle.klv.proofs.item.read_klv.Goals as goal

pub returns-in_err-head-clause-accepted : goal.returns-in_err-head-clause-accepted
returns-in_err-head-clause-accepted c =
    let p = err_from_is_err_and c.from_residual.result c.from_residual.ensures.1 in
    let are : AreBytes c.args.bytes.now = λ k. let small = c.type_inv.bytes k in omega arith in
    let seen = rw take_rest at c.in_err-head.ensures.seen in
    let refused = head_refused c.args.bytes.now c.args.at (length c.args.bytes.now - c.args.at) c.in_err-head.field-0.0 (part_bytes c.args.bytes.now c.args.at are) (sym (length-drop c.args.at c.args.bytes.now)) seen in
    rw p.1 ((λ h. absurd (cc)), λ h. absurd (refused_none c.args.bytes.now c.args.at c.in_err-head.field-0.0 refused h))

pub returns-in_err-head-clause-refused : goal.returns-in_err-head-clause-refused
returns-in_err-head-clause-refused c =
    let p = err_from_is_err_and c.from_residual.result c.from_residual.ensures.1 in
    let are : AreBytes c.args.bytes.now = λ k. let small = c.type_inv.bytes k in omega arith in
    let seen = rw take_rest at c.in_err-head.ensures.seen in
    rw (p.1, p.2) (head_refused c.args.bytes.now c.args.at (length c.args.bytes.now - c.args.at) c.in_err-head.field-0.0 (part_bytes c.args.bytes.now c.args.at are) (sym (length-drop c.args.at c.args.bytes.now)) seen)

pub returns-clause-accepted : goal.returns-clause-accepted
returns-clause-accepted c =
    let are : AreBytes c.args.bytes.now = λ k. let small = c.type_inv.bytes k in omega arith in
    let seen = rw take_rest at c.in_ok-head.ensures.seen in
    let s = klv_stands c.args.bytes.now c.args.at (length c.args.bytes.now - c.args.at) _ _ (part_bytes c.args.bytes.now c.args.at are)
    (sym (length-drop c.args.at c.args.bytes.now)) seen c.key_at-key.ensures refl refl refl in
    ((λ t. (s.item, s.stands)), λ t. refl)

pub returns-clause-stands : goal.returns-clause-stands
returns-clause-stands c =
    let are : AreBytes c.args.bytes.now = λ k. let small = c.type_inv.bytes k in omega arith in
    let seen = rw take_rest at c.in_ok-head.ensures.seen in
    klv_stands c.args.bytes.now c.args.at (length c.args.bytes.now - c.args.at) _ _ (part_bytes c.args.bytes.now c.args.at are)
    (sym (length-drop c.args.at c.args.bytes.now)) seen c.key_at-key.ensures refl refl refl

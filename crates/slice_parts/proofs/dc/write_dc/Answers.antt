use Rattle.std.proofs.Common.{◌≡◌, ◌-◌, ◌+◌, ◌-ℤ◌, pos, drop, refl, ◌∙◌, rules, arith, w64, FitsSigned, false, true, to_z}
use Rattle.std.proofs.lemmas.Int.{to_z-of_z}
use Rattle.std.proofs.lemmas.Result.{err_from_is_err_and}
use Rattle.slice_parts.specs.Dc.{IsDc, DcSpells, DcState, dc_next}
use Rattle.slice_parts.specs.Component.{level_at, signed_levels}
use Rattle.slice_parts.proofs.NumberLemmas.{signed_long}
use Rattle.slice_parts.specs.Dc.DcState.{First, Behind}
use Rattle.slice_parts.proofs.DcLemmas.{dc_first, dc_step}
use Rattle.slice_parts.specs.laws.JoinedLaws.{joined_end}
use Rattle.slice_parts.proofs.WroteLemmas.{wrote_none, wrote_more, wrote_full, wrote_all, never}
use Rattle.slice_parts.proofs.dc.write_dc.Goals as goal

pub returns-in_err-put_first-clause-accepted : goal.returns-in_err-put_first-clause-accepted
returns-in_err-put_first-clause-accepted c = λ s is.
    let k = c.in_err-put_first.ensures.accepted in
    let levels = signed_levels c.args.numbers.now in
    let p = err_from_is_err_and c.from_residual.result c.from_residual.ensures.1 in
    let full = wrote_full c.args.out.now c.args.out.now (IsDc First levels) (λ one. DcSpells First one (level_at levels 0)) (IsDc (Behind (level_at levels 0) (pos 3)) (drop 1 levels)) s
    (wrote_none c.args.out.now (IsDc First levels) s is) (λ rest h. dc_first levels rest (omega (arith, c.requires.some, signed_long c.args.numbers.now)) h) (λ one h fits. never ((k one h).1 fits)) in
    rw p.1 ((λ (e : false ≡ true). absurd (never e)), λ fits. absurd (full fits))

pub returns-in_err-difference-clause-accepted : goal.returns-in_err-difference-clause-accepted
returns-in_err-difference-clause-accepted c = λ s is.
    let k = c.in_err-difference.ensures.accepted in
    let levels = signed_levels c.args.numbers.now in
    let d = to_z w64 c.loop-k.difference-bits in
    let before = level_at levels (c.loop-k.k - 1) in
    let level = level_at levels c.loop-k.k in
    let p = err_from_is_err_and c.from_residual-in_err-difference.result c.from_residual-in_err-difference.ensures.1 in
    let full = wrote_full c.args.out.now c.loop-k.out (IsDc (Behind before d) (drop c.loop-k.k levels)) (λ one. DcSpells (Behind before d) one level)
    (IsDc (Behind (level_at levels (c.loop-k.k + 1 - 1)) (level -ℤ before)) (drop (c.loop-k.k + 1) levels)) s
    (c.loop-k.invariant.wrote s is) (λ rest h. dc_step levels c.loop-k.k d rest (omega (arith, signed_long c.args.numbers.now)) h) (λ one h fits. never ((k one h).1 fits)) in
    rw p.1 ((λ (e : false ≡ true). absurd (never e)), λ fits. absurd (full fits))

pub loop-k-init : goal.loop-k-init
loop-k-init c =
    let levels = signed_levels c.args.numbers.now in
    let k = c.in_ok-put_first.ensures in
    record {
      same = search rules;
      wrote = λ s is. wrote_more c.args.out.now c.args.out.now c.put_first.new.out (IsDc First levels) (λ one. DcSpells First one (level_at levels 0)) (IsDc (Behind (level_at levels 0) (pos 3)) (drop 1 levels)) s
          (wrote_none c.args.out.now (IsDc First levels) s is) (λ rest h. dc_first levels rest (omega (arith, c.requires.some, signed_long c.args.numbers.now)) h) (λ one h. k.spelled one h) (λ one h. (k.accepted one h).0 refl);
    }

pub loop-k-preserved : goal.loop-k-preserved
loop-k-preserved c =
    let k = c.in_ok-difference.ensures in
    let levels = signed_levels c.args.numbers.now in
    let d = to_z w64 c.loop-k.difference-bits in
    let before = level_at levels (c.loop-k.k - 1) in
    let level = level_at levels c.loop-k.k in
    let fits : FitsSigned w64 c.in_ok-difference.difference = search rules in
    let e = to_z-of_z w64 c.in_ok-difference.difference fits ∙ k.difference in
    record {
      same = search rules;
      wrote = λ s is. rw e (wrote_more c.args.out.now c.loop-k.out c.put_level.new.out (IsDc (Behind before d) (drop c.loop-k.k levels)) (λ one. DcSpells (Behind before d) one level)
          (IsDc (Behind (level_at levels (c.loop-k.k + 1 - 1)) (level -ℤ before)) (drop (c.loop-k.k + 1) levels)) s
          (c.loop-k.invariant.wrote s is) (λ rest h. dc_step levels c.loop-k.k d rest (omega (arith, signed_long c.args.numbers.now)) h) (λ one h. k.spelled one h) (λ one h. (k.accepted one h).0 refl));
    }

pub returns-clause-accepted : goal.returns-clause-accepted
returns-clause-accepted c = λ s is.
    let levels = signed_levels c.args.numbers.now in
    let state : DcState = Behind (level_at levels (c.loop-k.k - 1)) (to_z w64 c.loop-k.difference-bits) in
    let all = wrote_all c.args.out.now c.loop-k.out (IsDc state (drop c.loop-k.k levels)) s (c.loop-k.invariant.wrote s is)
    (λ rest h. joined_end DcSpells dc_next state levels c.loop-k.k rest (omega (arith, signed_long c.args.numbers.now)) h) in
    ((λ _. all.1), (λ _. refl))

pub returns-clause-spelled : goal.returns-clause-spelled
returns-clause-spelled c = λ s is.
    let levels = signed_levels c.args.numbers.now in
    let state : DcState = Behind (level_at levels (c.loop-k.k - 1)) (to_z w64 c.loop-k.difference-bits) in
    (wrote_all c.args.out.now c.loop-k.out (IsDc state (drop c.loop-k.k levels)) s (c.loop-k.invariant.wrote s is)
    (λ rest h. joined_end DcSpells dc_next state levels c.loop-k.k rest (omega (arith, signed_long c.args.numbers.now)) h)).0

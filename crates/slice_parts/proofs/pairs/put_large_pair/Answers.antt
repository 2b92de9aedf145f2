use Rattle.std.proofs.Common.{◌≡◌, ◌-◌, ℕ, [], ◌∷◌, refl, true, false}
use Rattle.std.specs.Int.RustNames.{unsigned_abs}
use Rattle.std.proofs.lemmas.Result.{err_from_is_err_and}
use Rattle.prores_codes.specs.Choices.{run_parameters, level_parameters}
use Rattle.prores_scan.specs.ScaledLevels.{signed_of}
use Rattle.prores_codes.specs.Codes.{Spells}
use Rattle.slice_parts.specs.Pairs.{Pair, PairState, PairSpells, pair_state, pair_of, sign_bit}
use Rattle.slice_parts.proofs.PutPairs.{IsTail, pair_split, pair_first, pair_second, pair_third, bit_split}
use Rattle.slice_parts.proofs.WroteLemmas.{wrote_none, wrote_full, never}
use Rattle.slice_parts.proofs.pairs.put_large_pair.Goals as goal

pub returns-in_err-put_small-clause-accepted : goal.returns-in_err-put_small-clause-accepted
returns-in_err-put_small-clause-accepted c = λ whole is.
    let p : Pair = pair_of c.args.zeros (signed_of c.args.number) in
    let s : PairState = pair_state c.args.run c.args.size in
    let a = c.args.out.now in
    let r = rw c.run_code.ensures at c.in_err-put_small.ensures.accepted in
    let q = err_from_is_err_and c.from_residual.result c.from_residual.ensures.1 in
    let full = wrote_full a a (λ bits. PairSpells s bits p) (λ one. Spells (run_parameters c.args.run) one c.args.zeros) (IsTail s p) whole (wrote_none a (λ bits. PairSpells s bits p) whole is) (pair_split s p) (λ one h fits. never ((r one h).1 fits)) in
    rw q.1 ((λ (e : false ≡ true). absurd (never e)), λ fits. absurd (full fits))

pub returns-in_err-put_small-2-clause-accepted : goal.returns-in_err-put_small-2-clause-accepted
returns-in_err-put_small-2-clause-accepted c = λ whole is.
    let p : Pair = pair_of c.args.zeros (signed_of c.args.number) in
    let s : PairState = pair_state c.args.run c.args.size in
    let a = c.args.out.now in
    let b = c.put_small.new.out in
    let r = rw c.run_code.ensures at c.in_ok-put_small.ensures in
    let z = rw (c.level_code.ensures, c.size_less_one.ensures.value) at c.in_err-put_small-2.ensures.accepted in
    let q = err_from_is_err_and c.from_residual-in_err-put_small-2.result c.from_residual-in_err-put_small-2.ensures.1 in
    let full = wrote_full a b (IsTail s p) (λ one. Spells (level_parameters c.args.size) one (unsigned_abs (signed_of c.args.number) - 1)) (λ bits. bits ≡ sign_bit (signed_of c.args.number) ∷ []) whole (pair_first a b s p whole is r.spelled (λ one h. (r.accepted one h).0 refl)) (λ rest h. h) (λ one h fits. never ((z one h).1 fits)) in
    rw q.1 ((λ (e : false ≡ true). absurd (never e)), λ fits. absurd (full fits))

pub returns-in_err-put_sign-clause-accepted : goal.returns-in_err-put_sign-clause-accepted
returns-in_err-put_sign-clause-accepted c = λ whole is.
    let p : Pair = pair_of c.args.zeros (signed_of c.args.number) in
    let s : PairState = pair_state c.args.run c.args.size in
    let a = c.args.out.now in
    let b = c.put_small.new.out in
    let r = rw c.run_code.ensures at c.in_ok-put_small.ensures in
    let z = rw (c.level_code.ensures, c.size_less_one.ensures.value) at c.in_ok-put_small-2.ensures in
    let d = c.put_small-2.new.out in
    let v = c.in_err-put_sign.ensures.accepted in
    let q = err_from_is_err_and c.from_residual-in_err-put_sign.result c.from_residual-in_err-put_sign.ensures.1 in
    let x : ℕ = sign_bit (signed_of c.args.number) in
    let full = wrote_full a d (λ bits. bits ≡ x ∷ []) (λ one. one ≡ x ∷ []) (λ bits. bits ≡ []) whole (pair_second a b d s p whole (pair_first a b s p whole is r.spelled (λ one h. (r.accepted one h).0 refl)) z.spelled (λ one h. (z.accepted one h).0 refl)) (bit_split x) (λ one h fits. never ((v one h).1 fits)) in
    rw q.1 ((λ (e : false ≡ true). absurd (never e)), λ fits. absurd (full fits))

pub returns-clause-accepted : goal.returns-clause-accepted
returns-clause-accepted c = λ whole is.
    let p : Pair = pair_of c.args.zeros (signed_of c.args.number) in
    let s : PairState = pair_state c.args.run c.args.size in
    let a = c.args.out.now in
    let b = c.put_small.new.out in
    let r = rw c.run_code.ensures at c.in_ok-put_small.ensures in
    let z = rw (c.level_code.ensures, c.size_less_one.ensures.value) at c.in_ok-put_small-2.ensures in
    let d = c.put_small-2.new.out in
    let v = c.in_ok-put_sign.ensures in
    let all = pair_third a d c.put_sign.new.out (sign_bit (signed_of c.args.number)) whole (pair_second a b d s p whole (pair_first a b s p whole is r.spelled (λ one h. (r.accepted one h).0 refl)) z.spelled (λ one h. (z.accepted one h).0 refl)) v.spelled (λ one h. (v.accepted one h).0 refl) in
    ((λ _. all.1), (λ _. refl))

pub returns-clause-spelled : goal.returns-clause-spelled
returns-clause-spelled c = λ whole is.
    let p : Pair = pair_of c.args.zeros (signed_of c.args.number) in
    let s : PairState = pair_state c.args.run c.args.size in
    let a = c.args.out.now in
    let b = c.put_small.new.out in
    let r = rw c.run_code.ensures at c.in_ok-put_small.ensures in
    let z = rw (c.level_code.ensures, c.size_less_one.ensures.value) at c.in_ok-put_small-2.ensures in
    let d = c.put_small-2.new.out in
    let v = c.in_ok-put_sign.ensures in
    (pair_third a d c.put_sign.new.out (sign_bit (signed_of c.args.number)) whole (pair_second a b d s p whole (pair_first a b s p whole is r.spelled (λ one h. (r.accepted one h).0 refl)) z.spelled (λ one h. (z.accepted one h).0 refl)) v.spelled (λ one h. (v.accepted one h).0 refl)).0

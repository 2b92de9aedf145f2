use Rattle.std.proofs.Common.{◌≡◌, [], take, drop, refl, true, false}
use Rattle.std.proofs.lemmas.Result.{err_from_is_err_and}
use Rattle.slice_parts.specs.Joined.{Split}
use Rattle.slice_parts.specs.Dc.{IsDc}
use Rattle.slice_parts.specs.Dc.DcState.{First}
use Rattle.slice_parts.specs.Pairs.{ArePairsOf, first_pair}
use Rattle.slice_parts.specs.Component.{signed_levels}
use Rattle.slice_parts.proofs.WroteLemmas.{wrote_none, wrote_more, wrote_full, wrote_all, never, alone}
use Rattle.slice_parts.proofs.NumberLemmas.{signed_front}
use Rattle.slice_parts.proofs.part.put_part.Goals as goal

pub returns-in_err-write_dc-clause-accepted : goal.returns-in_err-write_dc-clause-accepted
returns-in_err-write_dc-clause-accepted c = λ s is.
    let levels = signed_levels c.args.numbers.now in
    let one = IsDc First (take c.args.blocks levels) in
    let two = ArePairsOf first_pair 0 (drop c.args.blocks levels) in
    let k = rw (signed_front c.args.blocks c.args.numbers.now) at c.in_err-write_dc.ensures.accepted in
    let p = err_from_is_err_and c.from_residual.result c.from_residual.ensures.1 in
    let full = wrote_full c.args.out.now c.args.out.now (Split one two) one two s (wrote_none c.args.out.now (Split one two) s is.part) (λ rest h. h) (λ b h fits. never ((k b h).1 fits)) in
    rw p.1 ((λ (e : false ≡ true). absurd (never e)), λ fits. absurd (full fits))

pub returns-in_err-write_pairs-clause-accepted : goal.returns-in_err-write_pairs-clause-accepted
returns-in_err-write_pairs-clause-accepted c = λ s is.
    let levels = signed_levels c.args.numbers.now in
    let one = IsDc First (take c.args.blocks levels) in
    let two = ArePairsOf first_pair 0 (drop c.args.blocks levels) in
    let k = rw (signed_front c.args.blocks c.args.numbers.now) at c.in_ok-write_dc.ensures in
    let m = c.in_err-write_pairs.ensures.accepted in
    let p = err_from_is_err_and c.from_residual-in_err-write_pairs.result c.from_residual-in_err-write_pairs.ensures.1 in
    let full = wrote_full c.args.out.now c.write_dc.new.out two two (λ b. b ≡ []) s
    (wrote_more c.args.out.now c.args.out.now c.write_dc.new.out (Split one two) one two s (wrote_none c.args.out.now (Split one two) s is.part) (λ rest h. h) (λ b h. k.spelled b h) (λ b h. (k.accepted b h).0 refl))
    (alone two) (λ b h fits. never ((m b h).1 fits)) in
    rw p.1 ((λ (e : false ≡ true). absurd (never e)), λ fits. absurd (full fits))

pub returns-clause-accepted : goal.returns-clause-accepted
returns-clause-accepted c = λ s is.
    let levels = signed_levels c.args.numbers.now in
    let one = IsDc First (take c.args.blocks levels) in
    let two = ArePairsOf first_pair 0 (drop c.args.blocks levels) in
    let k = rw (signed_front c.args.blocks c.args.numbers.now) at c.in_ok-write_dc.ensures in
    let m = c.in_ok-write_pairs.ensures in
    let all = wrote_all c.args.out.now c.write_pairs.new.out (λ b. b ≡ []) s
    (wrote_more c.args.out.now c.write_dc.new.out c.write_pairs.new.out two two (λ b. b ≡ []) s
    (wrote_more c.args.out.now c.args.out.now c.write_dc.new.out (Split one two) one two s (wrote_none c.args.out.now (Split one two) s is.part) (λ rest h. h) (λ b h. k.spelled b h) (λ b h. (k.accepted b h).0 refl))
    (alone two) (λ b h. m.spelled b h) (λ b h. (m.accepted b h).0 refl)) (λ rest h. h) in
    ((λ _. all.1), (λ _. refl))

pub returns-clause-spelled : goal.returns-clause-spelled
returns-clause-spelled c = λ s is.
    let levels = signed_levels c.args.numbers.now in
    let one = IsDc First (take c.args.blocks levels) in
    let two = ArePairsOf first_pair 0 (drop c.args.blocks levels) in
    let k = rw (signed_front c.args.blocks c.args.numbers.now) at c.in_ok-write_dc.ensures in
    let m = c.in_ok-write_pairs.ensures in
    (wrote_all c.args.out.now c.write_pairs.new.out (λ b. b ≡ []) s
    (wrote_more c.args.out.now c.write_dc.new.out c.write_pairs.new.out two two (λ b. b ≡ []) s
    (wrote_more c.args.out.now c.args.out.now c.write_dc.new.out (Split one two) one two s (wrote_none c.args.out.now (Split one two) s is.part) (λ rest h. h) (λ b h. k.spelled b h) (λ b h. (k.accepted b h).0 refl))
    (alone two) (λ b h. m.spelled b h) (λ b h. (m.accepted b h).0 refl)) (λ rest h. h)).0

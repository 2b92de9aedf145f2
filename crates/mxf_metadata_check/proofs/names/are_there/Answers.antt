use Rattle.std.proofs.Common.{◌≡◌, ◌+◌, ◌-◌, ◌*◌, ◌/◌, ℕ, List, true, false, length, take, drop, sym, ap, ◌∙◌, arith}
use Rattle.mxf_metadata_check.proofs.Ids.{there_end, there_step, there_whole}
use Rattle.mxf_metadata_check.proofs.names.are_there.Goals as goal

pub loop-k-init : goal.loop-k-init
loop-k-init c = λ sets tells. sym (there_whole sets c.args.ids.now)

pub returns-then-not-is_there : goal.returns-then-not-is_there
returns-then-not-is_there c = λ sets tells.
    let k : ℕ = c.loop-k.k in
    let bytes : List ℕ = c.args.ids.now in
    let id : List ℕ = take (16 * k + 16 - 16 * k) (drop (16 * k) bytes) in
    let n : 16 * k + 16 - 16 * k ≡ 16 = omega arith in
    let e : id ≡ take 16 (drop (16 * k) bytes) = ap (λ (n : ℕ). take n (drop (16 * k) bytes)) n in
    sym (c.loop-k.invariant sets tells
    ∙ there_step sets bytes id (length bytes / 16) k false c.loop-k-test.true e (sym (c.is_there.ensures sets tells) ∙ c.if-not-is_there.true))

pub loop-k-preserved : goal.loop-k-preserved
loop-k-preserved c = λ sets tells.
    let k : ℕ = c.loop-k.k in
    let bytes : List ℕ = c.args.ids.now in
    let id : List ℕ = take (16 * k + 16 - 16 * k) (drop (16 * k) bytes) in
    let n : 16 * k + 16 - 16 * k ≡ 16 = omega arith in
    let e : id ≡ take 16 (drop (16 * k) bytes) = ap (λ (n : ℕ). take n (drop (16 * k) bytes)) n in
    c.loop-k.invariant sets tells
    ∙ there_step sets bytes id (length bytes / 16) k true c.loop-k-test.true e (sym (c.is_there.ensures sets tells) ∙ c.if-not-is_there.false)

pub returns : goal.returns
returns c = λ sets tells.
    sym (c.loop-k.invariant sets tells ∙ there_end sets c.args.ids.now (length c.args.ids.now / 16) c.loop-k.k c.loop-k-test.false)

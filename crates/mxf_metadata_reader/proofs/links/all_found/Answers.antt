use Rattle.std.proofs.Common.{◌≡◌, ◌+◌, ◌-◌, ◌*◌, ℕ, List, take, drop, sym, ap, ◌∙◌, arith}
use Rattle.mxf_metadata_reader.proofs.FoundLemmas.{from_end, from_false, from_true, from_whole}
use Rattle.mxf_metadata_reader.proofs.links.all_found.Goals as goal

pub loop-k-init : goal.loop-k-init
loop-k-init c = λ sets holds. from_whole sets c.args.bytes.now c.args.count

pub returns-then-not-is_found : goal.returns-then-not-is_found
returns-then-not-is_found c = λ sets holds.
    let k : ℕ = c.loop-k.k in
    let bytes : List ℕ = c.args.bytes.now in
    let id : List ℕ = take (16 * k + 16 - 16 * k) (drop (16 * k) bytes) in
    let n : 16 * k + 16 - 16 * k ≡ 16 = omega arith in
    let e : id ≡ take 16 (drop (16 * k) bytes) = ap (λ (n : ℕ). take n (drop (16 * k) bytes)) n in
    sym (c.loop-k.invariant sets holds
    ∙ from_false sets bytes id c.args.count k c.loop-k-test.true e (sym (c.is_found.ensures sets holds) ∙ c.if-not-is_found.true))

pub loop-k-preserved : goal.loop-k-preserved
loop-k-preserved c = λ sets holds.
    let k : ℕ = c.loop-k.k in
    let bytes : List ℕ = c.args.bytes.now in
    let id : List ℕ = take (16 * k + 16 - 16 * k) (drop (16 * k) bytes) in
    let n : 16 * k + 16 - 16 * k ≡ 16 = omega arith in
    let e : id ≡ take 16 (drop (16 * k) bytes) = ap (λ (n : ℕ). take n (drop (16 * k) bytes)) n in
    c.loop-k.invariant sets holds
    ∙ from_true sets bytes id c.args.count k c.loop-k-test.true e (sym (c.is_found.ensures sets holds) ∙ c.if-not-is_found.false)

pub returns : goal.returns
returns c = λ sets holds.
    sym (c.loop-k.invariant sets holds ∙ from_end sets c.args.bytes.now c.args.count c.loop-k.k c.loop-k-test.false)

use Rattle.std.proofs.Common.{◌≡◌, ◌+◌, ◌-◌, ◌*◌, ◌/◌, ℕ, List, length, take, drop, ap, arith}
use Rattle.mxf_metadata_check.specs.inner.Held.{sets_held}
use Rattle.mxf_metadata_check.proofs.Numbered.{count_end, count_step}
use Rattle.mxf_op1a.specs.Metadata.{SetAt}
use Rattle.mxf_metadata_check.proofs.flags.count_with.Goals as goal

pub loop-k-preserved : goal.loop-k-preserved
loop-k-preserved c =
    let one = c.count_one-found.ensures.one in
    let small = c.loop-k.invariant.small in
    record {
      small = omega (arith, one, small);
      same = λ bytes tells.
          let k : ℕ = c.loop-k.k in
          let ids : List ℕ = c.args.ids.now in
          let all : List SetAt = sets_held bytes c.args.sets.now in
          let count : ℕ = length ids / 16 in
          let id : List ℕ = take (16 * k + 16 - 16 * k) (drop (16 * k) ids) in
          let n : 16 * k + 16 - 16 * k ≡ 16 = omega arith in
          let e : id ≡ take 16 (drop (16 * k) ids) = ap (λ (n : ℕ). take n (drop (16 * k) ids)) n in
          let own = c.count_one-found.ensures.count bytes tells in
          let before = c.loop-k.invariant.same bytes tells in
          let step = count_step all c.args.kind ids id count k c.loop-k-test.true e in
          omega (arith, own, before, step);
    }

pub returns : goal.returns
returns c = λ bytes tells.
    let ids : List ℕ = c.args.ids.now in
    let all : List SetAt = sets_held bytes c.args.sets.now in
    let none = count_end all c.args.kind ids (length ids / 16) c.loop-k.k c.loop-k-test.false in
    let before = c.loop-k.invariant.same bytes tells in
    omega (arith, none, before)

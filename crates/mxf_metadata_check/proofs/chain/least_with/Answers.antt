use Rattle.std.proofs.Common.{◌≡◌, ◌+◌, ◌-◌, ◌*◌, ◌/◌, ℕ, List, Option, length, take, drop, sym, ap, ◌∙◌, arith}
use Rattle.std.specs.List.{flat_map}
use Rattle.mxf_metadata_reader.specs.References.{ids_in}
use Rattle.mxf_metadata_check.specs.inner.Chain.{with_ids}
use Rattle.mxf_metadata_check.specs.inner.Held.{lesser, sets_held}
use Rattle.mxf_metadata_check.proofs.Least.{lesser_none, lesser_turned}
use Rattle.mxf_metadata_check.proofs.Numbered.{with_end, with_step}
use Rattle.mxf_op1a.specs.Metadata.{SetAt, least, of_kind, set_with}
use Rattle.mxf_metadata_check.proofs.chain.least_with.Goals as goal

pub loop-k-preserved : goal.loop-k-preserved
loop-k-preserved c = λ bytes places tells has.
    let k : ℕ = c.loop-k.k in
    let ids : List ℕ = c.args.ids.now in
    let all : List SetAt = sets_held bytes c.args.sets.now in
    let count : ℕ = length ids / 16 in
    let id : List ℕ = take (16 * k + 16 - 16 * k) (drop (16 * k) ids) in
    let n : 16 * k + 16 - 16 * k ≡ 16 = omega arith in
    let e : id ≡ take 16 (drop (16 * k) ids) = ap (λ (n : ℕ). take n (drop (16 * k) ids)) n in
    let rest : Option ℕ = least (flat_map places (with_ids all c.args.kind (ids_in (count - (k + 1)) (drop (16 * (k + 1)) ids)))) in
    ap (λ (o : Option ℕ). lesser o rest) (c.lesser-found.ensures ∙ ap (lesser c.loop-k.found) (c.value_with.ensures bytes places tells has))
    ∙ lesser_turned c.loop-k.found (least (flat_map places (of_kind c.args.kind (set_with all id)))) rest
    ∙ ap (lesser c.loop-k.found) (sym (with_step places all c.args.kind ids id count k c.loop-k-test.true e))
    ∙ c.loop-k.invariant bytes places tells has

pub returns : goal.returns
returns c = λ bytes places tells has.
    let ids : List ℕ = c.args.ids.now in
    let all : List SetAt = sets_held bytes c.args.sets.now in
    sym (lesser_none c.loop-k.found)
    ∙ ap (lesser c.loop-k.found) (sym (with_end places all c.args.kind ids (length ids / 16) c.loop-k.k c.loop-k-test.false))
    ∙ c.loop-k.invariant bytes places tells has

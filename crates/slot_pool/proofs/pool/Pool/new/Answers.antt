use Rattle.std.proofs.Common.{◌≡◌, ◌+◌, ◌<◌, length, ap, sym, subst, ◌∙◌, arith}
use Rattle.slot_pool.specs.Slots.{BlockName}
use Rattle.slot_pool.specs.inner.Keeping.{are_free}
use Rattle.slot_pool.specs.inner.Links.{AreLinked, below}
use Rattle.slot_pool.proofs.LinkLemmas.{one_more, still_free, each_is_free}
use Rattle.slot_pool.proofs.PoolLemmas.{all_are_listed, each_free, cut_slots}
use Rattle.slot_pool.proofs.pool.Pool.new.Goals as goal

pub loop-place-init : goal.loop-place-init
loop-place-init g c =
    let b = c.into_parts-slots.result in let named = sym c.requires.named ∙ c.into_parts-slots.ensures.named in let cut = c.cut-owner in
    record {
      owned = cut_slots g.P.PoolName.block b.at.ptr b.slots b.size b.bytes b.right cut.result named c.into_parts-slots.ensures.kept cut.ensures.0 cut.ensures.1 cut.ensures.2;
      free = ap are_free cut.ensures.2 ∙ each_free b.slots b.size b.bytes.written;
      listed = tt;
    }

pub link_in-requires-clause-free : goal.link_in-requires-clause-free
link_in-requires-clause-free g c = each_is_free c.loop-place.owner.slots c.into_parts-slots.result.slots c.loop-place.place c.loop-place.invariant.free c.loop-place-test.true

pub loop-place-preserved : goal.loop-place-preserved
loop-place-preserved g c =
    let l = c.loop-place in let b = c.into_parts-slots.result in let named = sym c.requires.named ∙ c.into_parts-slots.ensures.named in let link = c.link_in in
    let number : g.P.PoolName.block.slots ≡ b.slots = ap (λ (n : BlockName). n.slots) named in
    let within : l.place < length l.owner.slots = omega (arith, l.invariant.owned.count, number, c.loop-place-test.true) in
    record {
      owned = link.ensures.owned;
      free = still_free l.owner.slots link.new.owner.slots l.place b.slots l.first link.ensures.linked l.invariant.free;
      listed = subst (λ k. AreLinked link.new.owner.slots k (below (l.place + 1))) (sym c.from-first.ensures) (one_more l.owner.slots link.new.owner.slots l.place l.first within link.ensures.linked l.invariant.listed);
    }

pub invariant_of-result : goal.invariant_of-result
invariant_of-result g c =
    let l = c.loop-place in let b = c.into_parts-slots.result in let named = sym c.requires.named ∙ c.into_parts-slots.ensures.named in let kept = c.into_parts-slots.ensures.kept in
    let all : l.place ≡ b.slots = omega (arith, c.loop-place-test.false, c.loop-place.auto.place-end) in
    all_are_listed g.P.PoolName.block b.at.ptr b.slots b.size l.first l.owner b.right named kept.few l.invariant.owned l.invariant.free (subst (λ n. AreLinked l.owner.slots l.first (below n)) all l.invariant.listed) kept.frees

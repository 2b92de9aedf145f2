-- `take_out` moves the bytes of one slot out of the others. Assumes `Logic`.
use Rattle.std.proofs.Common.{ℕ, ◌+◌, ◌*◌, ◌^◌, ◌<◌, List, [], ◌∷◌, length, get_or, set, refl, sym, ap, subst, w64, arith, length-set, None}
use Rattle.std.proofs.raw_atomic.Walks.{proved}
use base.Logic.{never, id⊢}
use base.Fml.{ftrue, flft, froom}
use mir.Syntax.{named, ty_array}
use mir.Val.{Val}
use contract.Monad.{fact}
use contract.Running.{tables}
use types.Kit.{‵, raw, ◌⊛◌, ◌$◌, ◌∵◌, !, qed, done, move, keep, use0, use1, use2, split, join, fsplit, fsplit3, fjoin, fjoin3, feq_i, feq_l, flt_i, flt_l, rewrite, suffices, frame}
use types.Part.{agg}
use types.Run.{enter, no_more, returns}
use types.ByLocal.{alloc_all, pass_all, free_all, look_at, sets}
use denote.Exit.{yes}
use denote.Builtin.{usize}
use denote.Plain.{uint_vals, uint_Tells}
use denote.RattleType.{owns}
use denote.RawPtr.{Ptr, block_ptr, in_a_block, ◌+ₚ◌}
use denote.Ref.{MutRef, mut_vals, mut_Tells}
use denote.Signature.{plain}
use denote.Steps.{nothing, heard, opens, closes}
use denote.Triple.Walked.{Stays, walk_of, says, stay_ref, stay_dropped, Goes-ref, Goes-dropped, ends_at}
use Rattle.slot_pool.specs.inner.FreeSlots.{slot_own, slots_own, free_slots_own}
use Rattle.slot_pool.specs.inner.Steps.{IsFree, TakesOut}
use Rattle.slot_pool.proofs.HeapLemmas.{none, Spaceless, spaceless_made}
use Rattle.slot_pool.proofs.OwnedLemmas.{byte}
use Rattle.slot_pool.proofs.SlotLemmas.{Room, free_within, one_small, Others, one_out, one_in}
use Rattle.slot_pool.specs.contracts.bytes.Bytes.{the_row as B}
use Rattle.slot_pool.specs.contracts.free_slots.FreeSlots.{the_row as R}
use Rattle.slot_pool.specs.contracts.free_slots.FreeSlots.take_out as f
use Rattle.slot_pool.proofs.free_slots.FreeSlots.take_out.Statement.{statement}
use Rattle.slot_pool.proofs.free_slots.FreeSlots.take_out.Code as code

abbrev stayed : Stays f.ended.signature.params f.ended.kept
stayed = (stay_ref (0 ∷ []) tt (plain (λ _. R)), (stay_dropped (plain (λ _. usize)) yes, tt))

pub take_out_spec : {M : Type 1} → statement M
take_out_spec 𝓤 𝓛 𝓜 𝓡 wired =
    let c = f.clauses 𝓛 𝓜.mem 𝓡.returns in let W = walk_of 𝓛 f.ended stayed c in let 𝓣 = tables 𝓤 𝓛.H 𝓜 𝓡 𝓡.env in
    proved 𝓛 f.ended stayed c 𝓜 𝓡 (Goes-ref 𝓛 1 0 tt (plain (λ _. R)), (Goes-dropped 𝓛 1 (plain (λ _. usize)) yes (λ κs x w. refl), tt))
    f.Key.name code.function (code.unfolded 𝓤 𝓛.H 𝓜 𝓡 wired)
    (λ κs. (mut_vals, (uint_vals w64, tt))) (λ κs. (mut_Tells (named 0) κs.0 R, (uint_Tells w64, tt))) (λ κs qs bounds a _ are.
    let d = a.0.now in let place = a.1.0 in let rb = a.0.ref_ptr.0 in let ro = a.0.ref_ptr.1 in
    let y : W.Ghost = ((κs, qs, bounds, a, (mut_vals a.0, (uint_vals w64 place, tt))), tt) in
    let Asked : Type 0 = IsFree d.slots place in
    qed 𝓛 (((‵ (flft κs.0 qs.0) ⊛ ‵ ftrue) ⊛ ‵ (owns (MutRef (named 0) κs.0 R ∷ usize ∷ []) a y.0.4)) ∷ raw (fact 𝓤 Asked) ∷ []) ∵
    move ! (1 ∷ []) $ heard ! Asked (λ asked. split ! $ split ! $ move ! (2 ∷ []) $ fsplit ! $ keep ! (0 ∷ 2 ∷ []) $
    enter ! _ _ _ _ _ $ alloc_all ! (λ l. pass_all ! refl ((tt, tt), ((tt, record { fits = are.1.0.1 }), tt)) $
    fsplit3 ! $ move ! (1 ∷ 2 ∷ 3 ∷ []) $ opens ! tt R {h = d} rb ro (λ us. move ! (1 ∷ []) $ fsplit ! $ move ! (1 ∷ []) $
    in_a_block ! d.at (λ q. free_slots_own q d.size d.slots) (id⊢ 𝓤 (never 𝓤)) (λ b o e. fsplit ! $ flt_l ! (λ small.
    let size = d.size in let slots = d.slots in let at = o + place * size in let xs : List ℕ = asked.0 in let within = free_within slots place xs asked.1 in
    let bytes_out : B.Denot = record { at = block_ptr b at; written = xs; room = 0 } in
    let new : R.Denot = record { at = d.at; size = size; slots = set slots place None } in
    use1 𝓛 (‵ (slot_own size b at (get_or slots place None)) ⊛ ‵ (Others 𝓛 b size o slots place within)) (one_out 𝓛 b size o slots place within) $ split ! $
    rewrite ! 0 (λ (slot : Room). ‵ (slot_own size b at slot)) asked.1 refl $ fsplit ! $ feq_l ! (λ long.
    -- [the slot's bytes; the other slots; what the fields own; the cell; the open borrow, in three entries]
    sets ! (agg ! (no_more !)) refl (tt, tt) $
    nothing ! $ move ! (0 ∷ 2 ∷ []) $ use2 𝓛 (‵ (slots_own size b o new.slots)) (one_in 𝓛 b size o slots place within None) $
    flt_i ! (length new.slots * size) (2 ^ 63) (subst (λ k. k * size < 2 ^ 63) (sym (length-set slots place None)) small) $ fjoin ! $
    rewrite ! 0 (λ (q : Ptr). ‵ (free_slots_own q size new.slots)) (sym e) refl $ move ! (2 ∷ 0 ∷ []) $ fjoin ! $ move ! (2 ∷ 0 ∷ 3 ∷ 4 ∷ 5 ∷ []) $ closes ! tt R new us rb ro $
    -- [two parts of self; the token; the slot's bytes]
    returns ! (look_at ! 0 refl) $ free_all ! refl $ keep ! (0 ∷ 1 ∷ 2 ∷ 3 ∷ []) $
    move ! (3 ∷ []) $ use0 𝓛 (‵ (froom (ty_array byte 0) b (at + length xs))) (𝓛.laws.room_nil byte b (at + length xs)) $ move ! (1 ∷ 0 ∷ []) $ fjoin ! $
    flt_i ! (length xs + 0) (2 ^ 63) (omega (arith, one_small slots place size within small, long)) $ fjoin ! $ use0 𝓛 (‵ (Spaceless.own_val tt (none ∷ []))) (spaceless_made 𝓛) $ fjoin ! $
    let told : TakesOut d new place bytes_out = record { lies = sym (ap (λ (q : Ptr). q +ₚ place * size) e); was = asked.1; long = long; same_at = refl; same_size = refl; slots = refl } in
    suffices ! _ (ends_at 𝓛 f.ended stayed c y none bytes_out (new, (tt, tt)) (tt, (tt, tt))) $ says ! told $
    move ! (1 ∷ 2 ∷ 3 ∷ []) $ nothing ! $ move ! (3 ∷ 0 ∷ []) $ join ! $ frame ! $ feq_i ! (List Val) (mut_vals a.0) (mut_vals a.0) refl $ fjoin3 ! $
    nothing ! $ nothing ! $ fjoin ! $ move ! (1 ∷ 0 ∷ []) $ fjoin ! $ done !)))))))

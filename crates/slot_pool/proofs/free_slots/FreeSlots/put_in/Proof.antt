-- `put_in` moves the bytes of one slot back among the others, where no other bytes of that slot can be. Assumes `Logic`.
use Rattle.std.proofs.Common.{◌≡◌, ℕ, ◌+◌, ◌*◌, ◌^◌, ◌<◌, List, [], ◌∷◌, length, get_or, set, refl, sym, ap, subst, ◌∙◌, w64, length-set, Some, None}
use Rattle.std.proofs.raw_atomic.Walks.{proved}
use base.Fraction.{full_share}
use base.Logic.{never, id⊢}
use base.Fml.{ftrue, flft}
use mir.Syntax.{named}
use mir.Val.{Val, vunit}
use contract.Monad.{fact}
use contract.Running.{tables}
use types.Kit.{‵, raw, ◌⊛◌, given, learn, ◌$◌, ◌∵◌, !, qed, done, move, keep, drop, use1, use2, split, join, fsplit, fsplit3, fjoin, fjoin3, feq_i, flt_i, flt_l, rewrite, suffices, frame}
use types.Run.{enter, of_opd, unit_lit, returns}
use types.ByLocal.{alloc_all, pass_all, free_all, look_at, sets}
use denote.Exit.{yes}
use denote.Builtin.{usize}
use denote.Plain.{uint_vals, uint_Tells}
use denote.RattleType.{owns}
use denote.RawPtr.{Ptr, in_a_block, ◌+ₚ◌}
use denote.RawPtr.Bytes.{bytes}
use denote.Ref.{MutRef, mut_vals, mut_Tells}
use denote.Signature.{plain}
use denote.Steps.{nothing, heard, opens, closes}
use denote.Triple.Walked.{Stays, walk_of, says, stay_ref, stay_dropped, Goes-ref, Goes-dropped, ends_at}
use Rattle.std.proofs.alloc.Calls.{Goes-blank}
use Rattle.slot_pool.specs.inner.FreeSlots.{slot_own, slots_own, free_slots_own}
use Rattle.slot_pool.specs.inner.Owned.{bytes_own}
use Rattle.slot_pool.specs.inner.Steps.{IsSlotAt, PutsIn}
use Rattle.slot_pool.proofs.HeapLemmas.{none}
use Rattle.slot_pool.proofs.SlotLemmas.{Room, Others, one_out, one_in, is_live}
use Rattle.slot_pool.proofs.bytes.Bytes.TheLaws as owner
use Rattle.slot_pool.specs.contracts.bytes.Bytes.{the_row as B}
use Rattle.slot_pool.specs.contracts.free_slots.FreeSlots.{the_row as R}
use Rattle.slot_pool.specs.contracts.free_slots.FreeSlots.put_in as f
use Rattle.slot_pool.proofs.free_slots.FreeSlots.put_in.Statement.{statement}
use Rattle.slot_pool.proofs.free_slots.FreeSlots.put_in.Code as code

abbrev stayed : Stays f.ended.signature.params f.ended.kept
stayed = (stay_ref (0 ∷ []) tt (plain (λ _. R)), (stay_dropped (plain (λ _. usize)) yes, (stay_dropped (plain (λ _. B)) yes, tt)))

pub put_in_spec : {M : Type 1} → statement M
put_in_spec 𝓤 𝓛 𝓜 𝓡 wired =
    let c = f.clauses 𝓛 𝓜.mem 𝓡.returns in let W = walk_of 𝓛 f.ended stayed c in let 𝓣 = tables 𝓤 𝓛.H 𝓜 𝓡 𝓡.env in
    proved 𝓛 f.ended stayed c 𝓜 𝓡 (Goes-ref 𝓛 1 0 tt (plain (λ _. R)), (Goes-dropped 𝓛 1 (plain (λ _. usize)) yes (λ κs x w. refl), (Goes-blank 𝓛 1 (plain (λ _. B)) yes (λ κs x w. tt), tt)))
    f.Key.name code.function (code.unfolded 𝓤 𝓛.H 𝓜 𝓡 wired)
    (λ κs. (mut_vals, (uint_vals w64, ((λ d. owner.lowers.lowered d ∷ []), tt)))) (λ κs. (mut_Tells (named 0) κs.0 R, (uint_Tells w64, (owner.lowers.val_is, tt)))) (λ κs qs bounds a _ are.
    let d = a.0.now in let place = a.1.0 in let back = a.1.1.0 in let rb = a.0.ref_ptr.0 in let ro = a.0.ref_ptr.1 in
    let y : W.Ghost = ((κs, qs, bounds, a, (mut_vals a.0, (uint_vals w64 place, (none ∷ [], tt)))), tt) in
    let Asked : Type 0 = IsSlotAt d place back in
    qed 𝓛 (((‵ (flft κs.0 qs.0) ⊛ ‵ ftrue) ⊛ ‵ (owns (MutRef (named 0) κs.0 R ∷ usize ∷ B ∷ []) a y.0.4)) ∷ raw (fact 𝓤 Asked) ∷ []) ∵
    move ! (1 ∷ []) $ heard ! Asked (λ asked. split ! $ split ! $ move ! (2 ∷ []) $ fsplit ! $ move ! (1 ∷ []) $ fsplit ! $ move ! (1 ∷ []) $ fsplit ! $ fsplit ! $ keep ! (4 ∷ 1 ∷ 5 ∷ []) $
    enter ! _ _ _ _ _ $ alloc_all ! (λ l. pass_all ! refl ((tt, tt), ((tt, record { fits = are.1.0.1 }), ((tt, tt), tt))) $
    fsplit3 ! $ move ! (1 ∷ 2 ∷ 4 ∷ []) $ opens ! tt R {h = d} rb ro (λ us. move ! (1 ∷ []) $ fsplit ! $ move ! (1 ∷ []) $
    in_a_block ! d.at (λ q. free_slots_own q d.size d.slots) (id⊢ 𝓤 (never 𝓤)) (λ b o e. fsplit ! $ flt_l ! (λ small.
    let size = d.size in let slots = d.slots in let at = o + place * size in let xs : List ℕ = back.written in let slot : Room = get_or slots place None in let within = asked.within in
    let new : R.Denot = record { at = d.at; size = size; slots = set slots place (Some xs) } in
    use1 𝓛 (‵ (slot_own size b at slot) ⊛ ‵ (Others 𝓛 b size o slots place within)) (one_out 𝓛 b size o slots place within) $ split ! $
    -- [the slot, if it is free; the other slots; what the fields own; the cell; the open borrow, in three entries; nothing; the bytes that come]
    move ! (8 ∷ []) $ rewrite ! 0 (λ (q : Ptr). ‵ (bytes_own q xs back.room)) (asked.lies ∙ ap (λ (q : Ptr). q +ₚ place * size) e) refl $
    fsplit ! $ flt_l ! (λ _. fsplit ! $ move ! (1 ∷ []) $ drop ! $ move ! (1 ∷ 0 ∷ []) $
    use2 𝓛 (given (slot ≡ None) (‵ (bytes full_share xs b at))) (is_live 𝓛 b size 𝓜 at slot xs asked.some asked.long) $ learn ! (λ was.
    feq_i ! ℕ (length xs) size asked.long $ fjoin ! $ use2 𝓛 (‵ (slots_own size b o new.slots)) (one_in 𝓛 b size o slots place within (Some xs)) $
    flt_i ! (length new.slots * size) (2 ^ 63) (subst (λ k. k * size < 2 ^ 63) (sym (length-set slots place (Some xs))) small) $ fjoin ! $
    rewrite ! 0 (λ (q : Ptr). ‵ (free_slots_own q size new.slots)) (sym e) refl $ move ! (1 ∷ 0 ∷ []) $ fjoin ! $ move ! (1 ∷ 0 ∷ []) $ closes ! tt R new us rb ro $
    sets ! (of_opd ! (unit_lit !)) refl (tt, tt) $ returns ! (look_at ! 0 refl) $ free_all ! refl $ keep ! (0 ∷ 1 ∷ 2 ∷ []) $
    let told : PutsIn d new place back = record { was = was; same_at = refl; same_size = refl; slots = refl } in
    suffices ! _ (ends_at 𝓛 f.ended stayed c y vunit tt (new, (tt, (tt, tt))) (tt, (tt, (tt, tt)))) $ says ! told $
    feq_i ! (List Val) (vunit ∷ []) (vunit ∷ []) refl $ move ! (1 ∷ 2 ∷ 3 ∷ 0 ∷ []) $
    nothing ! $ move ! (3 ∷ 0 ∷ []) $ join ! $ frame ! $ feq_i ! (List Val) (mut_vals a.0) (mut_vals a.0) refl $ fjoin3 ! $
    nothing ! $ nothing ! $ fjoin ! $ nothing ! $ fjoin ! $ move ! (1 ∷ 0 ∷ []) $ fjoin ! $ done !))))))))

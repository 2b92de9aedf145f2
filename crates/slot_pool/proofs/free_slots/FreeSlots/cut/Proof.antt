-- `cut` makes slots of a block, all of them free. Assumes `Logic`.
use Rattle.std.proofs.Common.{◌≡◌, ◌*◌, ◌^◌, ◌<◌, List, [], ◌∷◌, length, refl, sym, ap, w64, arith}
use Rattle.std.proofs.raw_atomic.Walks.{proved}
use base.Logic.{never, id⊢}
use base.Fml.{ftrue}
use contract.Monad.{fact}
use contract.Running.{tables}
use types.Kit.{‵, raw, ◌⊛◌, ◌$◌, ◌∵◌, !, qed, done, move, keep, use0, use1, split, join, fsplit, fjoin, flt_i, flt_l, rewrite, suffices}
use types.Part.{agg}
use types.Run.{enter, no_more, returns}
use types.ByLocal.{alloc_all, pass_all, free_all, look_at, sets}
use denote.Exit.{yes}
use denote.Builtin.{usize}
use denote.Plain.{uint_vals, uint_Tells}
use denote.RattleType.{owns}
use denote.RawPtr.{Ptr, in_a_block}
use denote.Signature.{plain}
use denote.Steps.{nothing, heard}
use denote.Triple.Walked.{Stays, walk_of, says, stay_dropped, Goes-dropped, ends_at}
use Rattle.std.proofs.alloc.Calls.{Goes-blank}
use Rattle.slot_pool.specs.inner.FreeSlots.{slots_own, free_slots_own, slots_of}
use Rattle.slot_pool.specs.inner.Owned.{bytes_own}
use Rattle.slot_pool.proofs.HeapLemmas.{none, Spaceless, spaceless_made}
use Rattle.slot_pool.proofs.SlotLemmas.{Room, slots_of_length, slots_in}
use Rattle.slot_pool.proofs.bytes.Bytes.TheLaws as owner
use Rattle.slot_pool.specs.contracts.bytes.Bytes.{the_row as B}
use Rattle.slot_pool.specs.contracts.free_slots.FreeSlots.{the_row as R}
use Rattle.slot_pool.specs.contracts.free_slots.FreeSlots.cut as f
use Rattle.slot_pool.proofs.free_slots.FreeSlots.cut.Statement.{statement}
use Rattle.slot_pool.proofs.free_slots.FreeSlots.cut.Code as code

abbrev stayed : Stays f.ended.signature.params f.ended.kept
stayed = (stay_dropped _ yes, (stay_dropped _ yes, (stay_dropped _ yes, tt)))

pub cut_spec : {M : Type 1} → statement M
cut_spec 𝓤 𝓛 𝓜 𝓡 wired =
    let c = f.clauses 𝓛 𝓜.mem 𝓡.returns in let W = walk_of 𝓛 f.ended stayed c in let 𝓣 = tables 𝓤 𝓛.H 𝓜 𝓡 𝓡.env in
    let number = Goes-dropped 𝓛 0 (plain (λ _. usize)) yes (λ κs x w. refl) in
    proved 𝓛 f.ended stayed c 𝓜 𝓡 (Goes-blank 𝓛 0 (plain (λ _. B)) yes (λ κs x w. tt), (number, (number, tt)))
    f.Key.name code.function (code.unfolded 𝓤 𝓛.H 𝓜 𝓡 wired)
    (λ κs. ((λ d. owner.lowers.lowered d ∷ []), (uint_vals w64, (uint_vals w64, tt)))) (λ κs. (owner.lowers.val_is, (uint_Tells w64, (uint_Tells w64, tt)))) (λ κs qs bounds a _ are.
    let d = a.0 in let count = a.1.0 in let size = a.1.1.0 in let xs = d.written in
    let y : W.Ghost = ((κs, qs, bounds, a, (none ∷ [], (uint_vals w64 count, (uint_vals w64 size, tt)))), tt) in
    let Asked : Type 0 = length xs ≡ count * size in
    let slots : List Room = slots_of count size xs in let made : R.Denot = record { at = d.at; size = size; slots = slots } in
    qed 𝓛 ((‵ ftrue ⊛ ‵ (owns (B ∷ usize ∷ usize ∷ []) a y.0.4)) ∷ raw (fact 𝓤 Asked) ∷ []) ∵
    move ! (1 ∷ []) $ heard ! Asked (λ asked. split ! $ move ! (1 ∷ []) $ fsplit ! $ fsplit ! $ keep ! (1 ∷ []) $
    enter ! _ _ _ _ _ $ alloc_all ! (λ l. pass_all ! refl ((tt, tt), ((tt, record { fits = are.1.0.1 }), ((tt, record { fits = are.1.1.0.1 }), tt))) $
    in_a_block ! d.at (λ q. bytes_own q xs d.room) (id⊢ 𝓤 (never 𝓤)) (λ b o e. fsplit ! $ flt_l ! (λ small. fsplit ! $
    -- [the bytes; the room; the locals]
    sets ! (agg ! (no_more !)) refl (tt, tt) $ use1 𝓛 (‵ (slots_own size b o slots)) (slots_in 𝓛 b size count xs o asked) $
    let fits : length slots * size < 2 ^ 63 = omega (arith, ap (λ k. k * size) (slots_of_length count size xs), asked, small) in flt_i ! (length slots * size) (2 ^ 63) fits $ fjoin ! $
    rewrite ! 0 (λ (q : Ptr). ‵ (free_slots_own q size slots)) (sym e) refl $ use0 𝓛 (‵ (Spaceless.own_val tt (none ∷ []))) (spaceless_made 𝓛) $ fjoin ! $
    returns ! (look_at ! 0 refl) $ free_all ! refl $ keep ! (0 ∷ []) $
    suffices ! _ (ends_at 𝓛 f.ended stayed c y none made (tt, (tt, (tt, tt))) (tt, (tt, (tt, tt)))) $ says ! (refl, refl, refl) $
    nothing ! $ nothing ! $ fjoin ! $ nothing ! $ fjoin ! $ nothing ! $ fjoin ! $ join ! $ nothing ! $ join ! $ done !)))))

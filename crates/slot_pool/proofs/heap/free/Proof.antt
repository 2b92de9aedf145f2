-- `free` makes the block all room, and gives it back with the right to free it. Assumes `Logic`.
use Rattle.std.proofs.Common.{◌≡◌, ℕ, ◌+◌, ◌^◌, ◌<◌, List, [], ◌∷◌, length, refl, sym, ap, subst, ◌∙◌, lit<, w64, arith}
use Rattle.std.proofs.raw_atomic.Walks.{proved}
use base.Fraction.{full_share}
use base.Logic.{emp, never, id⊢}
use base.Fml.{ftrue, flft, fat, froom}
use mir.Syntax.{named, ty_array, ty_unit}
use mir.Val.{Val, vunit, vptr}
use contract.Monad.{fact, fact_i}
use contract.Running.{tables}
use types.Kit.{‵, raw, ◌⊛◌, some, later, await, pick, at_ret, ◌$◌, ◌∵◌, !, qed, done, move, keep, use0, use1, use2, split, join, fsplit, fjoin, feq_i, feq_l, flt_l, rewrite, suffices}
use types.Part.{whole, sub}
use types.Run.{enter, of_opd, unit_lit, and_then, no_more, lit, stop, fld, first, blocks, exec, returns}
use types.ByLocal.{alloc_all, pass_all, free_all, look_at, get, get_in, sets, lands_last, take_at, give_at, env}
use denote.Exit.{yes}
use denote.Builtin.{RefOf, usize, unit}
use denote.Laws.{Is}
use denote.Param.{layout}
use denote.Plain.{uint_vals, uint_Tells, uint_Makes}
use denote.RattleType.{owns}
use denote.RawPtr.{Ptr, block_ptr, in_a_block}
use denote.Ref.{ShrRef, shr_vals, shr_Tells}
use denote.Signature.{plain}
use denote.Steps.{nothing, heard, owned, only}
use denote.Triple.Call.{calls_at_last}
use denote.Triple.Clauses.{lasts}
use denote.Triple.Spec.{triple_of}
use denote.Triple.Table.{framed}
use denote.Triple.Walked.{Stays, walk_of, stay_dropped, Goes-dropped, ends_at}
use Rattle.core.specs.Allocator.{HasLayout}
use Rattle.std.proofs.alloc.Calls.{Goes-blank}
use Rattle.std_alloc.proofs.RcSteps.{Good, word, word-Good}
use Rattle.std_alloc.proofs.VecSteps.Shapes.{after}
use Rattle.std_heap.specs.contracts.Global.{the_row as Heap}
use Rattle.std_heap.specs.contracts.GlobalAllocator.deallocate as g
use Rattle.std_heap.proofs.GlobalAllocator.deallocate.Met.{met}
use Rattle.slot_pool.specs.inner.Heap.{IsRightTo}
use Rattle.slot_pool.specs.inner.Owned.{bytes_own, allocation_owns}
use Rattle.slot_pool.proofs.HeapLemmas.{layout_of, none}
use Rattle.slot_pool.proofs.OwnedLemmas.{byte, room_back}
use Rattle.slot_pool.proofs.bytes.Address.TheLaws as address
use Rattle.slot_pool.proofs.bytes.Bytes.TheLaws as owner
use Rattle.slot_pool.proofs.bytes.Allocation.TheLaws as right
use Rattle.slot_pool.specs.contracts.bytes.Address.{the_row as At}
use Rattle.slot_pool.specs.contracts.bytes.Bytes.{the_row as B}
use Rattle.slot_pool.specs.contracts.bytes.Allocation.{the_row as L}
use Rattle.slot_pool.specs.contracts.heap.free as f
use Rattle.slot_pool.proofs.heap.free.Statement.{statement}
use Rattle.slot_pool.proofs.heap.free.Code as code

abbrev stayed : Stays f.ended.signature.params f.ended.kept
stayed = (stay_dropped _ yes, (stay_dropped _ yes, (stay_dropped _ yes, (stay_dropped _ yes, (stay_dropped _ yes, tt)))))

pub free_spec : {M : Type 1} → statement M
free_spec 𝓤 𝓛 𝓜 𝓡 wired =
    let c = f.clauses 𝓛 𝓜.mem 𝓡.returns in let W = walk_of 𝓛 f.ended stayed c in let 𝓣 = tables 𝓤 𝓛.H 𝓜 𝓡 𝓡.env in
    proved 𝓛 f.ended stayed c 𝓜 𝓡 (
      Goes-dropped 𝓛 1 (RefOf (0 ∷ []) tt (plain (λ _. Heap)) (λ _. tt)) yes (λ κs x w. refl),
      (
        Goes-dropped 𝓛 1 (plain (λ _. At)) yes (λ κs x w. refl),
        (
          Goes-dropped 𝓛 1 (plain (λ _. usize)) yes (λ κs x w. refl),
          (Goes-blank 𝓛 1 (plain (λ _. B)) yes (λ κs x w. tt), (Goes-blank 𝓛 1 (plain (λ _. L)) yes (λ κs x w. tt), tt)),
        ),
      ),
    )
    f.Key.name code.function (code.unfolded 𝓤 𝓛.H 𝓜 𝓡 wired)
    (λ κs. (shr_vals, ((λ a. word a.ptr ∷ []), (uint_vals w64, ((λ d. owner.lowers.lowered d ∷ []), ((λ d. right.lowers.lowered d ∷ []), tt))))))
    (λ κs. (shr_Tells (named 0) κs.0 Heap, (address.lowers.val_is, (uint_Tells w64, (owner.lowers.val_is, (right.lowers.val_is, tt)))))) (λ κs qs bounds a _ are.
    let p = a.1.0.ptr in let len = a.1.1.0 in let d = a.1.1.1.0 in let r = a.1.1.1.1.0 in let τ = ty_array byte len in
    let y : W.Ghost = ((κs, qs, bounds, a, (shr_vals a.0, (word p ∷ [], (uint_vals w64 len, (none ∷ [], (none ∷ [], tt)))))), tt) in
    let G = triple_of 𝓛 g.signature (g.spec 𝓛 𝓜.mem 𝓡.returns) in
    let Asked : Type 0 = (d.at ≡ p) × (length d.written + d.room ≡ len) × IsRightTo p len r in let Laid : Type 0 = HasLayout τ len 1 in
    qed 𝓛 (((‵ (flft κs.0 qs.0) ⊛ ‵ ftrue) ⊛ ‵ (owns (ShrRef (named 0) κs.0 Heap ∷ At ∷ usize ∷ B ∷ L ∷ []) a y.0.4)) ∷ raw (fact 𝓤 Asked) ∷ []) ∵
    move ! (1 ∷ []) $ heard ! Asked (λ asked. split ! $ move ! (1 ∷ []) $ fsplit ! $ move ! (1 ∷ []) $ fsplit ! $ move ! (1 ∷ []) $ fsplit ! $ move ! (1 ∷ []) $ fsplit ! $ fsplit ! $ move ! (2 ∷ []) $ fsplit ! $ fsplit ! $ keep ! (4 ∷ 1 ∷ 7 ∷ 8 ∷ []) $
    enter ! _ _ _ _ _ $ alloc_all ! (λ l. pass_all ! refl ((tt, tt), (word-Good [] p, ((tt, record { fits = are.1.1.0.1 }), ((tt, tt), ((tt, tt), tt))))) $
    in_a_block ! d.at (λ q. bytes_own q d.written d.room) (id⊢ 𝓤 (never 𝓤)) (λ b o e. fsplit ! $ flt_l ! (λ fits. fsplit ! $
    let at : p ≡ block_ptr b o = sym asked.0 ∙ e in let small : len < 2 ^ 63 = omega (arith, asked.1, fits) in
    let z : G.Ghost = ((κs, qs, bounds, (a.0, (block_ptr b o, (len, (1, tt)))), (shr_vals a.0, (vptr b o ∷ [], (uint_vals w64 len, (uint_vals w64 1, tt))))), τ) in
    take_at ! 2 $ rewrite ! 0 (λ (q : Ptr). ‵ (fat full_share (layout At) (l 2) 0 (word q))) at refl $ give_at ! 2 $ first ! $ blocks ! $
    use2 𝓛 (‵ (froom (ty_array byte (length d.written + d.room)) b o)) (room_back 𝓛 b d.written d.room o) $ rewrite ! 0 (λ (k : ℕ). ‵ (froom (ty_array byte k) b o)) asked.1 refl $
    rewrite ! 1 (λ (w : Ptr × ℕ). ‵ (allocation_owns w.0 w.1)) (λ i. ((asked.2.0 ∙ at) i, asked.2.1 i)) refl $ fjoin ! $
    -- [the block; the `&` to the heap's handle; the tokens; the locals]
    use0 𝓛 (raw (fact 𝓤 Laid)) (fact_i 𝓤 Laid (emp 𝓤) (layout_of len small)) $ join ! $
    nothing ! $ owned ! usize (Is usize) (uint_Makes 𝓛 w64) 1 _ (refl, lit< tt) $ fjoin ! $ owned ! usize (Is usize) (uint_Makes 𝓛 w64) len _ (refl, are.1.1.0.1) $ fjoin ! $
    feq_i ! (List Val) (vptr b o ∷ []) (vptr b o ∷ []) refl $ fjoin ! $ move ! (2 ∷ 0 ∷ []) $ fjoin ! $ move ! (2 ∷ 0 ∷ []) $ join ! $ join ! $ use1 𝓛 (raw (G.pre z)) (id⊢ 𝓤 _) $
    calls_at_last ! (framed 𝓤 𝓛.H 𝓜 𝓣) G (met 𝓤 𝓛 𝓜 𝓡 (code.calls-std_heap::GlobalAllocator::deallocate 𝓡.env wired)) z
    (and_then ! (get ! refl) (and_then ! (get_in ! (fld ! refl (stop !)) (sub ! 0 refl (whole !))) (and_then ! (get ! refl) (and_then ! (lit ! tt) (no_more !))))) (λ v.
    use1 𝓛 (later (some (λ (u : Unit {0}). ((‵ (flft κs.0 qs.0) ⊛ ‵ ftrue) ⊛ ‵ (unit.own_val u (v ∷ []))) ⊛
    some (λ (ws : Unit {0} × (Unit {0} × (Unit {0} × (Unit {0} × Unit {0})))). ‵ (lasts g.ended κs z.0.3 ws) ⊛ ‵ ftrue)))) (id⊢ 𝓤 _) $ await ! tt $
    pick ! (λ u. split ! $ split ! $ move ! (1 ∷ []) $ feq_l ! (λ is. lands_last ! refl (subst (Good ty_unit) (sym (ap only is)) (tt, tt)) $
    exec ! 𝓣.C 𝓣.Λ (env (code.function).locals l) (after 1 (code.function).body) (at_ret _ (W.post y)) $ sets ! (of_opd ! (unit_lit !)) refl (tt, tt) $
    returns ! (look_at ! 0 refl) $ free_all ! refl $ keep ! (0 ∷ []) $
    suffices ! _ (ends_at 𝓛 f.ended stayed c y vunit tt (tt, (tt, (tt, (tt, (tt, tt))))) (tt, (tt, (tt, (tt, (tt, tt)))))) $
    feq_i ! (List Val) (vunit ∷ []) (vunit ∷ []) refl $ nothing ! $ nothing ! $ fjoin ! $ nothing ! $ fjoin ! $ nothing ! $ fjoin ! $ nothing ! $ fjoin ! $ nothing ! $ fjoin ! $ join ! $
    move ! (1 ∷ 0 ∷ []) $ join ! $ nothing ! $ move ! (1 ∷ 0 ∷ []) $ done !))))))))

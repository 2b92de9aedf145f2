-- `allocate` asks the heap for a block, which is all room, and keeps the right to free it. Assumes `Logic`.
use Rattle.std.proofs.Common.{◌≡◌, ℕ, ◌+◌, ◌^◌, ◌<◌, [], ◌∷◌, refl, lit<, w64, arith, true, false}
use Rattle.std.proofs.raw_atomic.Walks.{proved}
use base.Logic.{emp, id⊢}
use base.Fml.{ftrue, flft, froom}
use mir.Syntax.{Body, named, ty_array}
use mir.Val.{Val, vcons, vnil}
use prog.Wp.{Env, Wp, after_seq, at_return}
use contract.Monad.{fact, fact_i}
use contract.Running.{tables}
use types.Kit.{Post as After, any_q, Sq, prop, ‵, raw, ◌⊛◌, some, later, await, pick, at_ret, ◌$◌, ◌∵◌, !, qed, done, move, keep, use0, use1, use2, split, join, fsplit, fjoin, flt_i, rewrite, suffices}
use types.Match.{live, vrt, in_variant}
use types.Part.{whole, agg}
use types.Run.{enter, of_opd, and_then, no_more, lit, stop, fld, first, switches_on, exec, returns}
use types.ByLocal.{alloc_all, pass_all, free_all, look_at, get, get_in, get_tag, sets, sets_last, lands_as, env}
use denote.Exit.{yes}
use denote.Builtin.{RefOf, usize}
use denote.Laws.{Is}
use denote.Param.{layout}
use denote.Plain.{uint_vals, uint_Tells, uint_Makes}
use denote.RattleType.{RattleType, owns}
use denote.RawPtr.{Ptr, block_ptr}
use denote.Ref.{ShrRef, shr_vals, shr_Tells}
use denote.Signature.{plain}
use denote.Steps.{nothing, heard, owned}
use denote.Struct.Struct.{Struct, Struct-Makes}
use denote.Struct.Declared as Declared
use denote.Triple.Call.{calls_at}
use denote.Triple.Clauses.{lasts}
use denote.Triple.Spec.{triple_of}
use denote.Triple.Table.{framed}
use denote.Triple.Walked.{Stays, walk_of, says, stay_dropped, Goes-dropped, ends_at}
use Rattle.core.specs.Allocator.{HasLayout, block_if_ok}
use Rattle.core.specs.contracts.alloc.AllocError as E
use Rattle.core.specs.contracts.result.Result as Res
use Rattle.core.specs.declared.result.Result.TheVariants.{Ok, Err}
use Rattle.std.specs.Prelude.{IfOk}
use Rattle.std.proofs.alloc.Calls.{Answer, Answer-typed}
use Rattle.std_alloc.proofs.RcSteps.{word-Good, Good, first_Good}
use Rattle.std_alloc.proofs.ResultValues.{ok_of, err_of}
use Rattle.std_alloc.proofs.VecSteps.Shapes.{after, head, arm_body}
use Rattle.std_heap.specs.contracts.Global.{the_row as Heap}
use Rattle.std_heap.specs.contracts.GlobalAllocator.allocate as g
use Rattle.std_heap.proofs.GlobalAllocator.allocate.Met.{met}
use Rattle.slot_pool.specs.inner.Heap.{IsNew}
use Rattle.slot_pool.specs.inner.Owned.{heap}
use Rattle.std_heap.specs.contracts.GlobalAllocator.TheImpl.{ghosts}
use Rattle.slot_pool.proofs.HeapLemmas.{layout_of, answered, none, Parts, parts_val, parts_made}
use Rattle.slot_pool.proofs.OwnedLemmas.{byte}
use Rattle.slot_pool.specs.contracts.bytes.Bytes.{the_row as B}
use Rattle.slot_pool.specs.contracts.bytes.Allocation.{the_row as L}
use Rattle.slot_pool.specs.contracts.heap.allocate as f
use Rattle.slot_pool.proofs.heap.allocate.Statement.{statement}
use Rattle.slot_pool.proofs.heap.allocate.Code as code

abbrev stayed : Stays f.ended.signature.params f.ended.kept
stayed = (stay_dropped _ yes, (stay_dropped _ yes, tt))

pub allocate_spec : {M : Type 1} → statement M
allocate_spec 𝓤 𝓛 𝓜 𝓡 wired =
    let c = f.clauses 𝓛 𝓜.mem 𝓡.returns in let W = walk_of 𝓛 f.ended stayed c in let 𝓣 = tables 𝓤 𝓛.H 𝓜 𝓡 𝓡.env in
    proved 𝓛 f.ended stayed c 𝓜 𝓡 (Goes-dropped 𝓛 1 (RefOf (0 ∷ []) tt (plain (λ _. Heap)) (λ _. tt)) yes (λ κs x w. refl), (Goes-dropped 𝓛 1 (plain (λ _. usize)) yes (λ κs x w. refl), tt))
    f.Key.name code.function (code.unfolded 𝓤 𝓛.H 𝓜 𝓡 wired)
    (λ κs. (shr_vals, (uint_vals w64, tt))) (λ κs. (shr_Tells (named 0) κs.0 Heap, (uint_Tells w64, tt))) (λ κs qs bounds a _ are.
    let len = a.1.0 in let τ = ty_array byte len in
    let y : W.Ghost = ((κs, qs, bounds, a, (shr_vals a.0, (uint_vals w64 len, tt))), tt) in
    let G = triple_of 𝓛 g.signature (g.spec 𝓛 𝓜.mem 𝓡.returns) in
    let z : G.Ghost = ((κs, qs, bounds, (a.0, (len, (1, tt))), (shr_vals a.0, (uint_vals w64 len, (uint_vals w64 1, tt)))), τ) in
    let Out = Res.the_row Parts E.the_row in
    let ends : (r : Out.Denot) (v : Val) → IfOk r (λ o. IsNew len o.0.ptr o.1 o.2)
    → Sq 𝓛 (‵ (Out.own_val r (v ∷ [])) ∷ (‵ (flft κs.0 qs.0) ⊛ ‵ ftrue) ∷ []) (prop (W.post y v)) = λ r v told.
    suffices ! _ (ends_at 𝓛 f.ended stayed c y v r (tt, (tt, tt)) (tt, (tt, tt))) $ says ! told $
    nothing ! $ nothing ! $ fjoin ! $ nothing ! $ fjoin ! $ join ! $ move ! (1 ∷ 0 ∷ []) $ join ! $ done ! in
    let En : (ℕ → ℕ) → Env 𝓤 𝓛.H = λ l. env (code.function).locals l in let rest : Body = after 2 (code.function).body in let both : Body = head (after 1 (code.function).body) in
    let Then : (ℕ → ℕ) → After 𝓤 𝓛.H = λ l. any_q (after_seq 𝓤 𝓛.H (Wp 𝓤 𝓛.H 𝓣.C 𝓣.Λ (En l) rest (at_return 𝓤 𝓛.H (En l) (W.post y))) (at_return 𝓤 𝓛.H (En l) (W.post y))) in
    let Asked : Type 0 = len < 2 ^ 63 in let Laid : Type 0 = HasLayout τ len 1 in
    qed 𝓛 (((‵ (flft κs.0 qs.0) ⊛ ‵ ftrue) ⊛ ‵ (owns (ShrRef (named 0) κs.0 Heap ∷ usize ∷ []) a y.0.4)) ∷ raw (fact 𝓤 Asked) ∷ []) ∵
    move ! (1 ∷ []) $ heard ! Asked (λ small. split ! $ move ! (1 ∷ []) $ fsplit ! $ keep ! (0 ∷ 2 ∷ []) $
    enter ! _ _ _ _ _ $ alloc_all ! (λ l. pass_all ! refl ((tt, tt), ((tt, record { fits = are.1.0.1 }), tt)) $
    nothing ! $ owned ! usize (Is usize) (uint_Makes 𝓛 w64) 1 _ (refl, lit< tt) $ fjoin ! $ owned ! usize (Is usize) (uint_Makes 𝓛 w64) len _ (refl, are.1.0.1) $ fjoin ! $ move ! (1 ∷ 0 ∷ []) $ fjoin ! $
    move ! (1 ∷ 0 ∷ []) $ join ! $ use0 𝓛 (raw (fact 𝓤 Laid)) (fact_i 𝓤 Laid (emp 𝓤) (layout_of len small)) $ move ! (1 ∷ 0 ∷ []) $ join ! $ use1 𝓛 (raw (G.pre z)) (id⊢ 𝓤 _) $
    calls_at ! (framed 𝓤 𝓛.H 𝓜 𝓣) G (met 𝓤 𝓛 𝓜 𝓡 (code.calls-std_heap::GlobalAllocator::allocate 𝓡.env wired)) z
    (and_then ! (get ! refl) (and_then ! (get ! refl) (and_then ! (lit ! tt) (no_more !)))) (λ v.
    use1 𝓛 (later (some (λ (r : Answer.Denot). ((‵ (flft κs.0 qs.0) ⊛ ‵ ftrue) ⊛ ‵ (Answer.own_val r (v ∷ []))) ⊛
    some (λ (ws : Unit {0} × (Unit {0} × (Unit {0} × Unit {0}))). ‵ (lasts g.ended κs z.0.3 ws) ⊛ ‵ (block_if_ok (ghosts.dealloc_token heap) τ r))))) (id⊢ 𝓤 _) $ await ! tt $
    pick ! (λ r. split ! $ move ! (1 ∷ []) $ pick ! (λ ws. split ! $ move ! (2 ∷ []) $ split ! $ move ! (1 ∷ 3 ∷ []) $
    -- [the answer; the block, if there is one; the tokens; nothing; the locals]
    answered ! len v r
    (λ b o is.
    let p : Ptr = block_ptr b o in let bytes : B.Denot = record { at = p; written = []; room = len } in let right : L.Denot = record { at = p; len = len } in
    let parts : Parts.Denot = (record { ptr = p }, bytes, right) in let made : Val = live 0 (vcons (parts_val p) vnil) in
    let typed : Good (layout Parts) (parts_val p) = (tt, ((tt, tt), (tt, (tt, tt)))) in let ok = first_Good (layout Parts) (parts_val p) typed in
    lands_as ! is refl (Answer-typed true b o) $ first ! $ switches_on ! (get_tag ! (vrt ! refl (fld ! refl (stop !))) (whole !)) $ exec ! 𝓣.C 𝓣.Λ (En l) (arm_body 0 both) (Then l) $
    sets ! (of_opd ! (get_in ! (vrt ! refl (fld ! refl (stop !))) (in_variant ! 0 0 refl refl (whole !)))) refl (tt, tt) $
    sets ! (agg ! (and_then ! (get ! refl) (no_more !))) refl (word-Good [] p) $ sets ! (agg ! (no_more !)) refl (tt, tt) $ sets ! (agg ! (no_more !)) refl (tt, tt) $
    sets ! (agg ! (and_then ! (get ! refl) (and_then ! (get ! refl) (and_then ! (get ! refl) (no_more !))))) refl typed $
    sets_last ! (agg ! (and_then ! (lit ! tt) (and_then ! (get ! refl) (no_more !)))) refl ok $
    exec ! 𝓣.C 𝓣.Λ (En l) rest (at_ret (En l) (W.post y)) $ sets ! (of_opd ! (get ! refl)) refl ok $
    let start : o ≡ o + 0 = omega arith in
    rewrite ! 0 (λ (k : ℕ). ‵ (froom τ b k)) start refl $ nothing ! $ fjoin ! $ flt_i ! (0 + len) (2 ^ 63) (omega arith) $ fjoin ! $
    use2 𝓛 (‵ (Parts.own_val parts (parts_val p ∷ []))) (parts_made 𝓛 p bytes right) $
    use1 𝓛 (‵ (Out.own_val (Ok parts) (made ∷ []))) (ok_of 𝓛 Parts E.the_row parts (parts_val p)) $
    returns ! (look_at ! 0 refl) $ free_all ! refl $ keep ! (0 ∷ 1 ∷ []) $ ends (Ok parts) made (record { placed = tt; lies = refl; empty = refl; room = refl; frees = (refl, refl) }))
    (λ is.
    let Refusal : RattleType = Struct (Declared.shape E.the_type) in let made : Val = live 1 (vcons none vnil) in
    lands_as ! is refl (Answer-typed false 0 0) $ first ! $ switches_on ! (get_tag ! (vrt ! refl (fld ! refl (stop !))) (whole !)) $ exec ! 𝓣.C 𝓣.Λ (En l) (arm_body 1 both) (Then l) $
    sets ! (of_opd ! (get_in ! (vrt ! refl (fld ! refl (stop !))) (in_variant ! 1 0 refl refl (whole !)))) refl (tt, tt) $
    sets_last ! (agg ! (and_then ! (lit ! tt) (and_then ! (get ! refl) (no_more !)))) refl (tt, (record { fits = lit< tt }, (tt, tt))) $
    exec ! 𝓣.C 𝓣.Λ (En l) rest (at_ret (En l) (W.post y)) $ sets ! (of_opd ! (get ! refl)) refl (tt, (record { fits = lit< tt }, (tt, tt))) $
    owned ! Refusal (Is Refusal) (Struct-Makes 𝓛 (Declared.shape E.the_type) tt) tt (none ∷ []) (tt, (refl, tt)) $
    use1 𝓛 (‵ (Out.own_val (Err (record {})) (made ∷ []))) (err_of 𝓛 Parts E.the_row (record {}) none) $
    returns ! (look_at ! 0 refl) $ free_all ! refl $ keep ! (0 ∷ 1 ∷ []) $ ends (Err (record {})) made tt)))))))

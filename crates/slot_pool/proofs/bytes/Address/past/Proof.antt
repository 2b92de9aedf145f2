-- `past` adds to an address. Assumes `Logic`.
use Rattle.std.proofs.Common.{◌≡◌, ◌+◌, [], ◌∷◌, refl, sym, ap, w64, arith}
use Rattle.std.proofs.raw_atomic.Walks.{proved}
use base.Fml.{ftrue}
use mir.Val.{vptr}
use contract.Monad.{fact}
use contract.Running.{tables}
use prog.Wp.{WpFn}
use types.Kit.{‵, raw, ◌⊛◌, at_ret, ◌$◌, ◌∵◌, !, qed, done, move, keep, use0, join, regoal, prop, suffices}
use types.Part.{whole, sub, agg}
use types.Run.{enter, and_then, no_more, stop, fld, bin, of_opd, first, blocks, exec, returns}
use types.ByLocal.{alloc_all, pass_all, free_all, look_at, get, get_in, is, sets, sets_last, env}
use denote.Exit.{yes}
use denote.Builtin.{usize}
use denote.Plain.{uint_vals, uint_Tells}
use denote.RattleType.{owns}
use denote.RawPtr.{Ptr, InBlock, block_ptr, block_of, count_of, at_block, ◌+ₚ◌}
use denote.Signature.{plain}
use denote.Steps.{nothing, heard}
use denote.Triple.Walked.{Stays, walk_of, says, stay_dropped, Goes-dropped, ends_at}
use Rattle.std_alloc.proofs.RcSteps.{word, word-Good}
use Rattle.std_alloc.proofs.VecSteps.Shapes.{after}
use Rattle.slot_pool.proofs.HeapLemmas.{address_made}
use Rattle.slot_pool.proofs.bytes.Address.TheLaws as address
use Rattle.slot_pool.specs.contracts.bytes.Address.{the_row as At}
use Rattle.slot_pool.specs.contracts.bytes.Address.past as f
use Rattle.slot_pool.proofs.bytes.Address.past.Statement.{statement}
use Rattle.slot_pool.proofs.bytes.Address.past.Code as code

abbrev stayed : Stays f.ended.signature.params f.ended.kept
stayed = (stay_dropped _ yes, (stay_dropped _ yes, tt))

pub past_spec : {M : Type 1} → statement M
past_spec 𝓤 𝓛 𝓜 𝓡 wired =
    let c = f.clauses 𝓛 𝓜.mem 𝓡.returns in let W = walk_of 𝓛 f.ended stayed c in let 𝓣 = tables 𝓤 𝓛.H 𝓜 𝓡 𝓡.env in
    proved 𝓛 f.ended stayed c 𝓜 𝓡 (Goes-dropped 𝓛 0 (plain (λ _. At)) yes (λ κs x w. refl), (Goes-dropped 𝓛 0 (plain (λ _. usize)) yes (λ κs x w. refl), tt))
    f.Key.name code.function (code.unfolded 𝓤 𝓛.H 𝓜 𝓡 wired)
    (λ κs. ((λ a. word a.ptr ∷ []), (uint_vals w64, tt))) (λ κs. (address.lowers.val_is, (uint_Tells w64, tt))) (λ κs qs bounds a _ are.
    let p = a.0.ptr in let n = a.1.0 in
    let y : W.Ghost = ((κs, qs, bounds, a, (word p ∷ [], (uint_vals w64 n, tt))), tt) in
    let Asked : Type 0 = InBlock p in
    qed 𝓛 ((‵ ftrue ⊛ ‵ (owns (At ∷ usize ∷ []) a y.0.4)) ∷ raw (fact 𝓤 Asked) ∷ []) ∵
    move ! (1 ∷ []) $ heard ! Asked (λ asked. keep ! [] $
    let b = block_of p in let o = count_of p in let e = at_block p asked in let to : Ptr = block_ptr b (o + n) in let on : n + o ≡ o + n = omega arith in
    regoal ! (λ (q : Ptr). prop (WpFn 𝓤 𝓛.H 𝓣.C 𝓣.Λ code.function (word q ∷ uint_vals w64 n) (W.post y))) e refl $
    enter ! _ _ _ _ _ $ alloc_all ! (λ l. pass_all ! refl (word-Good [] (block_ptr b o), ((tt, record { fits = are.1.0.1 }), tt)) $
    first ! $ blocks ! $ sets ! (of_opd ! (get_in ! (fld ! refl (stop !)) (sub ! 0 refl (whole !)))) refl (tt, tt) $ sets ! (of_opd ! (get ! refl)) refl (tt, record { fits = are.1.0.1 }) $
    sets_last ! (is ! (bin ! (get ! refl) (get ! refl) tt) (ap (vptr b) on)) refl (tt, tt) $
    exec ! 𝓣.C 𝓣.Λ (env (code.function).locals l) (after 1 (code.function).body) (at_ret _ (W.post y)) $
    sets ! (of_opd ! (get ! refl)) refl (tt, tt) $ sets ! (agg ! (and_then ! (get ! refl) (no_more !))) refl (word-Good [] to) $
    returns ! (look_at ! 0 refl) $ free_all ! refl $
    suffices ! _ (ends_at 𝓛 f.ended stayed c y (word to) (record { ptr = to }) (tt, (tt, tt)) (tt, (tt, tt))) $ says ! (sym (ap (λ (q : Ptr). q +ₚ n) e)) $
    use0 𝓛 (‵ (At.own_val (record { ptr = to }) (word to ∷ []))) (address_made 𝓛 to) $ nothing ! $ nothing ! $ join ! $ nothing ! $ join ! $ join ! $ nothing ! $ join ! $ done !)))

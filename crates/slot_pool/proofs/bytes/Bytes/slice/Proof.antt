-- `slice` shows the bytes that a `&` to their owner shows. Assumes `Logic`.
use Rattle.std.proofs.Common.{◌≡◌, ℕ, ◌*◌, ◌^◌, List, [], ◌∷◌, length, refl, ap, ◌∙◌, w64, arith}
use Rattle.std.proofs.raw_atomic.Walks.{proved}
use base.Fraction.{full_share}
use base.Logic.{never, id⊢}
use base.Fml.{ftrue, flft, fat}
use mir.Syntax.{named}
use mir.Val.{Val}
use contract.Monad.{fact}
use contract.Running.{tables}
use types.Kit.{‵, raw, ◌⊛◌, at_ret, ◌$◌, ◌∵◌, !, qed, done, move, keep, drop, split, join, fsplit, fjoin, feq_i, flt_i, flt_l, rewrite, suffices}
use types.Part.{whole, sub, agg}
use types.Run.{enter, of_opd, and_then, no_more, stop, fld, first, blocks, exec, returns}
use types.ByLocal.{alloc_all, pass_all, free_all, look_at, get, get_in, sets, sets_last, take_at, give_at, env}
use denote.Exit.{yes}
use denote.Builtin.{RefOf, usize}
use denote.Opens.{hide, unhide}
use denote.Param.{layout}
use denote.Plain.{uint_vals, uint_Tells}
use denote.RattleType.{owns}
use denote.RawPtr.{Ptr, in_a_block}
use denote.Ref.{ShrRef, shr_vals, shr_Tells}
use denote.Signature.{plain}
use denote.Slice.{slice_val}
use denote.Steps.{nothing, heard}
use denote.Triple.Walked.{Stays, walk_of, says, stay_dropped, Goes-dropped, ends_at}
use Rattle.std_alloc.proofs.RcSteps.{word, word-Good}
use Rattle.std_alloc.proofs.VecSteps.Shapes.{after}
use Rattle.slot_pool.specs.inner.Owned.{bytes_lent}
use Rattle.slot_pool.proofs.bytes.Address.TheLaws as address
use Rattle.slot_pool.specs.contracts.bytes.Address.{the_row as At}
use Rattle.slot_pool.specs.contracts.bytes.Bytes.{the_row as R}
use Rattle.slot_pool.specs.contracts.bytes.Bytes.slice as f
use Rattle.slot_pool.proofs.bytes.Bytes.slice.Statement.{statement}
use Rattle.slot_pool.proofs.bytes.Bytes.slice.Code as code

abbrev stayed : Stays f.ended.signature.params f.ended.kept
stayed = (stay_dropped _ yes, (stay_dropped _ yes, (stay_dropped _ yes, tt)))

pub slice_spec : {M : Type 1} → statement M
slice_spec 𝓤 𝓛 𝓜 𝓡 wired =
    let c = f.clauses 𝓛 𝓜.mem 𝓡.returns in let W = walk_of 𝓛 f.ended stayed c in let 𝓣 = tables 𝓤 𝓛.H 𝓜 𝓡 𝓡.env in
    proved 𝓛 f.ended stayed c 𝓜 𝓡 (Goes-dropped 𝓛 1 (RefOf (0 ∷ []) tt (plain (λ _. R)) (λ _. tt)) yes (λ κs x w. refl), (Goes-dropped 𝓛 1 (plain (λ _. At)) yes (λ κs x w. refl), (Goes-dropped 𝓛 1 (plain (λ _. usize)) yes (λ κs x w. refl), tt)))
    f.Key.name code.function (code.unfolded 𝓤 𝓛.H 𝓜 𝓡 wired)
    (λ κs. (shr_vals, ((λ a. word a.ptr ∷ []), (uint_vals w64, tt)))) (λ κs. (shr_Tells (named 0) κs.0 R, (address.lowers.val_is, (uint_Tells w64, tt)))) (λ κs qs bounds a _ are.
    let d = a.0.now in let p = a.1.0.ptr in let len = a.1.1.0 in let xs = d.written in
    let y : W.Ghost = ((κs, qs, bounds, a, (shr_vals a.0, (word p ∷ [], (uint_vals w64 len, tt)))), tt) in
    let Asked : Type 0 = (p ≡ d.at) × (len ≡ length d.written) in
    qed 𝓛 (((‵ (flft κs.0 qs.0) ⊛ ‵ ftrue) ⊛ ‵ (owns (ShrRef (named 0) κs.0 R ∷ At ∷ usize ∷ []) a y.0.4)) ∷ raw (fact 𝓤 Asked) ∷ []) ∵
    move ! (1 ∷ []) $ heard ! Asked (λ asked. split ! $ split ! $ move ! (2 ∷ []) $ fsplit ! $ keep ! (0 ∷ 2 ∷ []) $ fsplit ! $ move ! (1 ∷ 2 ∷ []) $
    enter ! _ _ _ _ _ $ alloc_all ! (λ l. pass_all ! refl ((tt, tt), (word-Good [] p, ((tt, record { fits = are.1.1.0.1 }), tt))) $
    unhide ! $ fsplit ! $ drop ! $ in_a_block ! d.at (λ q. bytes_lent q xs d.room κs.0) (id⊢ 𝓤 (never 𝓤)) (λ b o e. fsplit ! $ flt_l ! (λ small.
    let at : ℕ × ℕ = (b, o) in
    take_at ! 2 $ rewrite ! 0 (λ (q : Ptr). ‵ (fat full_share (layout At) (l 2) 0 (word q))) (asked.0 ∙ e) refl $ give_at ! 2 $ first ! $ blocks ! $ hide ! $
    sets_last ! (agg ! (and_then ! (get_in ! (fld ! refl (stop !)) (sub ! 0 refl (whole !))) (and_then ! (get ! refl) (no_more !)))) refl (tt, (tt, (record { fits = are.1.1.0.1 }, tt))) $
    exec ! 𝓣.C 𝓣.Λ (env (code.function).locals l) (after 1 (code.function).body) (at_ret _ (W.post y)) $ sets ! (of_opd ! (get ! refl)) refl (tt, (tt, (record { fits = are.1.1.0.1 }, tt))) $
    flt_i ! (length xs * 1) (2 ^ 63) (omega arith) $ flt_i ! (length xs) (2 ^ 64) (omega arith) $ fjoin ! $
    feq_i ! (List Val) (slice_val at len ∷ []) (slice_val at (length xs) ∷ []) (ap (λ k. slice_val at k ∷ []) asked.1) $ fjoin ! $ fjoin ! $
    returns ! (look_at ! 0 refl) $ free_all ! refl $ keep ! (0 ∷ 1 ∷ []) $
    suffices ! _ (ends_at 𝓛 f.ended stayed c y (slice_val at len) (record { ref_ptr = at; now = xs }) (tt, (tt, (tt, tt))) (tt, (tt, (tt, tt)))) $ says ! refl $
    nothing ! $ nothing ! $ fjoin ! $ nothing ! $ fjoin ! $ nothing ! $ fjoin ! $ join ! $ nothing ! $ move ! (2 ∷ 0 ∷ []) $ join ! $ join ! $ done !)))))

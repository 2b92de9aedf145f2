-- `keep_apart` looks at the bytes of two owners at once. Assumes `Logic`.
use Rattle.std.proofs.Common.{◌+◌, ◌^◌, ◌<◌, List, [], ◌∷◌, length, refl, sym}
use Rattle.std.proofs.raw_atomic.Walks.{proved}
use base.Fraction.{full_share}
use base.Logic.{never, id⊢}
use base.Fml.{ftrue, flft}
use mir.Syntax.{named}
use mir.Val.{Val, vunit}
use contract.Monad.{fact}
use contract.Running.{tables}
use types.Kit.{‵, raw, ◌⊛◌, given, learn, ◌$◌, ◌∵◌, !, qed, done, move, keep, use2, split, join, fsplit, fsplit3, fjoin, fjoin3, feq_i, flt_i, flt_l, rewrite, suffices, frame}
use types.Run.{enter, of_opd, unit_lit, returns}
use types.ByLocal.{alloc_all, pass_all, free_all, look_at, sets}
use denote.RattleType.{owns}
use denote.RawPtr.{Ptr, in_a_block}
use denote.RawPtr.Bytes.{bytes}
use denote.Ref.{MutRef, mut_vals, mut_Tells}
use denote.Signature.{plain}
use denote.Steps.{nothing, heard, opens, closes}
use denote.Triple.Walked.{Stays, walk_of, says, stay_ref, Goes-ref, ends_at}
use Rattle.slot_pool.specs.inner.Owned.{bytes_own}
use Rattle.slot_pool.proofs.SlotLemmas.{ApartIn, keep_apart, no_byte_in_both}
use Rattle.slot_pool.specs.contracts.bytes.Bytes.{the_row as R}
use Rattle.slot_pool.specs.contracts.bytes.Bytes.keep_apart as f
use Rattle.slot_pool.proofs.bytes.Bytes.keep_apart.Statement.{statement}
use Rattle.slot_pool.proofs.bytes.Bytes.keep_apart.Code as code

abbrev stayed : Stays f.ended.signature.params f.ended.kept
stayed = (stay_ref (0 ∷ []) tt (plain (λ _. R)), (stay_ref (1 ∷ []) tt (plain (λ _. R)), tt))

pub keep_apart_spec : {M : Type 1} → statement M
keep_apart_spec 𝓤 𝓛 𝓜 𝓡 wired =
    let c = f.clauses 𝓛 𝓜.mem 𝓡.returns in let W = walk_of 𝓛 f.ended stayed c in let 𝓣 = tables 𝓤 𝓛.H 𝓜 𝓡 𝓡.env in
    proved 𝓛 f.ended stayed c 𝓜 𝓡 (Goes-ref 𝓛 2 0 tt (plain (λ _. R)), (Goes-ref 𝓛 2 1 tt (plain (λ _. R)), tt))
    f.Key.name code.function (code.unfolded 𝓤 𝓛.H 𝓜 𝓡 wired)
    (λ κs. (mut_vals, (mut_vals, tt))) (λ κs. (mut_Tells (named 0) κs.0 R, (mut_Tells (named 1) κs.1.0 R, tt))) (λ κs qs bounds a _ are.
    let d = a.0.now in let rb = a.0.ref_ptr.0 in let ro = a.0.ref_ptr.1 in let g = a.1.0.now in let sb = a.1.0.ref_ptr.0 in let so = a.1.0.ref_ptr.1 in
    let xs = d.written in let ys = g.written in
    let y : W.Ghost = ((κs, qs, bounds, a, (mut_vals a.0, (mut_vals a.1.0, tt))), tt) in
    let Asked : Type 0 = (0 < length xs) × (0 < length ys) in
    qed 𝓛 (((‵ (flft κs.0 qs.0) ⊛ ‵ (flft κs.1.0 qs.1.0) ⊛ ‵ ftrue) ⊛ ‵ (owns (MutRef (named 0) κs.0 R ∷ MutRef (named 1) κs.1.0 R ∷ []) a y.0.4)) ∷ raw (fact 𝓤 Asked) ∷ []) ∵
    move ! (1 ∷ []) $ heard ! Asked (λ asked. split ! $ split ! $ move ! (1 ∷ []) $ split ! $ move ! (3 ∷ []) $ fsplit ! $ move ! (1 ∷ []) $ fsplit ! $ keep ! (2 ∷ 5 ∷ 0 ∷ 3 ∷ []) $
    -- [the first owner's reference; its token; the second owner's; its token]
    enter ! _ _ _ _ _ $ alloc_all ! (λ l. pass_all ! refl ((tt, tt), ((tt, tt), tt)) $
    fsplit3 ! $ move ! (1 ∷ 2 ∷ 3 ∷ []) $ opens ! tt R {h = d} rb ro (λ us. move ! (6 ∷ []) $ fsplit3 ! $ move ! (1 ∷ 2 ∷ 9 ∷ []) $ opens ! tt R {h = g} sb so (λ vs.
    move ! (7 ∷ []) $ fsplit ! $ move ! (1 ∷ []) $ in_a_block ! d.at (λ q. bytes_own q xs d.room) (id⊢ 𝓤 (never 𝓤)) (λ b o e. fsplit ! $ flt_l ! (λ small. fsplit ! $
    move ! (4 ∷ []) $ fsplit ! $ move ! (1 ∷ []) $ in_a_block ! g.at (λ q. bytes_own q ys g.room) (id⊢ 𝓤 (never 𝓤)) (λ b' o' e'. fsplit ! $ flt_l ! (λ small'. fsplit ! $ move ! (3 ∷ 0 ∷ []) $
    use2 𝓛 (given (ApartIn b o (length xs) b' o' (length ys)) (‵ (bytes full_share xs b o) ⊛ ‵ (bytes full_share ys b' o'))) (keep_apart 𝓛 𝓜 b o xs b' o' ys asked.0 asked.1) $ learn ! (λ apart. split ! $
    -- the first owner has its bytes again
    move ! (0 ∷ 4 ∷ []) $ fjoin ! $ flt_i ! (length xs + d.room) (2 ^ 63) small $ fjoin ! $ rewrite ! 0 (λ (q : Ptr). ‵ (bytes_own q xs d.room)) (sym e) refl $
    move ! (4 ∷ 0 ∷ []) $ fjoin ! $ move ! (9 ∷ 0 ∷ 10 ∷ 11 ∷ 12 ∷ []) $ closes ! tt R d us rb ro $
    -- and so has the second
    move ! (3 ∷ 4 ∷ 5 ∷ []) $ fjoin ! $ flt_i ! (length ys + g.room) (2 ^ 63) small' $ fjoin ! $ rewrite ! 0 (λ (q : Ptr). ‵ (bytes_own q ys g.room)) (sym e') refl $
    move ! (1 ∷ 0 ∷ []) $ fjoin ! $ move ! (4 ∷ 0 ∷ 5 ∷ 6 ∷ 7 ∷ []) $ closes ! tt R g vs sb so $
    sets ! (of_opd ! (unit_lit !)) refl (tt, tt) $ returns ! (look_at ! 0 refl) $ free_all ! refl $ keep ! (0 ∷ 1 ∷ 2 ∷ 3 ∷ 4 ∷ 5 ∷ []) $
    suffices ! _ (ends_at 𝓛 f.ended stayed c y vunit tt (d, (g, tt)) (tt, (tt, tt))) $ says ! (no_byte_in_both d.at xs g.at ys b o b' o' e e' apart, refl, refl) $
    feq_i ! (List Val) (vunit ∷ []) (vunit ∷ []) refl $ nothing ! $ move ! (4 ∷ 0 ∷ []) $ join ! $ move ! (6 ∷ 0 ∷ []) $ join ! $ frame ! $
    move ! (1 ∷ 2 ∷ []) $ feq_i ! (List Val) (mut_vals a.1.0) (mut_vals a.1.0) refl $ fjoin3 ! $ nothing ! $ move ! (1 ∷ 0 ∷ []) $ fjoin ! $
    move ! (2 ∷ 3 ∷ []) $ feq_i ! (List Val) (mut_vals a.0) (mut_vals a.0) refl $ fjoin3 ! $ fjoin ! $ done !))))))))))

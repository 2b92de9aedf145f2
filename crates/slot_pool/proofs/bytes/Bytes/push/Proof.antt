-- `push` makes the first byte of the room one that was written. Assumes `Logic`.
use Rattle.std.proofs.Common.{◌≡◌, ℕ, ◌+◌, ◌-◌, ◌^◌, ◌<◌, List, [], ◌∷◌, ◌++◌, length, refl, sym, ◌∙◌, w8, w64, arith}
use Rattle.std.proofs.raw_atomic.Walks.{proved}
use lib.ListN.{length-append}
use base.Fraction.{full_share}
use base.Logic.{never, id⊢}
use base.Fml.{ftrue, flft, fat, froom}
use mir.Syntax.{named, ty_array}
use mir.Val.{Val, vunit}
use contract.Monad.{fact}
use contract.Running.{tables}
use types.Kit.{‵, raw, ◌⊛◌, at_ret, ◌$◌, ◌∵◌, !, qed, done, move, keep, use1, use2, split, join, fsplit, fsplit3, fjoin, fjoin3, feq_i, flt_i, flt_l, rewrite, suffices, frame}
use types.Part.{whole, sub}
use types.Run.{enter, of_opd, unit_lit, bin, init, stop, fld, assigns_last, first, blocks, exec, returns}
use types.ByLocal.{alloc_all, pass_all, free_all, look_at, get, get_in, through, sets, take_at, give_at, env}
use denote.Exit.{yes}
use denote.Builtin.{u8, usize}
use denote.Param.{layout}
use denote.Plain.{uint_vals, uint_Tells}
use denote.RattleType.{owns}
use denote.RawPtr.{Ptr, in_a_block}
use denote.RawPtr.Bytes.{bytes}
use denote.Ref.{MutRef, mut_vals, mut_Tells}
use denote.Signature.{plain}
use denote.Steps.{nothing, heard, opens, closes}
use denote.Triple.Walked.{Stays, walk_of, says, stay_ref, stay_dropped, Goes-ref, Goes-dropped, ends_at}
use Rattle.std_alloc.proofs.RcSteps.{word, word-Good}
use Rattle.std_alloc.proofs.VecSteps.Shapes.{after}
use Rattle.slot_pool.specs.inner.Owned.{bytes_own}
use Rattle.slot_pool.proofs.OwnedLemmas.{byte, first_room, byte_in}
use Rattle.slot_pool.proofs.bytes.Address.TheLaws as address
use Rattle.slot_pool.specs.contracts.bytes.Address.{the_row as At}
use Rattle.slot_pool.specs.contracts.bytes.Bytes.{the_row as R}
use Rattle.slot_pool.specs.contracts.bytes.Bytes.push as f
use Rattle.slot_pool.proofs.bytes.Bytes.push.Statement.{statement}
use Rattle.slot_pool.proofs.bytes.Bytes.push.Code as code

abbrev stayed : Stays f.ended.signature.params f.ended.kept
stayed = (stay_ref (0 ∷ []) tt (plain (λ _. R)), (stay_dropped (plain (λ _. At)) yes, (stay_dropped (plain (λ _. usize)) yes, (stay_dropped (plain (λ _. u8)) yes, tt))))

pub push_spec : {M : Type 1} → statement M
push_spec 𝓤 𝓛 𝓜 𝓡 wired =
    let c = f.clauses 𝓛 𝓜.mem 𝓡.returns in let W = walk_of 𝓛 f.ended stayed c in let 𝓣 = tables 𝓤 𝓛.H 𝓜 𝓡 𝓡.env in
    proved 𝓛 f.ended stayed c 𝓜 𝓡 (Goes-ref 𝓛 1 0 tt (plain (λ _. R)), (Goes-dropped 𝓛 1 (plain (λ _. At)) yes (λ κs x w. refl), (Goes-dropped 𝓛 1 (plain (λ _. usize)) yes (λ κs x w. refl), (Goes-dropped 𝓛 1 (plain (λ _. u8)) yes (λ κs x w. refl), tt))))
    f.Key.name code.function (code.unfolded 𝓤 𝓛.H 𝓜 𝓡 wired)
    (λ κs. (mut_vals, ((λ a. word a.ptr ∷ []), (uint_vals w64, (uint_vals w8, tt))))) (λ κs. (mut_Tells (named 0) κs.0 R, (address.lowers.val_is, (uint_Tells w64, (uint_Tells w8, tt))))) (λ κs qs bounds a _ are.
    let d = a.0.now in let p = a.1.0.ptr in let len = a.1.1.0 in let x = a.1.1.1.0 in let rb = a.0.ref_ptr.0 in let ro = a.0.ref_ptr.1 in
    let y : W.Ghost = ((κs, qs, bounds, a, (mut_vals a.0, (word p ∷ [], (uint_vals w64 len, (uint_vals w8 x, tt))))), tt) in
    let Asked : Type 0 = (p ≡ d.at) × (len ≡ length d.written) × (0 < d.room) in
    qed 𝓛 (((‵ (flft κs.0 qs.0) ⊛ ‵ ftrue) ⊛ ‵ (owns (MutRef (named 0) κs.0 R ∷ At ∷ usize ∷ u8 ∷ []) a y.0.4)) ∷ raw (fact 𝓤 Asked) ∷ []) ∵
    move ! (1 ∷ []) $ heard ! Asked (λ asked. split ! $ split ! $ move ! (2 ∷ []) $ fsplit ! $ keep ! (0 ∷ 2 ∷ []) $
    enter ! _ _ _ _ _ $ alloc_all ! (λ l. pass_all ! refl ((tt, tt), (word-Good [] p, ((tt, record { fits = are.1.1.0.1 }), ((tt, record { fits = are.1.1.1.0.1 }), tt)))) $
    fsplit3 ! $ move ! (1 ∷ 2 ∷ 3 ∷ []) $ opens ! tt R {h = d} rb ro (λ us. move ! (1 ∷ []) $ fsplit ! $ move ! (1 ∷ []) $
    in_a_block ! d.at (λ q. bytes_own q d.written d.room) (id⊢ 𝓤 (never 𝓤)) (λ b o e. fsplit ! $ flt_l ! (λ small. fsplit ! $ move ! (1 ∷ []) $
    let xs = d.written in let end = o + length xs in let more : List ℕ = xs ++ (x ∷ []) in
    let new : R.Denot = record { at = d.at; written = more; room = d.room - 1 } in
    use1 𝓛 (‵ (froom byte b end) ⊛ ‵ (froom (ty_array byte new.room) b (end + 1))) (first_room 𝓛 b d.room end asked.2) $ split ! $
    -- [room for the byte; room behind it; the bytes; what the fields own; the cell; the open borrow, in three entries]
    let at : len + o ≡ end = omega (arith, asked.1) in
    rewrite ! 0 (λ (k : ℕ). ‵ (froom byte b k)) (sym at) refl $
    take_at ! 2 $ rewrite ! 0 (λ (q : Ptr). ‵ (fat full_share (layout At) (l 2) 0 (word q))) (asked.0 ∙ e) refl $ give_at ! 2 $ first ! $ blocks ! $
    sets ! (bin ! (get_in ! (fld ! refl (stop !)) (sub ! 0 refl (whole !))) (get ! refl) tt) refl (tt, tt) $
    assigns_last ! (of_opd ! (get ! refl)) (through ! refl (stop !)) (init ! 0 refl (tt, record { fits = are.1.1.1.0.1 })) $
    exec ! 𝓣.C 𝓣.Λ (env (code.function).locals l) (after 1 (code.function).body) (at_ret _ (W.post y)) $ sets ! (of_opd ! (unit_lit !)) refl (tt, tt) $
    move ! (0 ∷ 2 ∷ []) $ use2 𝓛 (‵ (bytes full_share more b o)) (byte_in 𝓛 b xs x o (len + o) at) $
    let longer : length more ≡ length xs + 1 = length-append xs (x ∷ []) in let behind : end + 1 ≡ o + length more = omega (arith, longer) in
    rewrite ! 1 (λ (k : ℕ). ‵ (froom (ty_array byte new.room) b k)) behind refl $ fjoin ! $
    flt_i ! (length more + new.room) (2 ^ 63) (omega (arith, longer, small, asked.2)) $ fjoin ! $
    rewrite ! 0 (λ (q : Ptr). ‵ (bytes_own q more new.room)) (sym e) refl $ move ! (1 ∷ 0 ∷ []) $ fjoin ! $ move ! (1 ∷ 0 ∷ []) $ closes ! tt R new us rb ro $
    returns ! (look_at ! 0 refl) $ free_all ! refl $ keep ! (0 ∷ 1 ∷ 2 ∷ []) $
    suffices ! _ (ends_at 𝓛 f.ended stayed c y vunit tt (new, (tt, (tt, (tt, tt)))) (tt, (tt, (tt, (tt, tt))))) $ says ! (refl, refl, omega (arith, asked.2)) $
    feq_i ! (List Val) (vunit ∷ []) (vunit ∷ []) refl $ move ! (1 ∷ 2 ∷ 3 ∷ 0 ∷ []) $
    nothing ! $ move ! (3 ∷ 0 ∷ []) $ join ! $ frame ! $ feq_i ! (List Val) (mut_vals a.0) (mut_vals a.0) refl $ fjoin3 ! $
    nothing ! $ nothing ! $ fjoin ! $ nothing ! $ fjoin ! $ nothing ! $ fjoin ! $ move ! (1 ∷ 0 ∷ []) $ fjoin ! $ done !))))))

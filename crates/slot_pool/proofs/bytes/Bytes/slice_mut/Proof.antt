-- `slice_mut` lends the bytes, and their owner has what they end as. Assumes `Logic`.
use Rattle.std.proofs.Common.{◌≡◌, ℕ, ◌+◌, ◌^◌, ◌<◌, List, [], ◌∷◌, length, refl, sym, ◌∙◌, w64, arith}
use Rattle.std.proofs.raw_atomic.Walks.{proved}
use Rattle.std.specs.List.{length_refill}
use lib.Seq.{take_at as take_front}
use lib.ListN.{drop as drop_l}
use seplogic.Ra.Ura.{Ura}
use base.Fraction.{full_share}
use base.Logic.{ent, sep, never, id⊢}
use base.Fml.{Fml, GName, ftrue, flft, fat, fsep, froom}
use mir.Syntax.{named, ty_array}
use mir.Val.{Val}
use contract.Monad.{fact}
use contract.Running.{tables}
use types.Logic.{Logic, sem}
use types.SemTy.{cells}
use types.Kit.{‵, raw, ◌⊛◌, some, later, await, pick, at_ret, ◌$◌, ◌∵◌, !, qed, done, move, keep, use1, split, split3, join, group, fsplit, fsplit3, fjoin, fjoin3, fpack, flt_i, flt_l, rewrite, suffices, frame}
use types.Part.{whole, sub, agg}
use types.Run.{enter, of_opd, and_then, no_more, stop, fld, first, blocks, exec, returns}
use types.ByLocal.{alloc_all, pass_all, free_all, look_at, get, get_in, sets, sets_last, take_at, give_at, env}
use denote.Array.{Array}
use denote.Exit.{yes, no}
use denote.Builtin.{u8, usize}
use denote.Follow.{follows}
use denote.FollowSlice.{lends_Elements}
use denote.Memory.{mem, cell_at, part_of}
use denote.Param.{layout}
use denote.Plain.{uint_vals, uint_Tells}
use denote.RattleType.{owns}
use denote.RawPtr.{Ptr, block_ptr, in_a_block}
use denote.RawPtr.Bytes.{bytes}
use denote.Ref.{MutBor, MutRef, mut_vals, mut_Tells}
use denote.Signature.{plain, mut_ref_to}
use denote.Slice.{MutSlice, slice_val}
use denote.Steps.{nothing, heard, opens}
use denote.Struct.Struct.{Struct}
use denote.Struct.Owning.{shape}
use denote.Triple.Walked.{Stays, walk_of, says, stay_dropped, Goes-dropped, Goes-spent_ref, ends_at}
use Rattle.std_alloc.proofs.RcSteps.{word, word-Good}
use Rattle.std_alloc.proofs.VecSteps.Shapes.{after}
use Rattle.slot_pool.specs.inner.Owned.{bytes_own}
use Rattle.slot_pool.specs.inner.Lends.{rewritten}
use Rattle.slot_pool.proofs.OwnedLemmas.{byte, to_cells, of_cells}
use Rattle.slot_pool.proofs.bytes.Address.TheLaws as address
use Rattle.slot_pool.specs.contracts.bytes.Address.{the_row as At}
use Rattle.slot_pool.specs.contracts.bytes.Bytes.{the_row as R, the_type}
use Rattle.slot_pool.specs.contracts.bytes.Bytes.slice_mut as f
use Rattle.slot_pool.proofs.bytes.Bytes.slice_mut.Statement.{statement}
use Rattle.slot_pool.proofs.bytes.Bytes.slice_mut.Code as code

abbrev stayed : Stays f.ended.signature.params f.ended.kept
stayed = (stay_dropped (mut_ref_to (0 ∷ []) tt (plain (λ _. R))) no, (stay_dropped (plain (λ _. At)) yes, (stay_dropped (plain (λ _. usize)) yes, tt)))

module _ {M : Type 1} {𝓤 : Ura M} (𝓛 : Logic 𝓤) (d : R.Denot) (rb ro b o : ℕ) (us : List Val) where
  -- all but the bytes
  abbrev Rest : Fml
  Rest = fsep (froom (ty_array byte d.room) b (o + length d.written)) (fsep ((Struct (shape the_type)).own_val tt us) (cell_at full_share R.mir us rb ro))

  back : d.at ≡ block_ptr b o → length d.written + d.room < 2 ^ 63 → (ws : List ℕ) → length ws ≡ length d.written
      → ent 𝓤 (sep 𝓤 (sem 𝓛 (cells (mem u8) ws b o)) (sem 𝓛 Rest)) (sem 𝓛 ((mem R).own_at (rewritten d ws) rb ro))
  unfolding part_of
  back e small ws same =
      let new = (rewritten d ws).written in let long : length new ≡ length d.written = sym (length_refill (length d.written) d.written ws refl) in
      let all : ws ≡ new = sym (take_front ws (drop_l (length ws) d.written) (length d.written) same) in
      qed 𝓛 (‵ (cells (mem u8) ws b o) ∷ ‵ Rest ∷ []) ∵ use1 𝓛 (‵ (bytes full_share ws b o)) (of_cells 𝓛 b ws o) $ rewrite ! 0 (λ (l : List ℕ). ‵ (bytes full_share l b o)) all refl $
      move ! (1 ∷ []) $ fsplit3 ! $ rewrite ! 0 (λ (k : ℕ). ‵ (froom (ty_array byte d.room) b (o + k))) (sym long) refl $ move ! (3 ∷ 0 ∷ []) $ fjoin ! $
      flt_i ! (length new + d.room) (2 ^ 63) (omega (arith, long, small)) $ fjoin ! $ rewrite ! 0 (λ (q : Ptr). ‵ (bytes_own q new d.room)) (sym e) refl $
      move ! (1 ∷ 0 ∷ []) $ fjoin ! $ move ! (1 ∷ 0 ∷ []) $ fjoin ! $ fpack ! (List Val) (λ vs. fsep (cell_at full_share R.mir vs rb ro) (R.own_val (rewritten d ws) vs)) us $ done !

pub slice_mut_spec : {M : Type 1} → statement M
slice_mut_spec 𝓤 𝓛 𝓜 𝓡 wired =
    let c = f.clauses 𝓛 𝓜.mem 𝓡.returns in let W = walk_of 𝓛 f.ended stayed c in let 𝓣 = tables 𝓤 𝓛.H 𝓜 𝓡 𝓡.env in
    proved 𝓛 f.ended stayed c 𝓜 𝓡 (Goes-spent_ref 𝓛 1 (0 ∷ []) tt (plain (λ _. R)), (Goes-dropped 𝓛 1 (plain (λ _. At)) yes (λ κs x w. refl), (Goes-dropped 𝓛 1 (plain (λ _. usize)) yes (λ κs x w. refl), tt)))
    f.Key.name code.function (code.unfolded 𝓤 𝓛.H 𝓜 𝓡 wired)
    (λ κs. (mut_vals, ((λ a. word a.ptr ∷ []), (uint_vals w64, tt)))) (λ κs. (mut_Tells (named 0) κs.0 R, (address.lowers.val_is, (uint_Tells w64, tt)))) (λ κs qs bounds a _ are.
    let d = a.0.now in let p = a.1.0.ptr in let len = a.1.1.0 in let rb = a.0.ref_ptr.0 in let ro = a.0.ref_ptr.1 in let κ = κs.0 in let γ = a.0.ghost_name in
    let xs = d.written in let y : W.Ghost = ((κs, qs, bounds, a, (mut_vals a.0, (word p ∷ [], (uint_vals w64 len, tt)))), tt) in
    let Asked : Type 0 = (p ≡ d.at) × (len ≡ length d.written) in
    qed 𝓛 (((‵ (flft κ qs.0) ⊛ ‵ ftrue) ⊛ ‵ (owns (MutRef (named 0) κ R ∷ At ∷ usize ∷ []) a y.0.4)) ∷ raw (fact 𝓤 Asked) ∷ []) ∵
    move ! (1 ∷ []) $ heard ! Asked (λ asked. split ! $ split ! $ move ! (2 ∷ []) $ fsplit ! $ keep ! (0 ∷ 2 ∷ []) $
    enter ! _ _ _ _ _ $ alloc_all ! (λ l. pass_all ! refl ((tt, tt), (word-Good [] p, ((tt, record { fits = are.1.1.0.1 }), tt))) $
    fsplit3 ! $ move ! (1 ∷ 2 ∷ 3 ∷ []) $ opens ! tt R {h = d} rb ro (λ us. move ! (1 ∷ []) $ fsplit ! $ move ! (1 ∷ []) $
    in_a_block ! d.at (λ q. bytes_own q xs d.room) (id⊢ 𝓤 (never 𝓤)) (λ b o e. fsplit ! $ flt_l ! (λ small. fsplit ! $
    -- [the bytes; the room; what the fields own; the cell; the open borrow, in three entries]
    let at : ℕ × ℕ = (b, o) in
    take_at ! 2 $ rewrite ! 0 (λ (q : Ptr). ‵ (fat full_share (layout At) (l 2) 0 (word q))) (asked.0 ∙ e) refl $ give_at ! 2 $ first ! $ blocks ! $
    sets_last ! (agg ! (and_then ! (get_in ! (fld ! refl (stop !)) (sub ! 0 refl (whole !))) (and_then ! (get ! refl) (no_more !)))) refl (tt, (tt, (record { fits = are.1.1.0.1 }, tt))) $
    exec ! 𝓣.C 𝓣.Λ (env (code.function).locals l) (after 1 (code.function).body) (at_ret _ (W.post y)) $ sets ! (of_opd ! (get ! refl)) refl (tt, (tt, (record { fits = are.1.1.0.1 }, tt))) $
    use1 𝓛 (‵ (cells (mem u8) xs b o)) (to_cells 𝓛 b xs o) $ move ! (1 ∷ 2 ∷ 3 ∷ []) $ fjoin3 ! $ move ! (2 ∷ 3 ∷ 4 ∷ 1 ∷ 0 ∷ []) $ group ! 5 $
    let r : GName → MutBor (List ℕ) = λ δ. record { ref_ptr = at; ghost_name = δ; now = xs } in let Sl = MutSlice (named 0) κ u8 in
    use1 𝓛 (later (some (λ (δ : GName). ‵ (Sl.own_val (r δ) (slice_val at (length xs) ∷ [])) ⊛ ‵ (flft κ qs.0) ⊛ ‵ (follows R (Array u8 0) γ δ (rewritten d)))))
    (lends_Elements 𝓛 R u8 (rewritten d) (named 0) κ qs.0 rb ro b o γ xs (omega arith, omega arith) (sem 𝓛 (Rest 𝓛 d rb ro b o us)) (back 𝓛 d rb ro b o us e small) (R.coded.code d) (R.coded.code d)) $ await ! tt $ pick ! (λ δ. split3 ! $
    rewrite ! 0 (λ (k : ℕ). ‵ (Sl.own_val (r δ) (slice_val at k ∷ []))) (sym asked.1) refl $
    returns ! (look_at ! 0 refl) $ free_all ! refl $ keep ! (0 ∷ 1 ∷ 2 ∷ []) $
    suffices ! _ (ends_at 𝓛 f.ended stayed c y (slice_val at len) (r δ) (tt, (tt, (tt, tt))) (tt, (tt, (tt, tt)))) $
    nothing ! $ nothing ! $ fjoin ! $ nothing ! $ fjoin ! $ nothing ! $ fjoin ! $ join ! $ nothing ! $ move ! (2 ∷ 0 ∷ []) $ join ! $ join ! $ frame ! $ says ! refl $ done !)))))))

-- `join` makes a block of its slots, all of which are free. Assumes `Logic`.
use Rattle.std.proofs.Common.{◌≡◌, ℕ, ◌+◌, ◌*◌, ◌^◌, List, [], ◌∷◌, length, refl, sym, arith}
use Rattle.std.proofs.raw_atomic.Walks.{proved}
use base.Fraction.{full_share}
use base.Logic.{never, id⊢}
use base.Fml.{ftrue, froom}
use mir.Syntax.{ty_array}
use contract.Monad.{fact}
use contract.Running.{tables}
use types.Kit.{‵, raw, ◌⊛◌, given, learn, ◌$◌, ◌∵◌, !, qed, done, move, keep, use0, use1, split, join, fsplit, fjoin, flt_i, flt_l, rewrite, suffices}
use types.Part.{agg}
use types.Run.{enter, no_more, returns}
use types.ByLocal.{alloc_all, pass_all, free_all, look_at, sets}
use denote.Exit.{yes}
use denote.RattleType.{owns}
use denote.RawPtr.{Ptr, in_a_block}
use denote.RawPtr.Bytes.{bytes}
use denote.Signature.{plain}
use denote.Steps.{nothing, heard}
use denote.Triple.Walked.{Stays, walk_of, says, stay_dropped, ends_at}
use Rattle.std.proofs.alloc.Calls.{Goes-blank}
use Rattle.slot_pool.specs.inner.FreeSlots.{free_slots_own}
use Rattle.slot_pool.specs.inner.Owned.{bytes_own}
use Rattle.slot_pool.specs.inner.Steps.{AreFree}
use Rattle.slot_pool.proofs.HeapLemmas.{none, Spaceless, spaceless_made}
use Rattle.slot_pool.proofs.OwnedLemmas.{byte}
use Rattle.slot_pool.proofs.SlotLemmas.{joined, slots_out}
use Rattle.slot_pool.proofs.free_slots.FreeSlots.TheLaws as owner
use Rattle.slot_pool.specs.contracts.bytes.Bytes.{the_row as B}
use Rattle.slot_pool.specs.contracts.free_slots.FreeSlots.{the_row as R}
use Rattle.slot_pool.specs.contracts.free_slots.FreeSlots.join as f
use Rattle.slot_pool.proofs.free_slots.FreeSlots.join.Statement.{statement}
use Rattle.slot_pool.proofs.free_slots.FreeSlots.join.Code as code

abbrev stayed : Stays f.ended.signature.params f.ended.kept
stayed = (stay_dropped _ yes, tt)

pub join_spec : {M : Type 1} → statement M
join_spec 𝓤 𝓛 𝓜 𝓡 wired =
    let c = f.clauses 𝓛 𝓜.mem 𝓡.returns in let W = walk_of 𝓛 f.ended stayed c in let 𝓣 = tables 𝓤 𝓛.H 𝓜 𝓡 𝓡.env in
    proved 𝓛 f.ended stayed c 𝓜 𝓡 (Goes-blank 𝓛 0 (plain (λ _. R)) yes (λ κs x w. tt), tt)
    f.Key.name code.function (code.unfolded 𝓤 𝓛.H 𝓜 𝓡 wired)
    (λ κs. ((λ d. owner.lowers.lowered d ∷ []), tt)) (λ κs. (owner.lowers.val_is, tt)) (λ κs qs bounds a _ are.
    let d = a.0 in let xs : List ℕ = joined d.slots in
    let y : W.Ghost = ((κs, qs, bounds, a, (none ∷ [], tt)), tt) in
    let Asked : Type 0 = AreFree d.slots in let made : B.Denot = record { at = d.at; written = xs; room = 0 } in
    qed 𝓛 ((‵ ftrue ⊛ ‵ (owns (R ∷ []) a y.0.4)) ∷ raw (fact 𝓤 Asked) ∷ []) ∵
    move ! (1 ∷ []) $ heard ! Asked (λ asked. split ! $ move ! (1 ∷ []) $ fsplit ! $ fsplit ! $ keep ! (1 ∷ []) $
    enter ! _ _ _ _ _ $ alloc_all ! (λ l. pass_all ! refl ((tt, tt), tt) $
    in_a_block ! d.at (λ q. free_slots_own q d.size d.slots) (id⊢ 𝓤 (never 𝓤)) (λ b o e. fsplit ! $ flt_l ! (λ small.
    use1 𝓛 (given (length xs ≡ length d.slots * d.size) (‵ (bytes full_share xs b o))) (slots_out 𝓛 b d.size d.slots o asked) $ learn ! (λ long.
    sets ! (agg ! (no_more !)) refl (tt, tt) $
    use0 𝓛 (‵ (froom (ty_array byte 0) b (o + length xs))) (𝓛.laws.room_nil byte b (o + length xs)) $ move ! (1 ∷ 0 ∷ []) $ fjoin ! $
    flt_i ! (length xs + 0) (2 ^ 63) (omega (arith, long, small)) $ fjoin ! $
    rewrite ! 0 (λ (q : Ptr). ‵ (bytes_own q xs 0)) (sym e) refl $ use0 𝓛 (‵ (Spaceless.own_val tt (none ∷ []))) (spaceless_made 𝓛) $ fjoin ! $
    returns ! (look_at ! 0 refl) $ free_all ! refl $ keep ! (0 ∷ []) $
    suffices ! _ (ends_at 𝓛 f.ended stayed c y none made (tt, tt) (tt, tt)) $ says ! (refl, long, refl) $
    nothing ! $ nothing ! $ fjoin ! $ join ! $ nothing ! $ join ! $ done !))))))

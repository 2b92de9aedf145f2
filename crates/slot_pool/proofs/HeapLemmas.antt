-- What the heap answers to a call, and what it is handed. Assumes `Logic`.
use Prim.Native.Nat.{ℕ, ◌*◌, ◌^◌, ◌<◌}
use native.Mathlib.Omega.{arith}
use mathlib.Core.Path.{◌≡◌, refl, ap, ◌∙◌}
use mathlib.Core.Bool.{true, false}
use mathlib.Core.List.{List, [], ◌∷◌, ◌++◌}
use seplogic.Ra.Ura.{Ura}
use base.Fml.{froom}
use base.Logic.{ent, sep, emp, never, fst∗}
use mir.Syntax.{ty_array}
use mir.Val.{Val, of_list, vstruct, vcons, vnil}
use prog.Capped.{capped_is}
use prog.Memory.{capped}
use Rattle.core.specs.declared.alloc.AllocError.{AllocError}
use types.Logic.{Logic, sem}
use types.Kit.{Goal, Seq, Item, ‵, ◌$◌, ◌∵◌, !, qed, done, move, drop, use0, fsplit, fjoin, fpack, feq_i}
use types.Match.{live}
use denote.Laws.{Is, shows}
use denote.RawPtr.{Ptr, block_ptr, null_ptr, ptr_val, in_a_block}
use denote.RattleType.{RattleType, Valss}
use denote.Shadow.{makes_shadow}
use denote.Steps.{only, nothing, peeks}
use denote.Struct.Declared as Declared
use denote.Struct.Struct.{Struct, within}
use denote.Struct.Tuple.{Tuple, tuple_type}
use Rattle.core.specs.Allocator.{HasLayout, owned_block, block_if_ok}
use Rattle.core.specs.declared.result.Result.TheVariants.{Ok, Err}
use Rattle.std.proofs.alloc.Calls.{Answer, answer_val}
use Rattle.std_alloc.proofs.RcSteps.{word}
use Rattle.slot_pool.specs.inner.Owned.{heap, bytes_own, allocation_owns}
use Rattle.std_heap.specs.contracts.GlobalAllocator.TheImpl.{ghosts}
use Rattle.slot_pool.specs.contracts.bytes.Address as A
use Rattle.slot_pool.specs.contracts.bytes.Bytes as B
use Rattle.slot_pool.specs.contracts.bytes.Allocation as L
use Rattle.slot_pool.proofs.OwnedLemmas.{byte}

-- a block of so many bytes has this size, and may begin anywhere
pub layout_of : (len : ℕ) → len < 2 ^ 63 → HasLayout (ty_array byte len) len 1
layout_of len small = let one : len * 1 ≡ len = omega arith in (ap capped one ∙ capped_is len (omega (arith, small)), refl)

ok_is : (p : Ptr) (v : Val) → Is Answer (Ok p) (v ∷ []) → v ≡ live 0 (of_list (ptr_val p ∷ []))
ok_is p v is = ap only is.1.0 ∙ ap (λ ws. live 0 (of_list ws)) (is.1.1.1.0 ∙ ap (λ (ws : List Val). ws ++ []) is.1.1.1.1.0)

err_is : (e : AllocError) (v : Val) → Is Answer (Err e) (v ∷ []) → v ≡ live 1 (of_list (vstruct vnil ∷ []))
err_is e v is = ap only is.1.0 ∙ ap (λ ws. live 1 (of_list ws)) (is.1.1.1.0 ∙ ap (λ (ws : List Val). ws ++ []) is.1.1.1.1.0.1.0)

module _ {M : Type 1} {𝓤 : Ura M} {𝓛 : Logic 𝓤} {K : Type 0} {Γ : List (Item 𝓤)} {G : Goal 𝓤 𝓛.H} where
  -- a block with the right to free it, or nothing
  pub answered : K → (len : ℕ) (v : Val) (r : Answer.Denot)
      → ((b o : ℕ) → v ≡ answer_val true b o → Seq K 𝓛 (‵ (froom (ty_array byte len) b o) ∷ ‵ (allocation_owns (block_ptr b o) len) ∷ Γ) G)
      → (v ≡ answer_val false 0 0 → Seq K 𝓛 Γ G)
      → Seq K 𝓛 (‵ (Answer.own_val r (v ∷ [])) ∷ ‵ (block_if_ok (ghosts.dealloc_token heap) (ty_array byte len) r) ∷ Γ) G
  answered t len v (Ok p) block nothing =
      peeks t Answer (Is Answer) (shows 𝓛 Answer) (Ok p) (v ∷ []) (λ is. drop t $
      in_a_block t p (λ q. owned_block (ghosts.dealloc_token heap) (ty_array byte len) q) (fst∗ 𝓤 (never 𝓤) (sem 𝓛 (allocation_owns null_ptr len))) (λ b o at. fsplit t $ block b o (ok_is p v is ∙ ap (λ (q : Ptr). live 0 (of_list (ptr_val q ∷ []))) at)))
  answered t len v (Err e) block nothing = peeks t Answer (Is Answer) (shows 𝓛 Answer) (Err e) (v ∷ []) (λ is. drop t $ drop t $ nothing (err_is e v is))

abbrev pub none : Val
none = vstruct vnil

-- a struct that takes no space
abbrev pub Spaceless : RattleType
Spaceless = Struct (record { name = []; args = []; types = []; fields = [] })

abbrev pub Parts : RattleType
Parts = Tuple (A.the_row ∷ B.the_row ∷ L.the_row ∷ [])

abbrev pub parts_val : Ptr → Val
parts_val p = vstruct (vcons (word p) (vcons none (vcons none vnil)))

module _ {M : Type 1} {𝓤 : Ura M} (𝓛 : Logic 𝓤) where
  pub address_made : (p : Ptr) → ent 𝓤 (emp 𝓤) (sem 𝓛 ((A.the_row).own_val (record { ptr = p }) (word p ∷ [])))
  address_made p = makes_shadow 𝓛 ((A.the_row).own_val (record { ptr = p }) (word p ∷ [])) (λ vss. (tt, (tt, tt))) ((ptr_val p ∷ [], tt), (refl, (refl, tt)))

  pub spaceless_made : ent 𝓤 (emp 𝓤) (sem 𝓛 (Spaceless.own_val tt (none ∷ [])))
  spaceless_made = makes_shadow 𝓛 (Spaceless.own_val tt (none ∷ [])) (λ vss. (tt, tt)) (tt, (refl, tt))

  -- an address with the owner of what lies there, and with the right to free it
  pub parts_made : (p : Ptr) (bytes : (B.the_row).Denot) (right : (L.the_row).Denot)
      → ent 𝓤 (sep 𝓤 (sem 𝓛 (bytes_own bytes.at bytes.written bytes.room)) (sem 𝓛 (allocation_owns right.at right.len))) (sem 𝓛 (Parts.own_val (record { ptr = p }, bytes, right) (parts_val p ∷ [])))
  parts_made p bytes right =
      qed 𝓛 (‵ (bytes_own bytes.at bytes.written bytes.room) ∷ ‵ (allocation_owns right.at right.len) ∷ []) ∵
      use0 𝓛 (‵ (Spaceless.own_val tt (none ∷ []))) spaceless_made $ fjoin ! $ move ! (1 ∷ []) $ use0 𝓛 (‵ (Spaceless.own_val tt (none ∷ []))) spaceless_made $ fjoin ! $
      nothing ! $ move ! (1 ∷ 0 ∷ []) $ fjoin ! $ move ! (1 ∷ 0 ∷ []) $ fjoin ! $ use0 𝓛 (‵ ((A.the_row).own_val (record { ptr = p }) (word p ∷ []))) (address_made p) $ fjoin ! $
      feq_i ! (List Val) (parts_val p ∷ []) (parts_val p ∷ []) refl $ fjoin ! $
      fpack ! (Valss (A.the_row ∷ B.the_row ∷ L.the_row ∷ [])) (within (Declared.shape (tuple_type (A.the_row ∷ B.the_row ∷ L.the_row ∷ []))) (record { ptr = p }, (bytes, (right, tt))) (parts_val p ∷ [])) (word p ∷ [], (none ∷ [], (none ∷ [], tt))) $ done !

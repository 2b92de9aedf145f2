-- How bytes that one owner has are lent, and which threads they may go to. Assumes `Logic`.
use Prim.Native.Nat.{ℕ, zero, suc, ◌+◌, ◌-◌, ◌<◌}
use native.Mathlib.Omega.{arith}
use mathlib.Core.Path.{◌≡◌, refl, sym, subst}
use mathlib.Core.List.{List, [], ◌∷◌, ◌++◌}
use lib.ListN.{length}
use seplogic.Ra.Ura.{Ura}
use base.Fraction.{full_share}
use base.Fml.{fsep, froom, ffalse, fat}
use base.Logic.{ent, sep, emp, id⊢, mono_r}
use mir.Syntax.{Ty, w8, ty_int, ty_array}
use mir.Val.{vint}
use types.Logic.{Logic, sem}
use types.SemTy.{cells}
use types.Kit.{‵, ◌$◌, ◌∵◌, !, qed, by, move, use1, fjoin, rewrite}
use denote.Builtin.{u8}
use denote.Memory.{mem, shared_of, part_at}
use denote.Param.Laws.{Laws, of_field}
use denote.Param.Shared.{copy_shared}
use denote.Plain.{uint_in}
use denote.RawPtr.{Ptr, block_ptr, null_ptr}
use denote.RawPtr.Bytes.{bytes, bytes_glue, bytes-room}
use denote.RawPtr.Room.{past_bytes, room_glue}
use denote.Shares.{shares_each}
use denote.Sharing.{ShrLaws, said}
use denote.SharingLaws.{beside_shr_laws, said_shr_laws}
use denote.Slice.{elements_shared, elements_shr_laws}
use denote.Steps.{nothing}
use denote.Struct.Field.{u8-field}
use denote.Struct.Laws.{u8-laws, u8-copy}
use denote.Struct.Lending.{Lends, Lends-both, Lends-first, Lends-said, Lends-false}
use Rattle.slot_pool.specs.inner.Owned.{fits, bytes_own, bytes_lent}

abbrev pub byte : Ty
byte = ty_int w8

byte_laws : Laws u8
byte_laws = of_field u8-field u8-laws refl (copy_shared u8-field u8-copy)

pub lent_laws : (at : Ptr) (written : List ℕ) (room : ℕ) → ShrLaws (bytes_lent at written room)
lent_laws (block_ptr b o) written room = beside_shr_laws (said (fits written room)) (elements_shared u8 written b o) (said_shr_laws (fits written room) tt) (elements_shr_laws u8 byte_laws.shr_laws written b o)
lent_laws null_ptr written room = said_shr_laws ffalse tt

-- a borrow of the bytes becomes a `&` to each
pub lends : {M : Type 1} {𝓤 : Ura M} (𝓛 : Logic 𝓤) (at : Ptr) (written : List ℕ) (room : ℕ) → Lends 𝓛 (bytes_own at written room) (bytes_lent at written room) u8.lives
lends 𝓛 (block_ptr b o) written room =
    let each = bytes full_share written b o in let more = froom (ty_array (ty_int w8) room) b (o + length written) in
    Lends-both 𝓛 (fits written room) (fsep each more) (said (fits written room)) (elements_shared u8 written b o) u8.lives (Lends-said 𝓛 (fits written room) tt u8.lives)
    (Lends-first 𝓛 each more (elements_shared u8 written b o) u8.lives (λ κ ts inc sp. shares_each 𝓛 u8 (shared_of u8) u8.lives (byte_laws.shares 𝓛) written κ ts b o inc sp))
lends 𝓛 null_ptr written room = Lends-false 𝓛 (said ffalse) u8.lives

module _ {M : Type 1} {𝓤 : Ura M} (𝓛 : Logic 𝓤) (b : ℕ) where
  open 𝓛 use {H}

  -- where there is room, there is room for one byte and for the others
  pub first_room : (room o : ℕ) → 0 < room → ent 𝓤 (H.room (ty_array byte room) b o) (sep 𝓤 (H.room byte b o) (H.room (ty_array byte (room - 1)) b (o + 1)))
  first_room zero o some = absurd (omega arith)
  first_room (suc n) o some = let less : n ≡ suc n - 1 = omega arith in subst (λ (k : ℕ). ent 𝓤 (H.room (ty_array byte (suc n)) b o) (sep 𝓤 (H.room byte b o) (H.room (ty_array byte k) b (o + 1)))) less (𝓛.laws.room_uncons byte n b o)

  -- one byte more lies behind bytes
  pub byte_in : (xs : List ℕ) (x o at : ℕ) → at ≡ o + length xs → ent 𝓤 (sep 𝓤 (H.at full_share byte b at (vint w8 x)) (sem 𝓛 (bytes full_share xs b o))) (sem 𝓛 (bytes full_share (xs ++ (x ∷ [])) b o))
  byte_in xs x o at e = qed 𝓛 (‵ (fat full_share byte b at (vint w8 x)) ∷ ‵ (bytes full_share xs b o) ∷ []) ∵
      use1 𝓛 (‵ (part_at u8 full_share x b at)) (uint_in 𝓛 full_share w8 x b at) $ nothing ! $ move ! (1 ∷ 0 ∷ []) $ fjoin ! $
      rewrite ! 0 (λ (k : ℕ). ‵ (bytes full_share (x ∷ []) b k)) e refl $ move ! (1 ∷ 0 ∷ []) $ by ! (bytes_glue 𝓛 full_share xs (x ∷ []) b o)

  -- bytes as a slice has them
  pub to_cells : (xs : List ℕ) (o : ℕ) → ent 𝓤 (sem 𝓛 (bytes full_share xs b o)) (sem 𝓛 (cells (mem u8) xs b o))
  to_cells [] o = id⊢ 𝓤 (emp 𝓤)
  to_cells (x ∷ xs) o = mono_r 𝓤 (sem 𝓛 (part_at u8 full_share x b o)) (to_cells xs (o + 1))

  pub of_cells : (xs : List ℕ) (o : ℕ) → ent 𝓤 (sem 𝓛 (cells (mem u8) xs b o)) (sem 𝓛 (bytes full_share xs b o))
  of_cells [] o = id⊢ 𝓤 (emp 𝓤)
  of_cells (x ∷ xs) o = mono_r 𝓤 (sem 𝓛 (part_at u8 full_share x b o)) (of_cells xs (o + 1))

  -- bytes and the room behind them are room
  pub room_back : (xs : List ℕ) (room o : ℕ) → ent 𝓤 (sep 𝓤 (sem 𝓛 (bytes full_share xs b o)) (H.room (ty_array byte room) b (o + length xs))) (H.room (ty_array byte (length xs + room)) b o)
  room_back xs room o = qed 𝓛 (‵ (bytes full_share xs b o) ∷ ‵ (froom (ty_array byte room) b (o + length xs)) ∷ []) ∵
      use1 𝓛 (‵ (froom (ty_array byte (length xs)) b o)) (bytes-room 𝓛 xs b o) $ rewrite ! 1 (λ (k : ℕ). ‵ (froom (ty_array byte room) b k)) (sym (past_bytes (length xs) o)) refl $ by ! (room_glue 𝓛 byte (length xs) room b o)

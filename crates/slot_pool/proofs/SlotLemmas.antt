-- Slots side by side: one is taken out and put back, a block is cut into them and joined of them, and no byte has two owners. Assumes `Logic`.
use Prim.Native.Nat.{ℕ, zero, suc, ◌+◌, ◌-◌, ◌*◌, ◌<◌, ◌≤◌, ◌^◌}
use native.Mathlib.Omega.{arith}
use native.Mathlib.Nat.{zero-mul, suc-mul}
use mathlib.Core.Path.{◌≡◌, refl, sym, ap, ◌∙◌}
use mathlib.Core.List.{List, [], ◌∷◌, ◌++◌}
use lib.ListN.{length, take, drop, set, get_or, take-append-drop, length-take, length-drop, length-append}
use lib.Seq.{drop-cons, set_split}
use seplogic.Ra.Ura.{Ura}
use base.Fraction.{full_share}
use base.Fml.{Fml, ftrue, fsep, fat, froom}
use base.Logic.{SProp, ent, sep, never, never_e, guard, via}
use mir.Syntax.{w8}
use mir.Val.{vint}
use prog.Model.{Model}
use types.Logic.{Logic, sem}
use types.Kit.{‵, ◌⊛◌, ◌$◌, ◌∵◌, !, qed, by, done, move, keep, drop as skip, use1, use2, split, fsplit, fjoin, feq_i, feq_l, rewrite, check, given, learn}
use denote.Plain.{uint_out}
use denote.RawPtr.Bytes.{bytes, bytes_cut, bytes_glue}
use denote.Steps.{nothing}
use Rattle.core.proofs.ptr.Rows.{one_below}
use Rattle.std.specs.Prelude.{true, false, eqb, Option, Some, None, ◌⊎◌, ◌≢◌}
use Rattle.std.proofs.lemmas.Bool.{cases_lt}
use Rattle.std.proofs.lemmas.Bool.Decides.{eqb_tells}
use mathlib.Core.Logic.{inl, inr, ⊎_elim}
use denote.RawPtr.{Ptr, block_ptr, block_of, count_of, ◌+ₚ◌}
use Rattle.slot_pool.specs.inner.Owned.{AreApart}
use Rattle.slot_pool.specs.inner.FreeSlots.{slot_own, slots_own, slots_of}
use Rattle.slot_pool.specs.inner.Steps.{AreFree}
use Rattle.slot_pool.proofs.OwnedLemmas.{byte}

abbrev pub Room : Type 0
Room = Option (List ℕ)

pub free_within : (slots : List Room) (place : ℕ) (xs : List ℕ) → get_or slots place None ≡ Some xs → place < length slots
free_within [] place xs is = cc
free_within (slot ∷ slots) zero xs is = omega arith
free_within (slot ∷ slots) (suc place) xs is = omega (arith, free_within slots place xs is)

-- one slot is no longer than the block
pub one_small : (slots : List Room) (place size : ℕ) → place < length slots → length slots * size < 2 ^ 63 → size < 2 ^ 63
one_small slots place size within small = one_below (length slots) size (2 ^ 63) (omega arith) small

pub slots_of_length : (count size : ℕ) (xs : List ℕ) → length (slots_of count size xs) ≡ count
slots_of_length zero size xs = refl
slots_of_length (suc count) size xs = ap suc (slots_of_length count size (drop size xs))

-- the bytes of all slots, in order
abbrev pub joined : List Room → List ℕ
joined [] = []
joined (None ∷ slots) = joined slots
joined (Some xs ∷ slots) = xs ++ joined slots

module _ {M : Type 1} {𝓤 : Ura M} (𝓛 : Logic 𝓤) (b size : ℕ) where
  open 𝓛 use {H}

  abbrev Row : ℕ → List Room → Fml
  Row o slots = slots_own size b o slots

  cut_at : (xs ys : List Room) (o at : ℕ) → at ≡ o + length xs * size → ent 𝓤 (sem 𝓛 (Row o (xs ++ ys))) (sep 𝓤 (sem 𝓛 (Row o xs)) (sem 𝓛 (Row at ys)))
  cut_at [] ys o at e = qed 𝓛 (‵ (Row o ys) ∷ []) ∵ rewrite ! 0 (λ (k : ℕ). ‵ (Row k ys)) {x = at} (omega (arith, zero-mul size)) refl $ nothing ! $ done !
  cut_at (x ∷ xs) ys o at e = let more : at ≡ o + suc (length xs) * size = e in qed 𝓛 (‵ (Row o (x ∷ xs ++ ys)) ∷ []) ∵ fsplit ! $ move ! (1 ∷ []) $
      use1 𝓛 (‵ (Row (o + size) xs) ⊛ ‵ (Row at ys)) (cut_at xs ys (o + size) at (omega (arith, suc-mul (length xs) size))) $ split ! $ move ! (2 ∷ 0 ∷ []) $ fjoin ! $ done !

  glue_at : (xs ys : List Room) (o at : ℕ) → at ≡ o + length xs * size → ent 𝓤 (sep 𝓤 (sem 𝓛 (Row o xs)) (sem 𝓛 (Row at ys))) (sem 𝓛 (Row o (xs ++ ys)))
  glue_at [] ys o at e = qed 𝓛 (‵ ftrue ∷ ‵ (Row at ys) ∷ []) ∵ skip ! $ rewrite ! 0 (λ (k : ℕ). ‵ (Row k ys)) {x = o} (omega (arith, zero-mul size)) refl $ done !
  glue_at (x ∷ xs) ys o at e = let more : at ≡ o + suc (length xs) * size = e in qed 𝓛 (‵ (Row o (x ∷ xs)) ∷ ‵ (Row at ys) ∷ []) ∵ fsplit ! $ move ! (1 ∷ 2 ∷ []) $
      use2 𝓛 (‵ (Row (o + size) (xs ++ ys))) (glue_at xs ys (o + size) at (omega (arith, suc-mul (length xs) size))) $ move ! (1 ∷ 0 ∷ []) $ fjoin ! $ done !

  module _ (o : ℕ) (slots : List Room) (place : ℕ) (within : place < length slots) where
    -- the slots but for this one
    abbrev pub Others : Fml
    Others = fsep (Row o (take place slots)) (Row (o + place * size + size) (drop (suc place) slots))

    starts : o + place * size ≡ o + length (take place slots) * size
    starts = let long : place ≡ length (take place slots) = omega (arith, length-take place slots) in ap (λ k. o + k * size) long

    pub one_out : ent 𝓤 (sem 𝓛 (Row o slots)) (sep 𝓤 (sem 𝓛 (slot_own size b (o + place * size) (get_or slots place None))) (sem 𝓛 Others))
    one_out = let rest = get_or slots place None ∷ drop (suc place) slots in qed 𝓛 (‵ (Row o slots) ∷ []) ∵
        rewrite ! 0 (λ (l : List Room). ‵ (Row o l)) (sym (take-append-drop place slots) ∙ ap (λ l. take place slots ++ l) (drop-cons slots place None within)) refl $
        use1 𝓛 (‵ (Row o (take place slots)) ⊛ ‵ (Row (o + place * size) rest)) (cut_at (take place slots) rest o (o + place * size) starts) $
        split ! $ move ! (1 ∷ []) $ fsplit ! $ move ! (2 ∷ 1 ∷ []) $ fjoin ! $ move ! (1 ∷ []) $ done !

    pub one_in : (slot : Room) → ent 𝓤 (sep 𝓤 (sem 𝓛 (slot_own size b (o + place * size) slot)) (sem 𝓛 Others)) (sem 𝓛 (Row o (set slots place slot)))
    one_in slot = qed 𝓛 (‵ (slot_own size b (o + place * size) slot) ∷ ‵ Others ∷ []) ∵ move ! (1 ∷ []) $ fsplit ! $ move ! (2 ∷ 1 ∷ []) $ fjoin ! $ move ! (1 ∷ 0 ∷ []) $
        use2 𝓛 (‵ (Row o (take place slots ++ slot ∷ drop (suc place) slots))) (glue_at (take place slots) (slot ∷ drop (suc place) slots) o (o + place * size) starts) $
        rewrite ! 0 (λ (l : List Room). ‵ (Row o l)) (sym (set_split slots place slot within)) refl $ done !

  -- a block is slots, all of them free
  pub slots_in : (count : ℕ) (xs : List ℕ) (o : ℕ) → length xs ≡ count * size → ent 𝓤 (sem 𝓛 (bytes full_share xs b o)) (sem 𝓛 (Row o (slots_of count size xs)))
  slots_in zero xs o long = qed 𝓛 (‵ (bytes full_share xs b o) ∷ []) ∵ keep ! [] $ done !
  slots_in (suc count) xs o long =
      let more : length xs ≡ suc count * size = long in let one : length (take size xs) ≡ size = omega (arith, more, suc-mul count size, length-take size xs) in
      qed 𝓛 (‵ (bytes full_share xs b o) ∷ []) ∵ rewrite ! 0 (λ (l : List ℕ). ‵ (bytes full_share l b o)) (sym (take-append-drop size xs)) refl $
      use1 𝓛 (‵ (bytes full_share (take size xs) b o) ⊛ ‵ (bytes full_share (drop size xs) b (o + length (take size xs)))) (bytes_cut 𝓛 full_share (take size xs) (drop size xs) b o) $ split ! $
      feq_i ! ℕ (length (take size xs)) size one $ fjoin ! $ move ! (1 ∷ []) $ rewrite ! 0 (λ (k : ℕ). ‵ (bytes full_share (drop size xs) b (o + k))) one refl $
      use1 𝓛 (‵ (Row (o + size) (slots_of count size (drop size xs)))) (slots_in count (drop size xs) (o + size) (omega (arith, more, suc-mul count size, length-drop size xs))) $ move ! (1 ∷ 0 ∷ []) $ fjoin ! $ done !

  -- slots that are all free are a block
  pub slots_out : (slots : List Room) (o : ℕ) → AreFree slots → ent 𝓤 (sem 𝓛 (Row o slots)) (guard 𝓤 (length (joined slots) ≡ length slots * size) (sem 𝓛 (bytes full_share (joined slots) b o)))
  slots_out [] o free = qed 𝓛 (‵ ftrue ∷ []) ∵ check ! (sym (zero-mul size)) $ done !
  slots_out (None ∷ slots) o free = absurd free
  slots_out (Some xs ∷ slots) o free =
      qed 𝓛 (‵ (Row o (Some xs ∷ slots)) ∷ []) ∵ fsplit ! $ fsplit ! $ feq_l ! (λ long. move ! (1 ∷ []) $
      use1 𝓛 (given (length (joined slots) ≡ length slots * size) (‵ (bytes full_share (joined slots) b (o + size)))) (slots_out slots (o + size) free) $ learn ! (λ rest.
      rewrite ! 0 (λ (k : ℕ). ‵ (bytes full_share (joined slots) b (o + k))) (sym long) refl $ move ! (1 ∷ 0 ∷ []) $
      use2 𝓛 (‵ (bytes full_share (xs ++ joined slots) b o)) (bytes_glue 𝓛 full_share xs (joined slots) b o) $
      check ! (length-append xs (joined slots) ∙ omega (arith, long, rest, suc-mul (length slots) size)) $ done !))

  -- no byte has two owners
  pub two_owners : Model 𝓤 H → (o : ℕ) (xs ys : List ℕ) → 0 < length xs → 0 < length ys → ent 𝓤 (sep 𝓤 (sem 𝓛 (bytes full_share xs b o)) (sem 𝓛 (bytes full_share ys b o))) (never 𝓤)
  two_owners 𝓜 o [] ys some more = absurd (omega arith)
  two_owners 𝓜 o (x ∷ xs) [] some more = absurd (omega arith)
  two_owners 𝓜 o (x ∷ xs) (y ∷ ys) some more =
      qed 𝓛 (‵ (bytes full_share (x ∷ xs) b o) ∷ ‵ (bytes full_share (y ∷ ys) b o) ∷ []) ∵ fsplit ! $ move ! (2 ∷ []) $ fsplit ! $ keep ! (0 ∷ 2 ∷ []) $
      use1 𝓛 (‵ (fat full_share byte b o (vint w8 y))) (uint_out 𝓛 full_share w8 y b o) $ use1 𝓛 (‵ (froom byte b o)) (𝓛.laws.at_room byte b o (vint w8 y)) $ move ! (1 ∷ []) $
      use1 𝓛 (‵ (fat full_share byte b o (vint w8 x))) (uint_out 𝓛 full_share w8 x b o) $ use1 𝓛 (‵ (froom byte b o)) (𝓛.laws.at_room byte b o (vint w8 x)) $
      by ! (𝓜.room-room byte byte b o o o (omega arith, omega arith) (omega arith, omega arith))

  -- a slot whose bytes somebody has isn't free
  pub is_live : Model 𝓤 H → (o : ℕ) (slot : Room) (ys : List ℕ) → 0 < size → length ys ≡ size
      → ent 𝓤 (sep 𝓤 (sem 𝓛 (slot_own size b o slot)) (sem 𝓛 (bytes full_share ys b o))) (guard 𝓤 (slot ≡ None) (sem 𝓛 (bytes full_share ys b o)))
  is_live 𝓜 o None ys some long = qed 𝓛 (‵ ftrue ∷ ‵ (bytes full_share ys b o) ∷ []) ∵ skip ! $ check ! refl $ done !
  is_live 𝓜 o (Some xs) ys some long = qed 𝓛 (‵ (slot_own size b o (Some xs)) ∷ ‵ (bytes full_share ys b o) ∷ []) ∵ fsplit ! $ feq_l ! (λ same.
      by ! (via 𝓤 (never 𝓤) (two_owners 𝓜 o xs ys (omega (arith, same)) (omega arith)) (never_e 𝓤 _)))

-- the ends of two runs that share no byte
abbrev pub ApartIn : ℕ → ℕ → ℕ → ℕ → ℕ → ℕ → Type 0
ApartIn b o n c p m = b ≡ c → (o + n ≤ p) ⊎ (p + m ≤ o)

module _ {M : Type 1} {𝓤 : Ura M} (𝓛 : Logic 𝓤) (𝓜 : Model 𝓤 𝓛.H) where
  open 𝓛 use {H}

  abbrev Both : (b o : ℕ) (xs : List ℕ) (c p : ℕ) (ys : List ℕ) → SProp 𝓤
  Both b o xs c p ys = sep 𝓤 (sem 𝓛 (bytes full_share xs b o)) (sem 𝓛 (bytes full_share ys c p))

  -- one run begins inside the other
  inside : (b o : ℕ) (xs : List ℕ) (p : ℕ) (ys : List ℕ) → o ≤ p → p < o + length xs → 0 < length ys → ent 𝓤 (Both b o xs b p ys) (never 𝓤)
  inside b o xs p ys from to some =
      let before = take (p - o) xs in let behind = drop (p - o) xs in let long : length before ≡ p - o = omega (arith, length-take (p - o) xs, from, to) in
      let at : o + length before ≡ p = omega (arith, long, from) in
      qed 𝓛 (‵ (bytes full_share xs b o) ∷ ‵ (bytes full_share ys b p) ∷ []) ∵ rewrite ! 0 (λ (l : List ℕ). ‵ (bytes full_share l b o)) (sym (take-append-drop (p - o) xs)) refl $
      use1 𝓛 (‵ (bytes full_share before b o) ⊛ ‵ (bytes full_share behind b (o + length before))) (bytes_cut 𝓛 full_share before behind b o) $ split ! $ skip ! $
      rewrite ! 0 (λ (k : ℕ). ‵ (bytes full_share behind b k)) at refl $ by ! (two_owners 𝓛 b 0 𝓜 p behind ys (omega (arith, length-drop (p - o) xs, from, to)) some)

  kept : (b o : ℕ) (xs : List ℕ) (c p : ℕ) (ys : List ℕ) → ApartIn b o (length xs) c p (length ys) → ent 𝓤 (Both b o xs c p ys) (guard 𝓤 (ApartIn b o (length xs) c p (length ys)) (Both b o xs c p ys))
  kept b o xs c p ys apart = qed 𝓛 (‵ (bytes full_share xs b o) ∷ ‵ (bytes full_share ys c p) ∷ []) ∵ check ! apart $ done !

  by_ends : (b o : ℕ) (xs : List ℕ) (c p : ℕ) (ys : List ℕ) → 0 < length xs → 0 < length ys
      → ((eqb b c ≡ true) × (b ≡ c)) ⊎ ((eqb b c ≡ false) × (b ≢ c)) → (p < o + length xs) ⊎ (o + length xs ≤ p) → (o < p + length ys) ⊎ (p + length ys ≤ o) → (p < o) ⊎ (o ≤ p)
      → ent 𝓤 (Both b o xs c p ys) (guard 𝓤 (ApartIn b o (length xs) c p (length ys)) (Both b o xs c p ys))
  by_ends b o xs c p ys some more (inr other) u v w = kept b o xs c p ys (λ e. absurd (other.1 e))
  by_ends b o xs c p ys some more (inl same) (inr before) v w = kept b o xs c p ys (λ _. inl before)
  by_ends b o xs c p ys some more (inl same) (inl u) (inr behind) w = kept b o xs c p ys (λ _. inr behind)
  by_ends b o xs c p ys some more (inl same) (inl u) (inl v) (inr from) = qed 𝓛 (‵ (bytes full_share xs b o) ∷ ‵ (bytes full_share ys c p) ∷ []) ∵
      rewrite ! 1 (λ (k : ℕ). ‵ (bytes full_share ys k p)) (sym same.1) refl $ by ! (via 𝓤 (never 𝓤) (inside b o xs p ys from u more) (never_e 𝓤 _))
  by_ends b o xs c p ys some more (inl same) (inl u) (inl v) (inl less) = qed 𝓛 (‵ (bytes full_share xs b o) ∷ ‵ (bytes full_share ys c p) ∷ []) ∵
      rewrite ! 1 (λ (k : ℕ). ‵ (bytes full_share ys k p)) (sym same.1) refl $ move ! (1 ∷ 0 ∷ []) $ by ! (via 𝓤 (never 𝓤) (inside b p ys o xs (omega arith) v some) (never_e 𝓤 _))

  -- two runs of bytes that have owners share none
  pub keep_apart : (b o : ℕ) (xs : List ℕ) (c p : ℕ) (ys : List ℕ) → 0 < length xs → 0 < length ys → ent 𝓤 (Both b o xs c p ys) (guard 𝓤 (ApartIn b o (length xs) c p (length ys)) (Both b o xs c p ys))
  keep_apart b o xs c p ys some more = by_ends b o xs c p ys some more (eqb_tells b c) (cases_lt p (o + length xs)) (cases_lt o (p + length ys)) (cases_lt p o)

-- so no address is that of a byte of both
pub no_byte_in_both : (first : Ptr) (xs : List ℕ) (second : Ptr) (ys : List ℕ) (b o c p : ℕ) → first ≡ block_ptr b o → second ≡ block_ptr c p → ApartIn b o (length xs) c p (length ys)
    → AreApart first xs second ys
no_byte_in_both first xs second ys b o c p e f apart byte (i, i_in, i_at) (j, j_in, j_at) =
    let both : block_ptr b (o + i) ≡ block_ptr c (p + j) = sym (ap (λ (q : Ptr). q +ₚ i) e) ∙ sym i_at ∙ j_at ∙ ap (λ (q : Ptr). q +ₚ j) f in
    let at : o + i ≡ p + j = ap count_of both in
    ⊎_elim (λ before. omega (arith, before, at, i_in)) (λ behind. omega (arith, behind, at, j_in)) (apart (ap block_of both))

-- What a look at bytes that begin with a lead finds.
use Rattle.std.proofs.Common.{◌≡◌, ℕ, ◌+◌, ◌^◌, ◌<◌, ◌≤◌, ◌⊎◌, inl, inr, Bool, true, false, cond, List, [], ◌++◌, length, take, drop, get_or, refl, sym, subst, ap, ap₂, ◌∙◌, arith, append_assoc}
use Rattle.std.specs.Prelude.{nat_lt}
use Rattle.std.specs.Str.{bytes_eq}
use Rattle.std.proofs.lemmas.Bool.{cases_lt, lt-ltb, le-ltb, ltb-false, ltb-true}
use Rattle.std.proofs.lemmas.List.{length-append, length-drop, take_at, drop_at, take-append-le, drop-append-le, take-append-drop, drop-drop, get_or-drop}
use Rattle.std.proofs.lemmas.Slice.Eq.{bytes_eq-Decides}
use Rattle.byteorder.specs.Endian.{big_bytes, big_number}
use Rattle.byteorder.specs.Numbers.{big_number-reads_back}
use Rattle.klv.specs.Items.{klv_head, length_bytes}
use Rattle.mxf_names.specs.declared.keys.TheConstants.{PICTURE_ELEMENT_KEY}
use Rattle.mxf_names.specs.declared.keys.TheConstants.{INDEX_SEGMENT_KEY}
use Rattle.take_layout.specs.declared.walk.Walk.TheVariants as walk
use Rattle.mxf_take_file.specs.Extents.{segment_bytes}
use Rattle.mxf_take_file.specs.inner.Standing.{body_key, stands, stand_at, stand_behind_pack, stand_first, found_at, look_of}
use Rattle.mxf_take_file.specs.laws.Lengths.{length_head}
use Rattle.mxf_take_file.specs.declared.picture_layout.TheConstants.{MAX_UNIT}
use Rattle.mxf_take_file.specs.declared.walk.Stand.{Stand}
use Rattle.mxf_take_file.specs.declared.walk.Stand.TheVariants.{At, More, Broken}

-- the bytes at a place of bytes that go on, as far as they are there
pub part_stands : (bytes missing front part rest : List ℕ) (at n : ℕ) → bytes ++ missing ≡ front ++ (part ++ rest) → length front ≡ at → length part ≡ n → at + n ≤ length bytes → take n (drop at bytes) ≡ part
part_stands bytes missing front part rest at n e l k room =
    let left : take n (drop at (bytes ++ missing)) ≡ take n (drop at bytes) =
    ap (λ (xs : List ℕ). take n xs) (drop-append-le at bytes missing (omega arith)) ∙ take-append-le n (drop at bytes) missing (omega (arith, length-drop at bytes)) in
    sym left ∙ ap (λ (xs : List ℕ). take n (drop at xs)) e ∙ ap (λ (xs : List ℕ). take n xs) (drop_at front (part ++ rest) at l) ∙ take_at part rest n k

-- a key that stands
stands_yes : (bytes key : List ℕ) (at : ℕ) → take 16 (drop at bytes) ≡ key → stands bytes at key ≡ true
unfolding stands
stands_yes bytes key at h = (bytes_eq-Decides (take 16 (drop at bytes)) key).1 h

-- another one doesn't
stands_no : (bytes key other : List ℕ) (at : ℕ) → take 16 (drop at bytes) ≡ key → bytes_eq key other ≡ false → stands bytes at other ≡ false
unfolding stands
stands_no bytes key other at h e = ap (λ (xs : List ℕ). bytes_eq xs other) h ∙ e

-- the element's key is found, with its length, or more bytes are asked for
abbrev pub Stood : List ℕ → ℕ → Stand → Type 0
Stood bytes at s = ((s ≡ At at) × (at + 24 ≤ length bytes)) ⊎ ((need : ℕ) × (s ≡ More need) × (length bytes < need) × (need ≤ at + 24))

-- the parts of an element's key and length
head_parts : (n : ℕ) (tail : List ℕ) → klv_head PICTURE_ELEMENT_KEY 7 n ++ tail ≡ PICTURE_ELEMENT_KEY ++ (length_bytes 7 n ++ tail)
head_parts n tail = append_assoc PICTURE_ELEMENT_KEY (length_bytes 7 n) tail

-- the element's key behind bytes before it
element_key : (bytes missing front tail : List ℕ) (n at : ℕ) → bytes ++ missing ≡ front ++ (klv_head PICTURE_ELEMENT_KEY 7 n ++ tail) → length front ≡ at → at + 24 ≤ length bytes → take 16 (drop at bytes) ≡ PICTURE_ELEMENT_KEY
element_key bytes missing front tail n at e l room =
    part_stands bytes missing front PICTURE_ELEMENT_KEY (length_bytes 7 n ++ tail) at 16 (e ∙ ap (λ (xs : List ℕ). front ++ xs) (head_parts n tail)) l refl (omega arith)

-- a key that begins what stands at a place
front_key : (bytes missing front part rest key : List ℕ) (at : ℕ) → bytes ++ missing ≡ front ++ (part ++ rest) → length front ≡ at → take 16 part ≡ key → length key ≡ 16 → at + 16 ≤ length bytes → take 16 (drop at bytes) ≡ key
front_key bytes missing front part rest key at e l k long room =
    let parts : part ++ rest ≡ key ++ (drop 16 part ++ rest) =
    ap (λ (xs : List ℕ). xs ++ rest) (sym (take-append-drop 16 part) ∙ ap (λ (xs : List ℕ). xs ++ drop 16 part) k) ∙ append_assoc key (drop 16 part) rest in
    part_stands bytes missing front key (drop 16 part ++ rest) at 16 (e ∙ ap (λ (xs : List ℕ). front ++ xs) parts) l long room

-- the element stands at a place
at_stood : (bytes missing front tail : List ℕ) (n at : ℕ) → bytes ++ missing ≡ front ++ (klv_head PICTURE_ELEMENT_KEY 7 n ++ tail) → length front ≡ at → Stood bytes at (stand_at bytes at)
unfolding stand_at
at_stood bytes missing front tail n at e l = elim (cases_lt (length bytes) (at + 24)) [
  | inl short ↦ inr (at + 24, rw (lt-ltb (length bytes) (at + 24) short) refl, short, omega arith)
  | inr room ↦
      let key = stands_yes bytes PICTURE_ELEMENT_KEY at (element_key bytes missing front tail n at e l room) in
      inl (rw (le-ltb (length bytes) (at + 24) room, key) refl, room)
]

-- the element stands at the front
pub first_stood : (part : ℕ) (bytes missing tail : List ℕ) (n : ℕ) → bytes ++ missing ≡ klv_head PICTURE_ELEMENT_KEY 7 n ++ tail → Stood bytes 0 (stand_first part bytes)
unfolding stand_first
first_stood part bytes missing tail n e = elim (cases_lt (length bytes) 24) [
  | inl short ↦ inr (24, rw (lt-ltb (length bytes) 24 short) refl, short, omega arith)
  | inr room ↦
      let key = stands_yes bytes PICTURE_ELEMENT_KEY 0 (element_key bytes missing [] tail n 0 e refl (omega arith)) in
      inl (rw (le-ltb (length bytes) 24 room, key) refl, omega arith)
]

-- the pack of a body partition
pub record IsPack (pack : List ℕ) : Type 0 where
  pub key : take 16 pack ≡ body_key
  pub size : length pack ≡ 124

-- an index table segment of a whole body partition
pub record IsSegment (part : ℕ) (segment : List ℕ) : Type 0 where
  pub key : take 16 segment ≡ INDEX_SEGMENT_KEY
  pub size : length segment ≡ segment_bytes part

-- behind a pack the search goes on there
behind_first : (part : ℕ) (bytes missing pack rest : List ℕ) → bytes ++ missing ≡ pack ++ rest → IsPack pack → 24 ≤ length bytes → stand_first part bytes ≡ stand_behind_pack part bytes
unfolding stand_first
behind_first part bytes missing pack rest e p room =
    let key : take 16 (drop 0 bytes) ≡ body_key = front_key bytes missing [] pack rest body_key 0 e refl p.key refl (omega arith) in
    let no = stands_no bytes body_key PICTURE_ELEMENT_KEY 0 key refl in
    let yes = stands_yes bytes body_key 0 key in
    rw (le-ltb (length bytes) 24 room, no, yes) refl

-- the element stands behind a pack
pub pack_stood : (part : ℕ) (bytes missing pack tail : List ℕ) (n : ℕ) → bytes ++ missing ≡ pack ++ (klv_head PICTURE_ELEMENT_KEY 7 n ++ tail) → IsPack pack → Stood bytes 124 (stand_first part bytes)
unfolding stand_first stand_behind_pack
pack_stood part bytes missing pack tail n e p = elim (cases_lt (length bytes) 24) [
  | inl short ↦ inr (24, rw (lt-ltb (length bytes) 24 short) refl, short, omega arith)
  | inr some ↦ subst (λ (s : Stand). Stood bytes 124 s) (sym (behind_first part bytes missing pack (klv_head PICTURE_ELEMENT_KEY 7 n ++ tail) e p some)) (elim (cases_lt (length bytes) 148) [
    | inl short ↦ inr (148, rw (lt-ltb (length bytes) 148 short) refl, short, omega arith)
    | inr room ↦
        let key = stands_yes bytes PICTURE_ELEMENT_KEY 124 (element_key bytes missing pack tail n 124 e p.size (omega arith)) in
        inl (rw (le-ltb (length bytes) 148 room, key) refl, omega arith)
  ])
]

-- the element stands behind a pack and a segment
pub segment_stood : (part : ℕ) (bytes missing pack segment tail : List ℕ) (n : ℕ) → bytes ++ missing ≡ pack ++ (segment ++ (klv_head PICTURE_ELEMENT_KEY 7 n ++ tail)) → IsPack pack → IsSegment part segment
    → Stood bytes (124 + segment_bytes part) (stand_first part bytes)
unfolding stand_first stand_behind_pack
segment_stood part bytes missing pack segment tail n e p g = elim (cases_lt (length bytes) 24) [
  | inl short ↦ inr (24, rw (lt-ltb (length bytes) 24 short) refl, short, omega arith)
  | inr some ↦ subst (λ (s : Stand). Stood bytes (124 + segment_bytes part) s) (sym (behind_first part bytes missing pack (segment ++ (klv_head PICTURE_ELEMENT_KEY 7 n ++ tail)) e p some)) (elim (cases_lt (length bytes) 148) [
    | inl short ↦ inr (148, rw (lt-ltb (length bytes) 148 short) refl, short, omega arith)
    | inr room ↦
        let key : take 16 (drop 124 bytes) ≡ INDEX_SEGMENT_KEY = front_key bytes missing pack segment (klv_head PICTURE_ELEMENT_KEY 7 n ++ tail) INDEX_SEGMENT_KEY 124 e p.size g.key refl (omega arith) in
        let no = stands_no bytes INDEX_SEGMENT_KEY PICTURE_ELEMENT_KEY 124 key refl in
        let yes = stands_yes bytes INDEX_SEGMENT_KEY 124 key in
        let both : bytes ++ missing ≡ (pack ++ segment) ++ (klv_head PICTURE_ELEMENT_KEY 7 n ++ tail) = e ∙ sym (append_assoc pack segment (klv_head PICTURE_ELEMENT_KEY 7 n ++ tail)) in
        let long : length (pack ++ segment) ≡ 124 + segment_bytes part = length-append pack segment ∙ ap₂ (λ (a b : ℕ). a + b) p.size g.size in
        rw (le-ltb (length bytes) 148 room, no, yes) (at_stood bytes missing (pack ++ segment) tail n (124 + segment_bytes part) both long)
  ])
]

-- the element's length is read
pub found : (bytes missing front tail : List ℕ) (n at from : ℕ) → bytes ++ missing ≡ front ++ (klv_head PICTURE_ELEMENT_KEY 7 n ++ tail) → length front ≡ at → at + 24 ≤ length bytes
    → n ≤ MAX_UNIT → from + (at + 24) < 2 ^ 64 → found_at bytes at from ≡ walk.Lead (from + (at + 24)) n
unfolding found_at length_bytes
found bytes missing front tail n at from e l room small far =
    let whole : take 24 (drop at bytes) ≡ klv_head PICTURE_ELEMENT_KEY 7 n = part_stands bytes missing front (klv_head PICTURE_ELEMENT_KEY 7 n) tail at 24 e l (length_head n) room in
    let rest : drop at bytes ≡ klv_head PICTURE_ELEMENT_KEY 7 n ++ drop 24 (drop at bytes) = sym (take-append-drop 24 (drop at bytes)) ∙ ap (λ (xs : List ℕ). xs ++ drop 24 (drop at bytes)) whole in
    let form : get_or bytes (at + 16) 0 ≡ 0x87 = sym (get_or-drop at bytes 16 0) ∙ ap (λ (xs : List ℕ). get_or xs 16 0) rest in
    let digits : drop (at + 17) bytes ≡ big_bytes 7 n ++ drop 24 (drop at bytes) = sym (drop-drop 17 at bytes) ∙ ap (λ (xs : List ℕ). drop 17 xs) rest in
    let number : big_number 7 (drop (at + 17) bytes) ≡ n = ap (λ (xs : List ℕ). big_number 7 xs) digits ∙ big_number-reads_back 7 n (drop 24 (drop at bytes)) (omega arith) in
    rw (form, number, le-ltb MAX_UNIT n small, lt-ltb (from + (at + 24)) (2 ^ 64) far) refl

-- what a unit that is found says
found_tests : (p q r : Bool) (a b c u l v m : ℕ) → cond p (cond q (walk.Broken a) (cond r (walk.Lead u l) (walk.Broken b))) (walk.Broken c) ≡ walk.Lead v m → (v ≡ u) × (m ≡ l) × (q ≡ false)
found_tests false q r a b c u l v m e = cc
found_tests true true r a b c u l v m e = cc
found_tests true false false a b c u l v m e = cc
found_tests true false true a b c u l v m e = (cc, cc, refl)

-- a unit that is found stands behind the place, and is short
found_says : (bytes : List ℕ) (at from v m : ℕ) → found_at bytes at from ≡ walk.Lead v m → (from ≤ v) × (m ≤ MAX_UNIT)
unfolding found_at
found_says bytes at from v m e =
    let t = found_tests _ _ _ _ _ _ _ _ v m e in
    let small : big_number 7 (drop (at + 17) bytes) ≤ MAX_UNIT = ltb-false MAX_UNIT (big_number 7 (drop (at + 17) bytes)) t.2 in
    (omega (arith, t.0), omega (arith, t.1, small))

-- so does what a look finds
pub look_says : (s : Stand) (bytes : List ℕ) (from v m : ℕ) → look_of s bytes from ≡ walk.Lead v m → (from ≤ v) × (m ≤ MAX_UNIT)
look_says (At at) bytes from v m e = found_says bytes at from v m e
look_says (More need) bytes from v m e = cc
look_says (Broken at) bytes from v m e = cc

-- what bytes that are too few say, by two keys
asks_by_keys : (p q r : Bool) (a k b : ℕ) (s : Stand) (n : ℕ) → cond p (More a) (cond q (At k) (cond r s (Broken b))) ≡ More n → ((p ≡ true) × (n ≡ a)) ⊎ (s ≡ More n)
asks_by_keys true q r a k b s n e = inl (refl, cc)
asks_by_keys false true r a k b s n e = absurd cc
asks_by_keys false false true a k b s n e = inr e
asks_by_keys false false false a k b s n e = absurd cc

-- the same by one key
asks_by_key : (p q : Bool) (a k b n : ℕ) → cond p (More a) (cond q (At k) (Broken b)) ≡ More n → (p ≡ true) × (n ≡ a)
asks_by_key true q a k b n e = (refl, cc)
asks_by_key false true a k b n e = absurd cc
asks_by_key false false a k b n e = absurd cc

-- more is asked for where the bytes are too few, and no more than a lead has
asks_at : (bytes : List ℕ) (at n : ℕ) → stand_at bytes at ≡ More n → (length bytes < n) × (n ≡ at + 24)
unfolding stand_at
asks_at bytes at n e =
    let t = asks_by_key _ _ _ _ _ n e in
    let short : length bytes < at + 24 = ltb-true (length bytes) (at + 24) t.0 in
    (omega (arith, short, t.1), t.1)

asks_behind : (part : ℕ) (bytes : List ℕ) (n : ℕ) → stand_behind_pack part bytes ≡ More n → (length bytes < n) × (n ≤ 124 + segment_bytes part + 24)
unfolding stand_behind_pack
asks_behind part bytes n e = elim (asks_by_keys (nat_lt (length bytes) 148) (stands bytes 124 PICTURE_ELEMENT_KEY) (stands bytes 124 INDEX_SEGMENT_KEY) 148 124 124 (stand_at bytes (124 + segment_bytes part)) n e) [
  | inl here ↦ let short : length bytes < 148 = ltb-true (length bytes) 148 here.0 in (omega (arith, short, here.1), omega (arith, here.1))
  | inr more ↦ let t = asks_at bytes (124 + segment_bytes part) n more in (t.0, omega (arith, t.1))
]

asks_first : (part : ℕ) (bytes : List ℕ) (n : ℕ) → stand_first part bytes ≡ More n → (length bytes < n) × (n ≤ 124 + segment_bytes part + 24)
unfolding stand_first
asks_first part bytes n e = elim (asks_by_keys (nat_lt (length bytes) 24) (stands bytes 0 PICTURE_ELEMENT_KEY) (stands bytes 0 body_key) 24 0 0 (stand_behind_pack part bytes) n e) [
  | inl here ↦ let short : length bytes < 24 = ltb-true (length bytes) 24 here.0 in (omega (arith, short, here.1), omega (arith, here.1))
  | inr more ↦ asks_behind part bytes n more
]

-- a place that is found asks for nothing
found_asks : (p q r : Bool) (a b c u l n : ℕ) → cond p (cond q (walk.Broken a) (cond r (walk.Lead u l) (walk.Broken b))) (walk.Broken c) ≡ walk.More n → ⊥
found_asks false q r a b c u l n e = cc
found_asks true true r a b c u l n e = cc
found_asks true false false a b c u l n e = cc
found_asks true false true a b c u l n e = cc

look_asks : (s : Stand) (bytes : List ℕ) (from n : ℕ) → look_of s bytes from ≡ walk.More n → s ≡ More n
unfolding found_at
look_asks (At at) bytes from n e = absurd (found_asks _ _ _ _ _ _ _ _ n e)
look_asks (More need) bytes from n e = cc
look_asks (Broken at) bytes from n e = absurd cc

-- so does a look
pub look_more : (part : ℕ) (bytes : List ℕ) (from n : ℕ) → look_of (stand_first part bytes) bytes from ≡ walk.More n → (length bytes < n) × (n ≤ 124 + segment_bytes part + 24)
look_more part bytes from n e = asks_first part bytes n (look_asks (stand_first part bytes) bytes from n e)

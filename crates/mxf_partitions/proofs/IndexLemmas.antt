-- Random index packs that are accepted, and those that are refused.
use Rattle.std.proofs.Common.{◌≡◌, ◌≢◌, ◌≤◌, inl, inr, ℕ, true, false, List, length, Some, None, refl, sym, ap, ap₂, subst, ◌∙◌, arith}
use Rattle.std.proofs.lemmas.Bool.{cases_lt}
use Rattle.klv.specs.Items.{Item, spelled}
use Rattle.klv.specs.Reads.{IsKlvAt}
use Rattle.klv.specs.declared.item.Klv.{Klv}
use Rattle.mxf_partitions.specs.Reads.{entries_of, entries_in, has_index_size}
use Rattle.mxf_partitions.specs.Refusals.{IsReadIndex, IsFirstFall, RiseTo, HasFall, RefusesIndex}
use Rattle.mxf_partitions.specs.inner.Fronts.{HoldsIndex, HoldsNoIndex, holds_entries}
use Rattle.mxf_partitions.specs.declared.fault.PackFault.{PackFault}
use Rattle.mxf_partitions.specs.declared.fault.PackFault.TheVariants.{Memory, NotPack, PackSize, PackKind, IndexPackSize, IndexPackOrder}
use Rattle.mxf_partitions.specs.declared.random_index.PackEntry.{PackEntry}
use Rattle.mxf_partitions.proofs.ItemLemmas.{First, one_at}

-- what an item says whose key, value and size are a random index pack's
pub index_says : (item : Item) → holds_entries item.key item.value (length (spelled item)) ≡ true → entries_of item ≡ Some (entries_in item.value)
unfolding entries_of
index_says item t = rw t refl

-- and one whose aren't
pub index_says_none : (item : Item) → holds_entries item.key item.value (length (spelled item)) ≡ false → entries_of item ≡ None
unfolding entries_of
index_says_none item t = rw t refl

-- a value of such a size has a last word
index_long : (key value : List ℕ) (size : ℕ) → holds_entries key value size ≡ true → 4 ≤ length value
unfolding has_index_size
index_long key value size t = grind arith

-- the test of what was read is the test of the item
index_test : (bytes : List ℕ) (klv : Klv) (k : IsKlvAt bytes 0 klv) (value : List ℕ) → value ≡ k.item.value
    → holds_entries k.item.key k.item.value (length (spelled k.item)) ≡ holds_entries klv.key value klv.end
index_test bytes klv k value e =
    let key : k.item.key ≡ klv.key = sym k.key in
    let end = k.end in
    let size : length (spelled k.item) ≡ klv.end = omega (arith, end) in
    ap (λ (n : ℕ). holds_entries k.item.key k.item.value n) size ∙ ap₂ (λ (xs ys : List ℕ). holds_entries xs ys klv.end) key (sym e)

-- so the value that was read is a random index pack's
pub index_held : (bytes : List ℕ) (klv : Klv) (k : IsKlvAt bytes 0 klv) (value : List ℕ) → value ≡ k.item.value
    → holds_entries klv.key value klv.end ≡ true → HoldsIndex bytes value
index_held bytes klv k value e t =
    let test : holds_entries k.item.key k.item.value (length (spelled k.item)) ≡ true = index_test bytes klv k value e ∙ t in
    record {
      item = k.item;
      stands = k.stands;
      says = index_says k.item test ∙ ap (λ (xs : List ℕ). Some (entries_in xs)) (sym e);
      long = index_long klv.key value klv.end t;
    }

-- or no pack of these stands there
pub index_missing : First → (bytes : List ℕ) (klv : Klv) (k : IsKlvAt bytes 0 klv) (value : List ℕ) → value ≡ k.item.value
    → holds_entries klv.key value klv.end ≡ false → HoldsNoIndex bytes
index_missing first bytes klv k value e t = λ other stands.
    let test : holds_entries k.item.key k.item.value (length (spelled k.item)) ≡ false = index_test bytes klv k value e ∙ t in
    ap entries_of (one_at first bytes other k.item stands k.stands) ∙ index_says_none k.item test

-- what is said is one list
says_one : (item other : Item) (a b : List PackEntry) → item ≡ other → entries_of item ≡ Some a → entries_of other ≡ Some b → a ≡ b
says_one item other a b same p q =
    let both : Some a ≡ Some b = sym p ∙ ap entries_of same ∙ q in
    cc

some_none : (entries : List PackEntry) → Some entries ≡ None → ⊥
some_none entries e = absurd (cc)

-- places that fall don't rise
falls_not : (entries : List PackEntry) (entry : ℕ) → IsFirstFall entries entry → RiseTo entries (length entries) → ⊥
falls_not entries entry f rise = let up = rise entry f.behind f.there in let down = f.falls in omega arith

-- they fall first at one entry
fall_one : (entries : List PackEntry) (a b : ℕ) → IsFirstFall entries a → IsFirstFall entries b → a ≡ b
fall_one entries a b f g = elim (cases_lt a b) [
  | inl lt ↦ let up = g.rise a f.behind lt in let down = f.falls in absurd (omega arith)
  | inr ge ↦ elim (cases_lt b a) [
    | inl lt ↦ let up = f.rise b g.behind lt in let down = g.falls in absurd (omega arith)
    | inr le ↦ omega arith
  ]
]

-- of bytes that begin with a random index pack in order nothing is refused, want of memory aside
pub index_none : First → (bytes : List ℕ) (entries : List PackEntry) (fault : PackFault) → fault ≢ Memory → RefusesIndex bytes fault
    → IsReadIndex bytes entries → ⊥
index_none first bytes entries NotPack other r h = r
index_none first bytes entries PackSize other r h = r
index_none first bytes entries PackKind other r h = r
index_none first bytes entries Memory other r h = other refl
index_none first bytes entries IndexPackSize other r h = some_none entries (sym h.says ∙ r h.item h.stands)
index_none first bytes entries (IndexPackOrder entry) other r h =
    let same = says_one r.item h.item r.entries entries (one_at first bytes r.item h.item r.stands h.stands) r.says h.says in
    falls_not entries entry (subst (λ (xs : List PackEntry). IsFirstFall xs entry) same r.falls) h.rise

-- one refusal stands there at most
pub index_one : First → (bytes : List ℕ) (a b : PackFault) → a ≢ Memory → b ≢ Memory → RefusesIndex bytes a → RefusesIndex bytes b → a ≡ b
index_one first bytes NotPack b m n p q = absurd p
index_one first bytes PackSize b m n p q = absurd p
index_one first bytes PackKind b m n p q = absurd p
index_one first bytes Memory b m n p q = absurd (m refl)
index_one first bytes IndexPackSize NotPack m n p q = absurd q
index_one first bytes IndexPackSize PackSize m n p q = absurd q
index_one first bytes IndexPackSize PackKind m n p q = absurd q
index_one first bytes IndexPackSize Memory m n p q = absurd (n refl)
index_one first bytes IndexPackSize IndexPackSize m n p q = refl
index_one first bytes IndexPackSize (IndexPackOrder entry) m n p q = absurd (some_none q.entries (sym q.says ∙ p q.item q.stands))
index_one first bytes (IndexPackOrder entry) NotPack m n p q = absurd q
index_one first bytes (IndexPackOrder entry) PackSize m n p q = absurd q
index_one first bytes (IndexPackOrder entry) PackKind m n p q = absurd q
index_one first bytes (IndexPackOrder entry) Memory m n p q = absurd (n refl)
index_one first bytes (IndexPackOrder entry) IndexPackSize m n p q = absurd (some_none p.entries (sym p.says ∙ q p.item p.stands))
index_one first bytes (IndexPackOrder a) (IndexPackOrder b) m n p q =
    let same = says_one p.item q.item p.entries q.entries (one_at first bytes p.item q.item p.stands q.stands) p.says q.says in
    ap IndexPackOrder (fall_one q.entries a b (subst (λ (xs : List PackEntry). IsFirstFall xs a) same p.falls) q.falls)

-- the fall of entries that were read
pub has_fall : (bytes value : List ℕ) (entries : List PackEntry) (entry : ℕ) → HoldsIndex bytes value → entries ≡ entries_in value
    → IsFirstFall entries entry → HasFall bytes entry
has_fall bytes value entries entry h e f = record { item = h.item; stands = h.stands; entries = entries; says = h.says ∙ ap Some (sym e); falls = f }

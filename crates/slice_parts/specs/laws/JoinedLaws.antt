use Rattle.std.proofs.Common.{◌≡◌, ℕ, suc, ◌+◌, ◌≤◌, ◌<◌, List, [], ◌∷◌, ◌++◌, length, drop, get_or, refl, sym, ap, subst, ◌∙◌, arith}
use Rattle.std.specs.List.{fold}
use Rattle.std.proofs.lemmas.List.{append_assoc, append-nil, append_cancel_left, drop_all, length-append}
use Rattle.std.proofs.Math.Seq.{drop-cons}
use Rattle.slice_parts.specs.Joined.{Split, Joined}

-- one more item at the end
pub joined_more : {S X : Type 0} (spells : S → List ℕ → X → Type 0) (next : S → X → S) (s : S) (xs : List X) (x : X) (done one : List ℕ)
    → Joined spells next s xs done → spells (fold next s xs) one x → Joined spells next s (xs ++ x ∷ []) (done ++ one)
joined_more spells next s [] x done one j h =
    record { one = one; rest = []; head = h; tail = refl; joined = ap (λ (bs : List ℕ). bs ++ one) j ∙ sym (append-nil one) }
joined_more spells next s (y ∷ ys) x done one j h = record {
  one = j.one;
  rest = j.rest ++ one;
  head = j.head;
  tail = joined_more spells next (next s y) ys x j.rest one j.tail h;
  joined = ap (λ (bs : List ℕ). bs ++ one) j.joined ∙ append_assoc j.one j.rest one;
}

-- a spelling is never the beginning of another
abbrev pub IsApart : {S X : Type 0} → (S → List ℕ → X → Type 0) → Type 0
IsApart {S} {X} spells = (s : S) (one two u v : List ℕ) (x y : X) → spells s one x → spells s two y → one ++ u ≡ two ++ v → (one ≡ two) × (x ≡ y)

-- the longer of two lists that are spelled in the same bits goes on where the other ends
pub record GoesOn {S X : Type 0} (spells : S → List ℕ → X → Type 0) (next : S → X → S) (s : S) (xs ys : List X) (a u b v : List ℕ) : Type 0 where
  pub more : List X
  pub rest : List ℕ
  pub items : ys ≡ xs ++ more
  pub coded : Joined spells next (fold next s xs) more rest
  pub bits : b ≡ a ++ rest
  pub left : u ≡ rest ++ v

pub goes_on : {S X : Type 0} (spells : S → List ℕ → X → Type 0) (next : S → X → S) → IsApart spells → (s : S) (xs ys : List X) (a u b v : List ℕ)
    → Joined spells next s xs a → Joined spells next s ys b → a ++ u ≡ b ++ v → length xs ≤ length ys → GoesOn spells next s xs ys a u b v
goes_on spells next apart s [] ys a u b v ja jb e le = record {
  more = ys;
  rest = b;
  items = refl;
  coded = jb;
  bits = ap (λ (bs : List ℕ). bs ++ b) (sym ja);
  left = ap (λ (bs : List ℕ). bs ++ u) (sym ja) ∙ e;
}
goes_on spells next apart s (x ∷ xs) [] a u b v ja jb e le = absurd (omega (arith, le))
goes_on {S} {X} spells next apart s (x ∷ xs) (y ∷ ys) a u b v ja jb e le =
    let whole : ja.one ++ (ja.rest ++ u) ≡ jb.one ++ (jb.rest ++ v) =
    sym (append_assoc ja.one ja.rest u) ∙ (ap (λ (bs : List ℕ). bs ++ u) (sym ja.joined) ∙ (e ∙ (ap (λ (bs : List ℕ). bs ++ v) jb.joined ∙ append_assoc jb.one jb.rest v))) in
    let same = apart s ja.one jb.one (ja.rest ++ u) (jb.rest ++ v) x y ja.head jb.head whole in
    let others : ja.rest ++ u ≡ jb.rest ++ v = append_cancel_left ja.one (ja.rest ++ u) (jb.rest ++ v) (whole ∙ ap (λ (bs : List ℕ). bs ++ (jb.rest ++ v)) (sym same.0)) in
    let P : X → Type 0 = λ z. Joined spells next (next s z) ys jb.rest in
    let tail : Joined spells next (next s x) ys jb.rest = subst P (sym same.1) jb.tail in
    let r = goes_on spells next apart (next s x) xs ys ja.rest u jb.rest v ja.tail tail others (omega (arith, le)) in
    record {
      more = r.more;
      rest = r.rest;
      items = ap (λ (z : X). z ∷ ys) (sym same.1) ∙ ap (λ (zs : List X). x ∷ zs) r.items;
      coded = r.coded;
      bits = jb.joined ∙ (ap (λ (bs : List ℕ). bs ++ jb.rest) (sym same.0) ∙ (ap (λ (bs : List ℕ). ja.one ++ bs) r.bits ∙ (sym (append_assoc ja.one ja.rest r.rest) ∙ ap (λ (bs : List ℕ). bs ++ r.rest) (sym ja.joined))));
      left = r.left;
    }

-- the item at a place, and those behind it
pub joined_at : {S X : Type 0} (spells : S → List ℕ → X → Type 0) (next : S → X → S) (s : S) (xs : List X) (k : ℕ) (d : X) (bits : List ℕ) → k < length xs
    → Joined spells next s (drop k xs) bits → Split (λ one. spells s one (get_or xs k d)) (Joined spells next (next s (get_or xs k d)) (drop (k + 1) xs)) bits
joined_at {S} {X} spells next s xs k d bits lt j =
    let more : suc k ≡ k + 1 = omega arith in
    let e : drop k xs ≡ get_or xs k d ∷ drop (k + 1) xs = drop-cons xs k d lt ∙ ap (λ (n : ℕ). get_or xs k d ∷ drop n xs) more in
    let P : List X → Type 0 = λ ys. Joined spells next s ys bits in
    subst P e j

-- nothing is left
pub joined_end : {S X : Type 0} (spells : S → List ℕ → X → Type 0) (next : S → X → S) (s : S) (xs : List X) (k : ℕ) (bits : List ℕ) → length xs ≤ k
    → Joined spells next s (drop k xs) bits → bits ≡ []
joined_end {S} {X} spells next s xs k bits le j =
    let P : List X → Type 0 = λ ys. Joined spells next s ys bits in
    subst P (drop_all k xs le) j

-- two lists of as many items that are spelled in the same bits are one
pub same_items : {S X : Type 0} (spells : S → List ℕ → X → Type 0) (next : S → X → S) → IsApart spells → (s : S) (xs ys : List X) (a u b v : List ℕ)
    → Joined spells next s xs a → Joined spells next s ys b → a ++ u ≡ b ++ v → length xs ≡ length ys → (xs ≡ ys) × (u ≡ v)
same_items {S} {X} spells next apart s xs ys a u b v ja jb e same =
    let r = goes_on spells next apart s xs ys a u b v ja jb e (omega (arith, same)) in
    ended r.more r.rest r.items r.coded r.left
  where
    ended : (more : List X) (rest : List ℕ) → ys ≡ xs ++ more → Joined spells next (fold next s xs) more rest → u ≡ rest ++ v → (xs ≡ ys) × (u ≡ v)
    ended [] rest items coded left = (sym (append-nil xs) ∙ sym items, left ∙ ap (λ (bs : List ℕ). bs ++ v) coded)
    ended (x ∷ more) rest items coded left = absurd (omega (arith, same, ap length items, length-append xs (x ∷ more)))

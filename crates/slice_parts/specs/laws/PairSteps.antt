-- Laws of the pairs of levels, level by level: proved here, for proofs to cite.
use Rattle.std.proofs.Common.{◌≡◌, ◌≢◌, ℕ, zero, suc, ℤ, pos, ◌+◌, ◌-◌, ◌≤◌, ◌<◌, List, [], ◌∷◌, ◌++◌, length, drop, get_or, replicate, refl, sym, ap, subst, ◌∙◌, arith}
use Rattle.std.specs.List.{flat_map}
use Rattle.std.specs.Int.RustNames.{unsigned_abs}
use Rattle.std.proofs.lemmas.List.{append_assoc, append-nil, drop_all}
use Rattle.std.proofs.Math.Seq.{drop-cons}
use Rattle.slice_parts.specs.Joined.{Split}
use Rattle.slice_parts.specs.Pairs.{Pair, PairState, PairSpells, ArePairs, ArePairsOf, pair_next, pair_state, pair_of, levels_of}
use Rattle.slice_parts.specs.Component.{level_at}

-- zeros, a level that isn't zero and more are the same in one way
front_one : (m n : ℕ) (x y : ℤ) (u v : List ℤ) → x ≢ pos 0 → y ≢ pos 0 → replicate m (pos 0) ++ x ∷ u ≡ replicate n (pos 0) ++ y ∷ v → (m ≡ n) × (x ≡ y) × (u ≡ v)
front_one zero zero x y u v some one e = (refl, ap (λ (zs : List ℤ). get_or zs 0 (pos 0)) e, ap (drop 1) e)
front_one zero (suc n) x y u v some one e = absurd (some (ap (λ (zs : List ℤ). get_or zs 0 (pos 0)) e))
front_one (suc m) zero x y u v some one e = absurd (one (sym (ap (λ (zs : List ℤ). get_or zs 0 (pos 0)) e)))
front_one (suc m) (suc n) x y u v some one e =
    let r = front_one m n x y u v some one (ap (drop 1) e) in
    (ap suc r.0, r.1, r.2)

-- zeros alone have no level that isn't zero
front_none : (m n : ℕ) (x : ℤ) (u : List ℤ) → x ≢ pos 0 → replicate m (pos 0) ++ x ∷ u ≡ replicate n (pos 0) → ⊥
front_none zero zero x u some e = absurd (omega (arith, ap length e))
front_none zero (suc n) x u some e = some (ap (λ (zs : List ℤ). get_or zs 0 (pos 0)) e)
front_none (suc m) zero x u some e = absurd (omega (arith, ap length e))
front_none (suc m) (suc n) x u some e = front_none m n x u some (ap (drop 1) e)

-- a zero behind zeros is one more of them
pub zero_more : (n : ℕ) (u : List ℤ) → replicate (n + 1) (pos 0) ++ u ≡ replicate n (pos 0) ++ pos 0 ∷ u
zero_more n u = ap (λ (k : ℕ). replicate k (pos 0) ++ u) (next n) ∙ moved n
  where
    next : (k : ℕ) → k + 1 ≡ suc k
    next k = omega arith

    moved : (k : ℕ) → replicate (suc k) (pos 0) ++ u ≡ replicate k (pos 0) ++ pos 0 ∷ u
    moved zero = refl
    moved (suc k) = ap (λ (zs : List ℤ). pos 0 ∷ zs) (moved k)

-- a zero is one more of the zeros before
pub pairs_zero : (s : PairState) (before k : ℕ) (levels : List ℤ) (bits : List ℕ) → k < length levels → level_at levels k ≡ pos 0
    → ArePairsOf s before (drop k levels) bits → ArePairsOf s (before + 1) (drop (k + 1) levels) bits
pairs_zero s before k levels bits lt null is =
    let next : suc k ≡ k + 1 = omega arith in
    let e : drop k levels ≡ pos 0 ∷ drop (k + 1) levels = drop-cons levels k (pos 0) lt ∙ (ap (λ (z : ℤ). z ∷ drop (suc k) levels) null ∙ ap (λ (n : ℕ). pos 0 ∷ drop n levels) next) in
    record {
      pairs = is.pairs;
      behind = is.behind;
      entries = zero_more before (drop (k + 1) levels) ∙ (ap (λ (zs : List ℤ). replicate before (pos 0) ++ zs) (sym e) ∙ is.entries);
      coded = is.coded;
    }

-- a level that isn't zero is the level of the next pair
pub pairs_level : (s : PairState) (before k : ℕ) (levels : List ℤ) (bits : List ℕ) → k < length levels → level_at levels k ≢ pos 0
    → ArePairsOf s before (drop k levels) bits
    → Split (λ one. PairSpells s one (pair_of before (level_at levels k))) (ArePairsOf (pair_state before (unsigned_abs (level_at levels k) - 1)) 0 (drop (k + 1) levels)) bits
pairs_level s before k levels bits lt some is = cases is.pairs is.entries is.coded
  where
    Next : List ℕ → Type 0
    Next = Split (λ one. PairSpells s one (pair_of before (level_at levels k))) (ArePairsOf (pair_state before (unsigned_abs (level_at levels k) - 1)) 0 (drop (k + 1) levels))

    e : drop k levels ≡ level_at levels k ∷ drop (k + 1) levels
    e = drop-cons levels k (pos 0) lt ∙ ap (λ (n : ℕ). level_at levels k ∷ drop n levels) (next k)
      where
        next : (j : ℕ) → suc j ≡ j + 1
        next j = omega arith

    cases : (pairs : List Pair) → replicate before (pos 0) ++ drop k levels ≡ flat_map levels_of pairs ++ replicate is.behind (pos 0) → ArePairs s pairs bits → Next bits
    cases [] entries coded = absurd (front_none before is.behind (level_at levels k) (drop (k + 1) levels) some (ap (λ (zs : List ℤ). replicate before (pos 0) ++ zs) (sym e) ∙ entries))
    cases (p ∷ pairs) entries coded =
        let rest : List ℤ = flat_map levels_of pairs ++ replicate is.behind (pos 0) in
        let whole : replicate before (pos 0) ++ level_at levels k ∷ drop (k + 1) levels ≡ replicate p.run (pos 0) ++ p.level ∷ rest =
        ap (λ (zs : List ℤ). replicate before (pos 0) ++ zs) (sym e) ∙ (entries
        ∙ (append_assoc (replicate p.run (pos 0) ++ p.level ∷ []) (flat_map levels_of pairs) (replicate is.behind (pos 0)) ∙ append_assoc (replicate p.run (pos 0)) (p.level ∷ []) rest)) in
        let r = front_one before p.run (level_at levels k) p.level (drop (k + 1) levels) rest some coded.head.some whole in
        let pair : p ≡ pair_of before (level_at levels k) = ap (λ (n : ℕ). pair_of n p.level) (sym r.0) ∙ ap (pair_of before) (sym r.1) in
        let P : Pair → Type 0 = λ q. PairSpells s coded.one q in
        let Q : Pair → Type 0 = λ q. ArePairs (pair_next s q) pairs coded.rest in
        record {
          one = coded.one;
          rest = coded.rest;
          head = subst P pair coded.head;
          tail = record { pairs = pairs; behind = is.behind; entries = r.2; coded = subst Q pair coded.tail };
          joined = coded.joined;
        }

-- behind the last level nothing is due
pub pairs_end : (s : PairState) (before k : ℕ) (levels : List ℤ) (bits : List ℕ) → length levels ≤ k → ArePairsOf s before (drop k levels) bits → bits ≡ []
pairs_end s before k levels bits le is = cases is.pairs is.entries is.coded
  where
    cases : (pairs : List Pair) → replicate before (pos 0) ++ drop k levels ≡ flat_map levels_of pairs ++ replicate is.behind (pos 0) → ArePairs s pairs bits → bits ≡ []
    cases [] entries coded = coded
    cases (p ∷ pairs) entries coded =
        let rest : List ℤ = flat_map levels_of pairs ++ replicate is.behind (pos 0) in
        let whole : replicate p.run (pos 0) ++ p.level ∷ rest ≡ replicate before (pos 0) =
        sym (append_assoc (replicate p.run (pos 0)) (p.level ∷ []) rest) ∙ (sym (append_assoc (replicate p.run (pos 0) ++ p.level ∷ []) (flat_map levels_of pairs) (replicate is.behind (pos 0)))
        ∙ (sym entries ∙ (ap (λ (zs : List ℤ). replicate before (pos 0) ++ zs) (drop_all k levels le) ∙ append-nil (replicate before (pos 0))))) in
        absurd (front_none p.run before p.level rest coded.head.some whole)

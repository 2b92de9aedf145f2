use Rattle.std.proofs.Common.{◌≡◌, ℕ, ℤ, pos, suc, ◌+◌, ◌-◌, ◌<◌, List, [], ◌∷◌, ◌++◌, length, replicate, set, refl, sym, ap, subst, ◌∙◌, arith}
use Rattle.std.specs.List.{flat_map}
use Rattle.std.specs.Int.RustNames.{unsigned_abs}
use Rattle.std.proofs.lemmas.List.{append_assoc, append-nil, length-append, length-replicate, length-set, set-append_right, replicate-append-replicate}
use Rattle.std.proofs.lemmas.List.Sums.{fold-append}
use Rattle.std.proofs.lemmas.Grind.{flat_map-append}
use Rattle.std.proofs.Math.Seq.{set-append_seam}
use Rattle.bit_io.specs.Bits.{bits}
use Rattle.bit_io.specs.Read.{Reading}
use Rattle.slice_parts.specs.inner.Progress.{ReadsOne}
use Rattle.slice_parts.specs.Pairs.{Pair, PairState, PairSpells, pair_next, first_pair, pair_state, pair_of, levels_of}
use Rattle.slice_parts.specs.inner.Progress.{PairsRead}
use Rattle.slice_parts.proofs.ReadsLemmas.{reads_none, reads_more}

-- a level is put into zeros behind a front and a run
placed : (front : List ℤ) (m run : ℕ) (x : ℤ) → run < m → set (front ++ replicate m (pos 0)) (length front + run) x ≡ (front ++ (replicate run (pos 0) ++ x ∷ [])) ++ replicate (m - (run + 1)) (pos 0)
placed front m run x lt =
    let behind : List ℤ = replicate (m - (run + 1)) (pos 0) in
    let cut : m ≡ run + suc (m - (run + 1)) = omega arith in
    let zeros : replicate m (pos 0) ≡ replicate run (pos 0) ++ pos 0 ∷ behind = ap (λ (n : ℕ). replicate n (pos 0)) cut ∙ sym (replicate-append-replicate run (suc (m - (run + 1))) (pos 0)) in
    let at : length front + run - length front ≡ length (replicate run (pos 0)) = omega (arith, length-replicate run (pos 0)) in
    set-append_right front (replicate m (pos 0)) (length front) (length front + run) x refl (omega arith)
    ∙ (ap (λ (zs : List ℤ). front ++ set zs (length front + run - length front) x) zeros
    ∙ (ap (λ (n : ℕ). front ++ set (replicate run (pos 0) ++ pos 0 ∷ behind) n x) at
    ∙ (ap (λ (zs : List ℤ). front ++ zs) (set-append_seam (replicate run (pos 0)) (pos 0) behind x ∙ sym (append_assoc (replicate run (pos 0)) (x ∷ []) behind))
    ∙ sym (append_assoc front (replicate run (pos 0) ++ x ∷ []) behind))))

pub pairs_none : (start : Reading) (levels : List ℤ) → levels ≡ replicate (length levels) (pos 0) → PairsRead start start (length levels) 4 1 0 levels
pairs_none start levels zeros =
    let whole : length levels ≡ length levels - 0 = omega arith in
    record {
      pairs = [];
      read = reads_none PairSpells pair_next first_pair start;
      state = refl;
      place = refl;
      long = refl;
      within = omega arith;
      entries = zeros ∙ ap (λ (n : ℕ). replicate n (pos 0)) whole;
    }

-- one more pair is read, and its level put
pub pairs_more : (start here behind : Reading) (count run size at : ℕ) (levels : List ℤ) (found : ℕ) (level : ℤ)
    → PairsRead start here count run size at levels → ReadsOne PairSpells (pair_state run size) here behind (pair_of found level) → found < count - at
    → PairsRead start behind count found (unsigned_abs level - 1) (at + found + 1) (set levels (at + found) level)
pairs_more start here behind count run size at levels found level read one inside =
    let pair : Pair = pair_of found level in
    let front : List ℤ = flat_map levels_of read.pairs in
    let P : PairState → Type 0 = λ s. ReadsOne PairSpells s here behind pair in
    let whole : flat_map levels_of (read.pairs ++ pair ∷ []) ≡ front ++ (replicate found (pos 0) ++ level ∷ []) = flat_map-append levels_of read.pairs (pair ∷ []) ∙ ap (λ (zs : List ℤ). front ++ zs) (append-nil (replicate found (pos 0) ++ level ∷ [])) in
    let left : count - at - (found + 1) ≡ count - (at + found + 1) = omega arith in
    let spot : at + found ≡ length front + found = omega (arith, read.place) in
    record {
      pairs = read.pairs ++ pair ∷ [];
      read = reads_more PairSpells pair_next first_pair start here behind read.pairs pair read.read (subst P (sym read.state) one);
      state = fold-append pair_next first_pair read.pairs (pair ∷ []);
      place = omega (arith, ap length whole, length-append front (replicate found (pos 0) ++ level ∷ []), length-append (replicate found (pos 0)) (level ∷ []), length-replicate found (pos 0), read.place);
      long = length-set levels (at + found) level ∙ read.long;
      within = omega arith;
      entries = ap (λ (zs : List ℤ). set zs (at + found) level) read.entries
          ∙ (ap (λ (n : ℕ). set (front ++ replicate (count - at) (pos 0)) n level) spot
          ∙ (placed front (count - at) found level inside
          ∙ (ap (λ (zs : List ℤ). zs ++ replicate (count - at - (found + 1)) (pos 0)) (sym whole) ∙ ap (λ (n : ℕ). flat_map levels_of (read.pairs ++ pair ∷ []) ++ replicate n (pos 0)) left)));
    }

-- a bit as a number
pub one_bit : (v : ℕ) → v < 2 → bits 1 v ≡ v ∷ []
unfolding bits
one_bit v lt = ap (λ (b : ℕ). b ∷ []) (omega arith)

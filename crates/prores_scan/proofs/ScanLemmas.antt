-- Lemmas on specs/Scans.antt.
use Rattle.std.proofs.Common.{◌≡◌, ℕ, ◌<◌, List, Bool, true, eqb, ltb, ◌&&◌, get_or, refl, sym, ap, ◌∙◌, subst}
use Rattle.std.proofs.lemmas.Bool.{agree_below, agree_below_at, and_parts, eqb-true, ltb-true}
use Rattle.prores_scan.specs.Scans.{progressive_places, field_places, places, IsPosition}
use Rattle.prores_scan.specs.declared.scans.Scan.{Scan}
use Rattle.prores_scan.specs.declared.scans.Scan.TheVariants.{Progressive, Field}
use Rattle.prores_scan.specs.declared.scans.TheConstants.{PROGRESSIVE, FIELD, PROGRESSIVE_POSITIONS, FIELD_POSITIONS}

-- the second table leads back from what the first gives, at n
abbrev pub leads_back : List ℕ → List ℕ → ℕ → Bool
leads_back there back n = eqb (get_or back (get_or there n 0) 0) n && ltb (get_or there n 0) 64

-- the test of all places, as the rule at each
pub back_at : (there back : List ℕ) → agree_below (leads_back there back) (λ n. true) 64 ≡ true
    → (n : ℕ) → n < 64 → (get_or back (get_or there n 0) 0 ≡ n) × (get_or there n 0 < 64)
back_at there back test n h =
    let parts = and_parts _ _ (agree_below_at (leads_back there back) (λ n. true) 64 n test h) in
    (eqb-true _ _ parts.0, ltb-true _ _ parts.1)

-- two tables that lead back from each other
pub record AreInverse (table positions : List ℕ) : Type 0 where
  pub forth : agree_below (leads_back table positions) (λ n. true) 64 ≡ true
  pub back : agree_below (leads_back positions table) (λ n. true) 64 ≡ true

-- the entry at k stands at k alone
pub place_is : (scan : Scan) (table positions : List ℕ) → places scan ≡ table → AreInverse table positions
    → (k : ℕ) → k < 64 → IsPosition scan (get_or table k 0) k
place_is scan table positions e inverse k h = record {
  place_within = (back_at table positions inverse.forth k h).1;
  within = h;
  entry = ap (λ (xs : List ℕ). get_or xs k 0) e;
  only = λ j lt at.
      let same : get_or table j 0 ≡ get_or table k 0 = sym (ap (λ (xs : List ℕ). get_or xs j 0) e) ∙ at in
      sym (back_at table positions inverse.forth j lt).0
      ∙ (ap (λ (n : ℕ). get_or positions n 0) same ∙ (back_at table positions inverse.forth k h).0);
}

-- the place p stands at its position alone
pub position_is : (scan : Scan) (table positions : List ℕ) → places scan ≡ table → AreInverse table positions
    → (p : ℕ) → p < 64 → IsPosition scan p (get_or positions p 0)
position_is scan table positions e inverse p h =
    let there = back_at positions table inverse.back p h in
    let P : ℕ → Type 0 = λ n. IsPosition scan n (get_or positions p 0) in
    subst P there.0 (place_is scan table positions e inverse (get_or positions p 0) there.1)

pub progressive_is : (scan : Scan) → scan ≡ Progressive → places scan ≡ PROGRESSIVE
unfolding progressive_places
progressive_is scan e = ap places e

pub field_is : (scan : Scan) → scan ≡ Field → places scan ≡ FIELD
unfolding field_places
field_is scan e = ap places e

pub progressive_tables : AreInverse PROGRESSIVE PROGRESSIVE_POSITIONS
progressive_tables = record { forth = refl; back = refl }

pub field_tables : AreInverse FIELD FIELD_POSITIONS
field_tables = record { forth = refl; back = refl }

-- Laws of the raster places of a scan: proved here, for proofs to cite.
use Rattle.std.proofs.Common.{◌≡◌, ℕ, ◌<◌, List, Bool, true, eqb, [], ◌∷◌, ltb, ◌&&◌, get_or, refl}
use Rattle.std.proofs.lemmas.Bool.{agree_below, agree_below_at, and_parts, eqb-true, ltb-true}
use Rattle.prores_scan.specs.Scans.{progressive_places, field_places, places, place_of}
use Rattle.prores_scan.specs.declared.scans.Scan.{Scan}
use Rattle.prores_scan.specs.declared.scans.Scan.TheVariants.{Progressive, Field}

-- the first 64 entries of a table are below 64
abbrev AreBelow : List ℕ → Type 0
AreBelow table = agree_below (λ n. ltb (get_or table n 0) 64) (λ n. true) 64 ≡ true

are_below : (scan : Scan) → AreBelow (places scan)
unfolding progressive_places field_places
are_below Progressive = refl
are_below Field = refl

-- every place is below 64
pub place_below : (scan : Scan) (k : ℕ) → k < 64 → place_of scan k < 64
place_below scan k lt = ltb-true _ _ (agree_below_at (λ n. ltb (get_or (places scan) n 0) 64) (λ n. true) 64 k (are_below scan) lt)

-- the scan positions in raster order
unfoldable positions : Scan → List ℕ
positions Progressive =
    0 ∷ 1 ∷ 4 ∷ 5 ∷ 16 ∷ 17 ∷ 21 ∷ 22 ∷ 2 ∷ 3 ∷ 6 ∷ 7 ∷ 18 ∷ 20 ∷ 23 ∷ 28 ∷ 8 ∷ 9 ∷ 12 ∷ 13 ∷ 19 ∷ 24 ∷
    27 ∷ 29 ∷ 10 ∷ 11 ∷ 14 ∷ 15 ∷ 25 ∷ 26 ∷ 30 ∷ 31 ∷ 32 ∷ 33 ∷ 37 ∷ 38 ∷ 45 ∷ 46 ∷ 53 ∷ 54 ∷ 34 ∷ 36 ∷
    39 ∷ 44 ∷ 47 ∷ 52 ∷ 55 ∷ 60 ∷ 35 ∷ 40 ∷ 43 ∷ 48 ∷ 51 ∷ 56 ∷ 59 ∷ 61 ∷ 41 ∷ 42 ∷ 49 ∷ 50 ∷ 57 ∷ 58 ∷
    62 ∷ 63 ∷ []
positions Field =
    0 ∷ 2 ∷ 8 ∷ 10 ∷ 32 ∷ 34 ∷ 35 ∷ 41 ∷ 1 ∷ 3 ∷ 9 ∷ 11 ∷ 33 ∷ 36 ∷ 40 ∷ 42 ∷ 4 ∷ 6 ∷ 12 ∷ 14 ∷ 37 ∷ 39 ∷
    43 ∷ 49 ∷ 5 ∷ 7 ∷ 13 ∷ 15 ∷ 38 ∷ 44 ∷ 48 ∷ 50 ∷ 16 ∷ 18 ∷ 19 ∷ 25 ∷ 45 ∷ 47 ∷ 51 ∷ 57 ∷ 17 ∷ 20 ∷
    24 ∷ 26 ∷ 46 ∷ 52 ∷ 56 ∷ 58 ∷ 21 ∷ 23 ∷ 27 ∷ 30 ∷ 53 ∷ 55 ∷ 59 ∷ 62 ∷ 22 ∷ 28 ∷ 29 ∷ 31 ∷ 54 ∷ 60 ∷
    61 ∷ 63 ∷ []

-- the second table leads back from what the first gives, at n
abbrev leads_back : List ℕ → List ℕ → ℕ → Bool
leads_back there back n = eqb (get_or back (get_or there n 0) 0) n && ltb (get_or there n 0) 64

all_lead_back : (scan : Scan) → agree_below (leads_back (positions scan) (places scan)) (λ n. true) 64 ≡ true
unfolding progressive_places field_places positions
all_lead_back Progressive = refl
all_lead_back Field = refl

-- every place has a scan position
pub has_position : (scan : Scan) (p : ℕ) → p < 64 → (k : ℕ) × (k < 64) × (place_of scan k ≡ p)
has_position scan p lt =
    let parts = and_parts _ _ (agree_below_at (leads_back (positions scan) (places scan)) (λ n. true) 64 p (all_lead_back scan) lt) in
    (get_or (positions scan) p 0, ltb-true _ _ parts.1, eqb-true _ _ parts.0)

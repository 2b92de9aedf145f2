-- Lists that go together item by item.
use Rattle.std.proofs.Common.{◌≡◌, List, [], ◌∷◌, ◌++◌, refl, ap}
use Rattle.std.specs.List.{AllZip}

-- the last items can be taken off
pub zip_pop : {A B : Type 0} (R : A → B → Type 0) (xs : List A) (x : A) (ys : List B) → AllZip R (xs ++ x ∷ []) ys
    → (front : List B) × (last : B) × (ys ≡ front ++ last ∷ []) × AllZip R xs front × R x last
zip_pop R [] x [] h = absurd h
zip_pop R [] x (y ∷ []) h = ([], y, refl, tt, h.0)
zip_pop R [] x (y ∷ z ∷ ys) h = absurd h.1
zip_pop R (a ∷ xs) x [] h = absurd h
zip_pop {B = B} R (a ∷ xs) x (y ∷ ys) h =
    let r = zip_pop R xs x ys h.1 in
    (y ∷ r.0, r.1, ap (λ (zs : List B). y ∷ zs) r.2, (h.0, r.3), r.4)

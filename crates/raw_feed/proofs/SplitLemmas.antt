-- Two splits of the same bytes into a head, items and an ending are one.
use Rattle.std.proofs.Common.{◌≡◌, ◌≢◌, ℕ, suc, ◌+◌, ◌<◌, ◌≤◌, ◌==◌, List, [], ◌∷◌, ◌++◌, length, drop, Bool, true, false, refl, sym}
use Rattle.std.proofs.Common.{ap, ◌∙◌, subst, append_assoc, arith, ⊎_elim, All}
use Rattle.std.specs.List.{flat_map}
use Rattle.std.proofs.lemmas.List.{length-append, drop_at}
use Rattle.std.proofs.lemmas.Bool.Decides.{eqb_tells}
use Rattle.rec_bytes.specs.Configuration.{Fields}
use Rattle.raw_feed.specs.declared.limits.TheConstants.{MAX_FEED}
use Rattle.raw_feed.specs.declared.kind.Kind.{Kind}
use Rattle.raw_feed.specs.Items.{Ending, EndsAt, IsSized, item}
use Rattle.raw_feed.proofs.KindLemmas.{one_unit}
use Rattle.raw_feed.proofs.EndingLemmas.{one_ending, goes_on}

-- fewer items than may be are not full
pub not_full : (n max : ℕ) → n < max → (n == max) ≡ false
not_full n max less =
    ⊎_elim (λ (p : ((n == max) ≡ true) × (n ≡ max)). absurd (let e = p.1 in omega arith)) (λ (p : ((n == max) ≡ false) × (n ≢ max)). p.0) (eqb_tells n max)

-- each unit may be so long
abbrev pub Sized : Kind → Fields → List (List ℕ) → Type 0
Sized kind config units = All (IsSized kind config) units

pub first_sized : (kind : Kind) (config : Fields) (unit : List ℕ) (units : List (List ℕ)) → Sized kind config (unit ∷ units) → IsSized kind config unit
first_sized kind config unit units sized = sized 0 [] (omega arith)

pub rest_sized : (kind : Kind) (config : Fields) (unit : List ℕ) (units : List (List ℕ)) → Sized kind config (unit ∷ units) → Sized kind config units
rest_sized kind config unit units sized = λ k d h. sized (suc k) d (omega arith)

-- the items from a place on, behind so many units, and what ends them there
pub record Splits (kind : Kind) (config : Fields) (max at count : ℕ) (bytes : List ℕ) (units : List (List ℕ)) (ending : Ending) : Type 0 where
  pub rest : List ℕ
  pub split : bytes ≡ flat_map (item kind) units ++ rest
  pub sized : Sized kind config units
  pub few : count + length units ≤ max
  pub within : at + length (flat_map (item kind) units) ≤ MAX_FEED
  pub ends : EndsAt kind config (count + length units == max) (at + length (flat_map (item kind) units)) rest ending

-- the same behind one more unit
pub Splits-rest : (kind : Kind) (config : Fields) (max at count : ℕ) (unit tail : List ℕ) (units : List (List ℕ)) (ending : Ending)
    → (s : Splits kind config max at count (item kind unit ++ tail) (unit ∷ units) ending)
    → Splits kind config max (at + length (item kind unit)) (count + 1) tail units ending
Splits-rest kind config max at count unit tail units ending s =
    let long : length (flat_map (item kind) (unit ∷ units)) ≡ length (item kind unit) + length (flat_map (item kind) units) =
    length-append (item kind unit) (flat_map (item kind) units) in
    let place : at + length (flat_map (item kind) (unit ∷ units)) ≡ at + length (item kind unit) + length (flat_map (item kind) units) = omega arith in
    let number : count + length (unit ∷ units) ≡ count + 1 + length units = omega arith in
    let most = s.within in
    let few = s.few in
    record {
      rest = s.rest;
      split = sym (drop_at (item kind unit) tail (length (item kind unit)) refl)
          ∙ ap (drop (length (item kind unit))) (s.split ∙ append_assoc (item kind unit) (flat_map (item kind) units) s.rest)
          ∙ drop_at (item kind unit) (flat_map (item kind) units ++ s.rest) (length (item kind unit)) refl;
      sized = rest_sized kind config unit units s.sized;
      few = omega arith;
      within = omega arith;
      ends = subst (λ (n : ℕ). EndsAt kind config (n == max) (at + length (item kind unit) + length (flat_map (item kind) units)) s.rest ending) number
          (subst (λ (p : ℕ). EndsAt kind config (count + length (unit ∷ units) == max) p s.rest ending) place s.ends);
    }

-- one split has no item where the other has one
pub one_ends : (kind : Kind) (config : Fields) (max at count : ℕ) (bytes unit : List ℕ) (units : List (List ℕ)) (one other : Ending)
    → Splits kind config max at count bytes [] one → Splits kind config max at count bytes (unit ∷ units) other → ⊥
one_ends kind config max at count bytes unit units one other s t =
    let same : s.rest ≡ item kind unit ++ (flat_map (item kind) units ++ t.rest) =
    sym s.split ∙ t.split ∙ append_assoc (item kind unit) (flat_map (item kind) units) t.rest in
    let long : length (flat_map (item kind) (unit ∷ units)) ≡ length (item kind unit) + length (flat_map (item kind) units) =
    length-append (item kind unit) (flat_map (item kind) units) in
    let few = t.few in
    let most = t.within in
    let may : (count + length {A = List ℕ} [] == max) ≡ false = not_full (count + length {A = List ℕ} []) max (omega arith) in
    let here : at + length {A = ℕ} [] ≡ at = omega arith in
    let ends : EndsAt kind config false at (item kind unit ++ (flat_map (item kind) units ++ t.rest)) one =
    subst (λ (xs : List ℕ). EndsAt kind config false at xs one) same
    (subst (λ (p : ℕ). EndsAt kind config false p s.rest one) here
    (subst (λ (b : Bool). EndsAt kind config b (at + length {A = ℕ} []) s.rest one) may s.ends)) in
    goes_on kind config at unit (flat_map (item kind) units ++ t.rest) one (first_sized kind config unit units t.sized) (omega arith) ends

-- two splits are one
pub one_split : (kind : Kind) (config : Fields) (max at count : ℕ) (bytes : List ℕ) (units others : List (List ℕ)) (one other : Ending)
    → Splits kind config max at count bytes units one → Splits kind config max at count bytes others other → (units ≡ others) × (one ≡ other)
one_split kind config max at count bytes [] [] one other s t =
    let same : t.rest ≡ s.rest = sym t.split ∙ s.split in (
      refl,
      one_ending kind config (count + length {A = List ℕ} [] == max) (at + length {A = ℕ} []) s.rest s.within one other s.ends
          (subst (λ (xs : List ℕ). EndsAt kind config (count + length {A = List ℕ} [] == max) (at + length {A = ℕ} []) xs other) same t.ends),
    )
one_split kind config max at count bytes [] (v ∷ vs) one other s t = absurd (one_ends kind config max at count bytes v vs one other s t)
one_split kind config max at count bytes (u ∷ us) [] one other s t = absurd (one_ends kind config max at count bytes u us other one t s)
one_split kind config max at count bytes (u ∷ us) (v ∷ vs) one other s t =
    let first : bytes ≡ item kind u ++ (flat_map (item kind) us ++ s.rest) = s.split ∙ append_assoc (item kind u) (flat_map (item kind) us) s.rest in
    let second : bytes ≡ item kind v ++ (flat_map (item kind) vs ++ t.rest) = t.split ∙ append_assoc (item kind v) (flat_map (item kind) vs) t.rest in
    let same =
    one_unit kind config u v (flat_map (item kind) us ++ s.rest) (flat_map (item kind) vs ++ t.rest) (first_sized kind config u us s.sized)
    (first_sized kind config v vs t.sized) (sym first ∙ second) in
    let mine : Splits kind config max at count (item kind u ++ (flat_map (item kind) us ++ s.rest)) (u ∷ us) one =
    subst (λ (xs : List ℕ). Splits kind config max at count xs (u ∷ us) one) first s in
    let other_unit : Splits kind config max at count bytes (u ∷ vs) other = subst (λ (w : List ℕ). Splits kind config max at count bytes (w ∷ vs) other) (sym same.0) t in
    let theirs : Splits kind config max at count (item kind u ++ (flat_map (item kind) us ++ s.rest)) (u ∷ vs) other =
    subst (λ (xs : List ℕ). Splits kind config max at count xs (u ∷ vs) other) first other_unit in
    let rest = one_split kind config max (at + length (item kind u)) (count + 1) (flat_map (item kind) us ++ s.rest) us vs one other
    (Splits-rest kind config max at count u (flat_map (item kind) us ++ s.rest) us one mine)
    (Splits-rest kind config max at count u (flat_map (item kind) us ++ s.rest) vs other theirs) in
    (cc (same.0, rest.0), rest.1)

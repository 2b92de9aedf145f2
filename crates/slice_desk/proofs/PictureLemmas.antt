-- The four pictures, after one more is offered or the lowest leaves.
use Rattle.std.proofs.Common.{◌≡◌, ℕ, ◌+◌, ◌%◌, ◌<◌, List, Option, length, get_or, set, ap, subst, ◌∙◌, arith, inl, inr, length-set}
use Rattle.std.proofs.lemmas.Bool.{cases_eq}
use Rattle.std.proofs.lemmas.List.{get_or-set_same, get_or-set_other}
use Rattle.rec_bytes.specs.Configuration.{Fields}
use Rattle.picture_plane.specs.Pictures.{Planes, zeros}
use Rattle.picture_plane.specs.Sizes.{size_of}
use Rattle.slice_desk.specs.Told.{IsTold}
use Rattle.slice_desk.specs.inner.Keeping.{ArePictures, AreTold}

-- one is copied
pub pictures_set : (config : Fields) (pictures : List Planes) (at : ℕ) (picture : Planes) → at < 4 → picture.size ≡ size_of config → ArePictures config pictures
    → ArePictures config (set pictures at picture)
pictures_set config pictures at picture few sized are = record {
  four = length-set pictures at picture ∙ are.four;
  sized = λ k lt. elim (cases_eq k at) [
    | inl same ↦
        let here : get_or (set pictures at picture) k (zeros (size_of config)) ≡ picture =
        ap (λ (n : ℕ). get_or (set pictures at picture) n (zeros (size_of config))) same ∙ get_or-set_same pictures at picture (zeros (size_of config)) (omega (arith, few, are.four)) in
        ap (λ (p : Planes). p.size) here ∙ sized
    | inr other ↦ ap (λ (p : Planes). p.size) (get_or-set_other pictures at k picture (zeros (size_of config)) other) ∙ are.sized k lt
  ];
}

-- one more is the feed's
pub told_more : (told : Option (List ℕ)) (config : Fields) (lowest offered : ℕ) (pictures : List Planes) (picture : Planes) → length pictures ≡ 4
    → offered < lowest + 4 → ((other : Planes) → IsTold told config offered other → picture ≡ other) → AreTold told config lowest offered pictures
    → AreTold told config lowest (offered + 1) (set pictures (offered % 4) picture)
told_more told config lowest offered pictures picture four room next are frame other low high is_told = elim (cases_eq frame offered) [
  | inl same ↦
      let at : frame % 4 ≡ offered % 4 = ap (λ (n : ℕ). n % 4) same in
      let here : get_or (set pictures (offered % 4) picture) (frame % 4) (zeros (size_of config)) ≡ picture =
      ap (λ (n : ℕ). get_or (set pictures (offered % 4) picture) n (zeros (size_of config))) at
      ∙ get_or-set_same pictures (offered % 4) picture (zeros (size_of config)) (omega (arith, four)) in
      here ∙ next other (subst (λ (n : ℕ). IsTold told config n other) same is_told)
  | inr differs ↦
      let apart : frame % 4 ≡ offered % 4 → ⊥ = λ e. differs (omega (arith, e, low, high, room)) in
      get_or-set_other pictures (offered % 4) (frame % 4) picture (zeros (size_of config)) apart ∙ are frame other low (omega (arith, high, differs)) is_told
]

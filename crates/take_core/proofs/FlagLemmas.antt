-- The slices that are in, by their flags: one more, and a frame less.
use Rattle.std.proofs.Common.{◌≡◌, ◌≢◌, ℕ, ◌+◌, ◌%◌, ◌<◌, ◌≤◌, List, length, Bool, true, false, ◌⊎◌, inl, inr, refl, sym, arith}
use Rattle.std.specs.Prelude.{◌&&◌, ◌==◌, slice_set}
use Rattle.std.proofs.Math.Path.{fun_ext}
use Rattle.std.proofs.lemmas.Bool.{cases_Bool, eq-eqb, ne_eqb}
use Rattle.std.proofs.lemmas.Bool.Decides.{nat_tests}
use Rattle.std.proofs.lemmas.List.{get_or-set_same, get_or-set_other}
use Rattle.take_core.specs.Kept.{place_of, slices_in}
use Rattle.take_core.specs.States.{Slices, names_slice, with_slice, without_frame}
use Rattle.take_core.specs.declared.numbers.TheConstants.{FLIGHT}
use Rattle.take_core.specs.inner.Flags.{Cleared, AllSet}

-- a slice that is named
pub names-yes : (lowest slices f i : ℕ) → lowest ≤ f → f < lowest + FLIGHT → i < slices → names_slice lowest slices f i ≡ true
names-yes lowest slices f i above near few = grind (arith, nat_tests)

-- what a name says
pub names-facts : (lowest slices f i : ℕ) → names_slice lowest slices f i ≡ true → (lowest ≤ f) × (f < lowest + FLIGHT) × (i < slices)
names-facts lowest slices f i named = (grind (arith, nat_tests), grind (arith, nat_tests), grind (arith, nat_tests))

-- no frame below the lowest is named
pub names-below : (lowest slices f i : ℕ) → f < lowest → names_slice lowest slices f i ≡ false
names-below lowest slices f i below = grind (arith, nat_tests)

-- no frame past those in flight is named
pub names-past : (lowest slices f i : ℕ) → lowest + FLIGHT ≤ f → names_slice lowest slices f i ≡ false
names-past lowest slices f i past = grind (arith, nat_tests)

-- no slice past the last is named
pub names-many : (lowest slices f i : ℕ) → slices ≤ i → names_slice lowest slices f i ≡ false
names-many lowest slices f i many = grind (arith, nat_tests)

-- slices of frames in flight that have one place are one
pub place-one : (lowest f g i j : ℕ) → lowest ≤ f → f < lowest + FLIGHT → lowest ≤ g → g < lowest + FLIGHT → place_of f i ≡ place_of g j → (f ≡ g) × (i ≡ j)
place-one lowest f g i j f_low f_high g_low g_high same = (omega arith, omega arith)

-- a place's rest tells the frame
pub place-rest : (f i : ℕ) → place_of f i % FLIGHT ≡ f % FLIGHT
place-rest f i = omega arith

-- the test for one slice of one frame
pub is-it : (f frame i index : ℕ) → f ≡ frame → i ≡ index → (f == frame && i == index) ≡ true
is-it f frame i index same_frame same_index = grind (arith, nat_tests)

-- the test for another slice, or one of another frame
pub is-other : (f frame i index : ℕ) → (f ≢ frame) ⊎ (i ≢ index) → (f == frame && i == index) ≡ false
is-other f frame i index other = grind (arith, nat_tests)

-- two numbers are equal or not
two-numbers : (a b : ℕ) → (a ≡ b) ⊎ (a ≢ b)
two-numbers a b = grind arith

-- one number is below another or not
two-orders : (a b : ℕ) → (a < b) ⊎ (b ≤ a)
two-orders a b = grind arith

-- a slice's flag that is set is one slice more
pub set-shows : (lowest slices frame index : ℕ) (marks : List Bool) → names_slice lowest slices frame index ≡ true → place_of frame index < length marks
    → slices_in lowest (record { slices = slices; marks = slice_set marks (place_of frame index) true })
    ≡ with_slice frame index (slices_in lowest (record { slices = slices; marks = marks }))
set-shows lowest slices frame index marks named fits = fun_ext λ f. fun_ext λ i. at f i
  where
    facts : (lowest ≤ frame) × (frame < lowest + FLIGHT) × (index < slices)
    facts = names-facts lowest slices frame index named

    new : List Bool
    new = slice_set marks (place_of frame index) true

    in_new : Slices
    in_new = slices_in lowest (record { slices = slices; marks = new })

    in_old : Slices
    in_old = slices_in lowest (record { slices = slices; marks = marks })

    this : (f i : ℕ) → f ≡ frame → i ≡ index → in_new f i ≡ with_slice frame index in_old f i
    this f i same_frame same_index =
        rw (is-it f frame i index same_frame same_index, same_frame, same_index, named)
        (get_or-set_same marks (place_of frame index) true false fits)

    beside : (f i : ℕ) → lowest ≤ f → f < lowest + FLIGHT → (f ≢ frame) ⊎ (i ≢ index) → place_of f i ≢ place_of frame index
    beside f i low high apart same =
        let one = place-one lowest frame f index i facts.0 facts.1 low high (sym same) in
        elim apart [ inl frames ↦ frames (sym one.0) | inr slices ↦ slices (sym one.1) ]

    other : (f i : ℕ) → (f ≢ frame) ⊎ (i ≢ index) → in_new f i ≡ with_slice frame index in_old f i
    other f i apart = rw (is-other f frame i index apart) (elim (cases_Bool (names_slice lowest slices f i)) [
      | inl is_named ↦
          let is = names-facts lowest slices f i is_named in
          rw is_named (get_or-set_other marks (place_of frame index) (place_of f i) true false (beside f i is.0 is.1 apart))
      | inr unnamed ↦ rw unnamed refl
    ])

    at : (f i : ℕ) → in_new f i ≡ with_slice frame index in_old f i
    at f i = elim (two-numbers f frame) [
      | inl same_frame ↦ elim (two-numbers i index) [ inl same_index ↦ this f i same_frame same_index | inr apart ↦ other f i (inr apart) ]
      | inr apart ↦ other f i (inl apart)
    ]

-- where the lowest frame's flags are cleared, the next frame is the lowest, and no slice of the first one is in
pub forget-shows : (lowest slices : ℕ) (old new : List Bool) → Cleared lowest slices old new
    → slices_in (lowest + 1) (record { slices = slices; marks = new }) ≡ without_frame lowest (slices_in lowest (record { slices = slices; marks = old }))
forget-shows lowest slices old new cleared = fun_ext λ f. fun_ext λ i. at f i
  where
    in_new : Slices
    in_new = slices_in (lowest + 1) (record { slices = slices; marks = new })

    in_old : Slices
    in_old = slices_in lowest (record { slices = slices; marks = old })

    first : (f i : ℕ) → f ≡ lowest → in_new f i ≡ without_frame lowest in_old f i
    first f i is = rw (names-below (lowest + 1) slices f i (omega arith), eq-eqb f lowest is) refl

    last : (f i : ℕ) → f ≡ lowest + FLIGHT → i < slices → in_new f i ≡ in_old f i
    last f i is few =
        let same : place_of f i ≡ place_of lowest i = omega arith in
        rw (names-yes (lowest + 1) slices f i (omega arith) (omega arith) few, names-past lowest slices f i (omega arith), same) (cleared.gone i few)

    middle : (f i : ℕ) → lowest < f → f < lowest + FLIGHT → i < slices → in_new f i ≡ in_old f i
    middle f i low high few =
        rw (names-yes (lowest + 1) slices f i (omega arith) (omega arith) few, names-yes lowest slices f i (omega arith) high few)
        (cleared.others (place_of f i) (λ same. absurd (omega (arith, same, place-rest f i))))

    outside : (f i : ℕ) → names_slice (lowest + 1) slices f i ≡ false → names_slice lowest slices f i ≡ false → in_new f i ≡ in_old f i
    outside f i no_new no_old = rw (no_new, no_old) refl

    inside : (f i : ℕ) → f ≢ lowest → i < slices → in_new f i ≡ in_old f i
    inside f i apart few = elim (two-orders f lowest) [
      | inl low ↦ outside f i (names-below (lowest + 1) slices f i (omega arith)) (names-below lowest slices f i low)
      | inr high ↦ elim (two-orders f (lowest + FLIGHT)) [
        | inl near ↦ middle f i (omega arith) near few
        | inr far ↦ elim (two-numbers f (lowest + FLIGHT)) [
          | inl is ↦ last f i is few
          | inr more ↦ outside f i (names-past (lowest + 1) slices f i (omega arith)) (names-past lowest slices f i far)
        ]
      ]
    ]

    other : (f i : ℕ) → f ≢ lowest → in_new f i ≡ in_old f i
    other f i apart = elim (two-orders i slices) [ inl few ↦ inside f i apart few | inr many ↦ outside f i (names-many (lowest + 1) slices f i many) (names-many lowest slices f i many) ]

    at : (f i : ℕ) → in_new f i ≡ without_frame lowest in_old f i
    at f i = elim (two-numbers f lowest) [ inl is ↦ first f i is | inr apart ↦ rw (ne_eqb f lowest apart) (other f i apart) ]

-- where every slice of the lowest frame has its flag, each is in
pub whole-shows : (lowest slices : ℕ) (marks : List Bool) → AllSet marks slices lowest → (index : ℕ) → index < slices
    → slices_in lowest (record { slices = slices; marks = marks }) lowest index ≡ true
whole-shows lowest slices marks whole index few = rw (names-yes lowest slices lowest index (omega arith) (omega arith) few) (whole index few)

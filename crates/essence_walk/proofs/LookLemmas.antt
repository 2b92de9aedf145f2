-- What a look at some of the bytes behind units shows of the lead and the unit that stand there.
use Rattle.std.proofs.Common.{◌≡◌, ◌≢◌, ℕ, ◌+◌, ◌-◌, ◌^◌, ◌<◌, ◌≤◌, inl, inr, ◌⊎◌, List, [], ◌∷◌}
use Rattle.std.proofs.Common.{◌++◌, length, take, drop, Some, sym, ap, subst, ◌∙◌, arith, append_assoc}
use Rattle.std.proofs.lemmas.List.{length-append, length-drop, take_at, drop_at, take-take, take-append-le, take-append-drop}
use Rattle.std.proofs.lemmas.List.Elements.{All-push}
use Rattle.std.proofs.Math.Seq.{take-append-add}
use Rattle.std.proofs.lemmas.Bool.{cases_lt}
use Rattle.rec_bytes.specs.Configuration.{Fields}
use Rattle.take_layout.specs.Takes.{AreUnits}
use Rattle.take_layout.specs.Walks.{FindsWhole, FindsPart, FindsUnit, Stands}
use Rattle.take_layout.specs.declared.layout.TakeLayout.{Ghosts}
use Rattle.take_layout.specs.declared.place.Place.{Place}
use Rattle.take_layout.specs.declared.walk.Walk.{Walk}
use Rattle.take_layout.specs.declared.walk.Walk.TheVariants.{Lead, More, Broken}
use Rattle.essence_walk.specs.inner.Looks.{Begins, FindsNext, HoldsLead, NoNext}

-- where a lead is found and stands there, so does a unit of its length, if there are as many bytes
abbrev pub FindsStanding : {L : Type 0} → Ghosts L → Fields → Type 0
FindsStanding layout cfg = (units : List (List ℕ)) (bytes : List ℕ) (have from n : ℕ)
    → FindsUnit (layout.is_unit cfg) (take have bytes) from (Lead (from + length (layout.lead cfg units n)) n)
    → take (length (layout.lead cfg units n)) bytes ≡ layout.lead cfg units n → length (layout.lead cfg units n) + n ≤ length bytes
    → Stands (layout.is_unit cfg) (layout.lead cfg units) bytes n

-- where a lead and its unit stand behind units, the file is that of one more
abbrev pub GoesOn : {L : Type 0} → Ghosts L → Fields → Type 0
GoesOn layout cfg = (units : List (List ℕ)) (unit rest : List ℕ)
    → layout.growing cfg units ++ (layout.lead cfg units (length unit) ++ (unit ++ rest)) ≡ layout.growing cfg (units ++ unit ∷ []) ++ rest

-- a look finds the lead, or asks for no more than the lead and its unit
abbrev pub Looked : ℕ → ℕ → ℕ → Walk → Type 0
Looked at lead_len unit_len walk = (walk ≡ Lead (at + lead_len) unit_len) ⊎ ((more : ℕ) × (walk ≡ More more) × (more ≤ lead_len + unit_len))

-- where a lead and its unit stand there
looked : (is_unit : List ℕ → Type 0) (lead : List (List ℕ) → ℕ → List ℕ) (most : ℕ) (units : List (List ℕ)) (unit rest : List ℕ)
    (have at : ℕ) (walk : Walk) → FindsWhole is_unit lead most (take have (lead units (length unit) ++ (unit ++ rest))) at walk
    → FindsPart is_unit lead most (take have (lead units (length unit) ++ (unit ++ rest))) at walk
    → AreUnits is_unit most (units ++ unit ∷ []) → at + length (lead units (length unit)) < 2 ^ 64
    → Looked at (length (lead units (length unit))) (length unit) walk
looked is_unit lead most units unit rest have at walk whole part are small =
    let piece : List ℕ = lead units (length unit) in
    let first : List ℕ = piece ++ unit in
    let joined : piece ++ (unit ++ rest) ≡ first ++ rest = sym (append_assoc piece unit rest) in
    elim (cases_lt have (length first)) [
      | inl less ↦
          let front : take have (piece ++ (unit ++ rest)) ≡ take have first =
          ap (λ (xs : List ℕ). take have xs) joined ∙ take-append-le have first rest (omega (arith, less)) in
          let some : drop have first ≢ [] = λ none. absurd (omega (arith, less, length-drop have first, ap length none)) in
          let all : take have (piece ++ (unit ++ rest)) ++ drop have first ≡ first =
          ap (λ (xs : List ℕ). xs ++ drop have first) front ∙ take-append-drop have first in
          elim (part units unit (drop have first) are some all small) [
            | inl is ↦ inl is
            | inr (more, is, needs) ↦ inr (more, is, needs.within)
          ]
      | inr full ↦
          let count : have ≡ length first + (have - length first) = omega (arith, full) in
          let front : take have (piece ++ (unit ++ rest)) ≡ first ++ take (have - length first) rest =
          ap (λ (xs : List ℕ). take have xs) joined ∙ ap (λ (j : ℕ). take j (first ++ rest)) count ∙ take-append-add first rest (have - length first) in
          inl (whole units unit (take (have - length first) rest) are front small)
    ]

module _ {L : Type 0} (layout : Ghosts L) (cfg : Fields) (bytes held : List ℕ) (have at lead_len : ℕ) (walk : Walk) where
  -- the same of the bytes held, where they begin as those that stand there
  pub looks : take have held ≡ take have bytes
      → FindsWhole (layout.is_unit cfg) (layout.lead cfg) cfg.max_frames (take have held) at walk
      → FindsPart (layout.is_unit cfg) (layout.lead cfg) cfg.max_frames (take have held) at walk
      → at + lead_len < 2 ^ 64 → (units : List (List ℕ)) (unit rest : List ℕ) → lead_len ≡ length (layout.lead cfg units (length unit))
      → AreUnits (layout.is_unit cfg) cfg.max_frames (units ++ unit ∷ []) → bytes ≡ layout.lead cfg units (length unit) ++ (unit ++ rest)
      → Looked at lead_len (length unit) walk
  looks same whole part small units unit rest long are is =
      let held_is : take have held ≡ take have (layout.lead cfg units (length unit) ++ (unit ++ rest)) =
      same ∙ ap (λ (xs : List ℕ). take have xs) is in
      subst (λ (n : ℕ). Looked at n (length unit) walk) (sym long)
      (looked (layout.is_unit cfg) (layout.lead cfg) cfg.max_frames units unit rest have at walk
      (subst (λ (xs : List ℕ). FindsWhole (layout.is_unit cfg) (layout.lead cfg) cfg.max_frames xs at walk) held_is whole)
      (subst (λ (xs : List ℕ). FindsPart (layout.is_unit cfg) (layout.lead cfg) cfg.max_frames xs at walk) held_is part)
      are (omega (arith, small, long)))

module _ (at lead_len n : ℕ) {walk : Walk} where
  -- a lead that is found is that one
  pub found_is : {unit_at unit_len : ℕ} → walk ≡ Lead unit_at unit_len → Looked at lead_len n walk → (unit_at ≡ at + lead_len) × (unit_len ≡ n)
  found_is is (inl finds) = (cc, cc)
  found_is is (inr (more, needs, within)) = absurd cc

  -- no more is asked for than the lead and its unit have
  pub more_is : {need : ℕ} → walk ≡ More need → Looked at lead_len n walk → need ≤ lead_len + n
  more_is is (inl finds) = absurd cc
  more_is {need} is (inr (more, needs, within)) = let same : need ≡ more = cc in omega (arith, same, within)

  -- and no lead is called broken
  pub not_broken : {place : ℕ} → walk ≡ Broken place → Looked at lead_len n walk → ⊥
  not_broken is (inl finds) = absurd cc
  not_broken is (inr (more, needs, within)) = absurd cc

-- the buffer begins with the bytes that stand there, as far as the lead goes
pub lead_held : (is_unit : List ℕ → Type 0) (bytes : List ℕ) (at lead_len : ℕ) (held : List ℕ) (unit_len : ℕ)
    → HoldsLead is_unit bytes at lead_len held unit_len → take lead_len held ≡ take lead_len bytes
lead_held is_unit bytes at lead_len held unit_len h =
    sym (take-take lead_len h.have held h.whole) ∙ (ap (λ (xs : List ℕ). take lead_len xs) h.same ∙ take-take lead_len h.have bytes h.whole)

module _ {L : Type 0} (layout : Ghosts L) (cfg : Fields) where
  -- where a unit's lead was found, and other bytes stand there than that lead, there is no unit
  pub next_none : (bytes held due : List ℕ) (at lead_len left unit_len : ℕ) (units : List (List ℕ))
      → FindsNext layout cfg bytes lead_len left (Some unit_len) → HoldsLead (layout.is_unit cfg) bytes at lead_len held unit_len
      → ((n : ℕ) → lead_len ≡ length (layout.lead cfg units n)) → due ≡ layout.lead cfg units unit_len
      → take (length due) held ≢ due → NoNext layout cfg units bytes left
  next_none bytes held due at lead_len left unit_len units finds holds long due_is other = λ unit rest are is room.
      let piece : List ℕ = layout.lead cfg units (length unit) in
      let long_is = long (length unit) in
      let found : Some unit_len ≡ Some (length unit) = finds units unit rest long_is are is (omega (arith, long_is, room)) in
      let same : unit_len ≡ length unit = cc in
      let due_piece : due ≡ piece = due_is ∙ ap (λ (n : ℕ). layout.lead cfg units n) same in
      let count : length due ≡ lead_len = ap (length {A = ℕ}) due_piece ∙ sym long_is in
      other
      (ap (λ (n : ℕ). take n held) count ∙ (lead_held (layout.is_unit cfg) bytes at lead_len held unit_len holds
      ∙ (ap (λ (xs : List ℕ). take lead_len xs) is ∙ (take_at piece (unit ++ rest) lead_len (sym long_is) ∙ sym due_piece))))

  -- where that lead stands there, so does the unit
  pub next_stands : FindsStanding layout cfg → (units : List (List ℕ)) (bytes held due : List ℕ) (at lead_len unit_len : ℕ)
      → HoldsLead (layout.is_unit cfg) bytes at lead_len held unit_len → lead_len ≡ length (layout.lead cfg units unit_len)
      → due ≡ layout.lead cfg units unit_len → take (length due) held ≡ due → lead_len + unit_len ≤ length bytes
      → Stands (layout.is_unit cfg) (layout.lead cfg units) bytes unit_len
  next_stands standing units bytes held due at lead_len unit_len holds long due_is same room =
      let front : take lead_len bytes ≡ layout.lead cfg units unit_len =
      sym (lead_held (layout.is_unit cfg) bytes at lead_len held unit_len holds)
      ∙ (ap (λ (n : ℕ). take n held) (long ∙ sym (ap (length {A = ℕ}) due_is)) ∙ (same ∙ due_is)) in
      let finds : FindsUnit (layout.is_unit cfg) (take holds.have bytes) at (Lead (at + lead_len) unit_len) =
      subst (λ (xs : List ℕ). FindsUnit (layout.is_unit cfg) xs at (Lead (at + lead_len) unit_len)) holds.same holds.finds in
      standing units bytes holds.have at unit_len
      (subst (λ (n : ℕ). FindsUnit (layout.is_unit cfg) (take holds.have bytes) at (Lead (at + n) unit_len)) long finds)
      (subst (λ (n : ℕ). take n bytes ≡ layout.lead cfg units unit_len) long front) (omega (arith, long, room))

  -- and the essence begins with the file of one unit more
  pub next_begins : GoesOn layout cfg → (essence : List ℕ) (at unit_len : ℕ) (places more : List Place) (b : Begins layout cfg essence places)
      → at ≡ length (layout.growing cfg b.units) → Stands (layout.is_unit cfg) (layout.lead cfg b.units) (drop at essence) unit_len
      → length b.units < cfg.max_frames
      → ((unit : List ℕ) → unit_len ≡ length unit → more ≡ layout.places_of cfg (b.units ++ unit ∷ []))
      → Begins layout cfg essence more
  next_begins goes_on essence at unit_len places more b at_is there few placed =
      let head : List ℕ = layout.growing cfg b.units in
      let behind : ℕ → List ℕ = λ n. layout.lead cfg b.units n ++ (there.unit ++ there.rest) in
      let rest_is : b.rest ≡ drop at essence =
      sym (ap (λ (xs : List ℕ). drop at xs) b.begins ∙ drop_at head b.rest at (sym at_is)) in
      let bytes_are : b.rest ≡ behind (length there.unit) = rest_is ∙ (there.bytes_are ∙ ap behind (sym there.long)) in
      record {
        units = b.units ++ there.unit ∷ [];
        are_units = record {
          each = All-push (layout.is_unit cfg) b.units there.unit b.are_units.each there.is;
          few = omega (arith, few, length-append b.units (there.unit ∷ []));
        };
        lie = placed there.unit (sym there.long);
        rest = there.rest;
        begins = b.begins ∙ (ap (λ (xs : List ℕ). head ++ xs) bytes_are ∙ goes_on b.units there.unit there.rest);
      }

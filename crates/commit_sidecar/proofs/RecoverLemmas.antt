-- Areas are recovered to one list of units.
use Rattle.std.proofs.Common.{◌≡◌, ℕ, Bool, true, false, List, ◌++◌, length, refl, sym, ap, subst, ◌∙◌, append_assoc}
use Rattle.rec_bytes.specs.Configuration.{Fields}
use Rattle.rec_bytes.specs.Ranges.{IsInRange}
use Rattle.take_core.specs.declared.mark.Mark.{Mark}
use Rattle.take_disk.specs.Held.{Areas}
use Rattle.take_layout.specs.Takes.{AreUnits}
use Rattle.take_layout.specs.declared.layout.TakeLayout.{Ghosts}
use Rattle.commit_sidecar.specs.Recovers.{Recovers, file_of, mark_of}
use Rattle.commit_sidecar.proofs.LawLemmas.{says_one}
use Rattle.commit_sidecar.proofs.RangeLemmas.{ranged}

-- a closed file is the growing one, and then the tail
abbrev pub Closes : {L : Type 0} → Ghosts L → Type 0
Closes layout = (cfg : Fields) (units : List (List ℕ)) → layout.closed cfg units ≡ layout.growing cfg units ++ layout.tail cfg units

-- a file begins with the growing file of one list of so many units
abbrev pub AreOne : {L : Type 0} → Ghosts L → Type 0
AreOne layout = (cfg : Fields) (units others : List (List ℕ)) (rest other_rest : List ℕ) → IsInRange cfg
    → AreUnits (layout.is_unit cfg) cfg.max_frames units → AreUnits (layout.is_unit cfg) cfg.max_frames others
    → length units ≡ length others → layout.growing cfg units ++ rest ≡ layout.growing cfg others ++ other_rest → units ≡ others

-- either file of units begins with the growing one
begins_growing : {L : Type 0} (layout : Ghosts L) → Closes layout → (closed : Bool) (cfg : Fields) (units : List (List ℕ)) (rest : List ℕ)
    → (more : List ℕ) × (file_of layout closed cfg units ++ rest ≡ layout.growing cfg units ++ more)
begins_growing layout closes false cfg units rest = (rest, refl)
begins_growing layout closes true cfg units rest = (
  layout.tail cfg units ++ rest,
  ap (λ (xs : List ℕ). xs ++ rest) (closes cfg units) ∙ append_assoc (layout.growing cfg units) (layout.tail cfg units) rest,
)

-- for one configuration
same_units : {L : Type 0} (layout : Ghosts L) → Closes layout → AreOne layout → (areas : Areas) (cfg : Fields) (units others : List (List ℕ))
    → Recovers layout cfg units areas → Recovers layout cfg others areas → units ≡ others
same_units layout closes one areas cfg units others r s =
    let marks : r.marks ≡ s.marks = (says_one areas.commits cfg cfg r.marks s.marks r.says s.says).1 in
    let mine = begins_growing layout closes (mark_of layout cfg r.marks).closed cfg units r.rest in
    let theirs = begins_growing layout closes (mark_of layout cfg s.marks).closed cfg others s.rest in
    let counts : length units ≡ length others =
    sym r.count ∙ ap (λ (ms : List Mark). (mark_of layout cfg ms).count) marks ∙ s.count in
    one cfg units others mine.0 theirs.0 (ranged cfg r.says.is_config) r.are_units s.are_units counts (sym mine.1 ∙ sym r.begins ∙ s.begins ∙ theirs.1)

-- and for any
pub recovers_one : {L : Type 0} (layout : Ghosts L) → Closes layout → AreOne layout → (areas : Areas) (cfg other : Fields) (units others : List (List ℕ))
    → Recovers layout cfg units areas → Recovers layout other others areas → (cfg ≡ other) × (units ≡ others)
recovers_one layout closes one areas cfg other units others r s =
    let same : cfg ≡ other = (says_one areas.commits cfg other r.marks s.marks r.says s.says).0 in
    (same, same_units layout closes one areas cfg units others r (subst (λ (k : Fields). Recovers layout k others areas) (sym same) s))

-- Laws of runs of samples that are put at a place: proved here, for proofs to cite.
use Rattle.std.proofs.Common.{◌≡◌, ℕ, ◌+◌, ◌-◌, ◌<◌, ◌≤◌, List, ◌++◌, length, take, drop, sym, ap, ◌∙◌, arith, get_or, inl, inr, subst}
use Rattle.std.proofs.lemmas.Bool.{cases_lt}
use Rattle.std.proofs.lemmas.List.{length-append, length-take-le, get_or_append_left, get_or-append_right, get_or-take, get_or-drop}
use Rattle.rec_bytes.specs.Places.{with_bytes}

-- before the run nothing changes
pub run_before : (old run : List ℕ) (at k : ℕ) → at + length run ≤ length old → k < at → get_or (with_bytes old at run) k 0 ≡ get_or old k 0
run_before old run at k room h =
    let front = length-take-le at old (omega arith) in
    let both = length-append (take at old) run in
    get_or_append_left (take at old ++ run) (drop (at + length run) old) 0 k (omega arith)
    ∙ (get_or_append_left (take at old) run 0 k (omega arith) ∙ get_or-take at old k 0 h)

-- the run stands at its place
pub run_within : (old run : List ℕ) (at k : ℕ) → at + length run ≤ length old → at ≤ k → k < at + length run → get_or (with_bytes old at run) k 0 ≡ get_or run (k - at) 0
run_within old run at k room from to =
    let front = length-take-le at old (omega arith) in
    let both = length-append (take at old) run in
    get_or_append_left (take at old ++ run) (drop (at + length run) old) 0 k (omega arith)
    ∙ get_or-append_right (take at old) run at k 0 front from

-- behind the run nothing changes
pub run_behind : (old run : List ℕ) (at k : ℕ) → at + length run ≤ length old → at + length run ≤ k → get_or (with_bytes old at run) k 0 ≡ get_or old k 0
run_behind old run at k room h =
    let front = length-take-le at old (omega arith) in
    let both = length-append (take at old) run in
    get_or-append_right (take at old ++ run) (drop (at + length run) old) (at + length run) k 0 (omega arith) h
    ∙ (get_or-drop (at + length run) old (k - (at + length run)) 0 ∙ ap (λ (i : ℕ). get_or old i 0) (omega arith))

-- what all samples keep, they keep with the run
pub run_is_small : (old run : List ℕ) (at bound : ℕ) → at + length run ≤ length old → ((k : ℕ) → get_or old k 0 < bound) → ((k : ℕ) → get_or run k 0 < bound)
    → (k : ℕ) → get_or (with_bytes old at run) k 0 < bound
run_is_small old run at bound room small_old small_run k =
    elim (cases_lt k at) [
      | inl before ↦ subst (λ (x : ℕ). x < bound) (sym (run_before old run at k room before)) (small_old k)
      | inr from ↦ elim (cases_lt k (at + length run)) [
        | inl to ↦ subst (λ (x : ℕ). x < bound) (sym (run_within old run at k room from to)) (small_run (k - at))
        | inr behind ↦ subst (λ (x : ℕ). x < bound) (sym (run_behind old run at k room behind)) (small_old k)
      ]
    ]

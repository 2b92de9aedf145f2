-- What a history shows with one entry more.
use Rattle.std.proofs.Common.{◌≡◌, ℕ, ◌+◌, ◌≤◌, List, [], ◌∷◌, ◌++◌, length, Bool, cond, Option, Some, None, unwrap_or, refl, sym, ap, ◌∙◌, subst, arith, take_all}
use Rattle.std.proofs.lemmas.List.{length-append}
use Rattle.std.proofs.lemmas.List.Sums.{sum_by-append}
use Rattle.take_core.specs.History.{is_published, acked_by, ended_by, last_said, latest, published_in, acked_in, phase_in}
use Rattle.take_core.specs.declared.entry.Entry.{Entry}
use Rattle.take_core.specs.declared.entry.Entry.TheVariants as entry
use Rattle.take_core.specs.declared.snapshot.Phase.{Phase}
use Rattle.take_core.specs.declared.snapshot.Phase.TheVariants as phase
use Rattle.take_core.specs.declared.snapshot.Snapshot.{Snapshot}
use Rattle.take_state.specs.Seen.{is_commit, commits_in, lengths_in, faults_in}

said-append : {A : Type 0} (said : Entry → Option A) (first : A) (xs ys : List Entry)
    → last_said said first (xs ++ ys) ≡ last_said said (last_said said first xs) ys
said-append said first [] ys = refl
said-append said first (x ∷ xs) ys = said-append said (unwrap_or (said x) first) xs ys

-- published frames
pub published-push : (h : List Entry) (e : Entry) → published_in (h ++ e ∷ []) ≡ published_in h + (0 + cond {A = ℕ} (is_published e) 1 0)
published-push h e = sum_by-append (λ (x : Entry). cond {A = ℕ} (is_published x) 1 0) h (e ∷ [])

published-first : (e : Entry) (h : List Entry) → published_in (e ∷ h) ≡ (0 + cond {A = ℕ} (is_published e) 1 0) + published_in h
published-first e h = sum_by-append (λ (x : Entry). cond {A = ℕ} (is_published x) 1 0) (e ∷ []) h

-- durable frames
pub acked-push : (h : List Entry) (e : Entry) → acked_in (h ++ e ∷ []) ≡ unwrap_or (acked_by e) (acked_in h)
acked-push h e = said-append acked_by 0 h (e ∷ [])

-- the phase
pub phase-push : (h : List Entry) (e : Entry) → phase_in (h ++ e ∷ []) ≡ unwrap_or (ended_by e) (phase_in h)
phase-push h e = said-append ended_by phase.Growing h (e ∷ [])

-- commits that are done
pub commits-push : (h : List Entry) (e : Entry) → commits_in (h ++ e ∷ []) ≡ commits_in h + (0 + cond {A = ℕ} (is_commit e) 1 0)
commits-push h e = sum_by-append (λ (x : Entry). cond {A = ℕ} (is_commit x) 1 0) h (e ∷ [])

commits-first : (e : Entry) (h : List Entry) → commits_in (e ∷ h) ≡ (0 + cond {A = ℕ} (is_commit e) 1 0) + commits_in h
commits-first e h = sum_by-append (λ (x : Entry). cond {A = ℕ} (is_commit x) 1 0) (e ∷ []) h

-- the lengths of published frames
pub lengths-append : (h more : List Entry) → lengths_in (h ++ more) ≡ lengths_in h ++ lengths_in more
lengths-append [] more = refl
lengths-append (entry.Published len ∷ h) more = ap (λ (xs : List ℕ). len ∷ xs) (lengths-append h more)
lengths-append (entry.Acked count ∷ h) more = lengths-append h more
lengths-append (entry.Closed ∷ h) more = lengths-append h more
lengths-append (entry.Stopped faults ∷ h) more = lengths-append h more

-- a take that goes on was not stopped, nor is one that is whole
not-stopped : (h : List Entry) (first : Phase) → last_said ended_by first h ≡ phase.Growing → faults_in h ≡ None
not-stopped [] first grows = refl
not-stopped (entry.Published len ∷ h) first grows = not-stopped h first grows
not-stopped (entry.Acked count ∷ h) first grows = not-stopped h first grows
not-stopped (entry.Closed ∷ h) first grows = not-stopped h phase.Closed grows
not-stopped (entry.Stopped faults ∷ h) first grows = absurd (ended-stays h phase.Stopped (λ e. cc) grows)
  where
    ended-stays : (h : List Entry) (first : Phase) → (first ≡ phase.Growing → ⊥) → last_said ended_by first h ≡ phase.Growing → ⊥
    ended-stays [] first other = other
    ended-stays (entry.Published len ∷ h) first other = ended-stays h first other
    ended-stays (entry.Acked count ∷ h) first other = ended-stays h first other
    ended-stays (entry.Closed ∷ h) first other = ended-stays h phase.Closed (λ e. cc)
    ended-stays (entry.Stopped faults ∷ h) first other = ended-stays h phase.Stopped (λ e. cc)

pub no-faults : (h : List Entry) → phase_in h ≡ phase.Growing → faults_in h ≡ None
no-faults h grows = not-stopped h phase.Growing grows

-- the count of faults of the entry that stops it
pub faults-push : (h : List Entry) (e : Entry) → faults_in h ≡ None → faults_in (h ++ e ∷ []) ≡ faults_in (e ∷ [])
faults-push [] e none = refl
faults-push (entry.Published len ∷ h) e none = faults-push h e none
faults-push (entry.Acked count ∷ h) e none = faults-push h e none
faults-push (entry.Closed ∷ h) e none = faults-push h e none
faults-push (entry.Stopped faults ∷ h) e none = cc

-- no more commits are done than there are entries
pub commits-few : (h : List Entry) → commits_in h ≤ length h
commits-few [] = omega arith
commits-few (entry.Published len ∷ h) = omega (arith, commits-few h, commits-first (entry.Published len) h)
commits-few (entry.Acked count ∷ h) = omega (arith, commits-few h, commits-first (entry.Acked count) h)
commits-few (entry.Closed ∷ h) = omega (arith, commits-few h, commits-first entry.Closed h)
commits-few (entry.Stopped faults ∷ h) = omega (arith, commits-few h, commits-first (entry.Stopped faults) h)

-- a frame more has a length more
pub lengths-many : (h : List Entry) → length (lengths_in h) ≡ published_in h
lengths-many [] = refl
lengths-many (entry.Published len ∷ h) = omega (arith, lengths-many h, published-first (entry.Published len) h)
lengths-many (entry.Acked count ∷ h) = omega (arith, lengths-many h, published-first (entry.Acked count) h)
lengths-many (entry.Closed ∷ h) = omega (arith, lengths-many h, published-first entry.Closed h)
lengths-many (entry.Stopped faults ∷ h) = omega (arith, lengths-many h, published-first (entry.Stopped faults) h)

-- the count of published frames that a snapshot shows
pub latest-published : (h : List Entry) (seen : Snapshot) → seen ≡ latest h → seen.published ≡ published_in h
latest-published h seen is = ap (λ (s : Snapshot). s.published) is ∙ ap (λ (xs : List Entry). published_in xs) (take_all (length h) h (omega arith))

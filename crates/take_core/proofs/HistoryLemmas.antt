-- Lemmas on histories: one entry more, and what the first entries of a longer history show.
use Rattle.std.proofs.Common.{◌≡◌, ◌≢◌, ℕ, zero, suc, ◌+◌, ◌-◌, ◌<◌, ◌≤◌, List, [], ◌∷◌, ◌++◌, length, take, get_or, ◌⊎◌, inl, inr, Option, Some, None, unwrap_or, IsSome, refl, sym, ap, ◌∙◌, subst, arith, cond}
use Rattle.std.specs.Prelude.{slice_get}
use Rattle.std.proofs.Math.Seq.{take-length}
use Rattle.std.proofs.lemmas.List.{take-append-le, length-append}
use Rattle.std.proofs.lemmas.Option.{slice_get_within, slice_get-get_or, same_Some}
use Rattle.std.proofs.lemmas.List.Sums.{sum_by-append}
use Rattle.take_core.specs.History.{is_published, acked_by, ended_by, last_said, published_in, acked_in, phase_in, after, latest, IsNear, IsLegal}
use Rattle.take_core.specs.declared.entry.Entry.{Entry}
use Rattle.take_core.specs.declared.entry.Entry.TheVariants as entry
use Rattle.take_core.specs.declared.snapshot.Phase.{Phase}
use Rattle.take_core.specs.declared.snapshot.Phase.TheVariants as phase
use Rattle.take_core.specs.declared.snapshot.Snapshot.{Snapshot}

-- published frames of two parts of a history
pub published-append : (xs ys : List Entry) → published_in (xs ++ ys) ≡ published_in xs + published_in ys
published-append xs ys = sum_by-append (λ (e : Entry). cond (is_published e) 1 0) xs ys

-- what the second part says stands before what the first one says
pub last_said-append : {A : Type 0} (said : Entry → Option A) (first : A) (xs ys : List Entry)
    → last_said said first (xs ++ ys) ≡ last_said said (last_said said first xs) ys
last_said-append said first [] ys = refl
last_said-append said first (x ∷ xs) ys = last_said-append said (unwrap_or (said x) first) xs ys

-- one entry more: durable frames
pub acked-push : (h : List Entry) (e : Entry) → acked_in (h ++ e ∷ []) ≡ unwrap_or (acked_by e) (acked_in h)
acked-push h e = last_said-append acked_by 0 h (e ∷ [])

-- one entry more: the phase
pub phase-push : (h : List Entry) (e : Entry) → phase_in (h ++ e ∷ []) ≡ unwrap_or (ended_by e) (phase_in h)
phase-push h e = last_said-append ended_by phase.Growing h (e ∷ [])

-- the first entries of a longer history show what they showed
pub after-append : (h more : List Entry) (s : ℕ) → s ≤ length h → after (h ++ more) s ≡ after h s
after-append h more s fits = ap (λ (first : List Entry). show s first) (take-append-le s h more fits)
  where
    show : ℕ → List Entry → Snapshot
    show s first = record { step = s; published = published_in first; acked = acked_in first; phase = phase_in first }

-- an entry of the first part
pub slice_get-front : {A : Type 0} (xs ys : List A) (i : ℕ) → i < length xs → slice_get (xs ++ ys) i ≡ slice_get xs i
slice_get-front [] ys i fits = absurd (omega arith)
slice_get-front (x ∷ xs) ys zero fits = refl
slice_get-front (x ∷ xs) ys (suc i) fits = slice_get-front xs ys i (omega arith)

-- the entry behind the first part
pub slice_get-seam : {A : Type 0} (xs : List A) (y : A) (ys : List A) → slice_get (xs ++ y ∷ ys) (length xs) ≡ Some y
slice_get-seam [] y ys = refl
slice_get-seam (x ∷ xs) y ys = slice_get-seam xs y ys

-- the snapshot after all entries, one by one
pub latest-parts : (h : List Entry) → latest h ≡ record { step = length h; published = published_in h; acked = acked_in h; phase = phase_in h }
latest-parts h = ap (λ (first : List Entry). show first) (take-length h)
  where
    show : List Entry → Snapshot
    show first = record { step = length h; published = published_in first; acked = acked_in first; phase = phase_in first }

-- a take that was ended doesn't grow again
ended-stays : (h : List Entry) (first : Phase) → first ≢ phase.Growing → last_said ended_by first h ≢ phase.Growing
ended-stays [] first other = other
ended-stays (entry.Published len ∷ h) first other = ended-stays h first other
ended-stays (entry.Acked count ∷ h) first other = ended-stays h first other
ended-stays (entry.Closed ∷ h) first other = ended-stays h phase.Closed (λ e. cc)
ended-stays (entry.Stopped faults ∷ h) first other = ended-stays h phase.Stopped (λ e. cc)

-- the history of a growing take has no entry that ends it
pub growing-open : (h : List Entry) (first : Phase) (s : ℕ) (e : Entry) → last_said ended_by first h ≡ phase.Growing → slice_get h s ≡ Some e
    → ended_by e ≡ None
growing-open [] first s e grows at = absurd (cc)
growing-open (entry.Published len ∷ h) first zero e grows at = ap ended_by (same_Some _ _ (sym at))
growing-open (entry.Acked count ∷ h) first zero e grows at = ap ended_by (same_Some _ _ (sym at))
growing-open (entry.Closed ∷ h) first zero e grows at = absurd (ended-stays h phase.Closed (λ e. cc) grows)
growing-open (entry.Stopped faults ∷ h) first zero e grows at = absurd (ended-stays h phase.Stopped (λ e. cc) grows)
growing-open (x ∷ h) first (suc s) e grows at = growing-open h (unwrap_or (ended_by x) first) s e grows at

-- one entry more of the first ones
take-next : {A : Type 0} (xs : List A) (s : ℕ) (x : A) → slice_get xs s ≡ Some x → take (suc s) xs ≡ take s xs ++ x ∷ []
take-next [] s x at = cc
take-next (y ∷ xs) zero x at = ap (λ z. z ∷ []) (same_Some _ _ at)
take-next (y ∷ xs) (suc s) x at = ap (λ zs. y ∷ zs) (take-next xs s x at)

-- what holds at each place of the first part, and at the seam
place-split : (P : ℕ → Type 0) (n s : ℕ) → s < n + 1 → (s < n → P s) → P n → P s
place-split P n s fits before seam = elim (place-cases n s fits) [ inl less ↦ before less | inr same ↦ subst P (sym same) seam ]
  where
    place-cases : (n s : ℕ) → s < n + 1 → (s < n) ⊎ (s ≡ n)
    place-cases n s fits = grind arith

-- the numbers of a history are near
pub near-of : (lag max_frames : ℕ) (h : List Entry) → acked_in h ≤ published_in h → published_in h ≤ max_frames
    → published_in h - acked_in h ≤ lag → IsNear lag max_frames (latest h)
near-of lag max_frames h durable room near =
    subst (λ (seen : Snapshot). IsNear lag max_frames seen) (sym (latest-parts h)) (record { durable = durable; room = room; near = near })

-- the numbers of a legal history
pub near-now : (lag max_frames : ℕ) (h : List Entry) → IsLegal lag max_frames h
    → IsNear lag max_frames (record { step = length h; published = published_in h; acked = acked_in h; phase = phase_in h })
near-now lag max_frames h legal =
    subst (λ (seen : Snapshot). IsNear lag max_frames seen) (latest-parts h) (legal.near (length h) (omega arith))

-- a history without entries
pub legal-none : (lag max_frames : ℕ) → IsLegal lag max_frames []
legal-none lag max_frames = record {
  near = λ s fits.
      let none : 0 ≡ s = omega arith in
      subst (λ (n : ℕ). IsNear lag max_frames (after [] n)) none (near-of lag max_frames [] (omega arith) (omega arith) (omega arith));
  rising = λ s count at. cc;
  last = λ s end at ends. cc;
  whole = λ s at. cc;
}

-- of a history that goes on, this entry may come next, and leaves it so near
pub record MayFollow (lag max_frames : ℕ) (h : List Entry) (next : Entry) : Type 0 where
  pub near : IsNear lag max_frames (latest (h ++ next ∷ []))
  pub rising : (count : ℕ) → acked_by next ≡ Some count → acked_in h < count
  pub whole : next ≡ entry.Closed → acked_in h ≡ published_in h

-- a history and one entry more
pub legal-push : (lag max_frames : ℕ) (h : List Entry) (next : Entry) → IsLegal lag max_frames h → phase_in h ≡ phase.Growing
    → MayFollow lag max_frames h next → IsLegal lag max_frames (h ++ next ∷ [])
legal-push lag max_frames h next legal grows follows = record {
  near = λ s fits. place-split Near (length h + 1) s (omega (arith, long))
      (λ before _. subst (λ (seen : Snapshot). IsNear lag max_frames seen) (sym (early s (omega arith))) (legal.near s (omega arith)))
      (λ fits. subst (λ (n : ℕ). IsNear lag max_frames (after all n)) long follows.near) fits;
  rising = λ s count at. place-split Rises (length h) s (inside s _ at)
      (λ before count at. subst (λ (seen : Snapshot). seen.acked < count) (sym (early s (omega arith))) (legal.rising s count (front s before ∙ at)))
      (λ count at. subst (λ (seen : Snapshot). seen.acked < count) (sym shown) (follows.rising count (ap acked_by (is _ at)))) count at;
  last = λ s end at ends. place-split Ends (length h) s (inside s end at)
      (λ before end at ends. absurd (ends_not end (growing-open h phase.Growing s end grows (front s before ∙ at)) ends))
      (λ end at ends. sym long) end at ends;
  whole = λ s at. place-split Levels (length h) s (inside s _ at)
      (λ before at. subst (λ (seen : Snapshot). seen.acked ≡ seen.published) (sym (early s (omega arith))) (legal.whole s (front s before ∙ at)))
      (λ at. subst (λ (seen : Snapshot). seen.acked ≡ seen.published) (sym shown) (follows.whole (is _ at))) at;
}
  where
    all : List Entry
    all = h ++ next ∷ []

    Near : ℕ → Type 0
    Near s = s ≤ length all → IsNear lag max_frames (after all s)

    Rises : ℕ → Type 0
    Rises s = (count : ℕ) → slice_get all s ≡ Some (entry.Acked count) → (after all s).acked < count

    Ends : ℕ → Type 0
    Ends s = (end : Entry) → slice_get all s ≡ Some end → IsSome (ended_by end) → s + 1 ≡ length all

    Levels : ℕ → Type 0
    Levels s = slice_get all s ≡ Some entry.Closed → (after all s).acked ≡ (after all s).published

    long : length all ≡ length h + 1
    long = length-append h (next ∷ [])

    inside : (s : ℕ) (e : Entry) → slice_get all s ≡ Some e → s < length h + 1
    inside s e at = subst (λ (n : ℕ). s < n) long (slice_get_within all s e at)

    front : (s : ℕ) → s < length h → slice_get h s ≡ slice_get all s
    front s before = sym (slice_get-front h (next ∷ []) s before)

    is : (e : Entry) → slice_get all (length h) ≡ Some e → next ≡ e
    is e at = same_Some next e (sym (slice_get-seam h next []) ∙ at)

    early : (s : ℕ) → s ≤ length h → after all s ≡ after h s
    early s fits = after-append h (next ∷ []) s fits

    shown : after all (length h) ≡ record { step = length h; published = published_in h; acked = acked_in h; phase = phase_in h }
    shown = early (length h) (omega arith) ∙ latest-parts h

    ends_not : (end : Entry) → ended_by end ≡ None → IsSome (ended_by end) → ⊥
    ends_not end none some = let no : IsSome {T = Phase} None = subst (λ (o : Option Phase). IsSome o) none some in cc

-- a growing take has at most an entry for each published and each durable frame
pub growing-len : (lag max_frames : ℕ) (h : List Entry) → IsLegal lag max_frames h → phase_in h ≡ phase.Growing
    → length h ≤ published_in h + acked_in h
growing-len lag max_frames h legal grows =
    subst (λ (seen : Snapshot). length h ≤ seen.published + seen.acked) (latest-parts h) (upto (length h) (omega arith))
  where
    one_more : (s : ℕ) (e : Entry) → slice_get h s ≡ Some e → s ≤ (after h s).published + (after h s).acked
        → suc s ≤ (after h (suc s)).published + (after h (suc s)).acked
    one_more s (entry.Published len) at so =
        rw (take-next h s _ at, published-append (take s h) (entry.Published len ∷ []), acked-push (take s h) (entry.Published len)) (omega arith)
    one_more s (entry.Acked count) at so =
        let more = legal.rising s count at in
        rw (take-next h s _ at, published-append (take s h) (entry.Acked count ∷ []), acked-push (take s h) (entry.Acked count)) (omega arith)
    one_more s entry.Closed at so = let no = growing-open h phase.Growing s entry.Closed grows at in cc
    one_more s (entry.Stopped faults) at so = let no = growing-open h phase.Growing s (entry.Stopped faults) grows at in cc

    upto : (s : ℕ) → s ≤ length h → s ≤ (after h s).published + (after h s).acked
    upto zero fits = omega arith
    upto (suc s) fits =
        let at = slice_get-get_or h s entry.Closed (omega arith) in
        one_more s (get_or h s entry.Closed) at (upto s (omega arith))

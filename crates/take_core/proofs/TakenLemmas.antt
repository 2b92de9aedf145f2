-- The slices that are in, and those of published frames, were taken in the run.
use Rattle.std.proofs.Common.{◌≡◌, ℕ, ◌+◌, ◌<◌, List, [], ◌∷◌, ◌++◌, ◌⊎◌, inl, inr, Bool, true, false, cond, refl, sym, ap, ◌∙◌, subst, append_assoc, append-nil, arith}
use Rattle.std.specs.Prelude.{◌==◌, ◌&&◌}
use Rattle.std.proofs.lemmas.Bool.{cases_Bool}
use Rattle.std.proofs.lemmas.Bool.Decides.{nat_tests}
use Rattle.std.proofs.lemmas.List.Elements.{Contains-append_left, Contains-push}
use Rattle.take_core.specs.History.{published_in, is_published}
use Rattle.take_core.specs.Runs.{Turn, Runs, WasTaken}
use Rattle.take_core.specs.States.{CoreState, Slices, published, with_slice, with_entry}
use Rattle.take_core.specs.Steps.{Steps, Does, TakesSlice, Publishes, answer_of}
use Rattle.take_core.specs.declared.entry.Entry.{Entry}
use Rattle.take_core.specs.declared.entry.Entry.TheVariants as entry
use Rattle.take_core.specs.declared.event.Answer.{Answer}
use Rattle.take_core.specs.declared.event.Answer.TheVariants.{Done}
use Rattle.take_core.specs.declared.event.Event.{Event}
use Rattle.take_core.specs.declared.event.Event.TheVariants.{SliceIn, Publish, BeginCommit, NoteRecord, OpenGate, Acknowledge, WriteTail, Finish, Stop, Look}
use Rattle.take_core.proofs.HistoryLemmas.{published-append}

-- the slices that are in, and all slices of published frames, were taken
pub record AreTaken (turns : List Turn) (s : CoreState) : Type 0 where
  pub now : (frame index : ℕ) → s.is_in frame index ≡ true → WasTaken turns frame index
  pub before : (frame index : ℕ) → frame < published s → index < s.slices → WasTaken turns frame index

-- a state that has the slices and the published frames of another
same-taken : (turns : List Turn) (turn : Turn) (old new : CoreState) → new.is_in ≡ old.is_in → published new ≡ published old → new.slices ≡ old.slices
    → AreTaken turns old → AreTaken (turns ++ turn ∷ []) new
same-taken turns turn old new same frames slices taken = record {
  now = λ frame index is.
      Contains-append_left turns (turn ∷ []) _ (taken.now frame index (sym (ap (λ (s : Slices). s frame index) same) ∙ is));
  before = λ frame index less few.
      Contains-append_left turns (turn ∷ []) _ (taken.before frame index (omega arith) (omega arith));
}

-- a state that is one of the same slices and entries
by-effect : (turns : List Turn) (turn : Turn) (old made new : CoreState) → new ≡ made → made.is_in ≡ old.is_in → made.history ≡ old.history
    → made.slices ≡ old.slices → AreTaken turns old → AreTaken (turns ++ turn ∷ []) new
by-effect turns turn old made new is same history slices taken =
    same-taken turns turn old new (ap (λ (s : CoreState). s.is_in) is ∙ same)
    (ap (λ (s : CoreState). published s) is ∙ ap published_in history) (ap (λ (s : CoreState). s.slices) is ∙ slices) taken

-- a state that was made of another by an entry that publishes nothing
entry-taken : (turns : List Turn) (turn : Turn) (old base new : CoreState) (e : Entry) → is_published e ≡ false → new ≡ with_entry e base
    → base.is_in ≡ old.is_in → base.history ≡ old.history → base.slices ≡ old.slices → AreTaken turns old → AreTaken (turns ++ turn ∷ []) new
entry-taken turns turn old base new e none is same history slices taken =
    let more : published_in (base.history ++ e ∷ []) ≡ published_in base.history + (0 + cond {A = ℕ} (is_published e) 1 0) =
    published-append base.history (e ∷ []) in
    let nothing : cond {A = ℕ} (is_published e) 1 0 ≡ 0 = ap (λ (b : Bool). cond {A = ℕ} b 1 0) none in
    let frames : published_in (base.history ++ e ∷ []) ≡ published_in base.history = omega arith in
    same-taken turns turn old new (ap (λ (s : CoreState). s.is_in) is ∙ same)
    (ap (λ (s : CoreState). published s) is ∙ frames ∙ ap published_in history) (ap (λ (s : CoreState). s.slices) is ∙ slices) taken

-- what the test for one slice of one frame says
it-is : (f frame i index : ℕ) → (f == frame && i == index) ≡ true → (f ≡ frame) × (i ≡ index)
it-is f frame i index test = (grind (arith, nat_tests), grind (arith, nat_tests))

-- a slice that is taken
slice-taken : (turns : List Turn) (frame index : ℕ) (old new : CoreState) → TakesSlice frame index old new → AreTaken turns old
    → AreTaken (turns ++ record { event = SliceIn frame index; answer = Done } ∷ []) new
slice-taken turns frame index old new row taken =
    subst (λ (s : CoreState). AreTaken all s) (sym row.effect) (record {
      now = now;
      before = λ f i less few. Contains-append_left turns (turn ∷ []) _ (taken.before f i less few);
    })
  where
    turn : Turn
    turn = record { event = SliceIn frame index; answer = Done }

    all : List Turn
    all = turns ++ turn ∷ []

    now : (f i : ℕ) → with_slice frame index old.is_in f i ≡ true → WasTaken all f i
    now f i is = elim (cases_Bool (f == frame && i == index)) [
      | inl this ↦
          let facts = it-is f frame i index this in
          rw (facts.0, facts.1) (Contains-push turns turn)
      | inr other ↦
          let was : old.is_in f i ≡ true = sym (ap (λ (b : Bool). cond b true (old.is_in f i)) other) ∙ is in
          Contains-append_left turns (turn ∷ []) _ (taken.now f i was)
    ]

-- a frame that is published
publish-taken : (turns : List Turn) (turn : Turn) (len : ℕ) (old new : CoreState) → Publishes len old new → AreTaken turns old → AreTaken (turns ++ turn ∷ []) new
publish-taken turns turn len old new row taken =
    subst (λ (s : CoreState). AreTaken (turns ++ turn ∷ []) s) (sym row.effect) (record {
      now = λ f i is. elim (cases_Bool (f == published old)) [
        | inl this ↦
            let no : false ≡ true = sym (ap (λ (b : Bool). cond b false (old.is_in f i)) this) ∙ is in cc
        | inr other ↦
            let was : old.is_in f i ≡ true = sym (ap (λ (b : Bool). cond b false (old.is_in f i)) other) ∙ is in
            Contains-append_left turns (turn ∷ []) _ (taken.now f i was)
      ];
      before = λ f i less few.
          let more : published_in (old.history ++ entry.Published len ∷ []) ≡ published_in old.history + 1 =
          published-append old.history (entry.Published len ∷ []) in
          Contains-append_left turns (turn ∷ []) _ (earlier f i (omega arith) few);
    })
  where
    two-cases : (f n : ℕ) → f < n + 1 → (f < n) ⊎ (f ≡ n)
    two-cases f n less = grind arith

    earlier : (f i : ℕ) → f < published old + 1 → i < old.slices → WasTaken turns f i
    earlier f i less few = elim (two-cases f (published old) less) [
      | inl below ↦ taken.before f i below few
      | inr this ↦ rw this (taken.now (published old) i (row.whole i few))
    ]

-- an event that is due
does-taken : (turns : List Turn) (event : Event) (answer : Answer) (old new : CoreState) → Does old event new → answer ≡ answer_of old event
    → AreTaken turns old → AreTaken (turns ++ record { event = event; answer = answer } ∷ []) new
does-taken turns (SliceIn frame index) answer old new does told taken =
    rw told (slice-taken turns frame index old new does taken)
does-taken turns (Publish len) answer old new does told taken = publish-taken turns _ len old new does taken
does-taken turns BeginCommit answer old new does told taken = by-effect turns _ old _ new does.effect refl refl refl taken
does-taken turns NoteRecord answer old new does told taken = by-effect turns _ old _ new does.effect refl refl refl taken
does-taken turns OpenGate answer old new does told taken = by-effect turns _ old _ new does.effect refl refl refl taken
does-taken turns Acknowledge answer old new does told taken =
    entry-taken turns _ old _ new (entry.Acked does.mark.count) refl does.effect refl refl refl taken
does-taken turns WriteTail answer old new does told taken = by-effect turns _ old _ new does.effect refl refl refl taken
does-taken turns Finish answer old new does told taken = entry-taken turns _ old _ new entry.Closed refl does.effect refl refl refl taken
does-taken turns (Stop faults) answer old new does told taken =
    entry-taken turns _ old _ new (entry.Stopped faults) refl does.effect refl refl refl taken
does-taken turns (Look reader) answer old new does told taken = by-effect turns _ old _ new does refl refl refl taken

-- an event
steps-taken : (turns : List Turn) (event : Event) (answer : Answer) (old new : CoreState) → Steps old event answer new → AreTaken turns old
    → AreTaken (turns ++ record { event = event; answer = answer } ∷ []) new
steps-taken turns event answer old new steps taken = elim steps [
  | inl happens ↦ does-taken turns event answer old new happens.does happens.told taken
  | inr refused ↦ by-effect turns _ old _ new refused.same refl refl refl taken
]

-- events one by one
pub runs-taken : (before turns : List Turn) (first last : CoreState) → Runs first turns last → AreTaken before first → AreTaken (before ++ turns) last
runs-taken before [] first last run taken =
    rw (append-nil before) (subst (λ (s : CoreState). AreTaken before s) (sym run) taken)
runs-taken before (turn ∷ turns) first last run taken =
    let one = steps-taken before turn.event turn.answer first run.0 run.1 taken in
    subst (λ (all : List Turn). AreTaken all last) (append_assoc before (turn ∷ []) turns)
    (runs-taken (before ++ turn ∷ []) turns run.0 last run.2 one)

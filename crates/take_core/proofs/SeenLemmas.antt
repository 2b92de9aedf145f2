-- What readers see along a run.
use Rattle.std.proofs.Common.{◌≡◌, ℕ, ◌+◌, ◌≤◌, List, [], ◌∷◌, ◌++◌, length, inl, inr, refl, sym, ap, ◌∙◌, subst, append_assoc, append-nil, length-append, arith}
use Rattle.std.specs.Prelude.{Contains}
use Rattle.std.proofs.lemmas.List.Elements.{Contains-append_cases, Contains-push_cases}
use Rattle.take_core.specs.History.{after, latest}
use Rattle.take_core.specs.Runs.{Turn, Runs, look}
use Rattle.take_core.specs.States.{CoreState}
use Rattle.take_core.specs.Steps.{Steps, Does}
use Rattle.take_core.specs.declared.entry.Entry.{Entry}
use Rattle.take_core.specs.declared.entry.Entry.TheVariants as entry
use Rattle.take_core.specs.declared.event.Answer.{Answer}
use Rattle.take_core.specs.declared.event.Answer.TheVariants.{Seen}
use Rattle.take_core.specs.declared.event.Event.{Event}
use Rattle.take_core.specs.declared.event.Event.TheVariants.{SliceIn, Publish, BeginCommit, NoteRecord, OpenGate, Acknowledge, WriteTail, Finish, Stop, Look}
use Rattle.take_core.specs.declared.snapshot.Snapshot.{Snapshot}
use Rattle.take_core.proofs.HistoryLemmas.{after-append}

-- the entries that came behind a history
pub record Grew (old new : CoreState) : Type 0 where
  pub more : List Entry
  pub longer : new.history ≡ old.history ++ more

-- a state with the same entries, or with one more
grew-none : (old made new : CoreState) → new ≡ made → made.history ≡ old.history → Grew old new
grew-none old made new is same =
    record { more = []; longer = ap (λ (s : CoreState). s.history) is ∙ same ∙ sym (append-nil old.history) }

-- one entry more
grew-one : (old made new : CoreState) (e : Entry) → new ≡ made → made.history ≡ old.history ++ e ∷ [] → Grew old new
grew-one old made new e is same = record { more = e ∷ []; longer = ap (λ (s : CoreState). s.history) is ∙ same }

-- an event that is due
does-grew : (event : Event) (old new : CoreState) → Does old event new → Grew old new
does-grew (SliceIn frame index) old new does = grew-none old _ new does.effect refl
does-grew (Publish len) old new does = grew-one old _ new (entry.Published len) does.effect refl
does-grew BeginCommit old new does = grew-none old _ new does.effect refl
does-grew NoteRecord old new does = grew-none old _ new does.effect refl
does-grew OpenGate old new does = grew-none old _ new does.effect refl
does-grew Acknowledge old new does = grew-one old _ new (entry.Acked does.mark.count) does.effect refl
does-grew WriteTail old new does = grew-none old _ new does.effect refl
does-grew Finish old new does = grew-one old _ new entry.Closed does.effect refl
does-grew (Stop faults) old new does = grew-one old _ new (entry.Stopped faults) does.effect refl
does-grew (Look reader) old new does = grew-none old _ new does refl

-- an event
pub steps-grew : (event : Event) (answer : Answer) (old new : CoreState) → Steps old event answer new → Grew old new
steps-grew event answer old new steps =
    elim steps [ inl happens ↦ does-grew event old new happens.does | inr refused ↦ grew-none old _ new refused.same refl ]

-- events one by one
pub runs-grew : (turns : List Turn) (first last : CoreState) → Runs first turns last → Grew first last
runs-grew [] first last run = grew-none first _ last run refl
runs-grew (turn ∷ turns) first last run =
    let one = steps-grew turn.event turn.answer first run.0 run.1 in
    let rest = runs-grew turns run.0 last run.2 in
    record {
      more = one.more ++ rest.more;
      longer = rest.longer ∙ ap (λ (h : List Entry). h ++ rest.more) one.longer ∙ append_assoc first.history one.more rest.more;
    }

-- a look is always answered, by the whole history
pub looks-latest : (old new : CoreState) (reader : ℕ) (answer : Answer) → Steps old (Look reader) answer new → answer ≡ Seen (latest old.history)
looks-latest old new reader answer steps =
    elim steps [ inl happens ↦ happens.told | inr refused ↦ absurd (refused.not_due old refl) ]

-- what is seen is what the first entries of the history show
pub record ShowsFirst (seen : Snapshot) (last : CoreState) : Type 0 where
  pub few : seen.step ≤ length last.history
  pub shown : seen ≡ after last.history seen.step

-- a look at the first turn
first-look : (reader : ℕ) (seen : Snapshot) (first next last : CoreState) → Steps first (Look reader) (Seen seen) next → Grew first last → ShowsFirst seen last
first-look reader seen first next last steps grew =
    let told : Seen seen ≡ Seen (latest first.history) = looks-latest first next reader (Seen seen) steps in
    let is : seen ≡ latest first.history = cc in
    let long : length last.history ≡ length first.history + length grew.more =
    ap (length {A = Entry}) grew.longer ∙ length-append first.history grew.more in
    let same : after last.history (length first.history) ≡ latest first.history =
    ap (λ (h : List Entry). after h (length first.history)) grew.longer ∙ after-append first.history grew.more (length first.history) (omega arith) in
    subst (λ (s : Snapshot). ShowsFirst s last) (sym is) (record { few = omega arith; shown = sym same })

-- a turn that is this one
same-turn : (turn other : Turn) (first next : CoreState) → turn ≡ other → Steps first turn.event turn.answer next → Steps first other.event other.answer next
same-turn turn other first next is steps = subst (λ (t : Turn). Steps first t.event t.answer next) is steps

-- whoever looks in a run
pub runs-seen : (turns : List Turn) (first last : CoreState) (reader : ℕ) (seen : Snapshot) → Runs first turns last → Contains turns (look reader seen)
    → ShowsFirst seen last
runs-seen [] first last reader seen run among = absurd (omega (arith, among.1))
runs-seen (turn ∷ turns) first last reader seen run among =
    elim (Contains-append_cases (turn ∷ []) turns (look reader seen) among) [
      | inl here ↦
          let is = only turn (look reader seen) here in
          let grew = runs-grew (turn ∷ turns) first last run in
          first-look reader seen first run.0 last (same-turn turn (look reader seen) first run.0 is run.1) grew
      | inr later ↦ runs-seen turns run.0 last reader seen run.2 later
    ]
  where
    only : (one other : Turn) → Contains (one ∷ []) other → one ≡ other
    only one other in_it = elim (Contains-push_cases [] one other in_it) [ inl none ↦ absurd (omega (arith, none.1)) | inr is ↦ is ]

-- the two parts of a run
pub runs-append : (xs ys : List Turn) (first last : CoreState) → Runs first (xs ++ ys) last → (middle : CoreState) × Runs first xs middle × Runs middle ys last
runs-append [] ys first last run = (first, refl, run)
runs-append (x ∷ xs) ys first last run =
    let rest = runs-append xs ys run.0 last run.2 in
    (rest.0, (run.0, run.1, rest.1), rest.2)

-- who looks later sees no less
pub looks-rise : (between behind : List Turn) (first last : CoreState) (one other : ℕ) (sooner later : Snapshot)
    → Runs first (look one sooner ∷ (between ++ look other later ∷ behind)) last → sooner.step ≤ later.step
looks-rise between behind first last one other sooner later run =
    let parts = runs-append between (look other later ∷ behind) run.0 last run.2 in
    let middle = parts.0 in
    let began = first-look one sooner first run.0 middle run.1 (runs-grew (look one sooner ∷ between) first middle (run.0, run.1, parts.1)) in
    let told : Seen later ≡ Seen (latest middle.history) = looks-latest middle parts.2.0 other (Seen later) parts.2.1 in
    let is : later ≡ latest middle.history = cc in
    let step : later.step ≡ length middle.history = ap (λ (s : Snapshot). s.step) is in
    omega (arith, began.few)

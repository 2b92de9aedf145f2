-- What every event keeps of a sound state, and so every run.
use Rattle.std.proofs.Common.{◌≡◌, ℕ, ◌+◌, List, [], ◌∷◌, ◌++◌, inl, inr, true, false, refl, sym, ap, ◌∙◌, subst, arith}
use Rattle.std.proofs.lemmas.Option.{same_Some}
use Rattle.rec_bytes.specs.Configuration.{Fields}
use Rattle.take_core.specs.History.{published_in, acked_in}
use Rattle.take_core.specs.Runs.{Turn, Runs}
use Rattle.take_core.specs.States.{CoreState, fresh, published}
use Rattle.take_core.specs.Steps.{Steps, Does, TakesSlice, Publishes, Begins, Notes, Opens, Acknowledges, WritesTail, Finishes, Stops}
use Rattle.take_core.specs.Sound.{IsSound, mark_in}
use Rattle.take_core.specs.declared.entry.Entry.TheVariants as entry
use Rattle.take_core.specs.declared.event.Answer.{Answer}
use Rattle.take_core.specs.declared.event.Event.{Event}
use Rattle.take_core.specs.declared.event.Event.TheVariants.{SliceIn, Publish, BeginCommit, NoteRecord, OpenGate, Acknowledge, WriteTail, Finish, Stop, Look}
use Rattle.take_core.specs.declared.mark.CoreMark.{CoreMark}
use Rattle.take_core.proofs.HistoryLemmas.{published-append, acked-push, near-of, near-now, legal-none, legal-push}

-- the state in which a take begins
pub sound-fresh : (cfg : Fields) → IsSound (fresh cfg)
sound-fresh cfg = record {
  legal = legal-none cfg.lag cfg.max_frames;
  open_mark = λ mark is not_closed. cc;
  closed_mark = λ mark is closed. cc;
  level = λ tail. cc;
}

-- one slice more
sound-slice : (frame index : ℕ) (old new : CoreState) → TakesSlice frame index old new → IsSound old → IsSound new
sound-slice frame index old new row sound =
    subst IsSound (sym row.effect) (record { legal = sound.legal; open_mark = sound.open_mark; closed_mark = sound.closed_mark; level = sound.level })

-- one published frame more
sound-publish : (len : ℕ) (old new : CoreState) → Publishes len old new → IsSound old → IsSound new
sound-publish len old new row sound =
    let h = old.history in
    let near = near-now old.lag old.max_frames h sound.legal in
    let next = entry.Published len in
    let all = h ++ next ∷ [] in
    let more : published_in all ≡ published_in h + 1 = published-append h (next ∷ []) in
    let same : acked_in all ≡ acked_in h = acked-push h next in
    subst IsSound (sym row.effect) (record {
      legal = legal-push old.lag old.max_frames h next sound.legal row.growing (record {
        near = near-of old.lag old.max_frames all (omega (arith, near.durable)) (omega (arith, row.room)) (omega (arith, row.near));
        rising = λ count is. cc;
        whole = λ is. cc;
      });
      open_mark = λ mark is not_closed. let had = sound.open_mark mark is not_closed in (omega (arith, had.0), omega (arith, had.1));
      closed_mark = sound.closed_mark;
      level = λ tail. let no = row.no_tail in cc;
    })

-- a commit of the published frames begins
sound-begin : (old new : CoreState) → Begins old new → IsSound old → IsSound new
sound-begin old new row sound =
    subst IsSound (sym row.effect) (record {
      legal = sound.legal;
      open_mark = λ mark is not_closed.
          let count : published old ≡ mark.count = ap (λ (m : CoreMark). m.count) (same_Some _ mark is) in
          let behind = row.behind in
          (omega arith, omega arith);
      closed_mark = λ mark is closed.
          let opened : false ≡ mark.closed = ap (λ (m : CoreMark). m.closed) (same_Some _ mark is) in cc;
      level = sound.level;
    })

-- the mark's record
sound-note : (old new : CoreState) → Notes old new → IsSound old → IsSound new
sound-note old new row sound =
    let had = ap mark_in row.marked in
    subst IsSound (sym row.effect) (record {
      legal = sound.legal;
      open_mark = λ mark is. sound.open_mark mark (had ∙ is);
      closed_mark = λ mark is. sound.closed_mark mark (had ∙ is);
      level = sound.level;
    })

-- the mark's gate
sound-open : (old new : CoreState) → Opens old new → IsSound old → IsSound new
sound-open old new row sound =
    let had = ap mark_in row.noted in
    subst IsSound (sym row.effect) (record {
      legal = sound.legal;
      open_mark = λ mark is. sound.open_mark mark (had ∙ is);
      closed_mark = λ mark is. sound.closed_mark mark (had ∙ is);
      level = sound.level;
    })

-- more durable frames
sound-acknowledge : (old new : CoreState) → Acknowledges old new → IsSound old → IsSound new
sound-acknowledge old new row sound =
    let h = old.history in
    let near = near-now old.lag old.max_frames h sound.legal in
    let had = sound.open_mark row.mark (ap mark_in row.opened) row.not_closed in
    let next = entry.Acked row.mark.count in
    let all = h ++ next ∷ [] in
    let same : published_in all ≡ published_in h + 0 = published-append h (next ∷ []) in
    let more : acked_in all ≡ row.mark.count = acked-push h next in
    subst IsSound (sym row.effect) (record {
      legal = legal-push old.lag old.max_frames h next sound.legal row.growing (record {
        near = near-of old.lag old.max_frames all (omega (arith, had.1)) (omega (arith, near.room)) (omega (arith, near.near, had.0));
        rising = λ count is.
            let e : row.mark.count ≡ count = same_Some _ count is in
            omega (arith, had.0);
        whole = λ is. cc;
      });
      open_mark = λ mark is not_closed. cc;
      closed_mark = λ mark is closed. cc;
      level = λ tail. let level = sound.level tail in absurd (omega (arith, level, had.0, had.1));
    })

-- the tail, and its mark
sound-tail : (old new : CoreState) → WritesTail old new → IsSound old → IsSound new
sound-tail old new row sound =
    subst IsSound (sym row.effect) (record {
      legal = sound.legal;
      open_mark = λ mark is not_closed.
          let closed : true ≡ mark.closed = ap (λ (m : CoreMark). m.closed) (same_Some _ mark is) in cc;
      closed_mark = λ mark is closed. refl;
      level = λ tail. row.level;
    })

-- the end of a whole take
sound-finish : (old new : CoreState) → Finishes old new → IsSound old → IsSound new
sound-finish old new row sound =
    let h = old.history in
    let near = near-now old.lag old.max_frames h sound.legal in
    let level = sound.level (sound.closed_mark row.mark (ap mark_in row.opened) row.closed) in
    let all = h ++ entry.Closed ∷ [] in
    let same : published_in all ≡ published_in h + 0 = published-append h (entry.Closed ∷ []) in
    let durable : acked_in all ≡ acked_in h = acked-push h entry.Closed in
    subst IsSound (sym row.effect) (record {
      legal = legal-push old.lag old.max_frames h entry.Closed sound.legal row.growing (record {
        near = near-of old.lag old.max_frames all (omega (arith, near.durable)) (omega (arith, near.room)) (omega (arith, near.near));
        rising = λ count is. cc;
        whole = λ is. level;
      });
      open_mark = λ mark is not_closed. cc;
      closed_mark = λ mark is closed. cc;
      level = λ tail. omega (arith, level);
    })

-- the end of a take by faults
sound-stop : (faults : ℕ) (old new : CoreState) → Stops faults old new → IsSound old → IsSound new
sound-stop faults old new row sound =
    let h = old.history in
    let near = near-now old.lag old.max_frames h sound.legal in
    let next = entry.Stopped faults in
    let all = h ++ next ∷ [] in
    let same : published_in all ≡ published_in h + 0 = published-append h (next ∷ []) in
    let durable : acked_in all ≡ acked_in h = acked-push h next in
    subst IsSound (sym row.effect) (record {
      legal = legal-push old.lag old.max_frames h next sound.legal row.growing (record {
        near = near-of old.lag old.max_frames all (omega (arith, near.durable)) (omega (arith, near.room)) (omega (arith, near.near));
        rising = λ count is. cc;
        whole = λ is. cc;
      });
      open_mark = λ mark is not_closed. let had = sound.open_mark mark is not_closed in (omega (arith, had.0), omega (arith, had.1));
      closed_mark = sound.closed_mark;
      level = λ tail. omega (arith, sound.level tail);
    })

-- an event that is due
pub sound-does : (event : Event) (old new : CoreState) → Does old event new → IsSound old → IsSound new
sound-does (SliceIn frame index) old new does sound = sound-slice frame index old new does sound
sound-does (Publish len) old new does sound = sound-publish len old new does sound
sound-does BeginCommit old new does sound = sound-begin old new does sound
sound-does NoteRecord old new does sound = sound-note old new does sound
sound-does OpenGate old new does sound = sound-open old new does sound
sound-does Acknowledge old new does sound = sound-acknowledge old new does sound
sound-does WriteTail old new does sound = sound-tail old new does sound
sound-does Finish old new does sound = sound-finish old new does sound
sound-does (Stop faults) old new does sound = sound-stop faults old new does sound
sound-does (Look reader) old new does sound = subst IsSound (sym does) sound

-- an event
pub sound-steps : (old : CoreState) (event : Event) (answer : Answer) (new : CoreState) → Steps old event answer new → IsSound old → IsSound new
sound-steps old event answer new steps sound = elim steps [ inl happens ↦ sound-does event old new happens.does sound | inr refused ↦ subst IsSound (sym refused.same) sound ]

-- events one by one
pub sound-runs : (turns : List Turn) (first last : CoreState) → Runs first turns last → IsSound first → IsSound last
sound-runs [] first last run sound = subst IsSound (sym run) sound
sound-runs (turn ∷ turns) first last run sound = sound-runs turns run.0 last run.2 (sound-steps first turn.event turn.answer run.0 run.1 sound)

-- the numbers of the configuration, which no event changes
pub record SameNumbers (old new : CoreState) : Type 0 where
  pub max_frames : new.max_frames ≡ old.max_frames
  pub lag : new.lag ≡ old.lag
  pub slices : new.slices ≡ old.slices

-- the numbers of a state that is made of one with these
same-by : (old new made : CoreState) → new ≡ made → made.max_frames ≡ old.max_frames → made.lag ≡ old.lag → made.slices ≡ old.slices
    → SameNumbers old new
same-by old new made is max_frames lag slices = record { max_frames = cc; lag = cc; slices = cc }

-- an event that is due keeps the numbers
same-does : (event : Event) (old new : CoreState) → Does old event new → SameNumbers old new
same-does (SliceIn frame index) old new does = same-by old new _ does.effect refl refl refl
same-does (Publish len) old new does = same-by old new _ does.effect refl refl refl
same-does BeginCommit old new does = same-by old new _ does.effect refl refl refl
same-does NoteRecord old new does = same-by old new _ does.effect refl refl refl
same-does OpenGate old new does = same-by old new _ does.effect refl refl refl
same-does Acknowledge old new does = same-by old new _ does.effect refl refl refl
same-does WriteTail old new does = same-by old new _ does.effect refl refl refl
same-does Finish old new does = same-by old new _ does.effect refl refl refl
same-does (Stop faults) old new does = same-by old new _ does.effect refl refl refl
same-does (Look reader) old new does = same-by old new _ does refl refl refl

-- an event keeps the numbers
pub same-steps : (old : CoreState) (event : Event) (answer : Answer) (new : CoreState) → Steps old event answer new → SameNumbers old new
same-steps old event answer new steps =
    elim steps [ inl happens ↦ same-does event old new happens.does | inr refused ↦ same-by old new _ refused.same refl refl refl ]

-- events one by one keep the numbers
pub same-runs : (turns : List Turn) (first last : CoreState) → Runs first turns last → SameNumbers first last
same-runs [] first last run = same-by first last _ run refl refl refl
same-runs (turn ∷ turns) first last run =
    let one = same-steps first turn.event turn.answer run.0 run.1 in
    let rest = same-runs turns run.0 last run.2 in
    record { max_frames = rest.max_frames ∙ one.max_frames; lag = rest.lag ∙ one.lag; slices = rest.slices ∙ one.slices }

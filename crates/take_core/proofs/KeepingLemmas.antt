-- What memory keeps, entry by entry.
use Rattle.std.proofs.Common.{◌≡◌, ℕ, ◌+◌, ◌<◌, [], ◌∷◌, ◌++◌, length, Bool, false, cond, sym, ap, subst, arith}
use Rattle.take_core.specs.History.{published_in, phase_in, is_published}
use Rattle.take_core.specs.Kept.{Kept, state_of, slices_in}
use Rattle.take_core.specs.States.{CoreState, with_entry}
use Rattle.take_core.specs.Steps.{Does}
use Rattle.take_core.specs.declared.commit_phase.CorePhase.{CorePhase}
use Rattle.take_core.specs.declared.entry.Entry.{Entry}
use Rattle.take_core.specs.declared.event.Event.{Event}
use Rattle.take_core.specs.declared.snapshot.Phase.TheVariants as phase
use Rattle.take_core.specs.inner.Keeping.{KeepsCore}
use Rattle.take_core.specs.Recorded.{Recorded}
use Rattle.take_core.proofs.HistoryLemmas.{published-append, growing-len, near-now}
use Rattle.take_core.proofs.SoundLemmas.{sound-does}

-- a growing take has room for an entry
pub room-left : (kept : Kept) → KeepsCore kept → phase_in kept.history ≡ phase.Growing → length kept.history < kept.room
room-left kept keeps grows =
    let len = growing-len kept.lag kept.max_frames kept.history keeps.sound.legal grows in
    let near = near-now kept.lag kept.max_frames kept.history keeps.sound.legal in
    let room = keeps.room in
    omega (arith, len, near.durable, near.room, room)

-- the state that has one entry more, which publishes nothing, and another commit phase
pub state-entry : (kept : Kept) (commit : CorePhase) (e : Entry) (room : ℕ) → is_published e ≡ false
    → state_of (record kept { commit = commit; history = kept.history ++ e ∷ []; room = room }) ≡ with_entry e (record (state_of kept) { commit = commit })
state-entry kept commit e room none =
    let more : published_in (kept.history ++ e ∷ []) ≡ published_in kept.history + (0 + cond {A = ℕ} (is_published e) 1 0) = published-append kept.history (e ∷ []) in
    let nothing : cond {A = ℕ} (is_published e) 1 0 ≡ 0 = ap (λ (b : Bool). cond {A = ℕ} b 1 0) none in
    let same : published_in (kept.history ++ e ∷ []) ≡ published_in kept.history = omega arith in
    ap (λ (n : ℕ). with n) same
  where
    with : ℕ → CoreState
    with n = record {
      max_frames = kept.max_frames;
      lag = kept.lag;
      slices = kept.flags.slices;
      is_in = slices_in n kept.flags;
      commit = commit;
      tail = kept.tail;
      history = kept.history ++ e ∷ [];
    }

-- an entry that publishes nothing is kept
pub keep-entry : (kept : Kept) (commit : CorePhase) (e : Entry) (event : Event) (more : Recorded) → KeepsCore kept → is_published e ≡ false
    → Does (state_of kept) event (with_entry e (record (state_of kept) { commit = commit }))
    → more ≡ record { entries = kept.history ++ e ∷ []; room = kept.room }
    → KeepsCore (record kept { commit = commit; history = more.entries; room = more.room })
keep-entry kept commit e event more keeps none does is =
    subst (λ (r : Recorded). KeepsCore (record kept { commit = commit; history = r.entries; room = r.room })) (sym is) (record {
      sound = sound-does event (state_of kept) _ (subst (λ (s : CoreState). Does (state_of kept) event s) (sym (state-entry kept commit e kept.room none)) does) keeps.sound;
      room = keeps.room;
    })

-- What memory keeps after a slice, and after a published frame.
use Rattle.std.proofs.Common.{◌≡◌, ℕ, ◌+◌, ◌-◌, ◌<◌, ◌≤◌, List, [], ◌∷◌, ◌++◌, length, true, false, sym, ap, ◌∙◌, subst, arith}
use Rattle.std.specs.Prelude.{slice_set}
use Rattle.take_core.specs.History.{published_in, acked_in, phase_in}
use Rattle.take_core.specs.Kept.{Kept, Flags, state_of, slices_in, place_of, flag_at}
use Rattle.take_core.specs.States.{CoreState, Slices, names_slice}
use Rattle.take_core.specs.Steps.{TakesSlice, Publishes}
use Rattle.take_core.specs.declared.entry.Entry.{Entry}
use Rattle.take_core.specs.declared.entry.Entry.TheVariants as entry
use Rattle.take_core.specs.declared.event.Event.TheVariants.{Publish}
use Rattle.take_core.specs.declared.numbers.TheConstants.{MAX_UNIT}
use Rattle.take_core.specs.declared.snapshot.Phase.TheVariants as phase
use Rattle.take_core.specs.declared.snapshot.Snapshot.{Snapshot}
use Rattle.take_core.specs.inner.Flags.{AllSet, Cleared}
use Rattle.take_core.specs.inner.Keeping.{KeepsCore}
use Rattle.take_core.specs.Recorded.{Recorded}
use Rattle.take_core.proofs.FlagLemmas.{set-shows, forget-shows, whole-shows}
use Rattle.take_core.proofs.HistoryLemmas.{published-append}
use Rattle.take_core.proofs.SoundLemmas.{sound-does}

-- one slice more is in
pub takes-slice : (kept : Kept) (frame index : ℕ) (flags : Flags) → names_slice (published_in kept.history) kept.flags.slices frame index ≡ true
    → flag_at kept.flags.marks frame index ≡ false → place_of frame index < length kept.flags.marks
    → flags ≡ record kept.flags { marks = slice_set kept.flags.marks (place_of frame index) true }
    → TakesSlice frame index (state_of kept) (state_of (record kept { flags = flags }))
takes-slice kept frame index flags named empty fits is = record {
  named = named;
  first = rw named empty;
  effect =
      ap (λ (f : Flags). state_of (record kept { flags = f })) is
      ∙ ap (λ (s : Slices). record (state_of kept) { is_in = s })
      (set-shows (published_in kept.history) kept.flags.slices frame index kept.flags.marks named fits);
}

-- the tests of a frame that is published
pub record MayPublish (kept : Kept) (len : ℕ) : Type 0 where
  pub growing : phase_in kept.history ≡ phase.Growing
  pub no_tail : kept.tail ≡ false
  pub room : published_in kept.history < kept.max_frames
  pub near : published_in kept.history - acked_in kept.history < kept.lag
  pub whole : AllSet kept.flags.marks kept.flags.slices (published_in kept.history)
  pub some : 1 ≤ len
  pub most : len ≤ MAX_UNIT

-- the tests, as the code makes them on the snapshot
pub may-publish : (kept : Kept) (len : ℕ) (seen : Snapshot) (max_frames lag : ℕ)
    → seen ≡ record { step = length kept.history; published = published_in kept.history; acked = acked_in kept.history; phase = phase_in kept.history }
    → seen.phase ≡ phase.Growing → kept.tail ≡ false → seen.published < max_frames → max_frames ≡ kept.max_frames
    → seen.published - seen.acked < lag → lag ≡ kept.lag → AllSet kept.flags.marks kept.flags.slices seen.published → 1 ≤ len → len ≤ MAX_UNIT
    → MayPublish kept len
may-publish kept len seen max_frames lag is growing no_tail room max_is near lag_is whole some most =
    let frames = ap (λ (s : Snapshot). s.published) is in
    let durable = ap (λ (s : Snapshot). s.acked) is in
    record {
      growing = sym (ap (λ (s : Snapshot). s.phase) is) ∙ growing;
      no_tail = no_tail;
      room = omega arith;
      near = omega arith;
      whole = subst (λ (n : ℕ). AllSet kept.flags.marks kept.flags.slices n) frames whole;
      some = some;
      most = most;
    }

-- the frame is published
pub publishes : (kept : Kept) (len : ℕ) (flags : Flags) (more : Recorded) → MayPublish kept len → flags.slices ≡ kept.flags.slices
    → Cleared (published_in kept.history) kept.flags.slices kept.flags.marks flags.marks
    → more ≡ record { entries = kept.history ++ entry.Published len ∷ []; room = kept.room }
    → Publishes len (state_of kept) (state_of (record kept { flags = flags; history = more.entries; room = more.room }))
publishes kept len flags more may same cleared is = record {
  growing = may.growing;
  no_tail = may.no_tail;
  room = may.room;
  near = may.near;
  whole = whole-shows (published_in kept.history) kept.flags.slices kept.flags.marks may.whole;
  some = may.some;
  most = may.most;
  effect =
      ap (λ (r : Recorded). state_of (record kept { flags = flags; history = r.entries; room = r.room })) is
      ∙ ap (λ (n : ℕ). with n flags.slices) next ∙ ap (λ (n : ℕ). with (published_in kept.history + 1) n) same
      ∙ ap (λ (s : Slices). shown s kept.flags.slices) (forget-shows (published_in kept.history) kept.flags.slices kept.flags.marks flags.marks cleared);
}
  where
    all : List Entry
    all = kept.history ++ entry.Published len ∷ []

    next : published_in all ≡ published_in kept.history + 1
    next = published-append kept.history (entry.Published len ∷ [])

    shown : Slices → ℕ → CoreState
    shown slices n = record {
      max_frames = kept.max_frames;
      lag = kept.lag;
      slices = n;
      is_in = slices;
      commit = kept.commit;
      tail = kept.tail;
      history = all;
    }

    with : ℕ → ℕ → CoreState
    with n slices = shown (slices_in n (record { slices = slices; marks = flags.marks })) slices

-- what memory keeps of a published frame
pub keep-publish : (kept : Kept) (len : ℕ) (flags : Flags) (more : Recorded) → KeepsCore kept → MayPublish kept len → flags.slices ≡ kept.flags.slices
    → Cleared (published_in kept.history) kept.flags.slices kept.flags.marks flags.marks
    → more ≡ record { entries = kept.history ++ entry.Published len ∷ []; room = kept.room }
    → KeepsCore (record kept { flags = flags; history = more.entries; room = more.room })
keep-publish kept len flags more keeps may same cleared is =
    let room : more.room ≡ kept.room = ap (λ (r : Recorded). r.room) is in
    let had = keeps.room in
    record {
      sound = sound-does (Publish len) (state_of kept) _ (publishes kept len flags more may same cleared is) keeps.sound;
      room = omega arith;
    }

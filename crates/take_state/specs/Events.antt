-- Which event of a take a call is (own). docs/ARCHITECTURE.md, "The state of a take".
use Rattle.std.specs.Prelude.{◌≡◌, ◌<◌, ℕ, true, [], ◌∷◌, ◌++◌}
use Rattle.picture_plane.specs.Sizes.{size_of}
use Rattle.picture_plane.specs.Slices.{slice_total}
use Rattle.rec_bytes.specs.Configuration.{Fields}
use Rattle.take_core.specs.History.{latest}
use Rattle.take_core.specs.Phases.{core_phase}
use Rattle.take_core.specs.States.{CoreState, Slices, without_frame}
use Rattle.take_core.specs.Steps.{Steps}
use Rattle.take_core.specs.declared.entry.Entry.TheVariants as entry
use Rattle.take_core.specs.declared.event.Answer.TheVariants.{Done}
use Rattle.take_core.specs.declared.event.Event.{Event}
use Rattle.take_core.specs.declared.event.Event.TheVariants.{Publish, Stop}
use Rattle.take_core.specs.declared.snapshot.Snapshot.{Snapshot}
use Rattle.take_state.specs.Seen.{TakeSeen, published}

-- slices of a frame
abbrev pub slices_of : Fields → ℕ
slices_of cfg = slice_total (size_of cfg) cfg.log2

-- the state of a take's events that has this take's configuration, history, commit phase and tail, and in which these slices
-- are in
abbrev pub core_of : {D : Type 0} → TakeSeen D → Slices → CoreState
core_of seen slices = record {
  max_frames = seen.config.max_frames;
  lag = seen.config.lag;
  slices = slices_of seen.config;
  is_in = slices;
  commit = core_phase seen.commit;
  tail = seen.tail;
  history = seen.history;
}

-- the call is this event, whichever slices are in
abbrev pub IsEvent : {D : Type 0} → Event → TakeSeen D → TakeSeen D → Type 0
IsEvent event old new = (slices : Slices) → Steps (core_of old slices) event Done (core_of new slices)

-- the call publishes a frame of a length, wherever all slices of the lowest frame are in
abbrev pub IsPublish : {D : Type 0} → ℕ → TakeSeen D → TakeSeen D → Type 0
IsPublish len old new = (slices : Slices) → ((index : ℕ) → index < slices_of old.config → slices (published old) index ≡ true)
    → Steps (core_of old slices) (Publish len) Done (core_of new (without_frame (published old) slices))

-- the call is no event
abbrev pub IsNoEvent : {D : Type 0} → TakeSeen D → TakeSeen D → Type 0
IsNoEvent old new = (slices : Slices) → core_of new slices ≡ core_of old slices

-- a frame of a length is published: the history says so, and the snapshot is that after it
pub record PublishesFrame {D : Type 0} (len : ℕ) (old new : TakeSeen D) (seen : Snapshot) : Type 0 where
  pub stands : new ≡ record old { disk = new.disk; history = old.history ++ entry.Published len ∷ [] }
  pub event : IsPublish len old new
  pub shows : seen ≡ latest new.history

-- the disk failed: the history says that this has stopped the take, and nothing else has changed but the disk
pub record Stops {D : Type 0} (old new : TakeSeen D) (faults : ℕ) : Type 0 where
  pub stands : new ≡ record old { disk = new.disk; history = old.history ++ entry.Stopped faults ∷ [] }
  pub event : IsEvent (Stop faults) old new

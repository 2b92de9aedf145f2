-- What each command does, by the words (own). docs/ARCHITECTURE.md, "The run".
use Rattle.std.specs.Prelude.{◌≡◌, ◌⊎◌, ℕ, List, Option, Some, None}
use Rattle.clap.specs.Walk.{Text}
use Rattle.rec_bytes.specs.declared.status.Status.{Status}
use Rattle.raw_feed.specs.declared.kind.Kind.TheVariants.{Units, Pictures}
use Rattle.raw_feed.specs.Told.{Told}
use Rattle.run_parts.specs.Statuses.{words_answer, memory_answer}
use Rattle.recovery.specs.Crashes.{StaysOne, StaysSafe}
use Rattle.take_disk.specs.Calls.{Stays}
use Rattle.take_disk.specs.Held.{Disk}
use Rattle.take_disk.specs.declared.disk.TakeDisk.{Ghosts as DiskGhosts}
use Rattle.take_layout.specs.declared.layout.TakeLayout.{Ghosts}
use Rattle.take_commands.specs.Checks.{Checks}
use Rattle.take_commands.specs.Recovers.{RunsRecovery}
use Rattle.take_commands.specs.Shows.{Shows}
use Rattle.take_commands.specs.Views.{Devices, Views, devices}
use Rattle.ingest_run.specs.declared.words.Command.{Command}
use Rattle.ingest_run.specs.declared.words.Command.TheVariants.{Wrap, Encode, Recover, Check, Frame}
use Rattle.ingest_run.specs.Paces.{IsPassedOn, IsEncoded, KeepsPace}
use Rattle.ingest_run.specs.Runs.{Outside, Runs, Wraps, Encodes, outside}
use Rattle.ingest_run.specs.Words.{command_of}

-- the devices of a call: the feed, the disk and the sink, what feed and sink show, and what disk and sink show
pub record Around (S D W : Type 0) : Type 0 where
  pub feed : S
  pub disk : D
  pub sink : W
  pub run : Outside
  pub view : Devices

-- the devices by what each tells and counts, and by what it is
abbrev pub around : {S D W : Type 0} → (S → Option Told) → (S → ℕ) → (D → Option Disk) → (D → ℕ) → (W → Option (List ℕ)) → (W → ℕ)
    → S → D → W → Around S D W
around feed_tells feed_counts disk_tells disk_counts sink_tells sink_counts feed disk sink = record {
  feed = feed;
  disk = disk;
  sink = sink;
  run = outside (feed_tells feed) (feed_counts feed) (sink_tells sink) (sink_counts sink);
  view = devices (disk_tells disk) (disk_counts disk) (sink_tells sink) (sink_counts sink);
}

-- the words are no command, or memory for them was wanted
abbrev pub IsWordsAnswer : Status → Type 0
IsWordsAnswer status = (status ≡ words_answer) ⊎ (status ≡ memory_answer)

-- What a command does, over a layout. One that reads a feed leaves the disk as it is, and one over a take the feed. Words that
-- are no command touch nothing.
abbrev pub RunsFor : {L S D W : Type 0} → Ghosts L → Option Command → Around S D W → Around S D W → Status → Type 0
RunsFor layout None before now status = (now ≡ before) × IsWordsAnswer status
RunsFor layout (Some Wrap) before now status =
    (now.disk ≡ before.disk) × Runs (Wraps layout.closed) (KeepsPace Units IsPassedOn layout.growing) before.run now.run status
RunsFor layout (Some (Encode workers)) before now status =
    (now.disk ≡ before.disk) × Runs (Encodes layout.closed) (KeepsPace Pictures IsEncoded layout.growing) before.run now.run status
RunsFor layout (Some Recover) before now status = (now.feed ≡ before.feed) × RunsRecovery layout before.view now.view status
RunsFor layout (Some Check) before now status = (now.feed ≡ before.feed) × Views Checks before.view now.view status
RunsFor layout (Some (Frame number)) before now status = (now.feed ≡ before.feed) × Views (Shows number) before.view now.view status

-- what the command does that the words name
abbrev pub RunsCommand : {L S D W : Type 0} → Ghosts L → List Text → Around S D W → Around S D W → Status → Type 0
RunsCommand layout words = RunsFor layout (command_of words)

-- the disk is as it was: neither what it tells nor a length has changed
abbrev pub DiskStays : {D : Type 0} → DiskGhosts D → D → D → Type 0
DiskStays device old new = Stays (device.told old) (device.told new) (device.length_of old) (device.length_of new)

-- What a command leaves of the disk: `recover` alone changes it, and whatever a crash leaves then stays safe, and where all was
-- kept, recovered to the same units.
abbrev pub LeavesFor : {L D : Type 0} → Ghosts L → DiskGhosts D → Option Command → D → D → Type 0
LeavesFor layout device None old new = DiskStays device old new
LeavesFor layout device (Some Wrap) old new = DiskStays device old new
LeavesFor layout device (Some (Encode workers)) old new = DiskStays device old new
LeavesFor layout device (Some Recover) old new = StaysSafe layout device old new × StaysOne layout device old new
LeavesFor layout device (Some Check) old new = DiskStays device old new
LeavesFor layout device (Some (Frame number)) old new = DiskStays device old new

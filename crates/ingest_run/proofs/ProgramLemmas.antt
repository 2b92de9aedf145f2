-- What a program answers and says.
use Rattle.std.proofs.Common.{◌≡◌, ℕ, List, [], Option, Some, None, Ok, Err, refl, sym, inl, inr}
use Rattle.std.proofs.lemmas.List.{append-nil}
use Rattle.clap.specs.Walk.{Text}
use Rattle.rec_bytes.specs.Faults.{HasCause}
use Rattle.rec_bytes.specs.declared.status.Status.{Status}
use Rattle.rec_bytes.specs.declared.status.Failed.{Failed}
use Rattle.raw_feed.specs.Written.{Writes}
use Rattle.run_parts.specs.Statuses.{answer, sink_answer}
use Rattle.take_disk.specs.declared.disk.TakeDisk.{Ghosts as DiskGhosts}
use Rattle.take_layout.specs.declared.layout.TakeLayout.{Ghosts}
use Rattle.ingest_run.specs.Commands.{Around, LeavesFor}
use Rattle.ingest_run.specs.Messages.{taken}
use Rattle.ingest_run.specs.Words.{command_of}
use Rattle.ingest_run.specs.Programs.{AnswersCommand, AnswersHelp, AnswersFor, WritesHelp, runs_for}
use Rattle.ingest_run.proofs.GainLemmas.{Gains-first, Gains-first_front}

-- the text of help was written
pub help_done : (text : List ℕ) (old new : Option (List ℕ)) (faults faults_now : ℕ) → Writes {E = Failed} old new (Ok tt) text → faults_now ≡ faults
    → WritesHelp text (taken old faults) (taken new faults_now) (answer 0 0 0 0)
help_done text old new faults faults_now w kept = record {
  written = text;
  missing = [];
  front = sym (append-nil text);
  gains = Gains-first Failed old new text w;
  ends = inl (refl, refl, kept);
}

-- the sink failed inside it
pub help_failed : (text : List ℕ) (old new : Option (List ℕ)) (faults faults_now : ℕ) (e : Failed) → Writes old new (Err e) text → HasCause {T = Unit {0}} faults faults_now (Err e)
    → WritesHelp text (taken old faults) (taken new faults_now) (sink_answer faults_now)
help_failed text old new faults faults_now e w cause =
    let piece = Gains-first_front old new e text w in
    record { written = piece.0; missing = piece.1; front = piece.2; gains = piece.3; ends = inr (refl, cause.failed, piece.4) }

-- help goes before any command
pub answers_help : {L S D W : Type 0} (layout : Ghosts L) (help : Option (List ℕ)) (text : List ℕ) (words : List Text) (before now : Around S D W)
    (status : Status) → help ≡ Some text → AnswersHelp text before now status → AnswersFor layout help words before now status
answers_help layout help text words before now status is h = rw is h

pub answers_command : {L S D W : Type 0} (layout : Ghosts L) (help : Option (List ℕ)) (words : List Text) (before now : Around S D W)
    (status : Status) → help ≡ None → AnswersCommand layout words before now status → AnswersFor layout help words before now status
answers_command layout help words before now status is h = rw is h

-- and what the disk is left as
pub leaves_help : {L D : Type 0} (layout : Ghosts L) (device : DiskGhosts D) (help : Option (List ℕ)) (text : List ℕ) (words : List Text) (disk : D)
    → help ≡ Some text → LeavesFor layout device (runs_for help words) disk disk
leaves_help layout device help text words disk is = rw is (record { same = refl; lengths = λ area. refl })

pub leaves_command : {L D : Type 0} (layout : Ghosts L) (device : DiskGhosts D) (help : Option (List ℕ)) (words : List Text) (old new : D)
    → help ≡ None → LeavesFor layout device (command_of words) old new → LeavesFor layout device (runs_for help words) old new
leaves_command layout device help words old new is h = rw is h

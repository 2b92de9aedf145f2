-- What a call does by its words.
use Rattle.std.proofs.Common.{◌≡◌, ◌≢◌, ℕ, List, [], Option, Some, None, refl, sym, ap, ◌∙◌, subst, arith, ◌⊎◌, inl, inr, ⊎_elim}
use Rattle.std.proofs.lemmas.List.{append-nil}
use Rattle.clap.specs.Walk.{Text}
use Rattle.rec_bytes.specs.Configuration.{Fields}
use Rattle.rec_bytes.specs.declared.status.Status.{Status}
use Rattle.raw_feed.specs.declared.fault.FeedFault.{FeedFault}
use Rattle.raw_feed.specs.declared.fault.FeedFault.TheVariants.{Memory, FeedHead, Marker, FeedCut, SourceFault, TooLong, Sample, UnitLong}
use Rattle.raw_feed.specs.declared.kind.Kind.{Kind}
use Rattle.raw_feed.specs.declared.kind.Kind.TheVariants.{Units, Pictures}
use Rattle.raw_feed.specs.Told.{Told, after}
use Rattle.raw_feed.specs.Items.{Ending, Clean, Full, Broken}
use Rattle.raw_feed.specs.declared.head.TheConstants.{FEED_HEAD_LEN}
use Rattle.raw_feed.specs.Breaks.{Reaches}
use Rattle.raw_feed.specs.Feeds.{EndsInHead}
use Rattle.raw_feed.specs.Reading.{IfTold}
use Rattle.run_parts.specs.Causes.{Counts, IsReadAnswer, HasDeviceCauses, HasFeedCauses}
use Rattle.run_parts.specs.Statuses.{answer, feed_answer, ending_answer, memory_answer, sink_answer}
use Rattle.recovery.specs.Recoveries.{Refuses, ReadsAsBefore, as_read}
use Rattle.recovery.specs.declared.answer.RecoverFault.TheVariants as recovery
use Rattle.take_disk.specs.Calls.{IfTold as IfDiskTold, Steps}
use Rattle.take_disk.specs.Held.{Disk}
use Rattle.take_disk.specs.declared.disk.TakeDisk.{Ghosts as DiskGhosts}
use Rattle.take_layout.specs.declared.layout.TakeLayout.{Ghosts}
use Rattle.take_commands.specs.Causes.{HasTakeCauses}
use Rattle.take_commands.specs.Checks.{Checks}
use Rattle.take_commands.specs.Recovers.{RunsRecovery}
use Rattle.take_commands.specs.Shows.{Shows}
use Rattle.take_commands.specs.Views.{Devices, Views, ViewsBytes}
use Rattle.ingest_run.specs.declared.words.Command.{Command}
use Rattle.ingest_run.specs.declared.words.Command.TheVariants.{Wrap, Encode, Recover, Check, Frame}
use Rattle.ingest_run.specs.declared.words.WordsFault.{WordsFault}
use Rattle.ingest_run.specs.declared.words.WordsFault.TheVariants.{Memory as NoMemory, Faulty}
use Rattle.ingest_run.specs.Causes.{CausesFor, HasCauses, HasPictureCauses}
use Rattle.ingest_run.specs.Commands.{Around, LeavesFor, RunsFor, RunsCommand}
use Rattle.ingest_run.specs.Programs.{fault_answer}
use Rattle.ingest_run.specs.Paces.{IsPassedOn, IsEncoded, KeepsPace}
use Rattle.ingest_run.specs.Runs.{Wraps, Encodes, Outside, RunsOver, Runs}
use Rattle.ingest_run.specs.Words.{command_of}
use Rattle.ingest_run.proofs.GainLemmas.{Gains-nil}
use Rattle.ingest_run.proofs.UnitLemmas.{unit_code}
use Rattle.ingest_run.proofs.RunLemmas.{FeedsAreOne, paced-head}

-- the command that the words name did what it does
pub runs_as : {L S D W : Type 0} (layout : Ghosts L) (words : List Text) (before now : Around S D W) (status : Status)
    (command : Command) → command_of words ≡ Some command → RunsFor layout (Some command) before now status
    → RunsCommand layout words before now status
runs_as layout words before now status command is h =
    subst (λ (c : Option Command). RunsFor layout c before now status) (sym is) h

-- no byte was given
untouched : (before : Told) → Some before ≡ Some (after 0 before)
untouched before = ap Some (λ i. record { given = sym (append-nil before.given) i; left = before.left })

-- no bytes are cut in their head
no_head : (kind : Kind) → EndsInHead kind [] (Broken (FeedCut 0))
no_head kind = (refl, omega arith)

-- and no byte was read behind the last one that judges them
no_reach : (kind : Kind) → Reaches kind 0 FEED_HEAD_LEN (Broken (FeedCut 0))
no_reach Units = refl
no_reach Pictures = refl

-- of no bytes a command over a feed says nothing but that they are cut
memory-over : (kind : Kind) (Becomes : Fields → List ℕ → List ℕ → Type 0) (Said : List ℕ → List ℕ → Status → Type 0)
    (growing : Fields → List (List ℕ) → List ℕ) (told : Told) (here : Outside) → FeedsAreOne
    → Said [] [] (ending_answer 0 (Broken (FeedCut 0))) → here.told ≡ Some told
    → RunsOver Said (KeepsPace kind Becomes growing) told here here memory_answer
memory-over kind Becomes Said growing told here one said tells = record {
  count = 0;
  gave = tells ∙ untouched told;
  written = [];
  gains = Gains-nil here.written;
  whole = [];
  answered = ending_answer 0 (Broken (FeedCut 0));
  given = said;
  missing = [];
  front = refl;
  all = λ one seven. refl;
  cut = λ seven. absurd (omega arith);
  says = λ whole. absurd (whole (inl refl));
  behind = λ five. absurd (omega arith);
  paced = paced-head kind Becomes growing [] [] (Broken (FeedCut 0)) one (no_head kind) (no_reach kind);
}

-- memory was wanted before a command over a feed did anything
run_memory : (kind : Kind) (Becomes : Fields → List ℕ → List ℕ → Type 0) (Said : List ℕ → List ℕ → Status → Type 0)
    (growing : Fields → List (List ℕ) → List ℕ) (here : Outside) → FeedsAreOne → Said [] [] (ending_answer 0 (Broken (FeedCut 0)))
    → Runs Said (KeepsPace kind Becomes growing) here here memory_answer
run_memory kind Becomes Said growing here one said = on here.told refl
  where
    on : (told : Option Told) → here.told ≡ told → IfTold told here.told (λ t. RunsOver Said (KeepsPace kind Becomes growing) t here here memory_answer)
    on None tells = tells
    on (Some t) tells = memory-over kind Becomes Said growing t here one said tells

-- what holds of all holds where one is told
told_any : {T : Type 0} (told : Option T) (P : T → Type 0) → ((value : T) → P value) → IfDiskTold told P
told_any None P each = tt
told_any (Some value) P each = each value

-- what is told stays
steps_same : {T : Type 0} (told : Option T) (P : T → T → Type 0) → ((value : T) → P value value) → Steps told told P
steps_same None P each = tt
steps_same (Some value) P each = each value

-- memory was wanted before a command that looks at a take did anything
view_memory : (Said : List ℕ → List ℕ → Status → Type 0) (here : Devices) → Views Said here here memory_answer
view_memory Said here = on here.told
  where
    on : (told : Option Disk) → IfDiskTold told (λ disk. ViewsBytes Said disk.essence.reads here here memory_answer)
    on None = tt
    on (Some disk) = record {
      written = [];
      gains = Gains-nil here.written;
      says = λ whole. absurd (whole (inl refl));
      cut = λ seven. absurd (omega arith);
      nothing = λ none. refl;
    }

-- the same of the command that recovers one
recovery_memory : {L : Type 0} (layout : Ghosts L) (here : Devices) → RunsRecovery layout here here memory_answer
recovery_memory layout here = inr (record {
  fault = recovery.Memory;
  refused = told_any here.told (λ disk. Refuses layout recovery.Memory (as_read disk)) (λ disk. tt);
  unchanged = steps_same here.told (ReadsAsBefore recovery.Memory) (λ disk. refl);
  nothing = refl;
  answered = refl;
})

-- what a command leaves that touches nothing
pub leaves_same : {L D : Type 0} (layout : Ghosts L) (device : DiskGhosts D) (command : Option Command) (disk : D) → LeavesFor layout device command disk disk
leaves_same layout device None disk = record { same = refl; lengths = λ area. refl }
leaves_same layout device (Some Wrap) disk = record { same = refl; lengths = λ area. refl }
leaves_same layout device (Some (Encode workers)) disk = record { same = refl; lengths = λ area. refl }
leaves_same layout device (Some Recover) disk = (
  told_any (device.told disk) _ (λ held cfg units acked safe. told_any (device.told disk) _ (λ again moment image before left. inl left)),
  told_any (device.told disk) _ (λ held cfg units kept recovers. told_any (device.told disk) _ (λ again moment image before left. inl left)),
)
leaves_same layout device (Some Check) disk = record { same = refl; lengths = λ area. refl }
leaves_same layout device (Some (Frame number)) disk = record { same = refl; lengths = λ area. refl }

-- what the command leaves that the words name
pub leaves_as : {L D : Type 0} (layout : Ghosts L) (device : DiskGhosts D) (words : List Text) (old new : D) (command : Command)
    → command_of words ≡ Some command → LeavesFor layout device (Some command) old new → LeavesFor layout device (command_of words) old new
leaves_as layout device words old new command is h = subst (λ (c : Option Command). LeavesFor layout device c old new) (sym is) h

-- no device was touched, and the words give no command, or memory for them was wanted
fault_as : {L S D W : Type 0} (layout : Ghosts L) (here : Around S D W) (command : Option Command) (reason : WordsFault)
    → FeedsAreOne → (reason ≡ Faulty → command ≡ None) → RunsFor layout command here here (fault_answer reason)
fault_as layout here None Faulty one refused = (refl, inl refl)
fault_as layout here None NoMemory one refused = (refl, inr refl)
fault_as layout here (Some command) Faulty one refused = absurd (let none = refused refl in cc)
fault_as layout here (Some Wrap) NoMemory one refused =
    (refl, run_memory Units IsPassedOn (Wraps layout.closed) layout.growing here.run one (inr (record { ending = Broken (FeedCut 0); feed = no_head Units; nothing = refl; answered = refl })))
fault_as layout here (Some (Encode workers)) NoMemory one refused =
    (refl, run_memory Pictures IsEncoded (Encodes layout.closed) layout.growing here.run one (inr (record { ending = Broken (FeedCut 0); feed = no_head Pictures; nothing = refl; answered = refl })))
fault_as layout here (Some Recover) NoMemory one refused = (refl, recovery_memory layout here.view)
fault_as layout here (Some Check) NoMemory one refused = (refl, view_memory Checks here.view)
fault_as layout here (Some (Frame number)) NoMemory one refused = (refl, view_memory (Shows number) here.view)

pub runs_fault : {L S D W : Type 0} (layout : Ghosts L) (words : List Text) (here : Around S D W) (reason : WordsFault) → FeedsAreOne
    → (reason ≡ Faulty → command_of words ≡ None) → RunsCommand layout words here here (fault_answer reason)
runs_fault layout words here reason one refused = fault_as layout here (command_of words) reason one refused

-- the code of an answer for a feed isn't that of faulty words
no_words : (fault : FeedFault) → (feed_answer fault).code ≢ 2
no_words Memory e = omega arith
no_words (FeedHead at) e = omega arith
no_words (Marker at) e = omega arith
no_words (FeedCut at) e = omega arith
no_words (SourceFault count) e = omega arith
no_words (TooLong at) e = omega arith
no_words (Sample at) e = omega arith
no_words (UnitLong at) e = omega arith

no_words_at : (items : ℕ) (ending : Ending) → (ending_answer items ending).code ≢ 2
no_words_at items Clean e = omega arith
no_words_at items Full e = omega arith
no_words_at items (Broken fault) e = no_words fault e

-- nor is that of an answer for a feed, for a unit of it or for the sink
no_words_in : (count : ℕ) (status : Status) → IsReadAnswer status ⊎ (status ≡ sink_answer count) → status.code ≢ 2
no_words_in count status (inl (inl a)) e = no_words_at a.0 a.1 (ap (λ (s : Status). s.code) (sym a.3) ∙ e)
no_words_in count status (inl (inr a)) e =
    let eight = unit_code a.unit a.fault in
    let code = ap (λ (s : Status). s.code) a.answered in
    let two : ◌≡◌ {A = ℕ} 8 2 = sym eight ∙ (sym code ∙ e) in
    omega arith
no_words_in count status (inr a) e =
    let code = ap (λ (s : Status). s.code) a in
    let seven : ◌≡◌ {A = ℕ} 7 2 = sym code ∙ e in
    omega arith

-- nor that of an answer for a take
no_words_of : (status : Status) → (status ≡ answer 0 0 0 0) ⊎ ((status ≡ memory_answer) ⊎ ((status.code ≡ 8) ⊎ ((status.code ≡ 6) ⊎ (status.code ≡ 7))))
    → status.code ≢ 2
no_words_of status (inl a) e =
    let code = ap (λ (s : Status). s.code) a in
    let zero : ◌≡◌ {A = ℕ} 0 2 = sym code ∙ e in
    omega arith
no_words_of status (inr (inl a)) e =
    let code = ap (λ (s : Status). s.code) a in
    let one : ◌≡◌ {A = ℕ} 1 2 = sym code ∙ e in
    omega arith
no_words_of status (inr (inr (inl eight))) e = omega arith
no_words_of status (inr (inr (inr (inl six)))) e = omega arith
no_words_of status (inr (inr (inr (inr seven)))) e = omega arith

-- the causes of the command that the words name are theirs
causes_as : {S D W : Type 0} (words : List Text) (before now : Around S D W) (status : Status) (command : Command) → command_of words ≡ Some command
    → status.code ≢ 2 → CausesFor (Some command) before now status → HasCauses words before now status
causes_as words before now status command is other h = record {
  faulty = λ two. absurd (other two);
  causes = subst (λ (c : Option Command). CausesFor c before now status) (sym is) h;
}

pub causes_wrap : {S D W : Type 0} (words : List Text) (before now : Around S D W) (status : Status) → command_of words ≡ Some Wrap
    → HasFeedCauses before.run.counts now.run.counts status → HasCauses words before now status
causes_wrap words before now status is c = causes_as words before now status Wrap is (no_words_in now.run.counts.sink status c.answered) c

pub causes_encode : {S D W : Type 0} (words : List Text) (before now : Around S D W) (status : Status) (workers : ℕ) → command_of words ≡ Some (Encode workers)
    → HasPictureCauses before.run.counts now.run.counts status → HasCauses words before now status
causes_encode words before now status workers is c =
    causes_as words before now status (Encode workers) is (no_words_in now.run.counts.sink status (⊎_elim (λ a. inl (inl a)) (λ a. inr a) c.answered)) c

pub causes_recover : {S D W : Type 0} (words : List Text) (before now : Around S D W) (status : Status) → command_of words ≡ Some Recover
    → HasTakeCauses before.view now.view status → HasCauses words before now status
causes_recover words before now status is c = causes_as words before now status Recover is (no_words_of status c.answered) c

pub causes_check : {S D W : Type 0} (words : List Text) (before now : Around S D W) (status : Status) → command_of words ≡ Some Check
    → HasTakeCauses before.view now.view status → HasCauses words before now status
causes_check words before now status is c = causes_as words before now status Check is (no_words_of status c.answered) c

pub causes_frame : {S D W : Type 0} (words : List Text) (before now : Around S D W) (status : Status) (number : ℕ) → command_of words ≡ Some (Frame number)
    → HasTakeCauses before.view now.view status → HasCauses words before now status
causes_frame words before now status number is c = causes_as words before now status (Frame number) is (no_words_of status c.answered) c

-- the causes where no device was touched and memory was wanted
memory_devices : (here : Counts) → HasDeviceCauses here here memory_answer
memory_devices here =
    record { source = λ e. absurd (omega arith); source_kept = λ e. inl refl; sink = λ e. absurd (omega arith); sink_kept = λ e. refl }

memory_take : (here : Devices) → HasTakeCauses here here memory_answer
memory_take here = record {
  answered = inr (inl refl);
  disk = λ e. absurd (omega arith);
  disk_kept = λ e. refl;
  sink = λ e. absurd (omega arith);
  sink_kept = λ e. refl;
}

-- the causes where the words give no command, or memory for them was wanted
cause_as : {S D W : Type 0} (here : Around S D W) (command : Option Command) (fault : WordsFault) → (fault ≡ Faulty → command ≡ None)
    → CausesFor command here here (fault_answer fault)
cause_as here None Faulty refused = (record { run = refl; disk = refl }, inl refl)
cause_as here None NoMemory refused = (record { run = refl; disk = refl }, inr refl)
cause_as here (Some command) Faulty refused = absurd (let none = refused refl in cc)
cause_as here (Some Wrap) NoMemory refused = record { answered = inl (inl (0, Broken Memory, tt, refl)); devices = memory_devices here.run.counts }
cause_as here (Some (Encode workers)) NoMemory refused = record { answered = inl (0, Broken Memory, tt, refl); devices = memory_devices here.run.counts }
cause_as here (Some Recover) NoMemory refused = memory_take here.view
cause_as here (Some Check) NoMemory refused = memory_take here.view
cause_as here (Some (Frame number)) NoMemory refused = memory_take here.view

pub causes_fault : {S D W : Type 0} (words : List Text) (here : Around S D W) (fault : WordsFault) → (fault ≡ Faulty → command_of words ≡ None)
    → HasCauses words here here (fault_answer fault)
causes_fault words here Faulty is = record { faulty = λ e. is refl; causes = cause_as here (command_of words) Faulty is }
causes_fault words here NoMemory is = record { faulty = λ e. absurd (omega arith); causes = cause_as here (command_of words) NoMemory is }

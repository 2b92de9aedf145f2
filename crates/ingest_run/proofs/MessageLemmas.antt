-- What a part of a fault line is, and what a run's messages are.
use Rattle.std.proofs.Common.{◌≡◌, ◌≢◌, ◌≤◌, ◌++◌, ◌∙◌, ℕ, List, [], Ok, Err, codes, length, refl, sym, ap₂, subst, arith}
use Rattle.std.proofs.lemmas.Bool.{le-leb, ne_eqb}
use Rattle.std.proofs.lemmas.List.Elements.{All-nil}
use Rattle.std.specs.Fmt.Cut.{cut_to}
use Rattle.raw_feed.specs.declared.fault.FeedFault.{FeedFault}
use Rattle.raw_feed.specs.declared.fault.FeedFault.TheVariants.{Memory as NoMemory, FeedHead, Marker, FeedCut, SourceFault, TooLong, Sample, UnitLong}
use Rattle.run_parts.specs.Statuses.{feed_answer}
use Rattle.ingest_run.specs.declared.ended.RunFault.{RunFault}
use Rattle.ingest_run.specs.declared.ended.RunFault.TheVariants.{Words, Feed, Full, Unit as Refused, Memory, Sink, Take}
use Rattle.ingest_run.specs.declared.words.WordsFault.TheVariants.{Memory as WantsMemory, Faulty}
use Rattle.ingest_run.specs.Messages.{Taken, IsOneLine, Reports, SaysAnswer, closing, fault_line, messages_of}
use Rattle.ingest_run.specs.inner.Answers.{run_answer}
use Rattle.ingest_run.proofs.GainLemmas.{reports_none}
use Rattle.ingest_run.proofs.TakeLemmas.{take_code}
use Rattle.ingest_run.proofs.UnitLemmas.{unit_code}

-- a text that fits isn't cut
pub cut_whole : (room : ℕ) (text : List ℕ) → length text ≤ room → cut_to room text ≡ text
unfolding cut_to
cut_whole room text fits = rw (le-leb (length text) room fits) refl

-- nothing is said where all was done
pub says_done : (done : Unit {0}) (w : Taken) → SaysAnswer (run_answer (Ok done)) w w
says_done done w = record { sentence = []; one_line = All-nil (λ (byte : ℕ). byte ≢ 10); said = reports_none w }

-- a fault isn't answered by 0
feed_code : (fault : FeedFault) → (feed_answer fault).code ≢ 0
feed_code NoMemory e = omega arith
feed_code (FeedHead at) e = omega arith
feed_code (Marker at) e = omega arith
feed_code (FeedCut at) e = omega arith
feed_code (SourceFault count) e = omega arith
feed_code (TooLong at) e = omega arith
feed_code (Sample at) e = omega arith
feed_code (UnitLong at) e = omega arith

fault_code : (fault : RunFault) → (run_answer (Err fault)).code ≢ 0
fault_code (Words WantsMemory) e = omega arith
fault_code (Words Faulty) e = omega arith
fault_code (Feed fault) e = feed_code fault e
fault_code (Full items) e = omega arith
fault_code (Refused unit fault) e = let eight = unit_code unit fault in omega (arith, eight, e)
fault_code Memory e = omega arith
fault_code (Sink count) e = omega arith
fault_code (Take fault) e = take_code fault e

-- the messages of a fault are its line, its sentence and what stands behind that
pub says_fault : (fault : RunFault) (first sentence third : List ℕ) (before now : Taken) → IsOneLine sentence
    → first ≡ fault_line (run_answer (Err fault)) ++ codes "ingest_server: " → third ≡ closing (run_answer (Err fault))
    → Reports (first ++ (sentence ++ third)) before now → SaysAnswer (run_answer (Err fault)) before now
says_fault fault first sentence third before now line f t said =
    let status = run_answer (Err fault) in
    let whole : messages_of status sentence ≡ (fault_line status ++ codes "ingest_server: ") ++ (sentence ++ closing status) =
    rw (ne_eqb status.code 0 (fault_code fault)) refl in
    let pieces = ap₂ (λ (xs ys : List ℕ). xs ++ (sentence ++ ys)) f t in
    record {
      sentence = sentence;
      one_line = line;
      said = subst (λ (bytes : List ℕ). Reports bytes before now) (pieces ∙ sym whole) said;
    }

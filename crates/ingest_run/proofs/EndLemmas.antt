-- How a feed ends for `read_unit`, and the causes of the answers.
use Rattle.std.proofs.Common.{◌≡◌, ◌≢◌, ◌≤◌, ◌<◌, ℕ, List, length, Option, Some, None, Err, refl, ap, arith, inl, inr, ◌⊎◌}
use Rattle.std.proofs.lemmas.Bool.{cases_eq}
use Rattle.rec_bytes.specs.Faults.{Rose}
use Rattle.rec_bytes.specs.Configuration.{Fields}
use Rattle.rec_bytes.specs.Ranges.{IsInRange}
use Rattle.rec_bytes.specs.declared.status.Status.{Status}
use Rattle.raw_feed.specs.declared.fault.FeedFault.{FeedFault}
use Rattle.raw_feed.specs.declared.fault.FeedFault.TheVariants.{Memory, FeedHead, Marker, FeedCut, SourceFault, TooLong, Sample, UnitLong}
use Rattle.raw_feed.specs.declared.limits.TheConstants.{MAX_UNIT}
use Rattle.raw_feed.specs.Told.{Told}
use Rattle.raw_feed.specs.Items.{Ending, Broken}
use Rattle.raw_feed.specs.Breaks.{HasFeedCause}
use Rattle.raw_feed.specs.Reading.{IfTold}
use Rattle.run_parts.specs.declared.end.PutFault.{PutFault}
use Rattle.run_parts.specs.declared.end.PutFault.TheVariants.{Memory as NoMemory, Sink}
use Rattle.run_parts.specs.Causes.{Counts, IsEnding, IsUnitAnswer, HasFeedCauses, HasPutCause}
use Rattle.run_parts.specs.Units.{RefusesUnit}
use Rattle.run_parts.specs.Statuses.{feed_answer, ending_answer, unit_answer, end_answer, sink_answer}
use Rattle.run_parts.specs.declared.unit.UnitFault.{UnitFault}
use Rattle.ingest_run.proofs.UnitLemmas.{unit_code}
use Rattle.ingest_run.specs.inner.Steps.{StaysSilent, HasEndCause}
use Rattle.ingest_run.specs.Causes.{HasPictureCauses}

-- what isn't told before isn't told after, where something holds of what is told
pub silent_so : (told now : Option Told) (P : Told → Type 0) → IfTold told now P → StaysSilent told now
silent_so None now P i e = i
silent_so (Some before) now P i e = absurd (cc)

-- the causes of the answer where the count stays
pub cause_kept : (items : ℕ) (ending : Ending) (before now : ℕ) → IsEnding items ending → now ≡ before
    → (ending_answer items ending).code ≢ 5 → (ending_answer items ending).code ≢ 7 → HasEndCause before now (ending_answer items ending)
cause_kept items ending before now is same five seven =
    record { answered = (items, ending, is, refl); source = λ e. absurd (five e); source_kept = λ e. same; no_sink = seven }

-- and where the feed can't be read on
pub cause_fault : (T : Type 0) (before now : ℕ) (fault : FeedFault) → IsEnding 0 (Broken fault) → HasFeedCause {T = T} before now (Err fault) → HasEndCause before now (feed_answer fault)
cause_fault T before now (SourceFault count) is c = record {
  answered = (0, Broken (SourceFault count), is, refl);
  source = λ e. (ap (λ (n : ℕ). feed_answer (SourceFault n)) c.0, c.1);
  source_kept = λ e. absurd (e refl);
  no_sink = λ e. omega arith;
}
cause_fault T before now Memory is c = cause_kept 0 (Broken Memory) before now is c (λ e. omega arith) (λ e. omega arith)
cause_fault T before now (FeedHead at) is c = cause_kept 0 (Broken (FeedHead at)) before now is c (λ e. omega arith) (λ e. omega arith)
cause_fault T before now (Marker at) is c = cause_kept 0 (Broken (Marker at)) before now is c (λ e. omega arith) (λ e. omega arith)
cause_fault T before now (FeedCut at) is c = cause_kept 0 (Broken (FeedCut at)) before now is c (λ e. omega arith) (λ e. omega arith)
cause_fault T before now (TooLong at) is c = cause_kept 0 (Broken (TooLong at)) before now is c (λ e. omega arith) (λ e. omega arith)
cause_fault T before now (Sample at) is c = cause_kept 0 (Broken (Sample at)) before now is c (λ e. omega arith) (λ e. omega arith)
cause_fault T before now (UnitLong at) is c = cause_kept 0 (Broken (UnitLong at)) before now is c (λ e. omega arith) (λ e. omega arith)

-- the causes of the answer where the feed's end was read, and nothing of the sink failed
pub causes_end : (before now : Counts) (status : Status) → HasEndCause before.source now.source status → now.sink ≡ before.sink → HasFeedCauses before now status
causes_end before now status c k = record {
  answered = inl (inl c.answered);
  devices = record {
    source = c.source;
    source_kept = λ e. inl (c.source_kept e);
    sink = λ e. absurd (c.no_sink e);
    sink_kept = λ e. k;
  };
}

-- the causes of the answer for writing that stopped, before the feed's end was read
pub causes_put : (T : Type 0) (before now : Counts) (fault : PutFault) → now.source ≡ before.source → HasPutCause {T = T} before.sink now.sink (Err fault)
    → HasFeedCauses before now (end_answer now.sink (Err fault))
causes_put T before now NoMemory s k = record {
  answered = inl (inl (0, Broken Memory, tt, refl));
  devices = record {
    source = λ five. absurd (omega arith);
    source_kept = λ five. inl s;
    sink = λ seven. absurd (omega arith);
    sink_kept = λ seven. k;
  };
}
causes_put T before now Sink s rose = record {
  answered = inr refl;
  devices = record {
    source = λ five. absurd (omega arith);
    source_kept = λ five. inl s;
    sink = λ seven. (refl, rose);
    sink_kept = λ seven. absurd (seven refl);
  };
}

-- and where the sink failed in the tail, after the source had maybe failed
pub causes_tail : (before now : Counts) (status : Status) → HasEndCause before.source now.source status → Rose before.sink now.sink
    → HasFeedCauses before now (sink_answer now.sink)
causes_tail before now status c rose = record {
  answered = inr refl;
  devices = record {
    source = λ five. absurd (omega arith);
    source_kept = λ five. kept (cases_eq status.code 5);
    sink = λ seven. (refl, rose);
    sink_kept = λ seven. absurd (seven refl);
  };
}
  where
    kept : (status.code ≡ 5) ⊎ (status.code ≢ 5) → (now.source ≡ before.source) ⊎ (((sink_answer now.sink).code ≡ 7) × Rose before.source now.source)
    kept (inl five) = inr (refl, (c.source five).1)
    kept (inr other) = inl (c.source_kept other)

-- the causes of the answer where a unit is refused
pub causes_unit : (before now : Counts) (config : Fields) (bytes : List ℕ) (unit : ℕ) (fault : UnitFault) → now.source ≡ before.source → now.sink ≡ before.sink
    → IsInRange config → unit < config.max_frames → length bytes ≤ MAX_UNIT → RefusesUnit config bytes fault → HasFeedCauses before now (unit_answer unit fault)
causes_unit before now config bytes unit fault s k ranges few size refused =
    let eight = unit_code unit fault in
    let answer : IsUnitAnswer (unit_answer unit fault) =
    record { config = config; bytes = bytes; unit = unit; fault = fault; ranges = ranges; few = few; size = size; refused = refused; answered = refl } in
    record {
      answered = inl (inr answer);
      devices = record {
        source = λ five. absurd (omega arith);
        source_kept = λ five. inl s;
        sink = λ seven. absurd (omega arith);
        sink_kept = λ seven. k;
      };
    }

-- the causes of an answer of `encode` where the feed's end was read, and nothing of the sink failed
pub pictures_end : (before now : Counts) (status : Status) → HasEndCause before.source now.source status → now.sink ≡ before.sink → HasPictureCauses before now status
pictures_end before now status c k = record { answered = inl c.answered; devices = (causes_end before now status c k).devices }

-- for writing that stopped, before the feed's end was read
pub pictures_put : (T : Type 0) (before now : Counts) (fault : PutFault) → now.source ≡ before.source → HasPutCause {T = T} before.sink now.sink (Err fault)
    → HasPictureCauses before now (end_answer now.sink (Err fault))
pictures_put T before now NoMemory s k = record { answered = inl (0, Broken Memory, tt, refl); devices = (causes_put T before now NoMemory s k).devices }
pictures_put T before now Sink s rose = record { answered = inr refl; devices = (causes_put T before now Sink s rose).devices }

-- and where the sink failed in the tail
pub pictures_tail : (before now : Counts) (status : Status) → HasEndCause before.source now.source status → Rose before.sink now.sink
    → HasPictureCauses before now (sink_answer now.sink)
pictures_tail before now status c rose = record { answered = inr refl; devices = (causes_tail before now status c rose).devices }

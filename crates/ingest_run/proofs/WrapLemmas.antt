-- What `wrap` makes of a feed's units, and its exits where one is refused.
use Rattle.std.proofs.Common.{◌≡◌, ℕ, List, [], ◌∷◌, ◌++◌, length, All, Option, Ok, Err, refl, sym, ap, ◌∙◌, subst, append_assoc, inl, inr}
use Rattle.std.proofs.lemmas.List.Elements.{All-nil, All-cons}
use Rattle.std.specs.List.{AllZip}
use Rattle.rec_bytes.specs.Configuration.{Fields}
use Rattle.rec_bytes.specs.declared.status.Status.{Status}
use Rattle.raw_feed.specs.declared.kind.Kind.TheVariants.{Units}
use Rattle.raw_feed.specs.declared.fault.FeedFault.TheVariants.{Memory}
use Rattle.raw_feed.specs.Told.{Told}
use Rattle.raw_feed.specs.Written.{Writes}
use Rattle.raw_feed.specs.Items.{Broken}
use Rattle.raw_feed.specs.Reading.{Reading, IfTold}
use Rattle.take_layout.specs.declared.layout.TakeLayout.{Ghosts}
use Rattle.take_layout.specs.declared.place.Place.{Place}
use Rattle.run_parts.specs.Statuses.{unit_answer}
use Rattle.run_parts.specs.Units.{IsRead, RefusesUnit}
use Rattle.run_parts.specs.declared.unit.UnitFault.{UnitFault}
use Rattle.ingest_run.specs.Paces.{IsPassedOn, KeepsPace}
use Rattle.run_parts.specs.Gains.{Gains}
use Rattle.ingest_run.specs.Runs.{Wraps, Outside, RunsOver, Runs}
use Rattle.ingest_run.specs.inner.Steps.{StaysSilent, ReadsUnit}
use Rattle.ingest_run.proofs.GainLemmas.{Gains-more, Gains-front}
use Rattle.ingest_run.proofs.RunLemmas.{FeedsAreOne, IsStop, AllButLast, SaysSo, over-told, but_last}
use Rattle.ingest_run.proofs.ExitLemmas.{GrowsSo, StartsSo, StopsSo, Rests, Passed, IsStopped, stopped-at}
use Rattle.ingest_run.proofs.RefusedLemmas.{runs_refused, runs_refused_stopped}

-- frames that are the units are just these
pub same_units : (config : Fields) (units frames : List (List ℕ)) → AllZip (IsPassedOn config) units frames → frames ≡ units
same_units config [] [] h = refl
same_units config [] (frame ∷ frames) h = absurd h
same_units config (unit ∷ units) [] h = absurd h
same_units config (unit ∷ units) (frame ∷ frames) h = ap (λ (f : List ℕ). f ∷ frames) h.0.0 ∙ ap (λ (fs : List (List ℕ)). unit ∷ fs) (same_units config units frames h.1)

-- and each of them is read
pub all_read : (config : Fields) (units frames : List (List ℕ)) → AllZip (IsPassedOn config) units frames → All (IsRead config) units
all_read config [] [] h = All-nil (IsRead config)
all_read config [] (frame ∷ frames) h = absurd h
all_read config (unit ∷ units) [] h = absurd h
all_read config (unit ∷ units) (frame ∷ frames) h = All-cons (IsRead config) unit units h.0.1 (all_read config units frames h.1)

-- what `wrap` says
pub wrap_says : (closed : Fields → List (List ℕ) → List ℕ) → SaysSo Units IsPassedOn closed (Wraps closed)
wrap_says closed = record {
  whole = λ bytes config units frames ending feed zip. inl (inl (record {
    config = config;
    units = units;
    ending = ending;
    feed = feed;
    read = all_read config units frames zip;
    file = ap (closed config) (same_units config units frames zip);
    answered = refl;
  }));
  head = λ bytes ending head. inr (record { ending = ending; feed = head; nothing = refl; answered = refl });
}

-- what `wrap` rests on
pub wrapping : {T : Type 0} (layout : Ghosts T) → GrowsSo layout → FeedsAreOne → StartsSo → StopsSo → Rests layout Units IsPassedOn (Wraps layout.closed)
wrapping layout laws one starts stops = record { laws = laws; says = wrap_says layout.closed; one = one; starts = starts; stops = stops }

module _ {T : Type 0} {layout : Ghosts T} (rests : Rests layout Units IsPassedOn (Wraps layout.closed)) where
  -- a unit was refused, and the tail of the file of those before it was written
  pub exit_refused_unit : (E : Type 0) (cfg : Fields) (reading new : Reading) (places : List Place) (mid : Option Told) (w : Option (List ℕ)) (unit : List ℕ) (fault : UnitFault) (number : ℕ) (before now : Outside)
      → reading.kind ≡ Units → cfg ≡ reading.config
      → IfTold before.told mid (λ told. Passed layout IsPassedOn reading places told mid before.written w) → StaysSilent mid now.told → ReadsUnit reading new mid now.told unit
      → RefusesUnit cfg unit fault → number ≡ reading.count
      → ((frames : List (List ℕ)) → places ≡ layout.places_of cfg frames → Writes {E = E} w now.written (Ok tt) (layout.tail cfg frames))
      → Runs (Wraps layout.closed) (KeepsPace Units IsPassedOn layout.growing) before now (unit_answer number fault)
  exit_refused_unit E cfg reading new places mid w unit fault number before now kind_is is p silent reads refused number_is wrote =
      let status = unit_answer number fault in
      over-told before.told mid now.told (λ told. Passed layout IsPassedOn reading places told mid before.written w) (λ told. RunsOver (Wraps layout.closed) (KeepsPace Units IsPassedOn layout.growing) told before now status) p silent (λ told p.
      let equal : p.frames ≡ p.units = same_units reading.config p.units p.frames p.become in
      let lie = p.lie ∙ ap (λ (c : Fields). layout.places_of c p.frames) (sym is) ∙ ap (layout.places_of cfg) equal in
      let same : new.config ≡ cfg = reads.config ∙ sym is in
      let units = p.units ++ unit ∷ [] in
      let become : AllZip (IsPassedOn cfg) p.units p.units =
      subst (λ (c : Fields). AllZip (IsPassedOn c) p.units p.units) (sym is) (subst (λ (fs : List (List ℕ)). AllZip (IsPassedOn reading.config) p.units fs) equal p.become) in
      let gains : Gains before.written w (layout.growing cfg p.units) =
      subst (λ (fs : List (List ℕ)). Gains before.written w (layout.growing cfg fs)) equal (subst (λ (c : Fields). Gains before.written w (layout.growing c p.frames)) (sym is) p.wrote) in
      let closes = sym (rests.laws.closes cfg p.units) in
      let stopped : IsStopped Units cfg units told now.told =
      subst (λ (c : Fields). IsStopped Units c units told now.told) same (stopped-at rests.one rests.stops Units new units told now.told (reads.kind ∙ kind_is) reads.stage (reads.grows p.units told p.has)) in
      let counted : length p.units ≡ number = sym (number_is ∙ p.has.counted) in
      subst (λ (n : ℕ). RunsOver (Wraps layout.closed) (KeepsPace Units IsPassedOn layout.growing) told before now (unit_answer n fault)) counted
      (runs_refused layout.growing layout.closed cfg p.units unit fault (Broken Memory) told before now rests.one stopped.0 stopped.1 (all_read cfg p.units p.units become) refused
      (subst (λ (xs : List ℕ). Gains before.written now.written xs) closes (Gains-more E before.written w now.written (layout.growing cfg p.units) (layout.tail cfg p.units) gains (wrote p.units lie)))
      (subst (λ (xs : List ℕ). AllButLast IsPassedOn layout.growing cfg units xs) closes (but_last IsPassedOn layout.growing cfg p.units p.units unit (layout.tail cfg p.units) become))))

  -- a unit was refused, and the sink failed inside the tail
  pub exit_refused_tail : (E : Type 0) (cfg : Fields) (reading new : Reading) (places : List Place) (mid : Option Told) (w : Option (List ℕ)) (unit : List ℕ) (fault : UnitFault) (e : E) (before now : Outside) (status : Status)
      → reading.kind ≡ Units → cfg ≡ reading.config
      → IfTold before.told mid (λ told. Passed layout IsPassedOn reading places told mid before.written w) → StaysSilent mid now.told → ReadsUnit reading new mid now.told unit
      → RefusesUnit cfg unit fault
      → ((frames : List (List ℕ)) → places ≡ layout.places_of cfg frames → Writes w now.written (Err e) (layout.tail cfg frames)) → IsStop status
      → Runs (Wraps layout.closed) (KeepsPace Units IsPassedOn layout.growing) before now status
  exit_refused_tail E cfg reading new places mid w unit fault e before now status kind_is is p silent reads refused wrote stop =
      over-told before.told mid now.told (λ told. Passed layout IsPassedOn reading places told mid before.written w) (λ told. RunsOver (Wraps layout.closed) (KeepsPace Units IsPassedOn layout.growing) told before now status) p silent (λ told p.
      let equal : p.frames ≡ p.units = same_units reading.config p.units p.frames p.become in
      let lie = p.lie ∙ ap (λ (c : Fields). layout.places_of c p.frames) (sym is) ∙ ap (layout.places_of cfg) equal in
      let same : new.config ≡ cfg = reads.config ∙ sym is in
      let units = p.units ++ unit ∷ [] in
      let become : AllZip (IsPassedOn cfg) p.units p.units =
      subst (λ (c : Fields). AllZip (IsPassedOn c) p.units p.units) (sym is) (subst (λ (fs : List (List ℕ)). AllZip (IsPassedOn reading.config) p.units fs) equal p.become) in
      let gains : Gains before.written w (layout.growing cfg p.units) =
      subst (λ (fs : List (List ℕ)). Gains before.written w (layout.growing cfg fs)) equal (subst (λ (c : Fields). Gains before.written w (layout.growing c p.frames)) (sym is) p.wrote) in
      let piece = Gains-front before.written w now.written e (layout.growing cfg p.units) (layout.tail cfg p.units) gains (wrote p.units lie) in
      let whole : layout.closed cfg p.units ≡ (layout.growing cfg p.units ++ piece.0) ++ piece.1 =
      rests.laws.closes cfg p.units ∙ (ap (λ (xs : List ℕ). layout.growing cfg p.units ++ xs) piece.2 ∙ sym (append_assoc (layout.growing cfg p.units) piece.0 piece.1)) in
      let stopped : IsStopped Units cfg units told now.told =
      subst (λ (c : Fields). IsStopped Units c units told now.told) same (stopped-at rests.one rests.stops Units new units told now.told (reads.kind ∙ kind_is) reads.stage (reads.grows p.units told p.has)) in
      runs_refused_stopped layout.growing layout.closed cfg p.units unit fault (Broken Memory) told before now status rests.one stopped.0 stopped.1 (all_read cfg p.units p.units become) refused
      (record {
        written = layout.growing cfg p.units ++ piece.0;
        missing = piece.1;
        gains = piece.3;
        front = whole;
        begun = but_last IsPassedOn layout.growing cfg p.units p.units unit piece.0 become;
        cut = λ seven. piece.4;
      }) stop)

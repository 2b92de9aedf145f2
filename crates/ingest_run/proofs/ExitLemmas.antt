-- What the loop of a command that reads a feed keeps, and what its exits say, over a source that tells its bytes or doesn't.
use Rattle.std.proofs.Common.{◌≡◌, ℕ, List, [], ◌∷◌, ◌++◌, length, Option, Some, None, Ok, Err, refl, sym, ap, ◌∙◌, subst, append_assoc, inl, inr, arith}
use Rattle.std.proofs.lemmas.List.{append-nil}
use Rattle.std.proofs.lemmas.List.Elements.{AllZip-push}
use Rattle.std.specs.List.{AllZip}
use Rattle.rec_bytes.specs.Configuration.{Fields}
use Rattle.rec_bytes.specs.declared.status.Status.{Status}
use Rattle.raw_feed.specs.declared.kind.Kind.{Kind}
use Rattle.raw_feed.specs.declared.fault.FeedFault.{FeedFault}
use Rattle.raw_feed.specs.declared.fault.FeedFault.TheVariants.{Memory}
use Rattle.raw_feed.specs.declared.stage.Stage.TheVariants.{Open}
use Rattle.raw_feed.specs.Told.{Told}
use Rattle.raw_feed.specs.Written.{Writes}
use Rattle.raw_feed.specs.Items.{Ending, Clean, Broken}
use Rattle.raw_feed.specs.Breaks.{IsBreak, BreaksHead}
use Rattle.raw_feed.specs.HasRead.{HasRead, EndsFeed}
use Rattle.raw_feed.specs.Reading.{Reading, IfTold, ReadsHead}
use Rattle.take_layout.specs.declared.layout.TakeLayout.{Ghosts}
use Rattle.take_layout.specs.declared.place.Place.{Place}
use Rattle.run_parts.specs.declared.end.PutFault.{PutFault}
use Rattle.run_parts.specs.declared.end.PutFault.TheVariants.{Memory as NoMemory, Sink}
use Rattle.run_parts.specs.Causes.{Puts}
use Rattle.run_parts.specs.Statuses.{feed_answer, ending_answer, end_answer}
use Rattle.ingest_run.specs.Paces.{KeepsPace}
use Rattle.run_parts.specs.Gains.{Gains}
use Rattle.ingest_run.specs.Runs.{Outside, RunsOver, Runs}
use Rattle.ingest_run.specs.inner.Steps.{StaysSilent, ReadsUnit, EndsReading}
use Rattle.ingest_run.proofs.GainLemmas.{Gains-nil, Gains-first, Gains-first_front, Gains-more, Gains-front, Gains-put, Lacks-more}
use Rattle.ingest_run.proofs.RunLemmas.{FeedsAreOne, IsStop, AllButLast, SaysSo, over-told, but_none, but_whole, but_last, runs_head, runs_stopped, runs_closed, stopped-clean}

-- the laws of a layout that the loop rests on
pub record GrowsSo {T : Type 0} (layout : Ghosts T) : Type 0 where
  pub starts : (cfg : Fields) → layout.growing cfg [] ≡ layout.head cfg
  pub grows : (cfg : Fields) (units : List (List ℕ)) (unit : List ℕ)
      → layout.growing cfg (units ++ unit ∷ []) ≡ layout.growing cfg units ++ (layout.lead cfg units (length unit) ++ unit)
  pub closes : (cfg : Fields) (units : List (List ℕ)) → layout.closed cfg units ≡ layout.growing cfg units ++ layout.tail cfg units
  pub no_places : (cfg : Fields) → layout.places_of cfg [] ≡ []

-- where a reader stops for no reason that stands in the bytes
abbrev pub StopsSo : Type 0
StopsSo = (reading : Reading) (units : List (List ℕ)) (before : Told) (now : Option Told) (fault : FeedFault)
    → HasRead reading units before now → reading.stage ≡ Open → (IsBreak fault → ⊥) → EndsFeed reading.kind reading.config units (Broken fault) before now

-- the head was read
abbrev pub StartsSo : Type 0
StartsSo = (kind : Kind) (new : Reading) (before : Told) (now : Option Told) → ReadsHead kind new (Some before) now → HasRead new [] before now

-- what a command rests on that makes frames of the units of a feed of this kind, and puts them into a layout's file
pub record Rests {T : Type 0} (layout : Ghosts T) (kind : Kind) (Becomes : Fields → List ℕ → List ℕ → Type 0) (Said : List ℕ → List ℕ → Status → Type 0) : Type 0 where
  pub laws : GrowsSo layout
  pub says : SaysSo kind Becomes layout.closed Said
  pub one : FeedsAreOne
  pub starts : StartsSo
  pub stops : StopsSo

-- the growing file of the frames of the units that were read was written
pub record Passed {T : Type 0} (layout : Ghosts T) (Becomes : Fields → List ℕ → List ℕ → Type 0) (reading : Reading) (places : List Place) (before : Told) (now : Option Told) (old new : Option (List ℕ)) : Type 0 where
  pub units : List (List ℕ)
  pub frames : List (List ℕ)
  pub has : HasRead reading units before now
  pub become : AllZip (Becomes reading.config) units frames
  pub lie : places ≡ layout.places_of reading.config frames
  pub wrote : Gains old new (layout.growing reading.config frames)

-- the bytes given so far are a feed of these units that stopped, and end cleanly
abbrev pub IsStopped : Kind → Fields → List (List ℕ) → Told → Option Told → Type 0
IsStopped kind config units told now = (e : EndsFeed kind config units (Broken Memory) told now) × (e.ending ≡ Clean)

-- the bytes given so far stop a feed of these units
pub stopped-at : FeedsAreOne → StopsSo → (kind : Kind) (reading : Reading) (units : List (List ℕ)) (told : Told) (now : Option Told) → reading.kind ≡ kind → reading.stage ≡ Open → HasRead reading units told now
    → IsStopped kind reading.config units told now
stopped-at one stops kind reading units told now is open_is has =
    let ended = stops reading units told now Memory has open_is (λ shown. shown) in
    subst (λ (k : Kind). IsStopped k reading.config units told now) is (ended, stopped-clean reading units told now (Broken Memory) one open_is has ended)

-- writing that stopped is answered as a stop
is_stop_put : (count : ℕ) (fault : PutFault) → IsStop (end_answer count (Err fault))
is_stop_put count NoMemory = inl refl
is_stop_put count Sink = inr refl

-- and by 7 only where the sink failed
is_sink : (count : ℕ) (fault : PutFault) → (end_answer count (Err fault)).code ≡ 7 → fault ≡ Sink
is_sink count NoMemory seven = absurd (omega arith)
is_sink count Sink seven = refl

module _ {T : Type 0} {layout : Ghosts T} {kind : Kind} {Becomes : Fields → List ℕ → List ℕ → Type 0} {Said : List ℕ → List ℕ → Status → Type 0} (rests : Rests layout kind Becomes Said) where
  -- the head was read
  pub on_head : (reading : Reading) (told now : Option Told) → ReadsHead kind reading told now → IfTold told now (λ before. HasRead reading [] before now)
  on_head reading None now reads = reads.1
  on_head reading (Some before) now reads = rests.starts kind reading before now reads

  -- and the file's head was written
  pub on_start : (E : Type 0) (cfg : Fields) (reading : Reading) (places : List Place) (told now : Option Told) (w w' : Option (List ℕ))
      → cfg ≡ reading.config → places ≡ [] → IfTold told now (λ before. HasRead reading [] before now) → Writes {E = E} w w' (Ok tt) (layout.head cfg)
      → IfTold told now (λ before. Passed layout Becomes reading places before now w w')
  on_start E cfg reading places told now w w' is none has wrote =
      over-told told now now (λ before. HasRead reading [] before now) (λ before. Passed layout Becomes reading places before now w w') has (λ e. e) (λ before h. record {
        units = [];
        frames = [];
        has = h;
        become = tt;
        lie = none ∙ sym (rests.laws.no_places reading.config);
        wrote = subst (λ (xs : List ℕ). Gains w w' xs) (ap layout.head is ∙ sym (rests.laws.starts reading.config)) (Gains-first E w w' (layout.head cfg) wrote);
      })

  -- a unit was read, and its frame was written behind its lead
  pub on_unit : (E : Type 0) (cfg : Fields) (reading new : Reading) (places places' : List Place) (told mid now : Option Told) (old w w' : Option (List ℕ)) (unit frame : List ℕ)
      → cfg ≡ reading.config → IfTold told mid (λ before. Passed layout Becomes reading places before mid old w)
      → StaysSilent mid now → ReadsUnit reading new mid now unit → Becomes cfg unit frame
      → ((frames : List (List ℕ)) → places ≡ layout.places_of cfg frames → places' ≡ layout.places_of cfg (frames ++ frame ∷ []))
      → ((frames : List (List ℕ)) → places ≡ layout.places_of cfg frames → Writes {E = E} w w' (Ok tt) (layout.lead cfg frames (length frame) ++ frame))
      → IfTold told now (λ before. Passed layout Becomes new places' before now old w')
  on_unit E cfg reading new places places' told mid now old w w' unit frame is p silent reads becomes placed wrote =
      over-told told mid now (λ before. Passed layout Becomes reading places before mid old w) (λ before. Passed layout Becomes new places' before now old w') p silent (λ before p.
      let lie = p.lie ∙ ap (λ (c : Fields). layout.places_of c p.frames) (sym is) in
      let same : new.config ≡ cfg = reads.config ∙ sym is in
      let frames = p.frames ++ frame ∷ [] in
      let units = p.units ++ unit ∷ [] in
      let gains : Gains old w (layout.growing cfg p.frames) = subst (λ (c : Fields). Gains old w (layout.growing c p.frames)) (sym is) p.wrote in
      record {
        units = units;
        frames = frames;
        has = reads.grows p.units before p.has;
        become = subst (λ (c : Fields). AllZip (Becomes c) units frames) (sym reads.config)
            (AllZip-push (Becomes reading.config) p.units p.frames unit frame p.become (subst (λ (c : Fields). Becomes c unit frame) is becomes));
        lie = placed p.frames lie ∙ ap (λ (c : Fields). layout.places_of c frames) (sym same);
        wrote = subst (λ (c : Fields). Gains old w' (layout.growing c frames)) (sym same)
            (subst (λ (xs : List ℕ). Gains old w' xs) (sym (rests.laws.grows cfg p.frames frame)) (Gains-more E old w w' (layout.growing cfg p.frames) (layout.lead cfg p.frames (length frame) ++ frame) gains (wrote p.frames lie)));
      })

  -- the head was refused
  pub exit_refused : (fault : FeedFault) (before now : Outside) → now.written ≡ before.written
      → IfTold before.told now.told (λ told. BreaksHead kind told now.told fault) → Runs Said (KeepsPace kind Becomes layout.growing) before now (feed_answer fault)
  exit_refused fault before now same b =
      over-told before.told now.told now.told (λ told. BreaksHead kind told now.told fault) (λ told. RunsOver Said (KeepsPace kind Becomes layout.growing) told before now (feed_answer fault)) b (λ e. e)
      (λ told h. runs_head kind Becomes Said layout.growing layout.closed fault told before now rests.says rests.one same h)

  -- nothing was written behind the feed's head
  pub exit_none : (reading : Reading) (before now : Outside) (status : Status) → reading.kind ≡ kind → reading.stage ≡ Open → now.written ≡ before.written
      → IfTold before.told now.told (λ told. HasRead reading [] told now.told) → status.code ≡ 1 → Runs Said (KeepsPace kind Becomes layout.growing) before now status
  exit_none reading before now status kind_is open_is same has first =
      over-told before.told now.told now.told (λ told. HasRead reading [] told now.told) (λ told. RunsOver Said (KeepsPace kind Becomes layout.growing) told before now status) has (λ e. e)
      (λ told h.
      let stopped = stopped-at rests.one rests.stops kind reading [] told now.told kind_is open_is h in
      runs_stopped kind Becomes Said layout.growing layout.closed reading.config [] [] (Broken Memory) told before now status rests.says rests.one stopped.0 tt
      (record {
        written = [];
        missing = layout.closed reading.config [];
        gains = subst (λ (w : Option (List ℕ)). Gains before.written w []) (sym same) (Gains-nil before.written);
        front = refl;
        begun = but_none Becomes layout.growing reading.config [];
        ahead = λ unclean. absurd (unclean stopped.1);
        cut = λ seven. absurd (omega arith);
      }) (inl first))

  -- the sink failed inside the file's head
  pub exit_file_head : (E : Type 0) (cfg : Fields) (reading : Reading) (e : E) (before now : Outside) (status : Status)
      → reading.kind ≡ kind → reading.stage ≡ Open → cfg ≡ reading.config
      → IfTold before.told now.told (λ told. HasRead reading [] told now.told) → Writes before.written now.written (Err e) (layout.head cfg) → IsStop status
      → Runs Said (KeepsPace kind Becomes layout.growing) before now status
  exit_file_head E cfg reading e before now status kind_is open_is is has wrote stop =
      let piece = Gains-first_front before.written now.written e (layout.head cfg) wrote in
      let c = reading.config in
      let whole : layout.closed c [] ≡ piece.0 ++ (piece.1 ++ layout.tail c []) =
      rests.laws.closes c [] ∙ (ap (λ (xs : List ℕ). xs ++ layout.tail c []) (rests.laws.starts c ∙ (ap layout.head (sym is) ∙ piece.2)) ∙ append_assoc piece.0 piece.1 (layout.tail c [])) in
      over-told before.told now.told now.told (λ told. HasRead reading [] told now.told) (λ told. RunsOver Said (KeepsPace kind Becomes layout.growing) told before now status) has (λ e. e)
      (λ told h.
      let stopped = stopped-at rests.one rests.stops kind reading [] told now.told kind_is open_is h in
      runs_stopped kind Becomes Said layout.growing layout.closed c [] [] (Broken Memory) told before now status rests.says rests.one stopped.0 tt
      (record {
        written = piece.0;
        missing = piece.1 ++ layout.tail c [];
        gains = piece.3;
        front = whole;
        begun = but_none Becomes layout.growing c piece.0;
        ahead = λ unclean. absurd (unclean stopped.1);
        cut = λ seven. Lacks-more before.written piece.1 (layout.tail c []) piece.4;
      }) stop)

  -- writing stopped inside the lead of the frame of a unit that was read, or inside the frame
  pub exit_unit : (cfg : Fields) (reading new : Reading) (places : List Place) (mid : Option Told) (w : Option (List ℕ)) (unit frame : List ℕ) (e : PutFault) (before now : Outside) (count : ℕ)
      → reading.kind ≡ kind → cfg ≡ reading.config
      → IfTold before.told mid (λ told. Passed layout Becomes reading places told mid before.written w) → StaysSilent mid now.told → ReadsUnit reading new mid now.told unit → Becomes cfg unit frame
      → ((frames : List (List ℕ)) → places ≡ layout.places_of cfg frames → Puts w now.written (Err e) (layout.lead cfg frames (length frame) ++ frame))
      → Runs Said (KeepsPace kind Becomes layout.growing) before now (end_answer count (Err e))
  exit_unit cfg reading new places mid w unit frame e before now count kind_is is p silent reads becomes wrote =
      let status = end_answer count (Err e) in
      over-told before.told mid now.told (λ told. Passed layout Becomes reading places told mid before.written w) (λ told. RunsOver Said (KeepsPace kind Becomes layout.growing) told before now status) p silent (λ told p.
      let lie = p.lie ∙ ap (λ (c : Fields). layout.places_of c p.frames) (sym is) in
      let same : new.config ≡ cfg = reads.config ∙ sym is in
      let units = p.units ++ unit ∷ [] in
      let frames = p.frames ++ frame ∷ [] in
      let become : AllZip (Becomes cfg) p.units p.frames = subst (λ (c : Fields). AllZip (Becomes c) p.units p.frames) (sym is) p.become in
      let gains : Gains before.written w (layout.growing cfg p.frames) = subst (λ (c : Fields). Gains before.written w (layout.growing c p.frames)) (sym is) p.wrote in
      let piece = Gains-put before.written w now.written e (layout.growing cfg p.frames) (layout.lead cfg p.frames (length frame) ++ frame) gains (wrote p.frames lie) in
      let grown : layout.growing cfg frames ≡ (layout.growing cfg p.frames ++ piece.0) ++ piece.1 =
      rests.laws.grows cfg p.frames frame ∙ (ap (λ (xs : List ℕ). layout.growing cfg p.frames ++ xs) piece.2 ∙ sym (append_assoc (layout.growing cfg p.frames) piece.0 piece.1)) in
      let whole : layout.closed cfg frames ≡ (layout.growing cfg p.frames ++ piece.0) ++ (piece.1 ++ layout.tail cfg frames) =
      rests.laws.closes cfg frames ∙ (ap (λ (xs : List ℕ). xs ++ layout.tail cfg frames) grown ∙ append_assoc (layout.growing cfg p.frames ++ piece.0) piece.1 (layout.tail cfg frames)) in
      let stopped : IsStopped kind cfg units told now.told =
      subst (λ (c : Fields). IsStopped kind c units told now.told) same (stopped-at rests.one rests.stops kind new units told now.told (reads.kind ∙ kind_is) reads.stage (reads.grows p.units told p.has)) in
      runs_stopped kind Becomes Said layout.growing layout.closed cfg units frames (Broken Memory) told before now status rests.says rests.one stopped.0
      (AllZip-push (Becomes cfg) p.units p.frames unit frame become becomes)
      (record {
        written = layout.growing cfg p.frames ++ piece.0;
        missing = piece.1 ++ layout.tail cfg frames;
        gains = piece.3;
        front = whole;
        begun = but_last Becomes layout.growing cfg p.units p.frames unit piece.0 become;
        ahead = λ unclean. absurd (unclean stopped.1);
        cut = λ seven. Lacks-more before.written piece.1 (layout.tail cfg frames) (piece.4 (is_sink count e seven));
      }) (is_stop_put count e))

  -- memory for the next unit was wanted
  pub exit_memory : (reading : Reading) (places : List Place) (mid : Option Told) (before now : Outside) (answered status : Status) (ending : Ending)
      → reading.kind ≡ kind
      → IfTold before.told mid (λ told. Passed layout Becomes reading places told mid before.written now.written) → StaysSilent mid now.told → EndsReading reading mid now.told answered ending → status.code ≡ 1
      → Runs Said (KeepsPace kind Becomes layout.growing) before now status
  exit_memory reading places mid before now answered status ending kind_is p silent ends first =
      over-told before.told mid now.told (λ told. Passed layout Becomes reading places told mid before.written now.written) (λ told. RunsOver Said (KeepsPace kind Becomes layout.growing) told before now status) p silent (λ told p.
      let c = reading.config in
      let same = sym (append-nil (layout.growing c p.frames)) in
      runs_stopped kind Becomes Said layout.growing layout.closed c p.units p.frames ending told before now status rests.says rests.one
      (subst (λ (k : Kind). EndsFeed k c p.units ending told now.told) kind_is (ends.ends p.units told p.has)) p.become
      (record {
        written = layout.growing c p.frames ++ [];
        missing = layout.tail c p.frames;
        gains = subst (λ (xs : List ℕ). Gains before.written now.written xs) same p.wrote;
        front = rests.laws.closes c p.frames ∙ ap (λ (xs : List ℕ). xs ++ layout.tail c p.frames) same;
        begun = but_whole Becomes layout.growing c layout.lead p.units p.frames [] rests.laws.grows p.become;
        ahead = λ unclean. record { frames = p.frames; become = p.become; rest = []; file = refl };
        cut = λ seven. absurd (omega arith);
      }) (inl first))

  -- the feed ended, and the sink failed inside the tail
  pub exit_tail : (E : Type 0) (cfg : Fields) (reading : Reading) (places : List Place) (mid : Option Told) (w : Option (List ℕ)) (e : E) (before now : Outside) (answered status : Status) (ending : Ending)
      → reading.kind ≡ kind → cfg ≡ reading.config
      → IfTold before.told mid (λ told. Passed layout Becomes reading places told mid before.written w) → StaysSilent mid now.told → EndsReading reading mid now.told answered ending
      → ((frames : List (List ℕ)) → places ≡ layout.places_of cfg frames → Writes w now.written (Err e) (layout.tail cfg frames)) → IsStop status
      → Runs Said (KeepsPace kind Becomes layout.growing) before now status
  exit_tail E cfg reading places mid w e before now answered status ending kind_is is p silent ends wrote stop =
      over-told before.told mid now.told (λ told. Passed layout Becomes reading places told mid before.written w) (λ told. RunsOver Said (KeepsPace kind Becomes layout.growing) told before now status) p silent (λ told p.
      let lie = p.lie ∙ ap (λ (c : Fields). layout.places_of c p.frames) (sym is) in
      let become : AllZip (Becomes cfg) p.units p.frames = subst (λ (c : Fields). AllZip (Becomes c) p.units p.frames) (sym is) p.become in
      let gains : Gains before.written w (layout.growing cfg p.frames) = subst (λ (c : Fields). Gains before.written w (layout.growing c p.frames)) (sym is) p.wrote in
      let piece = Gains-front before.written w now.written e (layout.growing cfg p.frames) (layout.tail cfg p.frames) gains (wrote p.frames lie) in
      let whole : layout.closed cfg p.frames ≡ (layout.growing cfg p.frames ++ piece.0) ++ piece.1 =
      rests.laws.closes cfg p.frames ∙ (ap (λ (xs : List ℕ). layout.growing cfg p.frames ++ xs) piece.2 ∙ sym (append_assoc (layout.growing cfg p.frames) piece.0 piece.1)) in
      let ended : EndsFeed kind cfg p.units ending told now.told =
      subst (λ (c : Fields). EndsFeed kind c p.units ending told now.told) (sym is) (subst (λ (k : Kind). EndsFeed k reading.config p.units ending told now.told) kind_is (ends.ends p.units told p.has)) in
      runs_stopped kind Becomes Said layout.growing layout.closed cfg p.units p.frames ending told before now status rests.says rests.one ended become
      (record {
        written = layout.growing cfg p.frames ++ piece.0;
        missing = piece.1;
        gains = piece.3;
        front = whole;
        begun = but_whole Becomes layout.growing cfg layout.lead p.units p.frames piece.0 rests.laws.grows become;
        ahead = λ unclean. record { frames = p.frames; become = become; rest = piece.0; file = refl };
        cut = λ seven. piece.4;
      }) stop)

  -- the feed ended, and the tail was written
  pub exit_closed : (E : Type 0) (cfg : Fields) (reading : Reading) (places : List Place) (mid : Option Told) (w : Option (List ℕ)) (before now : Outside) (status : Status) (ending : Ending)
      → reading.kind ≡ kind → cfg ≡ reading.config
      → IfTold before.told mid (λ told. Passed layout Becomes reading places told mid before.written w) → StaysSilent mid now.told → EndsReading reading mid now.told status ending
      → ((frames : List (List ℕ)) → places ≡ layout.places_of cfg frames → Writes {E = E} w now.written (Ok tt) (layout.tail cfg frames))
      → Runs Said (KeepsPace kind Becomes layout.growing) before now status
  exit_closed E cfg reading places mid w before now status ending kind_is is p silent ends wrote =
      over-told before.told mid now.told (λ told. Passed layout Becomes reading places told mid before.written w) (λ told. RunsOver Said (KeepsPace kind Becomes layout.growing) told before now status) p silent (λ told p.
      let lie = p.lie ∙ ap (λ (c : Fields). layout.places_of c p.frames) (sym is) in
      let become : AllZip (Becomes cfg) p.units p.frames = subst (λ (c : Fields). AllZip (Becomes c) p.units p.frames) (sym is) p.become in
      let gains : Gains before.written w (layout.growing cfg p.frames) = subst (λ (c : Fields). Gains before.written w (layout.growing c p.frames)) (sym is) p.wrote in
      let closes = sym (rests.laws.closes cfg p.frames) in
      let ended : EndsFeed kind cfg p.units ending told now.told =
      subst (λ (c : Fields). EndsFeed kind c p.units ending told now.told) (sym is) (subst (λ (k : Kind). EndsFeed k reading.config p.units ending told now.told) kind_is (ends.ends p.units told p.has)) in
      let status_is : ending_answer (length p.units) ending ≡ status = sym (ends.answered ∙ ap (λ (n : ℕ). ending_answer n ending) p.has.counted) in
      subst (λ (s : Status). RunsOver Said (KeepsPace kind Becomes layout.growing) told before now s) status_is
      (runs_closed kind Becomes Said layout.growing layout.closed cfg p.units p.frames ending told before now rests.says rests.one ended become
      (subst (λ (xs : List ℕ). Gains before.written now.written xs) closes (Gains-more E before.written w now.written (layout.growing cfg p.frames) (layout.tail cfg p.frames) gains (wrote p.frames lie)))
      (subst (λ (xs : List ℕ). AllButLast Becomes layout.growing cfg p.units xs) closes (but_whole Becomes layout.growing cfg layout.lead p.units p.frames (layout.tail cfg p.frames) rests.laws.grows become))
      (record { frames = p.frames; become = become; rest = layout.tail cfg p.frames; file = rests.laws.closes cfg p.frames })))

-- What each exit of a command that reads a feed says over a source that tells its bytes.
use Rattle.std.proofs.Common.{◌≡◌, ◌≢◌, ℕ, ◌+◌, List, [], ◌∷◌, ◌++◌, length, take, Option, Some, None, refl, sym, ap, ◌∙◌, subst, append_assoc, inl, inr, ◌⊎◌, ⊎_elim, ◌<◌, ◌≤◌, arith}
use Rattle.std.proofs.lemmas.Bool.{cases_lt}
use Rattle.std.proofs.lemmas.List.{append-nil, append_cancel_left, length-append, same_from_push}
use Rattle.std.proofs.lemmas.List.Elements.{All-nil}
use Rattle.std.specs.List.{AllZip, flat_map}
use Rattle.rec_bytes.specs.Configuration.{Fields}
use Rattle.rec_bytes.specs.declared.status.Status.{Status}
use Rattle.raw_feed.specs.declared.head.TheConstants.{FEED_HEAD_LEN}
use Rattle.raw_feed.specs.declared.kind.Kind.{Kind}
use Rattle.raw_feed.specs.declared.kind.Kind.TheVariants.{Units, Pictures}
use Rattle.raw_feed.specs.declared.fault.FeedFault.{FeedFault}
use Rattle.raw_feed.specs.declared.fault.FeedFault.TheVariants.{Memory, FeedHead, Marker, FeedCut, SourceFault, TooLong, Sample, UnitLong}
use Rattle.raw_feed.specs.declared.stage.Stage.{Stage}
use Rattle.raw_feed.specs.declared.stage.Stage.TheVariants.{Open}
use Rattle.raw_feed.specs.Told.{Told}
use Rattle.raw_feed.specs.Items.{Ending, Clean, Full, Broken, IsSized, item}
use Rattle.raw_feed.specs.Feeds.{IsFeed, IsFeedOf, EndsInHead}
use Rattle.raw_feed.specs.Breaks.{IsShown, MayGoOn, MayFail, Answers, BreaksHead, Gave, Reaches}
use Rattle.raw_feed.specs.HasRead.{HasRead, EndsFeed, behind_units}
use Rattle.raw_feed.specs.Reading.{Reading, IfTold, begun}
use Rattle.run_parts.specs.Statuses.{feed_answer, ending_answer}
use Rattle.ingest_run.specs.Paces.{BeginsFile, KeepsPace}
use Rattle.run_parts.specs.Gains.{Gains, Lacks}
use Rattle.ingest_run.specs.Runs.{IsCutShort, IsOpenEnd, Outside, RunsOver}
use Rattle.ingest_run.specs.inner.Steps.{StaysSilent}
use Rattle.ingest_run.proofs.GainLemmas.{Gains-nil}
use Rattle.ingest_run.proofs.ZipLemmas.{zip_pop}

-- bytes are a feed in one way
pub record FeedsAreOne : Type 0 where
  pub units : (kind : Kind) (bytes : List ℕ) (units others : List (List ℕ)) (ending other : Ending)
      → IsFeed kind bytes units ending → IsFeed kind bytes others other → (units ≡ others) × (ending ≡ other)
  pub configuration : (kind : Kind) (bytes : List ℕ) (one two : Fields) (units others : List (List ℕ)) (ending other : Ending)
      → IsFeedOf kind bytes one units ending → IsFeedOf kind bytes two others other → one ≡ two

-- memory was wanted, or the sink failed
abbrev pub IsStop : Status → Type 0
IsStop status = (status.code ≡ 1) ⊎ (status.code ≡ 7)

-- what holds of a source that tells leads to what holds of it later
pub over-told : (told mid now : Option Told) (P Q : Told → Type 0) → IfTold told mid P → StaysSilent mid now → ((before : Told) → P before → Q before)
    → IfTold told now Q
over-told None mid now P Q i silent f = silent i
over-told (Some before) mid now P Q i silent f = f before i

-- the growing files of units without the last one were written
abbrev pub AllButLast : (Fields → List ℕ → List ℕ → Type 0) → (Fields → List (List ℕ) → List ℕ) → Fields → List (List ℕ) → List ℕ → Type 0
AllButLast Becomes growing config units written =
    (front : List (List ℕ)) (unit : List ℕ) → units ≡ front ++ unit ∷ [] → BeginsFile Becomes growing config front written

-- a list with a last unit isn't empty
pub not_empty : (front : List (List ℕ)) (unit : List ℕ) → [] ≢ front ++ unit ∷ []
not_empty front unit e =
    let none : 0 ≡ length (front ++ unit ∷ []) = ap (length {A = List ℕ}) e in
    omega (arith, length-append front (unit ∷ []))

-- what a command says of a feed of so many units, by what becomes of them, and of one that ends in its head
pub record SaysSo (kind : Kind) (Becomes : Fields → List ℕ → List ℕ → Type 0) (closed : Fields → List (List ℕ) → List ℕ) (Said : List ℕ → List ℕ → Status → Type 0) : Type 0 where
  pub whole : (bytes : List ℕ) (config : Fields) (units frames : List (List ℕ)) (ending : Ending) → IsFeedOf kind bytes config units ending → AllZip (Becomes config) units frames
      → Said bytes (closed config frames) (ending_answer (length units) ending)
  pub head : (bytes : List ℕ) (ending : Ending) → EndsInHead kind bytes ending → Said bytes [] (ending_answer 0 ending)

module _ (Becomes : Fields → List ℕ → List ℕ → Type 0) (growing : Fields → List (List ℕ) → List ℕ) (config : Fields) where
  pub but_none : (written : List ℕ) → AllButLast Becomes growing config [] written
  but_none written front unit e = absurd (not_empty front unit e)

  -- all units were written
  pub but_whole : (lead : Fields → List (List ℕ) → ℕ → List ℕ) (units frames : List (List ℕ)) (rest : List ℕ)
      → ((cfg : Fields) (units : List (List ℕ)) (unit : List ℕ) → growing cfg (units ++ unit ∷ []) ≡ growing cfg units ++ (lead cfg units (length unit) ++ unit))
      → AllZip (Becomes config) units frames → AllButLast Becomes growing config units (growing config frames ++ rest)
  but_whole lead units frames rest grows zip front unit e =
      let popped = zip_pop (Becomes config) front unit frames (subst (λ (us : List (List ℕ)). AllZip (Becomes config) us frames) e zip) in
      let before = popped.0 in
      let last = popped.1 in
      record {
        frames = before;
        become = popped.3;
        rest = (lead config before (length last) ++ last) ++ rest;
        file = ap (λ (xs : List ℕ). xs ++ rest) (ap (growing config) popped.2 ∙ grows config before last) ∙ append_assoc (growing config before) (lead config before (length last) ++ last) rest;
      }

  -- all units before the last were written
  pub but_last : (units frames : List (List ℕ)) (unit rest : List ℕ) → AllZip (Becomes config) units frames
      → AllButLast Becomes growing config (units ++ unit ∷ []) (growing config frames ++ rest)
  but_last units frames unit rest zip front last e = record {
    frames = frames;
    become = subst (λ (us : List (List ℕ)). AllZip (Becomes config) us frames) (same_from_push units front unit last e).0 zip;
    rest = rest;
    file = refl;
  }

-- the head of a feed is a feed of no units
head-alone : (kind : Kind) (bytes : List ℕ) (config : Fields) (units : List (List ℕ)) (ending : Ending) → (f : IsFeedOf kind bytes config units ending) → IsFeedOf kind f.head config [] Clean
head-alone kind bytes config units ending f =
    let alone : f.head ++ [] ≡ f.head = append-nil f.head in
    let long = ap (length {A = ℕ}) alone in
    let within = f.within in
    record {
      head = f.head;
      rest = [];
      configured = f.configured;
      split = sym (append-nil (f.head ++ []) ∙ alone);
      sized = All-nil (IsSized kind config);
      few = omega arith;
      within = omega (arith, length-append f.head (flat_map (item kind) units));
      ends = refl;
    }

-- so the head is whole
head-whole : (kind : Kind) (bytes : List ℕ) (config : Fields) (units : List (List ℕ)) (ending : Ending) → FeedsAreOne → (f : IsFeedOf kind bytes config units ending) → FEED_HEAD_LEN ≤ length f.head
head-whole kind bytes config units ending one f = ⊎_elim short (λ whole. whole) (cases_lt (length f.head) FEED_HEAD_LEN)
  where
    clean : Clean ≡ Broken (FeedCut (length f.head)) → ⊥
    clean e = cc

    short : length f.head < FEED_HEAD_LEN → FEED_HEAD_LEN ≤ length f.head
    short less =
        let s = one.units kind f.head [] [] Clean (Broken (FeedCut (length f.head))) (inl (config, head-alone kind bytes config units ending f)) (inr (refl, (refl, less))) in
        absurd (clean s.1)

-- and no feed ends in its head so
not-both : (kind : Kind) (bytes : List ℕ) (config : Fields) (units : List (List ℕ)) (ending : Ending) → FeedsAreOne → EndsInHead kind bytes ending → IsFeedOf kind bytes config units ending → ⊥
not-both kind bytes config units Clean one head f = head
not-both kind bytes config units Full one head f = head
not-both kind bytes config units (Broken Memory) one head f = head
not-both kind bytes config units (Broken (FeedHead at)) one head f = f.ends
not-both kind bytes config units (Broken (Marker at)) one head f = head
not-both kind bytes config units (Broken (FeedCut at)) one head f =
    let whole = head-whole kind bytes config units (Broken (FeedCut at)) one f in
    let long = ap (length {A = ℕ}) f.split in
    let short = head.1 in
    omega (arith, length-append (f.head ++ flat_map (item kind) units) f.rest, length-append f.head (flat_map (item kind) units))
not-both kind bytes config units (Broken (SourceFault count)) one head f = head
not-both kind bytes config units (Broken (TooLong at)) one head f = head
not-both kind bytes config units (Broken (Sample at)) one head f = head
not-both kind bytes config units (Broken (UnitLong at)) one head f = head

module _ (kind : Kind) (Becomes : Fields → List ℕ → List ℕ → Type 0) (growing : Fields → List (List ℕ) → List ℕ) where
  -- so many bytes were read for an ending behind units
  reaches : (read : ℕ) (units others : List (List ℕ)) (ending other : Ending) → Reaches kind read (behind_units kind units) ending → (units ≡ others) × (ending ≡ other)
      → Reaches kind read (behind_units kind others) other
  reaches read units others ending other reach s =
      subst (λ (us : List (List ℕ)). Reaches kind read (behind_units kind us) other) s.0 (subst (λ (e : Ending). Reaches kind read (behind_units kind units) e) s.1 reach)

  -- bytes that are a feed of units keep the pace
  pub paced : (given written : List ℕ) (config : Fields) (units : List (List ℕ)) (ending : Ending) → FeedsAreOne
      → IsFeedOf kind given config units ending → Reaches kind (length given) (behind_units kind units) ending → AllButLast Becomes growing config units written
      → (ending ≢ Clean → BeginsFile Becomes growing config units written) → KeepsPace kind Becomes growing given written
  paced given written config units ending one feed reach begun ahead = record {
    head_judged = λ other head.
        reaches (length given) units [] ending other reach (one.units kind given units [] ending other (inl (config, feed)) (inr (refl, head)));
    judged = λ cfg others other f.
        reaches (length given) units others ending other reach (one.units kind given units others ending other (inl (config, feed)) (inl (cfg, f)));
    prompt = λ cfg front unit other f.
        let s = one.units kind given units (front ++ unit ∷ []) ending other (inl (config, feed)) (inl (cfg, f)) in
        let c = one.configuration kind given config cfg units (front ++ unit ∷ []) ending other feed f in
        subst (λ (g : Fields). BeginsFile Becomes growing g front written) c (begun front unit s.0);
    ahead = λ cfg others other f unclean.
        let s = one.units kind given units others ending other (inl (config, feed)) (inl (cfg, f)) in
        let c = one.configuration kind given config cfg units others ending other feed f in
        subst (λ (g : Fields). BeginsFile Becomes growing g others written) c
        (subst (λ (us : List (List ℕ)). BeginsFile Becomes growing config us written) s.0 (ahead (λ e. unclean (sym s.1 ∙ e))));
  }

  -- and so do bytes that end in a head
  pub paced-head : (given written : List ℕ) (ending : Ending) → FeedsAreOne
      → EndsInHead kind given ending → Reaches kind (length given) FEED_HEAD_LEN ending → KeepsPace kind Becomes growing given written
  paced-head given written ending one head reach = record {
    head_judged = λ other h.
        reaches (length given) [] [] ending other reach (one.units kind given [] [] ending other (inr (refl, head)) (inr (refl, h)));
    judged = λ cfg others other f.
        reaches (length given) [] others ending other reach (one.units kind given [] others ending other (inr (refl, head)) (inl (cfg, f)));
    prompt = λ cfg front unit other f.
        let s = one.units kind given [] (front ++ unit ∷ []) ending other (inr (refl, head)) (inl (cfg, f)) in
        absurd (not_empty front unit s.0);
    ahead = λ cfg others other f unclean.
        let s = one.units kind given [] others ending other (inr (refl, head)) (inl (cfg, f)) in
        absurd (not-both kind given cfg others other one (subst (λ (e : Ending). EndsInHead kind given e) s.1 head) f);
  }

-- what was written of the closed file of what units became, whose feed ended so, and what the answer says of it
pub record WritesFront (Becomes : Fields → List ℕ → List ℕ → Type 0) (growing closed : Fields → List (List ℕ) → List ℕ) (config : Fields) (units frames : List (List ℕ)) (ending : Ending) (status : Status) (old new : Option (List ℕ)) : Type 0 where
  pub written : List ℕ
  pub missing : List ℕ
  pub gains : Gains old new written
  pub front : closed config frames ≡ written ++ missing
  pub begun : AllButLast Becomes growing config units written
  pub ahead : ending ≢ Clean → BeginsFile Becomes growing config units written
  pub cut : status.code ≡ 7 → Lacks old missing

-- the bytes that were given
abbrev given-of : Option Told → List ℕ
given-of None = []
given-of (Some told) = told.given

-- bytes are given in one way
one-given : (xs ys : List ℕ) (before : Told) (now : Option Told) → Gave xs before now → Gave ys before now → xs ≡ ys
one-given xs ys before now x y =
    let taken : before.given ++ take (length xs) before.left ≡ before.given ++ take (length ys) before.left = ap given-of (sym x.1 ∙ y.1) in
    sym x.0 ∙ (append_cancel_left before.given (take (length xs) before.left) (take (length ys) before.left) taken ∙ y.0)

-- a reader that has read whole items has read a feed that ends behind them
read-clean : (reading : Reading) (units : List (List ℕ)) (before : Told) (now : Option Told) → (h : HasRead reading units before now)
    → IsFeedOf reading.kind (h.head ++ flat_map (item reading.kind) units) reading.config units Clean
read-clean reading units before now h =
    let within = h.within in
    let placed = h.placed in
    record {
      head = h.head;
      rest = [];
      configured = h.configured;
      split = sym (append-nil (h.head ++ flat_map (item reading.kind) units));
      sized = h.sized;
      few = h.few;
      within = omega arith;
      ends = refl;
    }

-- so where it stopped the bytes that were given end cleanly
pub stopped-clean : (reading : Reading) (units : List (List ℕ)) (before : Told) (now : Option Told) (answer : Ending) → FeedsAreOne → reading.stage ≡ Open → HasRead reading units before now
    → (e : EndsFeed reading.kind reading.config units answer before now) → e.ending ≡ Clean
stopped-clean reading units before now answer one open_is h e =
    let front = h.head ++ flat_map (item reading.kind) units in
    let whole : front ++ begun reading.kind reading.stage ≡ front = ap (λ (s : Stage). front ++ begun reading.kind s) open_is ∙ append-nil front in
    let same : front ≡ e.given = one-given front e.given before now (subst (λ (xs : List ℕ). Gave xs before now) whole h.gave) e.gave in
    let clean = subst (λ (bytes : List ℕ). IsFeedOf reading.kind bytes reading.config units Clean) same (read-clean reading units before now h) in
    (one.units reading.kind e.given units units e.ending Clean (inl (reading.config, e.read)) (inl (reading.config, clean))).1

-- an answer for an ending isn't one for a sink
pub no_sink : (items : ℕ) (ending : Ending) → (ending_answer items ending).code ≢ 7
no_sink items Clean e = omega arith
no_sink items Full e = omega arith
no_sink items (Broken Memory) e = omega arith
no_sink items (Broken (FeedHead at)) e = omega arith
no_sink items (Broken (Marker at)) e = omega arith
no_sink items (Broken (FeedCut at)) e = omega arith
no_sink items (Broken (SourceFault count)) e = omega arith
no_sink items (Broken (TooLong at)) e = omega arith
no_sink items (Broken (Sample at)) e = omega arith
no_sink items (Broken (UnitLong at)) e = omega arith

-- the bytes that were given are as many as were judged
pub reached : (kind : Kind) (given : List ℕ) (told : Told) (at : ℕ) (ending : Ending) → take (length given) told.left ≡ given → Reaches kind (0 + length given) at ending
    → Reaches kind (length (take (length given) told.left)) at ending
reached kind given told at ending same reach =
    let long = ap (length {A = ℕ}) same in
    let counted : 0 + length given ≡ length (take (length given) told.left) = omega (arith, long) in
    subst (λ (n : ℕ). Reaches kind n at ending) counted reach

-- a stop is an answer of a run that is cut short, by 1 or 7
pub short : (status : Status) → IsStop status → IsCutShort status
short status (inl h) = inl h
short status (inr h) = inr (inr h)

pub neither : (status : Status) → IsStop status → status.code ≢ 1 → status.code ≢ 7 → ⊥
neither status (inl h) first seventh = first h
neither status (inr h) first seventh = seventh h

pub other : (status : Status) → IsStop status → status.code ≡ 5 → ⊥
other status (inl h) five = omega arith
other status (inr h) five = omega arith

-- an answer that isn't cut short is shown by bytes
shown-of : (items : ℕ) (answer : Ending) → (IsCutShort (ending_answer items answer) → ⊥) → IsShown answer
shown-of items Clean whole = tt
shown-of items Full whole = tt
shown-of items (Broken Memory) whole = absurd (whole (inl refl))
shown-of items (Broken (FeedHead at)) whole = tt
shown-of items (Broken (Marker at)) whole = tt
shown-of items (Broken (FeedCut at)) whole = tt
shown-of items (Broken (SourceFault count)) whole = absurd (whole (inr (inl refl)))
shown-of items (Broken (TooLong at)) whole = tt
shown-of items (Broken (Sample at)) whole = tt
shown-of items (Broken (UnitLong at)) whole = tt

-- and then it is the ending of the bytes that were given
same-of : (kind : Kind) (answer ending : Ending) → IsShown answer → Answers kind answer ending → ending ≡ answer
same-of kind Clean ending shown is = is
same-of kind Full ending shown is = is
same-of kind (Broken Memory) ending shown is = absurd shown
same-of kind (Broken (FeedHead at)) ending shown is = is
same-of kind (Broken (Marker at)) ending shown is = is
same-of kind (Broken (FeedCut at)) ending shown is = is
same-of kind (Broken (SourceFault count)) ending shown is = absurd shown
same-of kind (Broken (TooLong at)) ending shown is = is
same-of kind (Broken (Sample at)) ending shown is = is
same-of kind (Broken (UnitLong at)) ending shown is = is

-- bytes behind which the feed may go on end openly
open-ending : (items : ℕ) (ending : Ending) → MayGoOn ending → IsOpenEnd (ending_answer items ending)
open-ending items Clean on = inl refl
open-ending items Full on = absurd on
open-ending items (Broken Memory) on = absurd on
open-ending items (Broken (FeedHead at)) on = absurd on
open-ending items (Broken (Marker at)) on = absurd on
open-ending items (Broken (FeedCut at)) on = inr (inl refl)
open-ending items (Broken (SourceFault count)) on = absurd on
open-ending items (Broken (TooLong at)) on = absurd on
open-ending items (Broken (Sample at)) on = absurd on
open-ending items (Broken (UnitLong at)) on = absurd on

-- and so do those behind which a source may fail
failed-ending : (kind : Kind) (items : ℕ) (ending : Ending) → MayFail kind ending → IsOpenEnd (ending_answer items ending)
failed-ending Units items ending on = open-ending items ending on
failed-ending Pictures items Clean on = inl refl
failed-ending Pictures items Full on = absurd on
failed-ending Pictures items (Broken Memory) on = absurd on
failed-ending Pictures items (Broken (FeedHead at)) on = absurd on
failed-ending Pictures items (Broken (Marker at)) on = absurd on
failed-ending Pictures items (Broken (FeedCut at)) on = inr (inl refl)
failed-ending Pictures items (Broken (SourceFault count)) on = absurd on
failed-ending Pictures items (Broken (TooLong at)) on = absurd on
failed-ending Pictures items (Broken (Sample at)) on = inr (inr refl)
failed-ending Pictures items (Broken (UnitLong at)) on = absurd on

-- the source's fault is answered where they do
open-of : (kind : Kind) (items : ℕ) (answer ending : Ending) → (ending_answer items answer).code ≡ 5 → Answers kind answer ending → IsOpenEnd (ending_answer items ending)
open-of kind items Clean ending five is = absurd (omega arith)
open-of kind items Full ending five is = absurd (omega arith)
open-of kind items (Broken Memory) ending five is = absurd (omega arith)
open-of kind items (Broken (FeedHead at)) ending five is = absurd (omega arith)
open-of kind items (Broken (Marker at)) ending five is = absurd (omega arith)
open-of kind items (Broken (FeedCut at)) ending five is = absurd (omega arith)
open-of kind items (Broken (SourceFault count)) ending five is = failed-ending kind items ending is
open-of kind items (Broken (TooLong at)) ending five is = absurd (omega arith)
open-of kind items (Broken (Sample at)) ending five is = absurd (omega arith)
open-of kind items (Broken (UnitLong at)) ending five is = absurd (omega arith)

module _ (kind : Kind) (Becomes : Fields → List ℕ → List ℕ → Type 0) (Said : List ℕ → List ℕ → Status → Type 0) (growing closed : Fields → List (List ℕ) → List ℕ) where
  -- a run that stopped behind so many units
  pub runs_stopped : (config : Fields) (units frames : List (List ℕ)) (answer : Ending) (told : Told) (before now : Outside) (status : Status)
      → SaysSo kind Becomes closed Said → FeedsAreOne → (e : EndsFeed kind config units answer told now.told) → AllZip (Becomes config) units frames
      → WritesFront Becomes growing closed config units frames e.ending status before.written now.written → IsStop status
      → RunsOver Said (KeepsPace kind Becomes growing) told before now status
  runs_stopped config units frames answer told before now status so one e zip w stop = record {
    count = length e.given;
    gave = e.gave.1;
    written = w.written;
    gains = w.gains;
    whole = closed config frames;
    answered = ending_answer (length units) e.ending;
    given = so.whole (take (length e.given) told.left) config units frames e.ending feed zip;
    missing = w.missing;
    front = w.front;
    all = λ one seven. absurd (neither status stop one seven);
    cut = w.cut;
    says = λ whole. absurd (whole (short status stop));
    behind = λ five. absurd (other status stop five);
    paced = paced kind Becomes growing (take (length e.given) told.left) w.written config units e.ending one feed
        (reached kind e.given told (behind_units kind units) e.ending e.gave.0 e.reach) w.begun w.ahead;
  }
    where
      feed : IsFeedOf kind (take (length e.given) told.left) config units e.ending
      feed = subst (λ (bytes : List ℕ). IsFeedOf kind bytes config units e.ending) (sym e.gave.0) e.read

  -- a run that wrote the closed file
  pub runs_closed : (config : Fields) (units frames : List (List ℕ)) (answer : Ending) (told : Told) (before now : Outside)
      → SaysSo kind Becomes closed Said → FeedsAreOne → EndsFeed kind config units answer told now.told → AllZip (Becomes config) units frames
      → Gains before.written now.written (closed config frames) → AllButLast Becomes growing config units (closed config frames)
      → BeginsFile Becomes growing config units (closed config frames)
      → RunsOver Said (KeepsPace kind Becomes growing) told before now (ending_answer (length units) answer)
  runs_closed config units frames answer told before now so one e zip gains begun whole_file = record {
    count = length e.given;
    gave = e.gave.1;
    written = closed config frames;
    gains = gains;
    whole = closed config frames;
    answered = ending_answer (length units) e.ending;
    given = so.whole (take (length e.given) told.left) config units frames e.ending feed zip;
    missing = [];
    front = sym (append-nil (closed config frames));
    all = λ one seven. refl;
    cut = λ seven. absurd (no_sink (length units) answer seven);
    says = λ whole.
        let shown = shown-of (length units) answer whole in (
          so.whole told.left config units frames answer (e.shown shown) zip,
          ap (ending_answer (length units)) (same-of kind answer e.ending shown e.answered),
        );
    behind = λ five. open-of kind (length units) answer e.ending five e.answered;
    paced = paced kind Becomes growing (take (length e.given) told.left) (closed config frames) config units e.ending one feed
        (reached kind e.given told (behind_units kind units) e.ending e.gave.0 e.reach) begun (λ unclean. whole_file);
  }
    where
      feed : IsFeedOf kind (take (length e.given) told.left) config units e.ending
      feed = subst (λ (bytes : List ℕ). IsFeedOf kind bytes config units e.ending) (sym e.gave.0) e.read

  -- the head was refused
  pub runs_head : (fault : FeedFault) (told : Told) (before now : Outside) → SaysSo kind Becomes closed Said → FeedsAreOne
      → now.written ≡ before.written → BreaksHead kind told now.told fault → RunsOver Said (KeepsPace kind Becomes growing) told before now (feed_answer fault)
  runs_head fault told before now so one same e = record {
    count = length e.given;
    gave = e.gave.1;
    written = [];
    gains = subst (λ (w : Option (List ℕ)). Gains before.written w []) (sym same) (Gains-nil before.written);
    whole = [];
    answered = ending_answer 0 e.ending;
    given = so.head (take (length e.given) told.left) e.ending head;
    missing = [];
    front = refl;
    all = λ one seven. refl;
    cut = λ seven. absurd (no_sink 0 (Broken fault) seven);
    says = λ whole.
        let shown = shown-of 0 (Broken fault) whole in (
          so.head told.left (Broken fault) (e.shown shown),
          ap (ending_answer 0) (same-of kind (Broken fault) e.ending shown e.answered),
        );
    behind = λ five. open-of kind 0 (Broken fault) e.ending five e.answered;
    paced = paced-head kind Becomes growing (take (length e.given) told.left) [] e.ending one head (reached kind e.given told FEED_HEAD_LEN e.ending e.gave.0 e.reach);
  }
    where
      head : EndsInHead kind (take (length e.given) told.left) e.ending
      head = subst (λ (bytes : List ℕ). EndsInHead kind bytes e.ending) (sym e.gave.0) e.read

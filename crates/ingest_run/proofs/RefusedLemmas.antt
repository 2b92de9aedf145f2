-- What the exits of `wrap` say where a unit is refused, over a source that tells its bytes.
use Rattle.std.proofs.Common.{◌≡◌, ℕ, ◌+◌, List, [], ◌∷◌, ◌++◌, length, take, drop, All, Option, refl, sym, subst, inl, inr, arith}
use Rattle.std.proofs.lemmas.List.{append-nil, take-append-drop}
use Rattle.rec_bytes.specs.Configuration.{Fields}
use Rattle.rec_bytes.specs.declared.status.Status.{Status}
use Rattle.raw_feed.specs.declared.kind.Kind.TheVariants.{Units}
use Rattle.raw_feed.specs.Told.{Told}
use Rattle.raw_feed.specs.Items.{Ending, Clean}
use Rattle.raw_feed.specs.Feeds.{IsFeedOf}
use Rattle.raw_feed.specs.Breaks.{Reaches}
use Rattle.raw_feed.specs.HasRead.{EndsFeed, behind_units}
use Rattle.run_parts.specs.Statuses.{unit_answer}
use Rattle.run_parts.specs.Units.{IsRead, RefusesUnit}
use Rattle.run_parts.specs.declared.unit.UnitFault.{UnitFault}
use Rattle.ingest_run.specs.Paces.{IsPassedOn, KeepsPace}
use Rattle.run_parts.specs.Gains.{Gains, Lacks}
use Rattle.ingest_run.specs.Runs.{BeginsWith, Wraps, Outside, RunsOver}
use Rattle.ingest_run.proofs.UnitLemmas.{unit_code}
use Rattle.ingest_run.proofs.RunLemmas.{FeedsAreOne, IsStop, AllButLast, short, neither, other, reached, paced}

-- what was written of the closed file of the units before one that is refused
pub record WritesBefore (growing closed : Fields → List (List ℕ) → List ℕ) (config : Fields) (units : List (List ℕ)) (unit : List ℕ) (status : Status) (old new : Option (List ℕ)) : Type 0 where
  pub written : List ℕ
  pub missing : List ℕ
  pub gains : Gains old new written
  pub front : closed config units ≡ written ++ missing
  pub begun : AllButLast IsPassedOn growing config (units ++ unit ∷ []) written
  pub cut : status.code ≡ 7 → Lacks old missing

-- a run that stopped while it closed the file of the units before one that is refused
pub runs_refused_stopped : (growing closed : Fields → List (List ℕ) → List ℕ) (config : Fields) (units : List (List ℕ)) (unit : List ℕ) (fault : UnitFault) (answer : Ending) (told : Told) (before now : Outside) (status : Status)
    → FeedsAreOne → (e : EndsFeed Units config (units ++ unit ∷ []) answer told now.told) → e.ending ≡ Clean → All (IsRead config) units → RefusesUnit config unit fault
    → WritesBefore growing closed config units unit status before.written now.written → IsStop status
    → RunsOver (Wraps closed) (KeepsPace Units IsPassedOn growing) told before now status
runs_refused_stopped growing closed config units unit fault answer told before now status one e clean read refused w stop = record {
  count = length e.given;
  gave = e.gave.1;
  written = w.written;
  gains = w.gains;
  whole = closed config units;
  answered = unit_answer (length units) fault;
  given = inl (inr (record { config = config; units = units; unit = unit; fault = fault; feed = begun; read = read; refused = refused; file = refl; answered = refl }));
  missing = w.missing;
  front = w.front;
  all = λ one seven. absurd (neither status stop one seven);
  cut = w.cut;
  says = λ whole. absurd (whole (short status stop));
  behind = λ five. absurd (other status stop five);
  paced = paced Units IsPassedOn growing given w.written config (units ++ unit ∷ []) Clean one feed (reached Units e.given told (behind_units Units (units ++ unit ∷ [])) Clean e.gave.0 reach) w.begun (λ unclean. absurd (unclean refl));
}
  where
    given : List ℕ
    given = take (length e.given) told.left

    feed : IsFeedOf Units given config (units ++ unit ∷ []) Clean
    feed = subst (λ (end : Ending). IsFeedOf Units given config (units ++ unit ∷ []) end) clean
        (subst (λ (bytes : List ℕ). IsFeedOf Units bytes config (units ++ unit ∷ []) e.ending) (sym e.gave.0) e.read)

    reach : Reaches Units (0 + length e.given) (behind_units Units (units ++ unit ∷ [])) Clean
    reach = subst (Reaches Units (0 + length e.given) (behind_units Units (units ++ unit ∷ []))) clean e.reach

    begun : BeginsWith given config (units ++ unit ∷ [])
    begun = record { front = given; rest = []; split = sym (append-nil given); feed = feed }

-- a run that wrote the closed file of the units before one that is refused
pub runs_refused : (growing closed : Fields → List (List ℕ) → List ℕ) (config : Fields) (units : List (List ℕ)) (unit : List ℕ) (fault : UnitFault) (answer : Ending) (told : Told) (before now : Outside)
    → FeedsAreOne → (e : EndsFeed Units config (units ++ unit ∷ []) answer told now.told) → e.ending ≡ Clean → All (IsRead config) units → RefusesUnit config unit fault
    → Gains before.written now.written (closed config units) → AllButLast IsPassedOn growing config (units ++ unit ∷ []) (closed config units)
    → RunsOver (Wraps closed) (KeepsPace Units IsPassedOn growing) told before now (unit_answer (length units) fault)
runs_refused growing closed config units unit fault answer told before now one e clean read refused gains begun = record {
  count = length e.given;
  gave = e.gave.1;
  written = closed config units;
  gains = gains;
  whole = closed config units;
  answered = unit_answer (length units) fault;
  given = inl (inr (record { config = config; units = units; unit = unit; fault = fault; feed = begins_given; read = read; refused = refused; file = refl; answered = refl }));
  missing = [];
  front = sym (append-nil (closed config units));
  all = λ one seven. refl;
  cut = λ seven. absurd (let eight = unit_code (length units) fault in omega arith);
  says = λ whole. (
    inl (inr (record { config = config; units = units; unit = unit; fault = fault; feed = begins_all; read = read; refused = refused; file = refl; answered = refl })),
    refl,
  );
  behind = λ five. absurd (let eight = unit_code (length units) fault in omega arith);
  paced = paced Units IsPassedOn growing given (closed config units) config (units ++ unit ∷ []) Clean one feed (reached Units e.given told (behind_units Units (units ++ unit ∷ [])) Clean e.gave.0 reach) begun (λ unclean. absurd (unclean refl));
}
  where
    given : List ℕ
    given = take (length e.given) told.left

    feed : IsFeedOf Units given config (units ++ unit ∷ []) Clean
    feed = subst (λ (end : Ending). IsFeedOf Units given config (units ++ unit ∷ []) end) clean
        (subst (λ (bytes : List ℕ). IsFeedOf Units bytes config (units ++ unit ∷ []) e.ending) (sym e.gave.0) e.read)

    reach : Reaches Units (0 + length e.given) (behind_units Units (units ++ unit ∷ [])) Clean
    reach = subst (Reaches Units (0 + length e.given) (behind_units Units (units ++ unit ∷ []))) clean e.reach

    begins_given : BeginsWith given config (units ++ unit ∷ [])
    begins_given = record { front = given; rest = []; split = sym (append-nil given); feed = feed }

    begins_all : BeginsWith told.left config (units ++ unit ∷ [])
    begins_all = record { front = given; rest = drop (length e.given) told.left; split = sym (take-append-drop (length e.given) told.left); feed = feed }

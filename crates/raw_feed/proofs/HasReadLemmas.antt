-- What a reader has read, call by call, and how it comes to the feed's end.
use Rattle.std.proofs.Common.{◌≡◌, ℕ, ◌+◌, ◌-◌, ◌<◌, ◌≤◌, ◌==◌, List, [], ◌∷◌, ◌++◌, length, drop, Bool, true, false, Option, Some}
use Rattle.std.proofs.Common.{refl, sym, ap, ◌∙◌, subst, append_assoc, arith}
use Rattle.std.specs.List.{flat_map}
use Rattle.std.proofs.lemmas.List.{length-append, append-nil, flat_map_more, take_at, take-take}
use Rattle.std.proofs.lemmas.List.Elements.{All-nil, All-push}
use Rattle.std.proofs.lemmas.Bool.{eq-eqb}
use Rattle.rec_bytes.specs.Configuration.{Fields}
use Rattle.raw_feed.specs.declared.kind.TheConstants.{MARKER_LEN}
use Rattle.raw_feed.specs.declared.head.TheConstants.{FEED_HEAD_LEN}
use Rattle.raw_feed.specs.declared.limits.TheConstants.{MAX_FEED}
use Rattle.raw_feed.specs.declared.kind.Kind.{Kind}
use Rattle.raw_feed.specs.declared.fault.FeedFault.{FeedFault}
use Rattle.raw_feed.specs.declared.fault.FeedFault.TheVariants.{Memory, FeedHead, Marker, FeedCut, SourceFault, TooLong, Sample, UnitLong}
use Rattle.raw_feed.specs.declared.stage.Stage.{Stage}
use Rattle.raw_feed.specs.declared.stage.Stage.TheVariants.{Open, Marked, Ended, Refused}
use Rattle.raw_feed.specs.Told.{Told, after}
use Rattle.raw_feed.specs.Items.{Ending, Clean, Full, Broken, EndsAt, IsMarked, IsSized, limited, marker, item}
use Rattle.raw_feed.specs.Feeds.{IsHead, IsFeedOf}
use Rattle.raw_feed.specs.Breaks.{Breaks, EndsBy, Gave, IsBreak, Answers, Reaches}
use Rattle.raw_feed.specs.Reading.{Reading, IfTold, ReadsHead, GivesUnit, GivesMarker, EndsClean, RefusesItem, RefusesMarker, begun, counted}
use Rattle.raw_feed.specs.HasRead.{HasRead, EndsFeed, MayReadOn, behind_units}
use Rattle.raw_feed.proofs.KindLemmas.{marker_long, reaches}
use Rattle.raw_feed.proofs.PartLemmas.{Gave-none, Gave-more, Gave-rest}
use Rattle.raw_feed.proofs.BreakLemmas.{may_fail}
use Rattle.raw_feed.proofs.FeedLemmas.{head_long}
use Rattle.raw_feed.proofs.SplitLemmas.{not_full}

-- a reader, by its fields
abbrev pub reader : Kind → Fields → ℕ → ℕ → Stage → Reading
reader kind config count at stage = record { kind = kind; config = config; count = count; at = at; stage = stage }

-- the head was read
fresh : (kind : Kind) (config : Fields) (head : List ℕ) (before : Told) (now : Option Told) → IsHead kind head config → Gave head before now
    → HasRead (reader kind config 0 FEED_HEAD_LEN Open) [] before now
fresh kind config head before now right gave =
    let none : head ≡ head ++ [] = sym (append-nil head) in
    let same : length head ≡ length (head ++ []) = ap (length {A = ℕ}) none in
    let long : length head ≡ FEED_HEAD_LEN = head_long kind head config right in
    record {
      head = head;
      configured = right;
      gave = subst (λ (xs : List ℕ). Gave xs before now) (none ∙ sym (append-nil (head ++ []))) gave;
      counted = refl;
      placed = sym long ∙ same;
      sized = All-nil (IsSized kind config);
      few = omega arith;
      within = omega arith;
      may = tt;
    }

pub reading_starts : (kind : Kind) (new : Reading) (before : Told) (now : Option Told) → ReadsHead kind new (Some before) now → HasRead new [] before now
reading_starts kind new before now (is, (head, right, gave)) =
    subst (λ (r : Reading). HasRead r [] before now) (sym is) (fresh kind new.config head before now right gave)

-- what was told where a reader stands
told_there : (given : List ℕ) (before : Told) (mid now : Option Told) (P : Told → Type 0) → Gave given before mid → IfTold mid now P
    → P (after (length given) before)
told_there given before mid now P g next = subst (λ (m : Option Told). IfTold m now P) g.1 next

-- the rest of an item that the source gave, and the reader behind it
abbrev Rest : Reading → Stage → Option Told → Option Told → List ℕ → Type 0
Rest old stage told now unit = IfTold told now (λ before. (rest : List ℕ) × (begun old.kind stage ++ rest ≡ item old.kind unit) × Gave rest before now)

gives : (stage : Stage) (old new : Reading) (told now : Option Told) (unit : List ℕ) → GivesUnit stage old new told now unit
    → IsSized old.kind old.config unit × (old.at + length (item old.kind unit) ≤ MAX_FEED) × (new ≡ counted old unit) × Rest old stage told now unit
gives Open old new told now unit g = g
gives Marked old new told now unit g = g
gives Ended old new told now unit g = absurd g
gives (Refused fault) old new told now unit g = absurd g

-- a unit more was read
pub reading_grows : (old new : Reading) (units : List (List ℕ)) (unit : List ℕ) (before : Told) (mid now : Option Told)
    → HasRead old units before mid → old.count < old.config.max_frames → GivesUnit old.stage old new mid now unit
    → HasRead new (units ++ unit ∷ []) before now
reading_grows old new units unit before mid now h room g =
    let p = gives old.stage old new mid now unit g in
    let some = item old.kind in
    let front = h.head ++ flat_map some units in
    let first = begun old.kind old.stage in
    let rest = told_there (front ++ first) before mid now (λ b. (rest : List ℕ) × (first ++ rest ≡ some unit) × Gave rest b now) h.gave p.3 in
    let given : Gave ((front ++ first) ++ rest.0) before now = Gave-more (length (front ++ first)) (front ++ first) rest.0 before now refl h.gave.0 rest.2 in
    let all : front ++ some unit ≡ h.head ++ flat_map some (units ++ unit ∷ []) = flat_map_more some h.head units unit in
    let behind : (front ++ first) ++ rest.0 ≡ h.head ++ flat_map some (units ++ unit ∷ []) =
    append_assoc front first rest.0 ∙ ap (λ (xs : List ℕ). front ++ xs) rest.1 ∙ all in
    let long : length front + length (some unit) ≡ length (h.head ++ flat_map some (units ++ unit ∷ [])) =
    sym (length-append front (some unit)) ∙ ap (length {A = ℕ}) all in
    let more = length-append units (unit ∷ []) in
    let counted_is = h.counted in
    let placed = h.placed in
    let fits = p.1 in
    let grown : HasRead (counted old unit) (units ++ unit ∷ []) before now = record {
      head = h.head;
      configured = h.configured;
      gave = subst (λ (xs : List ℕ). Gave xs before now) (behind ∙ sym (append-nil (h.head ++ flat_map some (units ++ unit ∷ [])))) given;
      counted = omega arith;
      placed = omega arith;
      sized = All-push (IsSized old.kind old.config) units unit h.sized p.0;
      few = omega arith;
      within = omega arith;
      may = tt;
    } in
    subst (λ (r : Reading). HasRead r (units ++ unit ∷ []) before now) (sym p.2) grown

-- the marker of the next item was read
marked : (kind : Kind) (config : Fields) (count at : ℕ) (units : List (List ℕ)) (before : Told) (mid now : Option Told)
    → at + MARKER_LEN ≤ MAX_FEED → IfTold mid now (λ b. Gave (marker kind) b now)
    → HasRead (reader kind config count at Open) units before mid → HasRead (reader kind config count at Marked) units before now
marked kind config count at units before mid now room gave h =
    let front = h.head ++ flat_map (item kind) units in
    let next = told_there (front ++ []) before mid now (λ b. Gave (marker kind) b now) h.gave gave in
    let given : Gave ((front ++ []) ++ marker kind) before now = Gave-more (length (front ++ [])) (front ++ []) (marker kind) before now refl h.gave.0 next in
    let four = marker_long kind in
    record {
      head = h.head;
      configured = h.configured;
      gave = subst (λ (xs : List ℕ). Gave (xs ++ marker kind) before now) (append-nil front) given;
      counted = h.counted;
      placed = h.placed;
      sized = h.sized;
      few = h.few;
      within = omega arith;
      may = tt;
    }

marks : (kind : Kind) (config : Fields) (count at : ℕ) (stage : Stage) (new : Reading) (units : List (List ℕ)) (before : Told) (mid now : Option Told)
    → HasRead (reader kind config count at stage) units before mid → GivesMarker stage (reader kind config count at stage) new mid now
    → (new ≡ reader kind config count at Marked) × HasRead (reader kind config count at Marked) units before now
marks kind config count at Open new units before mid now h (is, room, gave) = (is, marked kind config count at units before mid now room gave h)
marks kind config count at Marked new units before mid now h (is, same) =
    (is, subst (λ (t : Option Told). HasRead (reader kind config count at Marked) units before t) (sym same) h)
marks kind config count at Ended new units before mid now h g = absurd g
marks kind config count at (Refused fault) new units before mid now h g = absurd g

pub reading_marks : (old new : Reading) (units : List (List ℕ)) (before : Told) (mid now : Option Told) → HasRead old units before mid
    → GivesMarker old.stage old new mid now → HasRead new units before now
reading_marks old new units before mid now h g =
    let m = marks old.kind old.config old.count old.at old.stage new units before mid now h g in
    subst (λ (r : Reading). HasRead r units before now) (sym m.0) m.1

-- the place of the reader is behind its units
placed_behind : (reading : Reading) (units : List (List ℕ)) (before : Told) (now : Option Told) → HasRead reading units before now
    → reading.at ≡ behind_units reading.kind units
placed_behind reading units before now h =
    let long = head_long reading.kind h.head reading.config h.configured in
    h.placed ∙ length-append h.head (flat_map (item reading.kind) units) ∙ ap (λ (n : ℕ). n + length (flat_map (item reading.kind) units)) long

-- no item may follow
abbrev pub is_full : Reading → Bool
is_full reading = reading.count == reading.config.max_frames

-- the feed whose head and items were read, and that ends so behind them
feed_of : (reading : Reading) (units : List (List ℕ)) (before : Told) (now : Option Told) (h : HasRead reading units before now)
    (bytes rest : List ℕ) (ending : Ending)
    → bytes ≡ (h.head ++ flat_map (item reading.kind) units) ++ rest → EndsAt reading.kind reading.config (is_full reading) reading.at rest ending
    → IsFeedOf reading.kind bytes reading.config units ending
feed_of reading units before now h bytes rest ending bytes_is ends =
    let within = h.within in
    let placed = h.placed in
    record {
      head = h.head;
      rest = rest;
      configured = h.configured;
      split = bytes_is;
      sized = h.sized;
      few = h.few;
      within = omega arith;
      ends = subst (λ (n : ℕ). EndsAt reading.kind reading.config (length units == reading.config.max_frames) n rest ending) placed
          (subst (λ (n : ℕ). EndsAt reading.kind reading.config (n == reading.config.max_frames) reading.at rest ending) h.counted ends);
    }

-- how the feed ends behind what was begun of the next item
abbrev EndsHere : Reading → Ending → Told → Option Told → Type 0
EndsHere r answer =
    EndsBy r.kind (λ rest ending. EndsAt r.kind r.config (is_full r) r.at (begun r.kind r.stage ++ rest) ending) (r.at + length (begun r.kind r.stage)) r.at answer

-- where the feed ends at the reader's place, it ends so as a whole
feed_ends : (reading : Reading) (units : List (List ℕ)) (before : Told) (mid now : Option Told) (answer : Ending)
    → HasRead reading units before mid → IfTold mid now (λ b. EndsHere reading answer b now)
    → EndsFeed reading.kind reading.config units answer before now
feed_ends reading units before mid now answer h ends =
    let front = h.head ++ flat_map (item reading.kind) units in
    let first = begun reading.kind reading.stage in
    let b = told_there (front ++ first) before mid now (λ t. EndsHere reading answer t now) h.gave ends in
    let left = drop (length (front ++ first)) before.left in
    let place = placed_behind reading units before mid h in
    let all : reading.at + length first + length b.given ≡ 0 + length ((front ++ first) ++ b.given) =
    let l = length-append front first in let m = length-append (front ++ first) b.given in let p = h.placed in omega arith in
    let reach : Reaches reading.kind (0 + length ((front ++ first) ++ b.given)) (behind_units reading.kind units) b.ending =
    subst (λ (p : ℕ). Reaches reading.kind (0 + length ((front ++ first) ++ b.given)) p b.ending) place
    (subst (λ (n : ℕ). Reaches reading.kind n reading.at b.ending) all b.reach) in
    record {
      given = (front ++ first) ++ b.given;
      gave = Gave-more (length (front ++ first)) (front ++ first) b.given before now refl h.gave.0 b.gave;
      ending = b.ending;
      read = feed_of reading units before mid h ((front ++ first) ++ b.given) (first ++ b.given) b.ending (append_assoc front first b.given) b.read;
      reach = reach;
      answered = b.answered;
      shown =
          λ s. feed_of reading units before mid h before.left (first ++ left) answer
          (Gave-rest (front ++ first) before mid h.gave ∙ append_assoc front first left) (b.shown s);
    }

-- the reader stopped behind a whole item
untold_fault : (kind : Kind) (fault : FeedFault) → (IsBreak fault → ⊥) → Answers kind (Broken fault) Clean
untold_fault kind Memory unseen = tt
untold_fault kind (SourceFault count) unseen = may_fail kind Clean tt
untold_fault kind (FeedHead at) unseen = absurd (unseen tt)
untold_fault kind (Marker at) unseen = absurd (unseen tt)
untold_fault kind (FeedCut at) unseen = absurd (unseen tt)
untold_fault kind (TooLong at) unseen = absurd (unseen tt)
untold_fault kind (Sample at) unseen = absurd (unseen tt)
untold_fault kind (UnitLong at) unseen = absurd (unseen tt)

stops : (kind : Kind) (config : Fields) (count at : ℕ) (stage : Stage) (units : List (List ℕ)) (before : Told) (now : Option Told) (fault : FeedFault)
    → HasRead (reader kind config count at stage) units before now → stage ≡ Open → (IsBreak fault → ⊥)
    → EndsFeed kind config units (Broken fault) before now
stops kind config count at Open units before now fault h still unseen =
    let front = h.head ++ flat_map (item kind) units in
    feed_ends (reader kind config count at Open) units before now now (Broken fault) h
    (subst (λ (t : Option Told). IfTold t now (λ b. EndsHere (reader kind config count at Open) (Broken fault) b now)) (sym h.gave.1) (record {
      given = [];
      gave = subst (λ (t : Option Told). Gave [] (after (length (front ++ [])) before) t) (sym h.gave.1) (Gave-none (after (length (front ++ [])) before));
      ending = Clean;
      read = refl;
      reach = reaches kind (at + length {A = ℕ} [] + length {A = ℕ} []) at Clean (omega arith);
      answered = untold_fault kind fault unseen;
      shown = λ s. absurd (unseen s);
    }))
stops kind config count at Marked units before now fault h still unseen = absurd (cc)
stops kind config count at Ended units before now fault h still unseen = absurd (cc)
stops kind config count at (Refused f) units before now fault h still unseen = absurd (cc)

pub reading_stops : (reading : Reading) (units : List (List ℕ)) (before : Told) (now : Option Told) (fault : FeedFault)
    → HasRead reading units before now → reading.stage ≡ Open → (IsBreak fault → ⊥)
    → EndsFeed reading.kind reading.config units (Broken fault) before now
reading_stops reading units before now fault h still unseen =
    stops reading.kind reading.config reading.count reading.at reading.stage units before now fault h still unseen

-- the feed ends after a whole item
clean_here : (kind : Kind) (config : Fields) (count at : ℕ) (b : Told) (now : Option Told) → b.left ≡ [] → now ≡ Some b
    → EndsHere (reader kind config count at Open) Clean b now
clean_here kind config count at b now none same = record {
  given = [];
  gave = subst (λ (t : Option Told). Gave [] b t) (sym same) (Gave-none b);
  ending = Clean;
  read = refl;
  reach = reaches kind (at + length {A = ℕ} [] + length {A = ℕ} []) at Clean (omega arith);
  answered = refl;
  shown = λ s. none;
}

ends_clean : (kind : Kind) (config : Fields) (count at : ℕ) (stage : Stage) (new : Reading) (units : List (List ℕ)) (before : Told) (mid now : Option Told)
    → HasRead (reader kind config count at stage) units before mid → EndsClean stage (reader kind config count at stage) new mid now
    → EndsFeed kind config units Clean before now
ends_clean kind config count at Open new units before mid now h (is, ends) =
    let given = (h.head ++ flat_map (item kind) units) ++ [] in
    let e = told_there given before mid now (λ b. (b.left ≡ []) × (now ≡ Some b)) h.gave ends in
    feed_ends (reader kind config count at Open) units before mid now Clean h
    (subst (λ (t : Option Told). IfTold t now (λ b. EndsHere (reader kind config count at Open) Clean b now)) (sym h.gave.1)
    (clean_here kind config count at (after (length given) before) now e.0 e.1))
ends_clean kind config count at Marked new units before mid now h e = absurd e
ends_clean kind config count at Ended new units before mid now h e = absurd h.may
ends_clean kind config count at (Refused fault) new units before mid now h e = absurd e

pub reading_ends_clean : (old new : Reading) (units : List (List ℕ)) (before : Told) (mid now : Option Told) → HasRead old units before mid
    → EndsClean old.stage old new mid now → EndsFeed old.kind old.config units Clean before now
reading_ends_clean old new units before mid now h e = ends_clean old.kind old.config old.count old.at old.stage new units before mid now h e

-- another marker follows max_frames items
full_here : (kind : Kind) (config : Fields) (count at : ℕ) (b : Told) → at + MARKER_LEN ≤ MAX_FEED → count ≡ config.max_frames
    → EndsHere (reader kind config count at Marked) Full b (Some b)
full_here kind config count at b room all =
    let four = marker_long kind in
    let full : (count == config.max_frames) ≡ true = eq-eqb count config.max_frames all in
    let there : (rest : List ℕ) → IsMarked kind (limited at (marker kind ++ rest)) =
    λ rest. take-take MARKER_LEN (MAX_FEED - at) (marker kind ++ rest) (omega arith) ∙ take_at (marker kind) rest MARKER_LEN four in
    record {
      given = [];
      gave = Gave-none b;
      ending = Full;
      read = (full, there []);
      reach = reaches kind (at + length (marker kind) + length {A = ℕ} []) at Full (omega arith);
      answered = refl;
      shown = λ s. (full, there b.left);
    }

pub reading_ends_full : (old new : Reading) (units : List (List ℕ)) (before : Told) (mid now : Option Told) → HasRead old units before mid
    → old.count ≡ old.config.max_frames → GivesMarker old.stage old new mid now → EndsFeed old.kind old.config units Full before now
reading_ends_full old new units before mid now h all g =
    let m = (marks old.kind old.config old.count old.at old.stage new units before mid now h g).1 in
    let four = marker_long old.kind in
    let within = m.within in
    let room : old.at + MARKER_LEN ≤ MAX_FEED = omega arith in
    let here =
    full_here old.kind old.config old.count old.at (after (length ((m.head ++ flat_map (item old.kind) units) ++ marker old.kind)) before) room all in
    let at_mark = reader old.kind old.config old.count old.at Marked in
    feed_ends at_mark units before now now Full m
    (subst (λ (t : Option Told). IfTold t t (λ b. EndsHere at_mark Full b t)) (sym m.gave.1) here)

-- the next item can't be read
refuses : (stage : Stage) (old new : Reading) (told now : Option Told) (fault : FeedFault) → MayReadOn stage
    → RefusesItem stage old new told now fault → IfTold told now (λ b. Breaks old.kind old.config false old.at (begun old.kind stage) b now fault)
refuses Open old new told now fault may r = r.2
refuses Marked old new told now fault may r = r.2
refuses Ended old new told now fault may r = absurd may
refuses (Refused f) old new told now fault may r = absurd may

pub reading_ends_item : (old new : Reading) (units : List (List ℕ)) (before : Told) (mid now : Option Told) (fault : FeedFault)
    → HasRead old units before mid → old.count < old.config.max_frames → RefusesItem old.stage old new mid now fault
    → EndsFeed old.kind old.config units (Broken fault) before now
reading_ends_item old new units before mid now fault h room r =
    let b = refuses old.stage old new mid now fault h.may r in
    feed_ends old units before mid now (Broken fault) h
    (subst (λ (f : Bool). IfTold mid now (λ t. Breaks old.kind old.config f old.at (begun old.kind old.stage) t now fault))
    (sym (not_full old.count old.config.max_frames room)) b)

-- the next marker can't be read
ends_marker : (kind : Kind) (config : Fields) (count at : ℕ) (stage : Stage) (new : Reading) (units : List (List ℕ)) (before : Told)
    (mid now : Option Told) (fault : FeedFault)
    → HasRead (reader kind config count at stage) units before mid
    → RefusesMarker stage (reader kind config count at stage) new mid now fault
    → EndsFeed kind config units (Broken fault) before now
ends_marker kind config count at Open new units before mid now fault h (named, is, broken) =
    let given = (h.head ++ flat_map (item kind) units) ++ [] in
    let b = told_there given before mid now (λ t. (full : Bool) → Breaks kind config full at [] t now fault) h.gave broken in
    feed_ends (reader kind config count at Open) units before mid now (Broken fault) h
    (subst (λ (t : Option Told). IfTold t now (λ t. EndsHere (reader kind config count at Open) (Broken fault) t now)) (sym h.gave.1)
    (b (count == config.max_frames)))
ends_marker kind config count at Marked new units before mid now fault h r = absurd r
ends_marker kind config count at Ended new units before mid now fault h r = absurd r
ends_marker kind config count at (Refused f) new units before mid now fault h r = absurd h.may

pub reading_ends_marker : (old new : Reading) (units : List (List ℕ)) (before : Told) (mid now : Option Told) (fault : FeedFault)
    → HasRead old units before mid → RefusesMarker old.stage old new mid now fault
    → EndsFeed old.kind old.config units (Broken fault) before now
reading_ends_marker old new units before mid now fault h r = ends_marker old.kind old.config old.count old.at old.stage new units before mid now fault h r

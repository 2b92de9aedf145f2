-- How a feed breaks in its head.
use Rattle.std.proofs.Common.{◌≡◌, ℕ, ◌+◌, ◌<◌, ◌≤◌, List, length, take, drop, Option, Some, None, Ok, Err, refl, sym, ◌∙◌, subst, arith, ◌⊎◌}
use Rattle.std.proofs.lemmas.List.{length-take, take_all, take-take, take-append-drop}
use Rattle.rec_bytes.specs.Configuration.{Fields, Spells, first_fault}
use Rattle.raw_feed.specs.declared.head.TheConstants.{FEED_HEAD_LEN}
use Rattle.raw_feed.specs.declared.kind.Kind.{Kind}
use Rattle.raw_feed.specs.declared.fault.FeedFault.{FeedFault}
use Rattle.raw_feed.specs.declared.fault.FeedFault.TheVariants.{Memory, FeedHead, Marker, FeedCut, SourceFault, TooLong, Sample, UnitLong}
use Rattle.raw_feed.specs.Told.{Told}
use Rattle.raw_feed.specs.Items.{Broken}
use Rattle.raw_feed.specs.Feeds.{IsHead, DiffersAt, BreaksConfigAt, EndsInHead, magic}
use Rattle.raw_feed.specs.Breaks.{BreaksHead, Gave}
use Rattle.raw_feed.specs.inner.Parts.{Fills, TakesPart}
use Rattle.raw_feed.specs.Reading.{IfTold}
use Rattle.raw_feed.proofs.KindLemmas.{magic_long, reaches}
use Rattle.raw_feed.proofs.BreakLemmas.{may_fail}
use Rattle.raw_feed.proofs.PartLemmas.{Gave-take, Gave-filled}

-- a head that didn't come whole
pub BreaksHead-part : (kind : Kind) (told now : Option Told) (out : List ℕ) (fault : FeedFault) → length out ≡ FEED_HEAD_LEN
    → TakesPart 0 told now (Err fault) out → IfTold told now (λ before. BreaksHead kind before now fault)
BreaksHead-part kind None now out fault long part = part
BreaksHead-part kind (Some before) now out (SourceFault n) long part =
    let k = part.count in
    let fewer = part.fewer in
    let there = part.there in
    record {
      given = take k before.left;
      gave = Gave-take k before now there part.moved;
      ending = Broken (FeedCut (length (take k before.left)));
      read = (refl, (let l = length-take k before.left in omega arith));
      reach =
          reaches kind (0 + length (take k before.left)) FEED_HEAD_LEN (Broken (FeedCut (length (take k before.left)))) (omega arith);
      answered = may_fail kind (Broken (FeedCut (length (take k before.left)))) tt;
      shown = λ is. absurd is;
    }
BreaksHead-part kind (Some before) now out (TooLong place) long part = let wants = part.1.wants in absurd (omega arith)
BreaksHead-part kind (Some before) now out Memory long part = absurd part
BreaksHead-part kind (Some before) now out (FeedHead at) long part = absurd part
BreaksHead-part kind (Some before) now out (Marker at) long part = absurd part
BreaksHead-part kind (Some before) now out (FeedCut at) long part = absurd part
BreaksHead-part kind (Some before) now out (Sample at) long part = absurd part
BreaksHead-part kind (Some before) now out (UnitLong at) long part = absurd part

-- a head that is cut
pub BreaksHead-cut : (kind : Kind) (n : ℕ) (told now : Option Told) (out : List ℕ) → length out ≡ FEED_HEAD_LEN → n < FEED_HEAD_LEN
    → TakesPart 0 told now (Ok n) out → IfTold told now (λ before. BreaksHead kind before now (FeedCut n))
BreaksHead-cut kind n None now out long fewer part = part
BreaksHead-cut kind n (Some before) now out long fewer part =
    let fills : Fills n before now out = part.1 in
    let all : length before.left ≡ n = fills.ended (omega arith) in
    let whole : take n before.left ≡ before.left = take_all n before.left (omega arith) in
    let ends : EndsInHead kind before.left (Broken (FeedCut n)) = (sym all, omega arith) in
    let here : EndsInHead kind (take n before.left) (Broken (FeedCut n)) = rw whole ends in
    record {
      given = take n before.left;
      gave = Gave-take n before now fills.there fills.moved;
      ending = Broken (FeedCut n);
      read = here;
      reach =
          reaches kind (0 + length (take n before.left)) FEED_HEAD_LEN (Broken (FeedCut n)) (let l = length-take n before.left in omega arith);
      answered = refl;
      shown = λ is. ends;
    }

-- the head that came, whole
pub head_came : (n : ℕ) (before : Told) (now : Option Told) (out : List ℕ) → length out ≡ FEED_HEAD_LEN → FEED_HEAD_LEN ≤ n
    → Fills n before now out → (n ≡ FEED_HEAD_LEN) × (FEED_HEAD_LEN ≤ length before.left) × (out ≡ take FEED_HEAD_LEN before.left)
head_came n before now out long enough fills =
    let most = fills.most in
    let there = fills.there in
    let same : n ≡ FEED_HEAD_LEN = omega arith in
    let bytes : take FEED_HEAD_LEN out ≡ take FEED_HEAD_LEN before.left = subst (λ (k : ℕ). take k out ≡ take k before.left) same fills.bytes in
    (same, omega arith, sym (take_all FEED_HEAD_LEN out (omega arith)) ∙ bytes)

-- a head that is wrong
pub BreaksHead-wrong : (kind : Kind) (n at : ℕ) (told now : Option Told) (out : List ℕ) → length out ≡ FEED_HEAD_LEN → FEED_HEAD_LEN ≤ n
    → (DiffersAt kind out at ⊎ BreaksConfigAt kind out at) → TakesPart 0 told now (Ok n) out
    → IfTold told now (λ before. BreaksHead kind before now (FeedHead at))
BreaksHead-wrong kind n at None now out long enough wrong part = part
BreaksHead-wrong kind n at (Some before) now out long enough wrong part =
    let came = head_came n before now out long enough part.1 in
    let n_is : n ≡ FEED_HEAD_LEN = came.0 in
    let head = take FEED_HEAD_LEN before.left in
    let broken : DiffersAt kind head at ⊎ BreaksConfigAt kind head at =
    subst (λ (xs : List ℕ). DiffersAt kind xs at ⊎ BreaksConfigAt kind xs at) came.2 wrong in
    let again : take FEED_HEAD_LEN head ≡ head = take-take FEED_HEAD_LEN FEED_HEAD_LEN before.left (omega arith) in
    let here : EndsInHead kind head (Broken (FeedHead at)) = (
      (let l = length-take FEED_HEAD_LEN before.left in let m = came.1 in omega arith),
      subst (λ (xs : List ℕ). DiffersAt kind xs at ⊎ BreaksConfigAt kind xs at) (sym again) broken,
    ) in
    let enough_left = came.1 in
    record {
      given = head;
      gave = Gave-filled n head before now out (omega arith) came.2 part.1;
      ending = Broken (FeedHead at);
      read = here;
      reach =
          reaches kind (0 + length head) FEED_HEAD_LEN (Broken (FeedHead at)) (let l = length-take FEED_HEAD_LEN before.left in omega arith);
      answered = refl;
      shown = λ is. (came.1, broken);
    }

-- a head that is right
pub ReadsHead-came : (kind : Kind) (n : ℕ) (told now : Option Told) (out : List ℕ) (config : Fields) → length out ≡ FEED_HEAD_LEN
    → FEED_HEAD_LEN ≤ n → n ≤ length out → IsHead kind out config → TakesPart 0 told now (Ok n) out
    → IfTold told now (λ before. (head : List ℕ) × IsHead kind head config × Gave head before now)
ReadsHead-came kind n None now out config long enough most is part = part
ReadsHead-came kind n (Some before) now out config long enough most is part = (out, is, Gave-filled n out before now out (omega arith) refl part.1)

-- the magic that was looked over, and the bytes behind it
pub IsHead-read : (kind : Kind) (head spelling : List ℕ) (at : ℕ) (config : Fields) → 8 ≤ at → at ≤ 8 → take at head ≡ take at (magic kind)
    → spelling ≡ drop 8 head → Spells spelling config → IsHead kind head config
IsHead-read kind head spelling at config from to right rest spelled =
    let eight : at ≡ 8 = omega arith in
    let front : take 8 head ≡ magic kind =
    subst (λ (k : ℕ). take k head ≡ take k (magic kind)) eight right ∙ take_all 8 (magic kind) (let m = magic_long kind in omega arith) in
    record {
      spelling = spelling;
      split = sym (take-append-drop 8 head) ∙ cc (front, rest);
      spelled = spelled;
    }

pub BreaksConfigAt-read : (kind : Kind) (head spelling : List ℕ) (at field : ℕ) → 8 ≤ at → at ≤ 8 → take at head ≡ take at (magic kind)
    → spelling ≡ drop 8 head → first_fault spelling ≡ Some field → BreaksConfigAt kind head (8 + field)
BreaksConfigAt-read kind head spelling at field from to right rest broken =
    let eight : at ≡ 8 = omega arith in
    record {
      field = field;
      magic_is = subst (λ (k : ℕ). take k head ≡ take k (magic kind)) eight right ∙ take_all 8 (magic kind) (let m = magic_long kind in omega arith);
      broken = subst (λ (xs : List ℕ). first_fault xs ≡ Some field) rest broken;
      place = refl;
    }

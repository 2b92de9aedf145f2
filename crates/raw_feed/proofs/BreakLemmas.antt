-- How an item breaks, by the part of it that didn't come.
use Rattle.std.proofs.Common.{◌≡◌, ℕ, ◌+◌, ◌-◌, ◌<◌, ◌≤◌, List, [], ◌∷◌, ◌++◌, length, take, drop, get_or, min, Bool, true, false}
use Rattle.std.proofs.Common.{Option, Some, None, Ok, Err, refl, sym, ap, ◌∙◌, subst, append_assoc, arith, inl, inr}
use Rattle.std.proofs.lemmas.List.{length-take, length-append, take_at, drop_at, take_all, take-take, take-append-drop}
use Rattle.std.proofs.lemmas.Nat.{be_bytes_4}
use Rattle.std.proofs.Math.Seq.{take-add}
use Rattle.byteorder.specs.Endian.{big_number, big_bytes}
use Rattle.byteorder.specs.Numbers.{big_number-reads_back, big_from-take}
use Rattle.rec_bytes.specs.Configuration.{Fields}
use Rattle.raw_feed.specs.declared.kind.TheConstants.{UNIT_MARKER}
use Rattle.raw_feed.specs.declared.limits.TheConstants.{MAX_UNIT, MAX_FEED}
use Rattle.raw_feed.specs.declared.kind.Kind.{Kind}
use Rattle.raw_feed.specs.declared.kind.Kind.TheVariants.{Units, Pictures}
use Rattle.raw_feed.specs.declared.fault.FeedFault.{FeedFault}
use Rattle.raw_feed.specs.declared.fault.FeedFault.TheVariants.{Memory, FeedHead, Marker, FeedCut, SourceFault, TooLong, Sample, UnitLong}
use Rattle.raw_feed.specs.Told.{Told, after}
use Rattle.raw_feed.specs.Items.{Ending, Clean, Full, Broken, EndsAt, IsShort, IsMarked, marker, limited, unit_len}
use Rattle.raw_feed.specs.inner.Parts.{Fills, FillsPart, PassesLimit, TakesPart, MarkerRead, LenRead}
use Rattle.raw_feed.specs.Breaks.{Breaks, MayGoOn, MayFail, Reaches, judged_to}
use Rattle.raw_feed.proofs.KindLemmas.{reaches}
use Rattle.raw_feed.proofs.PartLemmas.{Gave-take, Gave-more, Gave-filled}

-- whatever fewer bytes than are wanted come behind the front, the item is short
abbrev pub ShortWithin : Kind → Fields → Bool → List ℕ → ℕ → Type 0
ShortWithin kind config full front wanted = (piece : List ℕ) → length piece < wanted → IsShort kind config full (front ++ piece)

-- take of more than the front
pub take-append_more : (n : ℕ) (xs ys : List ℕ) → length xs ≤ n → take n (xs ++ ys) ≡ xs ++ take (n - length xs) ys
take-append_more n xs ys h =
    let k : n ≡ length xs + (n - length xs) = omega arith in
    let split : take (length xs + (n - length xs)) (xs ++ ys) ≡ take (length xs) (xs ++ ys) ++ take (n - length xs) (drop (length xs) (xs ++ ys)) =
    take-add (length xs) (n - length xs) (xs ++ ys) in
    ap (λ (m : ℕ). take m (xs ++ ys)) k ∙ (split ∙ cc (take_at xs ys (length xs) refl, drop_at xs ys (length xs) refl))

-- the feed is cut behind the bytes that came
pub Breaks-cut : (kind : Kind) (config : Fields) (full : Bool) (at : ℕ) (front : List ℕ) (wanted n : ℕ) (old : Told) (new : Option Told) (out : List ℕ)
    → ShortWithin kind config full front wanted → length out ≡ wanted → n < wanted → 0 < length front + n → at + length front + n ≤ MAX_FEED
    → Fills n old new out
    → Breaks kind config full at front old new (FeedCut (at + length front + n))
Breaks-cut kind config full at front wanted n old new out short long fewer some within fills =
    let all : length old.left ≡ n = fills.ended (omega arith) in
    let whole : take n old.left ≡ old.left = take_all n old.left (omega arith) in
    let len : length (front ++ old.left) ≡ length front + n = length-append front old.left ∙ ap (λ (k : ℕ). length front + k) all in
    let ends : EndsAt kind config full at (front ++ old.left) (Broken (FeedCut (at + length front + n))) =
    (omega arith, within, omega arith, short old.left (omega arith)) in
    let here : EndsAt kind config full at (front ++ take n old.left) (Broken (FeedCut (at + length front + n))) = rw whole ends in
    let there = fills.there in
    record {
      given = take n old.left;
      gave = Gave-take n old new there fills.moved;
      ending = Broken (FeedCut (at + length front + n));
      read = here;
      reach =
          reaches kind (at + length front + length (take n old.left)) at (Broken (FeedCut (at + length front + n)))
          (let l = length-take n old.left in omega arith);
      answered = refl;
      shown = λ is. ends;
    }

-- bytes behind which a feed may go on
abbrev pub EndsShort : Kind → Fields → Bool → ℕ → List ℕ → Type 0
EndsShort kind config full at bytes = (ending : Ending) × EndsAt kind config full at bytes ending × (at + length bytes ≡ judged_to at ending) × MayGoOn ending

-- what came of an item that is short ends the bytes that were read
pub short_ends : (kind : Kind) (config : Fields) (full : Bool) (at : ℕ) (front piece : List ℕ) → IsShort kind config full (front ++ piece)
    → at + length front + length piece ≤ MAX_FEED → EndsShort kind config full at (front ++ piece)
short_ends kind config full at [] [] short within = (Clean, refl, omega arith, tt)
short_ends kind config full at [] (x ∷ xs) short within = (Broken (FeedCut (at + length (x ∷ xs))), (refl, omega arith, omega arith, short), refl, tt)
short_ends kind config full at (x ∷ xs) piece short within =
    let len = length-append (x ∷ xs) piece in
    (Broken (FeedCut (at + length ((x ∷ xs) ++ piece))), (refl, omega arith, omega arith, short), refl, tt)

-- a source may fail where the feed may go on
pub may_fail : (kind : Kind) (ending : Ending) → MayGoOn ending → MayFail kind ending
may_fail Units ending may = may
may_fail Pictures Clean may = tt
may_fail Pictures Full may = may
may_fail Pictures (Broken Memory) may = may
may_fail Pictures (Broken (FeedHead place)) may = may
may_fail Pictures (Broken (Marker place)) may = may
may_fail Pictures (Broken (FeedCut place)) may = tt
may_fail Pictures (Broken (SourceFault count)) may = may
may_fail Pictures (Broken (TooLong place)) may = may
may_fail Pictures (Broken (Sample place)) may = absurd may
may_fail Pictures (Broken (UnitLong place)) may = may

-- the source failed before all came
pub Breaks-failed : (kind : Kind) (config : Fields) (full : Bool) (at : ℕ) (front : List ℕ) (wanted count : ℕ) (old : Told) (new : Option Told)
    → ShortWithin kind config full front wanted → at + length front ≤ MAX_FEED
    → FillsPart (min wanted (MAX_FEED - (at + length front) + 1)) old new
    → Breaks kind config full at front old new (SourceFault count)
Breaks-failed kind config full at front wanted count old new short within part =
    let k = part.count in
    let piece = take k old.left in
    let len : length piece ≡ k = length-take k old.left ∙ (let t = part.there in omega arith) in
    let fewer = part.fewer in
    let ends = short_ends kind config full at front piece (short piece (omega arith)) (omega arith) in
    record {
      given = piece;
      gave = Gave-take k old new part.there part.moved;
      ending = ends.0;
      read = ends.1;
      reach =
          reaches kind (at + length front + length piece) at ends.0 (let l = length-append front piece in let r = ends.2 in omega arith);
      answered = may_fail kind ends.0 ends.3;
      shown = λ is. absurd is;
    }

-- the feed passes its limit
pub Breaks-long : (kind : Kind) (config : Fields) (full : Bool) (at : ℕ) (front : List ℕ) (wanted : ℕ) (old : Told) (new : Option Told)
    → ShortWithin kind config full front wanted → at + length front ≤ MAX_FEED → PassesLimit (at + length front) wanted old new
    → Breaks kind config full at front old new (TooLong MAX_FEED)
Breaks-long kind config full at front wanted old new short within passes =
    let p = at + length front in
    let k = MAX_FEED - p + 1 in
    let wants = passes.wants in
    let there = passes.there in
    let kept : (rest : List ℕ) → take (MAX_FEED - at) (front ++ rest) ≡ front ++ take (MAX_FEED - p) rest =
    λ rest. take-append_more (MAX_FEED - at) front rest (omega arith)
    ∙ ap (λ (n : ℕ). front ++ take n rest) (let e : MAX_FEED - at - length front ≡ MAX_FEED - p = omega arith in e) in
    let shorter : length (take (MAX_FEED - p) old.left) < wanted = let l = length-take (MAX_FEED - p) old.left in omega arith in
    let judged_short : IsShort kind config full (front ++ take (MAX_FEED - p) old.left) = short (take (MAX_FEED - p) old.left) shorter in
    let whole : EndsAt kind config full at (front ++ old.left) (Broken (TooLong MAX_FEED)) =
    (refl, (let l = length-append front old.left in omega arith), rw (kept old.left) judged_short) in
    let same : take (MAX_FEED - p) (take k old.left) ≡ take (MAX_FEED - p) old.left = take-take (MAX_FEED - p) k old.left (omega arith) in
    let part : EndsAt kind config full at (front ++ take k old.left) (Broken (TooLong MAX_FEED)) =
    (refl, (let l = length-append front (take k old.left) in let m = length-take k old.left in omega arith), rw (kept (take k old.left), same) judged_short) in
    record {
      given = take k old.left;
      gave = Gave-take k old new (omega arith) passes.moved;
      ending = Broken (TooLong MAX_FEED);
      read = part;
      reach =
          reaches kind (at + length front + length (take k old.left)) at (Broken (TooLong MAX_FEED))
          (let m = length-take k old.left in omega arith);
      answered = refl;
      shown = λ is. whole;
    }

-- the part that is wanted next didn't come
pub Breaks-part : (kind : Kind) (config : Fields) (full : Bool) (at : ℕ) (front : List ℕ) (place : ℕ) (old : Told) (new : Option Told) (out : List ℕ) (fault : FeedFault)
    → ShortWithin kind config full front (length out) → place ≡ at + length front → place ≤ MAX_FEED
    → TakesPart place (Some old) new (Err fault) out
    → Breaks kind config full at front old new fault
Breaks-part kind config full at front place old new out (SourceFault count) short e within part =
    Breaks-failed kind config full at front (length out) count old new short (omega arith) (rw e at part)
Breaks-part kind config full at front place old new out (TooLong limit) short e within part =
    rw part.0 (Breaks-long kind config full at front (length out) old new short (omega arith) (rw e at part.1))
Breaks-part kind config full at front place old new out Memory short e within part = absurd part
Breaks-part kind config full at front place old new out (FeedHead at') short e within part = absurd part
Breaks-part kind config full at front place old new out (Marker at') short e within part = absurd part
Breaks-part kind config full at front place old new out (FeedCut at') short e within part = absurd part
Breaks-part kind config full at front place old new out (Sample at') short e within part = absurd part
Breaks-part kind config full at front place old new out (UnitLong at') short e within part = absurd part

-- bytes that came before belong to the front
pub Breaks-shift : (kind : Kind) (config : Fields) (full : Bool) (at : ℕ) (front : List ℕ) (k : ℕ) (piece : List ℕ) (old : Told) (new : Option Told) (fault : FeedFault)
    → length piece ≡ k → take k old.left ≡ piece → Breaks kind config full at (front ++ piece) (after k old) new fault
    → Breaks kind config full at front old new fault
Breaks-shift kind config full at front k piece old new fault long is b =
    let all : (front ++ piece) ++ drop k old.left ≡ front ++ old.left =
    append_assoc front piece (drop k old.left)
    ∙ ap (λ (xs : List ℕ). front ++ xs) (ap (λ (xs : List ℕ). xs ++ drop k old.left) (sym is) ∙ take-append-drop k old.left) in
    record {
      given = piece ++ b.given;
      gave = Gave-more k piece b.given old new long is b.gave;
      ending = b.ending;
      read = subst (λ (xs : List ℕ). EndsAt kind config full at xs b.ending) (append_assoc front piece b.given) b.read;
      reach =
          subst (λ (read : ℕ). Reaches kind read at b.ending)
          (let l = length-append front piece in
          let m = length-append piece b.given in
          let e : at + length (front ++ piece) + length b.given ≡ at + length front + length (piece ++ b.given) = omega arith in
          e)
          b.reach;
      answered = b.answered;
      shown = λ s. subst (λ (xs : List ℕ). EndsAt kind config full at xs (Broken fault)) all (b.shown s);
    }

pub short_marker : (kind : Kind) (config : Fields) (full : Bool) → ShortWithin kind config full [] 4
short_marker kind config full = λ piece less. inl less

pub short_len : (config : Fields) → ShortWithin Units config false UNIT_MARKER 4
short_len config = λ piece less.
    let marked : IsMarked Units (UNIT_MARKER ++ piece) = take_at UNIT_MARKER piece 4 refl in
    let shorter : length (UNIT_MARKER ++ piece) < 8 = let l = length-append UNIT_MARKER piece in omega arith in
    inr (marked, refl, inl shorter)

pub short_bytes : (config : Fields) (len : ℕ) (front : List ℕ) (wanted : ℕ) → len ≤ MAX_UNIT → length front + wanted ≤ len
    → ShortWithin Units config false ((UNIT_MARKER ++ big_bytes 4 len) ++ front) wanted
short_bytes config len front wanted most within = λ piece less.
    let head = UNIT_MARKER ++ big_bytes 4 len in
    let behind : (head ++ front) ++ piece ≡ UNIT_MARKER ++ (big_bytes 4 len ++ (front ++ piece)) =
    append_assoc head front piece ∙ append_assoc UNIT_MARKER (big_bytes 4 len) (front ++ piece) in
    let spelled : big_number 4 (big_bytes 4 len ++ (front ++ piece)) ≡ len = big_number-reads_back 4 len (front ++ piece) (omega arith) in
    let marked : IsMarked Units ((head ++ front) ++ piece) = ap (take 4) behind ∙ take_at UNIT_MARKER (big_bytes 4 len ++ (front ++ piece)) 4 refl in
    let is_len : unit_len ((head ++ front) ++ piece) ≡ len =
    ap unit_len behind ∙ (ap (big_number 4) (drop_at UNIT_MARKER (big_bytes 4 len ++ (front ++ piece)) 4 refl) ∙ spelled) in
    let fewer : length ((head ++ front) ++ piece) < 8 + len = let l = length-append (head ++ front) piece in let m = length-append head front in omega arith in
    inr (marked, refl, inr (omega arith, omega arith))

-- the bytes at a place are no marker
pub Breaks-marker : (kind : Kind) (config : Fields) (full : Bool) (at : ℕ) (old : Told) (new : Option Told) (out : List ℕ) → length out ≡ 4
    → at + 4 ≤ MAX_FEED → (out ≡ marker kind → ⊥) → Fills 4 old new out → Breaks kind config full at [] old new (Marker at)
Breaks-marker kind config full at old new out long within other fills =
    let there = fills.there in
    let out_is : out ≡ take 4 old.left = sym (take_all 4 out (omega arith)) ∙ fills.bytes in
    let wrong : (rest : List ℕ) → take 4 rest ≡ take 4 old.left → 4 ≤ length rest → EndsAt kind config full at rest (Broken (Marker at)) =
    λ rest same enough. (
      refl,
      (let l = length-take (MAX_FEED - at) rest in omega arith),
      λ marked. other (out_is ∙ (sym same ∙ (sym (take-take 4 (MAX_FEED - at) rest (omega arith)) ∙ marked))),
    ) in
    let part : EndsAt kind config full at (take 4 old.left) (Broken (Marker at)) =
    wrong (take 4 old.left) (take-take 4 4 old.left (omega arith)) (let l = length-take 4 old.left in omega arith) in
    record {
      given = take 4 old.left;
      gave = Gave-take 4 old new there fills.moved;
      ending = Broken (Marker at);
      read = part;
      reach =
          reaches kind (at + length {A = ℕ} [] + length (take 4 old.left)) at (Broken (Marker at))
          (let l = length-take 4 old.left in omega arith);
      answered = refl;
      shown = λ is. wrong old.left refl there;
    }

-- the exits of the reader of a marker
pub MarkerRead-part : (kind : Kind) (at : ℕ) (told now : Option Told) (out : List ℕ) (fault : FeedFault) → length out ≡ 4 → at ≤ MAX_FEED
    → TakesPart at told now (Err fault) out → MarkerRead kind at told now (Err fault)
MarkerRead-part kind at None now out fault long within part = part
MarkerRead-part kind at (Some old) now out fault long within part = λ config full.
    Breaks-part kind config full at [] at old now out fault (rw long (short_marker kind config full)) (omega arith) within part

pub MarkerRead-cut : (kind : Kind) (at n : ℕ) (told now : Option Told) (out : List ℕ) → length out ≡ 4 → at + n ≤ MAX_FEED → 0 < n → n < 4
    → TakesPart at told now (Ok n) out → MarkerRead kind at told now (Err (FeedCut (at + n)))
MarkerRead-cut kind at n None now out long within some fewer part = part
MarkerRead-cut kind at n (Some old) now out long within some fewer part = λ config full.
    let e : at + 0 + n ≡ at + n = omega arith in
    subst (λ (place : ℕ). Breaks kind config full at [] old now (FeedCut place)) e
    (Breaks-cut kind config full at [] 4 n old now out (short_marker kind config full) long fewer (omega arith) (omega arith) part.1)

pub MarkerRead-wrong : (kind : Kind) (at n : ℕ) (told now : Option Told) (out : List ℕ) → length out ≡ 4 → n ≡ 4 → at + n ≤ MAX_FEED
    → (out ≡ marker kind → ⊥) → TakesPart at told now (Ok n) out → MarkerRead kind at told now (Err (Marker at))
MarkerRead-wrong kind at n None now out long whole within other part = part
MarkerRead-wrong kind at n (Some old) now out long whole within other part = λ config full.
    Breaks-marker kind config full at old now out long (omega arith) other (rw whole at part.1)

pub MarkerRead-right : (kind : Kind) (at n : ℕ) (told now : Option Told) (out : List ℕ) → length out ≡ 4 → n ≡ 4 → out ≡ marker kind
    → TakesPart at told now (Ok n) out → MarkerRead kind at told now (Ok true)
MarkerRead-right kind at n None now out long whole is part = part
MarkerRead-right kind at n (Some old) now out long whole is part = Gave-filled n (marker kind) old now out (omega arith) is part.1

-- the bytes of a unit's length are too large a number
pub Breaks-unit_long : (config : Fields) (at : ℕ) (old : Told) (new : Option Told) (out : List ℕ) → length out ≡ 4 → at + 8 ≤ MAX_FEED
    → MAX_UNIT < big_number 4 out → Fills 4 old new out → Breaks Units config false at UNIT_MARKER old new (UnitLong (at + 4))
Breaks-unit_long config at old new out long within large fills =
    let there = fills.there in
    let out_is : out ≡ take 4 old.left = sym (take_all 4 out (omega arith)) ∙ fills.bytes in
    let wrong : (rest : List ℕ) → take 4 rest ≡ out → EndsAt Units config false at (UNIT_MARKER ++ rest) (Broken (UnitLong (at + 4))) =
    λ rest same.
    let four : length (take 4 rest) ≡ 4 = ap length same ∙ long in
    let enough : 4 ≤ length rest = let l = length-take 4 rest in omega arith in
    let kept : limited at (UNIT_MARKER ++ rest) ≡ UNIT_MARKER ++ take (MAX_FEED - at - 4) rest =
    take-append_more (MAX_FEED - at) UNIT_MARKER rest (omega arith) in
    let number : unit_len (limited at (UNIT_MARKER ++ rest)) ≡ big_number 4 out =
    ap unit_len kept ∙ (ap (big_number 4) (drop_at UNIT_MARKER (take (MAX_FEED - at - 4) rest) 4 refl)
    ∙ (sym (big_from-take 0 4 4 (take (MAX_FEED - at - 4) rest) (omega arith))
    ∙ ap (big_number 4) (take-take 4 (MAX_FEED - at - 4) rest (omega arith) ∙ same))) in
    let many : 8 ≤ length (limited at (UNIT_MARKER ++ rest)) =
    let l = length-take (MAX_FEED - at) (UNIT_MARKER ++ rest) in let m = length-append UNIT_MARKER rest in omega arith in
    (refl, refl, ap (take 4) kept ∙ take_at UNIT_MARKER (take (MAX_FEED - at - 4) rest) 4 refl, (many, omega arith)) in
    let part : EndsAt Units config false at (UNIT_MARKER ++ take 4 old.left) (Broken (UnitLong (at + 4))) =
    wrong (take 4 old.left) (take-take 4 4 old.left (omega arith) ∙ sym out_is) in
    record {
      given = take 4 old.left;
      gave = Gave-take 4 old new there fills.moved;
      ending = Broken (UnitLong (at + 4));
      read = part;
      reach =
          reaches Units (at + length UNIT_MARKER + length (take 4 old.left)) at (Broken (UnitLong (at + 4)))
          (let l = length-take 4 old.left in omega arith);
      answered = refl;
      shown = λ is. wrong old.left (sym out_is);
    }

-- the exits of the reader of a length
pub LenRead-part : (at : ℕ) (told now : Option Told) (out : List ℕ) (fault : FeedFault) → length out ≡ 4 → at + 4 ≤ MAX_FEED
    → TakesPart (at + 4) told now (Err fault) out → LenRead at told now (Err fault)
LenRead-part at None now out fault long within part = part
LenRead-part at (Some old) now out fault long within part = λ config.
    Breaks-part Units config false at UNIT_MARKER (at + 4) old now out fault (rw long (short_len config)) refl within part

pub LenRead-cut : (at n : ℕ) (told now : Option Told) (out : List ℕ) → length out ≡ 4 → at + 4 + n ≤ MAX_FEED → n < 4
    → TakesPart (at + 4) told now (Ok n) out → LenRead at told now (Err (FeedCut (at + 4 + n)))
LenRead-cut at n None now out long within fewer part = part
LenRead-cut at n (Some old) now out long within fewer part = λ config.
    Breaks-cut Units config false at UNIT_MARKER 4 n old now out (short_len config) long fewer (omega arith) within part.1

pub LenRead-long : (at n : ℕ) (told now : Option Told) (out : List ℕ) → length out ≡ 4 → n ≡ 4 → at + 4 + n ≤ MAX_FEED
    → MAX_UNIT < big_number 4 out → TakesPart (at + 4) told now (Ok n) out → LenRead at told now (Err (UnitLong (at + 4)))
LenRead-long at n None now out long whole within large part = part
LenRead-long at n (Some old) now out long whole within large part = λ config.
    Breaks-unit_long config at old now out long (omega arith) large (rw whole at part.1)

pub LenRead-ok : (at n len : ℕ) (told now : Option Told) (out : List ℕ) → length out ≡ 4 → n ≡ 4 → big_bytes 4 len ≡ out
    → TakesPart (at + 4) told now (Ok n) out → LenRead at told now (Ok len)
LenRead-ok at n len None now out long whole is part = part
LenRead-ok at n len (Some old) now out long whole is part = Gave-filled n (big_bytes 4 len) old now out (omega arith) (sym is) part.1

pub bytes_of_number : (out : List ℕ) (len : ℕ) → length out ≡ 4 → ((i : ℕ) → get_or out i 0 < 256) → len ≡ big_number 4 out → big_bytes 4 len ≡ out
bytes_of_number out len long bytes is = be_bytes_4 out len long bytes (is ∙ omega arith)

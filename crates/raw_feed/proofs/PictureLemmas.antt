-- How the samples of a picture come piece by piece.
use Rattle.std.proofs.Common.{◌≡◌, ℕ, zero, suc, ◌+◌, ◌*◌, ◌-◌, ◌/◌, ◌<◌, ◌≤◌, List, [], ◌∷◌, ◌++◌, length, take, drop, min, slice_index, false}
use Rattle.std.proofs.Common.{Option, Some, None, Ok, Err, refl, sym, ap, ◌∙◌, subst, append_assoc, arith, inl, inr, ◌⊎◌}
use Rattle.std.proofs.lemmas.List.{length-append, length-take, take_at, drop_at, take_all, append-nil}
use Rattle.std.proofs.lemmas.Bool.{cases_lt}
use Rattle.std.proofs.lemmas.Grind.{flat_map-append}
use Rattle.byteorder.specs.Endian.{big_bytes}
use Rattle.rec_bytes.specs.Places.{with_bytes}
use Rattle.picture_plane.specs.Pictures.{Planes, IsPicture, sample_count}
use Rattle.picture_plane.specs.Sizes.{size_of}
use Rattle.rec_bytes.specs.Configuration.{Fields}
use Rattle.raw_feed.specs.declared.kind.TheConstants.{PICTURE_MARKER, MARKER_LEN, SAMPLE_LEN}
use Rattle.raw_feed.specs.declared.limits.TheConstants.{MAX_SAMPLE, MAX_FEED}
use Rattle.raw_feed.specs.declared.kind.Kind.TheVariants.{Pictures}
use Rattle.raw_feed.specs.declared.fault.FeedFault.{FeedFault}
use Rattle.raw_feed.specs.declared.fault.FeedFault.TheVariants.{Memory, FeedHead, Marker, FeedCut, SourceFault, TooLong, Sample, UnitLong}
use Rattle.raw_feed.specs.Told.{Told, after}
use Rattle.raw_feed.specs.Items.{Broken, EndsAt, IsShort, IsMarked, IsWrongSample, AreSamples, HasWrongSample, limited, picture_samples}
use Rattle.raw_feed.specs.Items.{sample_in, IsSized, item}
use Rattle.raw_feed.specs.Pictures.{spelled, picture_bytes}
use Rattle.raw_feed.specs.inner.Parts.{FillsPart, PassesLimit, TakesPart, SamplesRead, EndsInSamples, BreaksInSamples, IsSamplesFault, ItemRead}
use Rattle.raw_feed.specs.Refusals.{IsItemFault}
use Rattle.raw_feed.specs.Breaks.{Breaks, Gave}
use Rattle.raw_feed.proofs.KindLemmas.{reaches}
use Rattle.raw_feed.proofs.PartLemmas.{Gave-take, Gave-more}
use Rattle.raw_feed.proofs.BreakLemmas.{Breaks-long, Breaks-shift, short_ends, may_fail, take-append_more}
use Rattle.raw_feed.proofs.UnitLemmas.{Gathered}
use Rattle.raw_feed.proofs.SampleLemmas.{NoneWrong, look, length-spelled, sample_taken, sample_before, sample_behind, sample_spelled}

-- no sample is too great
abbrev pub AllSmall : List ℕ → Type 0
AllSmall samples = (k : ℕ) → slice_index samples k ≤ MAX_SAMPLE

-- samples that are right come before bytes
good_before : (good piece : List ℕ) (k : ℕ) → AllSmall good → k < length good → sample_in (spelled good ++ piece) k ≤ MAX_SAMPLE
good_before good piece k small less =
    let l = length-spelled good in
    let v = small k in
    let e = sample_before (spelled good) piece k (omega arith) in
    let f = sample_spelled good k less (omega arith) in
    omega arith

-- the same samples behind right ones
later_sample : (good piece : List ℕ) (k : ℕ) → length good ≤ k → sample_in (spelled good ++ piece) k ≡ sample_in piece (k - length good)
later_sample good piece k most =
    let e : k ≡ length good + (k - length good) = omega arith in
    ap (λ (n : ℕ). sample_in (spelled good ++ piece) n) e ∙ sample_behind good piece (k - length good)

pub behind_right : (good piece : List ℕ) (n : ℕ) → AllSmall good → NoneWrong n piece → length piece < 2 * n + 2 → AreSamples (spelled good ++ piece)
behind_right good piece n small right short k room = on (cases_lt k (length good))
  where
    on : ((k < length good) ⊎ (length good ≤ k)) → sample_in (spelled good ++ piece) k ≤ MAX_SAMPLE
    on (inl less) = good_before good piece k small less
    on (inr most) =
        let l = length-spelled good in
        let m = length-append (spelled good) piece in
        let e = later_sample good piece k most in
        let r = right (k - length good) (omega arith) (omega arith) in
        omega arith

pub behind_wrong : (good piece : List ℕ) (n total k : ℕ) → AllSmall good → length good + n ≤ total → IsWrongSample n piece k
    → IsWrongSample total (spelled good ++ piece) (length good + k)
behind_wrong good piece n total k small room wrong =
    let inside = wrong.inside in
    let there = wrong.there in
    let above = wrong.above in
    let l = length-spelled good in
    let m = length-append (spelled good) piece in
    let e = sample_behind good piece k in
    record {
      inside = omega arith;
      there = omega arith;
      above = omega arith;
      first = λ j less. on j less (cases_lt j (length good));
    }
  where
    on : (j : ℕ) → j < length good + k → ((j < length good) ⊎ (length good ≤ j)) → sample_in (spelled good ++ piece) j ≤ MAX_SAMPLE
    on j less (inl before) = good_before good piece j small before
    on j less (inr most) =
        let e = later_sample good piece j most in
        let f = wrong.first (j - length good) (omega arith) in
        omega arith

-- the bytes of a picture's item so far
abbrev pub front : List ℕ → List ℕ
front good = PICTURE_MARKER ++ spelled good

front_long : (good : List ℕ) → length (front good) ≡ 4 + 2 * length good
front_long good = length-append PICTURE_MARKER (spelled good) ∙ ap (λ (n : ℕ). 4 + n) (length-spelled good)

front_marked : (good piece : List ℕ) → IsMarked Pictures (front good ++ piece)
front_marked good piece = ap (take 4) (append_assoc PICTURE_MARKER (spelled good) piece) ∙ take_at PICTURE_MARKER (spelled good ++ piece) 4 refl

front_behind : (good piece : List ℕ) → drop MARKER_LEN (front good ++ piece) ≡ spelled good ++ piece
front_behind good piece = ap (drop 4) (append_assoc PICTURE_MARKER (spelled good) piece) ∙ drop_at PICTURE_MARKER (spelled good ++ piece) 4 refl

-- fewer samples came than are wanted, and none is wrong: the item is short
front_short : (config : Fields) (good piece : List ℕ) (n : ℕ) → AllSmall good → length good + n ≤ picture_samples config → NoneWrong n piece
    → length piece < 2 * n → IsShort Pictures config false (front good ++ piece)
front_short config good piece n small room right fewer =
    let l = front_long good in
    let m = length-append (front good) piece in
    inr (
      front_marked good piece,
      refl,
      (omega arith, subst AreSamples (sym (front_behind good piece)) (behind_right good piece n small right (omega arith))),
    )

-- a sample is wrong
front_wrong : (config : Fields) (at : ℕ) (good rest : List ℕ) (n k : ℕ) → AllSmall good → length good + n ≤ picture_samples config
    → at + 4 + 2 * length good + 2 * k + 2 ≤ MAX_FEED → IsWrongSample n rest k
    → EndsAt Pictures config false at (front good ++ rest) (Broken (Sample (at + 4 + 2 * length good + 2 * k)))
front_wrong config at good rest n k small room within wrong =
    let l = front_long good in
    let there = wrong.there in
    let most = MAX_FEED - at - length (front good) in
    let seen = take most rest in
    let kept : limited at (front good ++ rest) ≡ front good ++ seen = take-append_more (MAX_FEED - at) (front good) rest (omega arith) in
    let seen_wrong : IsWrongSample n seen k = record {
      inside = wrong.inside;
      there = let t = length-take most rest in omega arith;
      above = let e = sample_taken most rest k (omega arith) in let a = wrong.above in omega arith;
      first = λ j less. let e = sample_taken most rest j (omega arith) in let f = wrong.first j less in omega arith;
    } in
    let all : IsWrongSample (picture_samples config) (drop MARKER_LEN (front good ++ seen)) (length good + k) =
    subst (λ (xs : List ℕ). IsWrongSample (picture_samples config) xs (length good + k)) (sym (front_behind good seen))
    (behind_wrong good seen n (picture_samples config) k small room seen_wrong) in (
      omega arith,
      refl,
      subst (IsMarked Pictures) (sym kept) (front_marked good seen),
      subst (λ (xs : List ℕ). HasWrongSample Pictures config xs (at + 4 + 2 * length good + 2 * k - (at + MARKER_LEN))) (sym kept)
          (length good + k, omega arith, all),
    )

-- the first wrong sample among the first bytes
wrong_taken : (n count : ℕ) (bytes : List ℕ) (k : ℕ) → n ≤ length bytes → 2 * k + 2 ≤ n → IsWrongSample count bytes k → IsWrongSample count (take n bytes) k
wrong_taken n count bytes k there room wrong = record {
  inside = wrong.inside;
  there = let l = length-take n bytes in omega arith;
  above = let e = sample_taken n bytes k room in let a = wrong.above in omega arith;
  first = λ j less. let e = sample_taken n bytes j (omega arith) in let f = wrong.first j less in omega arith;
}

-- the source failed among the samples
failed_samples : (config : Fields) (at : ℕ) (good : List ℕ) (more count : ℕ) (old : Told) (new : Option Told)
    → AllSmall good → length good + more ≤ picture_samples config → at + 4 + 2 * length good ≤ MAX_FEED
    → FillsPart (min (2 * more) (MAX_FEED - (at + 4 + 2 * length good) + 1)) old new → Breaks Pictures config false at (front good) old new (SourceFault count)
failed_samples config at good more count old new small room within part = on (look more piece)
  where
    piece : List ℕ
    piece = take part.count old.left

    long : length piece ≡ part.count
    long = length-take part.count old.left ∙ (let t = part.there in omega arith)

    on : (NoneWrong more piece ⊎ ((k : ℕ) × IsWrongSample more piece k)) → Breaks Pictures config false at (front good) old new (SourceFault count)
    on (inl right) =
        let fewer = part.fewer in
        let len = long in
        let l = front_long good in
        let ends = short_ends Pictures config false at (front good) piece (front_short config good piece more small room right (omega arith)) (omega arith) in
        record {
          given = piece;
          gave = Gave-take part.count old new part.there part.moved;
          ending = ends.0;
          read = ends.1;
          reach =
              reaches Pictures (at + length (front good) + length piece) at ends.0
              (let m = length-append (front good) piece in let r = ends.2 in omega arith);
          answered = may_fail Pictures ends.0 ends.3;
          shown = λ is. absurd is;
        }
    on (inr (k, wrong)) =
        let fewer = part.fewer in
        let len = long in
        let l = front_long good in
        let there = wrong.there in
        record {
          given = piece;
          gave = Gave-take part.count old new part.there part.moved;
          ending = Broken (Sample (at + 4 + 2 * length good + 2 * k));
          read = front_wrong config at good piece more k small room (omega arith) wrong;
          reach = omega arith;
          answered = tt;
          shown = λ is. absurd is;
        }

-- the feed is cut among the samples
cut_samples : (config : Fields) (at : ℕ) (good : List ℕ) (more place : ℕ) (old : Told) (new : Option Told)
    → AllSmall good → length good + more ≤ picture_samples config → EndsInSamples (at + 4 + 2 * length good) more place old new
    → Breaks Pictures config false at (front good) old new (FeedCut place)
cut_samples config at good more place old new small room ends =
    let l = front_long good in
    let m = length-append (front good) old.left in
    let placed = ends.placed in
    let short = front_short config good old.left more small room (λ k inside there. ends.right k there) ends.fewer in
    let here : EndsAt Pictures config false at (front good ++ old.left) (Broken (FeedCut place)) = (omega arith, ends.within, omega arith, short) in
    record {
      given = old.left;
      gave = (take_all (length old.left) old.left (omega arith), ends.moved);
      ending = Broken (FeedCut place);
      read = here;
      reach = omega arith;
      answered = refl;
      shown = λ is. here;
    }

-- a sample is wrong
wrong_samples : (config : Fields) (at : ℕ) (good : List ℕ) (more place : ℕ) (old : Told) (new : Option Told)
    → AllSmall good → length good + more ≤ picture_samples config → BreaksInSamples (at + 4 + 2 * length good) more place old new
    → Breaks Pictures config false at (front good) old new (Sample place)
wrong_samples config at good more place old new small room b =
    let l = front_long good in
    let read = b.read in
    let there = b.there in
    let within = b.within in
    let long : length (take b.n old.left) ≡ b.n = length-take b.n old.left ∙ omega arith in
    let whole : EndsAt Pictures config false at (front good ++ old.left) (Broken (Sample (at + 4 + 2 * length good + 2 * b.k))) =
    front_wrong config at good old.left more b.k small room (omega arith) b.wrong in
    let part : EndsAt Pictures config false at (front good ++ take b.n old.left) (Broken (Sample (at + 4 + 2 * length good + 2 * b.k))) =
    front_wrong config at good (take b.n old.left) more b.k small room (omega arith) (wrong_taken b.n more old.left b.k there read b.wrong) in
    let broken : Breaks Pictures config false at (front good) old new (Sample (at + 4 + 2 * length good + 2 * b.k)) = record {
      given = take b.n old.left;
      gave = Gave-take b.n old new there b.moved;
      ending = Broken (Sample (at + 4 + 2 * length good + 2 * b.k));
      read = part;
      reach = omega arith;
      answered = refl;
      shown = λ is. whole;
    } in
    subst (λ (p : ℕ). Breaks Pictures config false at (front good) old new (Sample p)) (sym b.placed) broken

-- the feed passes its limit among the samples
long_samples : (config : Fields) (at : ℕ) (good : List ℕ) (more : ℕ) (old : Told) (new : Option Told)
    → AllSmall good → length good + more ≤ picture_samples config → at + 4 + 2 * length good ≤ MAX_FEED → more ≤ 1
    → PassesLimit (at + 4 + 2 * length good) (2 * more) old new → Breaks Pictures config false at (front good) old new (TooLong MAX_FEED)
long_samples config at good more old new small room within one passes =
    let l = front_long good in
    let here : at + 4 + 2 * length good ≡ at + length (front good) = omega arith in
    Breaks-long Pictures config false at (front good) (2 * more) old new
    (λ piece less. front_short config good piece more small room (λ k inside there. absurd (omega arith)) less) (omega arith)
    (subst (λ (p : ℕ). PassesLimit p (2 * more) old new) here passes)

-- samples that are wanted next didn't come
Breaks-samples : (config : Fields) (at : ℕ) (good : List ℕ) (more : ℕ) (old : Told) (new : Option Told) (samples : List ℕ) (fault : FeedFault)
    → AllSmall good → length good + more ≤ picture_samples config → at + 4 + 2 * length good ≤ MAX_FEED
    → SamplesRead (at + 4 + 2 * length good) more (Some old) new (Err fault) samples → Breaks Pictures config false at (front good) old new fault
Breaks-samples config at good more old new samples (SourceFault count) small room within part = failed_samples config at good more count old new small room within part
Breaks-samples config at good more old new samples (TooLong place) small room within (is, one, passes) =
    subst (λ (p : ℕ). Breaks Pictures config false at (front good) old new (TooLong p)) (sym is)
    (long_samples config at good more old new small room within one passes)
Breaks-samples config at good more old new samples (FeedCut place) small room within part = cut_samples config at good more place old new small room part
Breaks-samples config at good more old new samples (Sample place) small room within part = wrong_samples config at good more place old new small room part
Breaks-samples config at good more old new samples Memory small room within part = absurd part
Breaks-samples config at good more old new samples (FeedHead place) small room within part = absurd part
Breaks-samples config at good more old new samples (Marker place) small room within part = absurd part
Breaks-samples config at good more old new samples (UnitLong place) small room within part = absurd part

-- the first samples of a picture are small
pub taken_small : (n : ℕ) (samples : List ℕ) → AllSmall samples → AllSmall (take n samples)
taken_small zero samples small k = omega arith
taken_small (suc n) [] small k = small k
taken_small (suc n) (x ∷ xs) small zero = small 0
taken_small (suc n) (x ∷ xs) small (suc k) = taken_small n xs (λ j. small (suc j)) k

pub ItemRead-samples : (config : Fields) (at done more place : ℕ) (told mid now : Option Told) (all samples : List ℕ) (fault : FeedFault)
    → AllSmall all → done ≤ length all → done + more ≤ picture_samples config → place ≡ at + 4 + 2 * done → place ≤ MAX_FEED
    → Gathered told mid (spelled (take done all)) → SamplesRead place more mid now (Err fault) samples → ItemRead Pictures config at told now (Err fault)
ItemRead-samples config at done more place None mid now all samples fault small most room is within g part =
    subst (λ (t : Option Told). SamplesRead place more t now (Err fault) samples) g part
ItemRead-samples config at done more place (Some old) mid now all samples fault small most room is within (taken, moved) part =
    let good = take done all in
    let k = length (spelled good) in
    let long : length good ≡ done = length-take done all ∙ omega arith in
    let here : place ≡ at + 4 + 2 * length good = omega arith in
    let took : SamplesRead (at + 4 + 2 * length good) more (Some (after k old)) now (Err fault) samples =
    subst (λ (p : ℕ). SamplesRead p more (Some (after k old)) now (Err fault) samples) here
    (subst (λ (t : Option Told). SamplesRead place more t now (Err fault) samples) moved part) in
    Breaks-shift Pictures config false at PICTURE_MARKER k (spelled good) old now fault refl taken
    (Breaks-samples config at good more (after k old) now samples fault (taken_small done all small) (omega arith) (omega arith) took)

-- a refusal of samples behind an item's marker is one of the item
pub item_fault_of_samples : (at place : ℕ) (fault : FeedFault) → at + 4 ≤ place → IsSamplesFault place fault → IsItemFault at fault
item_fault_of_samples at place Memory behind h = absurd h
item_fault_of_samples at place (FeedHead p) behind h = absurd h
item_fault_of_samples at place (Marker p) behind h = absurd h
item_fault_of_samples at place (FeedCut p) behind (from, to) = (omega arith, to)
item_fault_of_samples at place (SourceFault count) behind h = tt
item_fault_of_samples at place (TooLong p) behind h = h
item_fault_of_samples at place (Sample p) behind (from, to) = (omega arith, to)
item_fault_of_samples at place (UnitLong p) behind h = absurd h

-- the samples so far, with the next ones put behind them
put_behind : (done : ℕ) (all samples : List ℕ) → done + length samples ≤ length all
    → take (done + length samples) (with_bytes all done samples) ≡ take done all ++ samples
put_behind done all samples room =
    let first : length (take done all) ≡ done = length-take done all ∙ omega arith in
    let both : length (take done all ++ samples) ≡ done + length samples = length-append (take done all) samples ∙ ap (λ (n : ℕ). n + length samples) first in
    take_at (take done all ++ samples) (drop (done + length samples) all) (done + length samples) both

pub Gathered-samples : (at count more done : ℕ) (told mid now : Option Told) (all longer samples : List ℕ) → length samples ≡ more
    → done + more ≤ length all → longer ≡ with_bytes all done samples → Gathered told mid (spelled (take done all))
    → SamplesRead at count mid now (Ok tt) samples → Gathered told now (spelled (take (done + more) longer))
Gathered-samples at count more done None mid now all longer samples long room is g part =
    subst (λ (t : Option Told). SamplesRead at count t now (Ok tt) samples) g part
Gathered-samples at count more done (Some old) mid now all longer samples long room is (taken, moved) part =
    let k = length (spelled (take done all)) in
    let took : Gave (spelled samples) (after k old) now = subst (λ (t : Option Told). SamplesRead at count t now (Ok tt) samples) moved part in
    let same : take (done + more) longer ≡ take done all ++ samples =
    ap (λ (n : ℕ). take (done + n) longer) (sym long) ∙ ap (take (done + length samples)) is ∙ put_behind done all samples (omega arith) in
    let spells : spelled (take done all) ++ spelled samples ≡ spelled (take (done + more) longer) =
    sym (flat_map-append (big_bytes SAMPLE_LEN) (take done all) samples) ∙ ap spelled (sym same) in
    subst (λ (xs : List ℕ). Gave xs old now) spells (Gave-more k (spelled (take done all)) (spelled samples) old now refl taken took)

-- a picture's item was read
pub ItemRead-picture : (config : Fields) (at done : ℕ) (told now : Option Told) (all : List ℕ) → length all ≤ done → Gathered told now (spelled (take done all))
    → ItemRead Pictures config at told now (Ok (spelled all))
ItemRead-picture config at done None now all most g = g
ItemRead-picture config at done (Some old) now all most g = subst (λ (xs : List ℕ). Gave (spelled xs) old now) (take_all done all most) g

pub picture_samples_are : (config : Fields) → picture_samples config ≡ sample_count (size_of config)
unfolding picture_samples
picture_samples_are config = refl

-- the bytes of a picture are those of an item
pub sized_picture : (config : Fields) (picture : Planes) → picture.size ≡ size_of config → IsPicture picture → IsSized Pictures config (picture_bytes picture)
sized_picture config picture size whole =
    let count : length picture.samples ≡ picture_samples config =
    whole.all ∙ ap sample_count size ∙ sym (picture_samples_are config) in
    let l = length-spelled picture.samples in (
      omega arith,
      λ k room.
          let less : k < length picture.samples = omega arith in
          let small = whole.small k in
          let e = sample_spelled picture.samples k less (omega arith) in
          omega arith,
    )

pub picture_item_long : (picture : Planes) → length (item Pictures (picture_bytes picture)) ≡ 4 + 2 * length picture.samples
picture_item_long picture = front_long picture.samples

-- samples that were taken from the first bytes that came are those that the source had
same_samples : (n : ℕ) (out left taken : List ℕ) → take n out ≡ take n left → length taken ≡ n / 2
    → ((k : ℕ) → k < length taken → slice_index taken k ≡ sample_in (take (2 * (n / 2)) out) k)
    → (k : ℕ) → k < n / 2 → slice_index taken k ≡ sample_in left k
same_samples n out left taken same long read k less =
    read k (omega arith)
    ∙ sample_taken (2 * (n / 2)) out k (omega arith)
    ∙ sym (sample_taken n out k (omega arith))
    ∙ ap (λ (xs : List ℕ). sample_in xs k) same
    ∙ sample_taken n left k (omega arith)

-- the exits of the reader of samples
pub SamplesRead-wrong : (at count n k : ℕ) (told now : Option Told) (out taken samples : List ℕ) → length out ≡ 2 * count → n ≤ length out
    → length taken ≡ n / 2 → ((j : ℕ) → j < length taken → slice_index taken j ≡ sample_in (take (2 * (n / 2)) out) j)
    → (k < length taken) × (MAX_SAMPLE < slice_index taken k) × ((j : ℕ) → j < k → slice_index taken j ≤ MAX_SAMPLE)
    → TakesPart at told now (Ok n) out → SamplesRead at count told now (Err (Sample (at + 2 * k))) samples
SamplesRead-wrong at count n k None now out taken samples wanted most long read wrong part = part
SamplesRead-wrong at count n k (Some old) now out taken samples wanted most long read (inside, above, first) (within, fills) =
    let there = fills.there in
    let same = same_samples n out old.left taken fills.bytes long read in
    record {
      n = n;
      k = k;
      most = omega arith;
      there = fills.there;
      within = within;
      moved = fills.moved;
      placed = refl;
      read = omega arith;
      wrong = record {
        inside = omega arith;
        there = omega arith;
        above = let e = same k (omega arith) in omega arith;
        first = λ j less. let e = same j (omega arith) in let f = first j less in omega arith;
      };
    }

pub SamplesRead-cut : (at count n : ℕ) (told now : Option Told) (out taken samples : List ℕ) → length out ≡ 2 * count → n < length out
    → length taken ≡ n / 2 → ((j : ℕ) → j < length taken → slice_index taken j ≡ sample_in (take (2 * (n / 2)) out) j)
    → ((j : ℕ) → j < length taken → slice_index taken j ≤ MAX_SAMPLE)
    → TakesPart at told now (Ok n) out → SamplesRead at count told now (Err (FeedCut (at + n))) samples
SamplesRead-cut at count n None now out taken samples wanted fewer long read right part = part
SamplesRead-cut at count n (Some old) now out taken samples wanted fewer long read right (within, fills) =
    let all : length old.left ≡ n = fills.ended fewer in
    let same = same_samples n out old.left taken fills.bytes long read in
    record {
      fewer = omega arith;
      placed = omega arith;
      within = within;
      moved = subst (λ (m : ℕ). now ≡ Some (after m old)) (sym all) fills.moved;
      right = λ k room. let e = same k (omega arith) in let r = right k (omega arith) in omega arith;
    }

pub SamplesRead-ok : (at count n : ℕ) (told now : Option Told) (out taken samples rest : List ℕ) → length out ≡ 2 * count → length out ≤ n → n ≤ length out
    → length taken ≡ n / 2 → spelled taken ≡ take (2 * (n / 2)) out → rest ≡ []
    → TakesPart at told now (Ok n) out → SamplesRead at count told now (Ok tt) (taken ++ rest)
SamplesRead-ok at count n None now out taken samples rest wanted enough most long spells none part = part
SamplesRead-ok at count n (Some old) now out taken samples rest wanted enough most long spells none (within, fills) =
    let all : 2 * (n / 2) ≡ n = omega arith in
    let bytes : take n old.left ≡ spelled (taken ++ rest) =
    sym fills.bytes ∙ ap (λ (m : ℕ). take m out) (sym all) ∙ sym spells ∙ ap spelled (sym (append-nil taken) ∙ ap (λ (xs : List ℕ). taken ++ xs) (sym none)) in
    subst (λ (xs : List ℕ). Gave xs old now) bytes (Gave-take n old now fills.there fills.moved)

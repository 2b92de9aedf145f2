-- Every list of bytes is a feed, that ends somehow.
use Rattle.std.proofs.Common.{◌≡◌, ◌≢◌, ℕ, zero, suc, ◌+◌, ◌-◌, ◌<◌, ◌≤◌, ◌==◌, List, [], ◌∷◌, ◌++◌, length, take, drop, slice_index}
use Rattle.std.proofs.Common.{Bool, true, false, Option, Some, None, refl, sym, ap, ◌∙◌, subst, append_assoc, arith, inl, inr, ◌⊎◌}
use Rattle.std.specs.List.{flat_map}
use Rattle.std.proofs.lemmas.List.{length-take, length-drop, length-append, take_all, take-append-drop, get_or-take, drop_at}
use Rattle.std.proofs.lemmas.List.Elements.{All-nil}
use Rattle.std.proofs.lemmas.Bool.{cases_lt, cases_eq, eq-eqb}
use Rattle.rec_bytes.specs.Configuration.{Fields, fields_of, first_fault}
use Rattle.rec_bytes.specs.laws.Bytes.{AreBytes, taken_bytes, left_bytes}
use Rattle.rec_bytes.specs.laws.Spellings.{spells_there}
use Rattle.raw_feed.specs.declared.kind.TheConstants.{MAGIC_LEN, MARKER_LEN}
use Rattle.raw_feed.specs.declared.head.TheConstants.{FEED_HEAD_LEN}
use Rattle.raw_feed.specs.declared.limits.TheConstants.{MAX_FEED}
use Rattle.raw_feed.specs.declared.kind.Kind.{Kind}
use Rattle.raw_feed.specs.declared.fault.FeedFault.TheVariants.{FeedHead, Marker, FeedCut, TooLong, Sample, UnitLong}
use Rattle.raw_feed.specs.Items.{Ending, Clean, Full, Broken, EndsAt, IsShort, HasWrongSample, IsMarked, IsSized, limited, marker, item}
use Rattle.raw_feed.specs.Feeds.{IsHead, IsFeedOf, IsFeed, magic}
use Rattle.raw_feed.proofs.KindLemmas.{Next, next, magic_long, marker_long, item_long}
use Rattle.raw_feed.proofs.SplitLemmas.{Splits, Sized}
use Rattle.raw_feed.proofs.FeedLemmas.{head_long}

-- a byte differs from the one that is wanted, and none before it
abbrev pub Differs : List ℕ → List ℕ → ℕ → Type 0
Differs wanted bytes at = (at < length wanted) × (take at bytes ≡ take at wanted) × (slice_index bytes at ≢ slice_index wanted at)

differs_later : (x : ℕ) (wanted bytes : List ℕ) → ((at : ℕ) × Differs wanted bytes at) → (at : ℕ) × Differs (x ∷ wanted) (x ∷ bytes) at
differs_later x wanted bytes (at, d) = let inside = d.0 in (suc at, (omega arith, ap (λ (xs : List ℕ). x ∷ xs) d.1, d.2))

abbrev Begins : List ℕ → List ℕ → Type 0
Begins wanted bytes = (take (length wanted) bytes ≡ wanted) ⊎ ((at : ℕ) × Differs wanted bytes at)

first_too : (w b : ℕ) (wanted bytes : List ℕ) → ((b ≡ w) ⊎ (b ≢ w)) → Begins wanted bytes → Begins (w ∷ wanted) (b ∷ bytes)
first_too w b wanted bytes (inl e) (inl same) = inl (λ i. e i ∷ same i)
first_too w b wanted bytes (inl e) (inr later) =
    inr (subst (λ (x : ℕ). (at : ℕ) × Differs (w ∷ wanted) (x ∷ bytes) at) (sym e) (differs_later w wanted bytes later))
first_too w b wanted bytes (inr other) rest = inr (0, (omega arith, refl, other))

-- bytes begin as is wanted, or one of them differs
pub begins_or_differs : (wanted bytes : List ℕ) → length wanted ≤ length bytes → (take (length wanted) bytes ≡ wanted) ⊎ ((at : ℕ) × Differs wanted bytes at)
begins_or_differs [] bytes long = inl refl
begins_or_differs (w ∷ wanted) [] long = absurd (omega arith)
begins_or_differs (w ∷ wanted) (b ∷ bytes) long = first_too w b wanted bytes (cases_eq b w) (begins_or_differs wanted bytes (omega arith))

-- bytes that are short end the feed, as far as its limit
short_ending : (kind : Kind) (config : Fields) (full : Bool) (at : ℕ) (rest : List ℕ) → at ≤ MAX_FEED → 0 < length rest → IsShort kind config full (limited at rest)
    → ((MAX_FEED < at + length rest) ⊎ (at + length rest ≤ MAX_FEED)) → (ending : Ending) × EndsAt kind config full at rest ending
short_ending kind config full at rest within some short (inl beyond) = (Broken (TooLong MAX_FEED), (refl, beyond, short))
short_ending kind config full at rest within some short (inr inside) = (
  Broken (FeedCut (at + length rest)),
  (
    refl,
    inside,
    some,
    subst (λ (xs : List ℕ). IsShort kind config full xs) (take_all (MAX_FEED - at) rest (omega arith)) short,
  ),
)

-- the feed ends at a place, or an item stands there
abbrev Goes : Kind → Fields → Bool → ℕ → List ℕ → Type 0
Goes kind config full at rest =
    ((ending : Ending) × EndsAt kind config full at rest ending)
    ⊎ ((full ≡ false) × ((unit : List ℕ) × (tail : List ℕ) × (rest ≡ item kind unit ++ tail) × IsSized kind config unit × (at + length (item kind unit) ≤ MAX_FEED)))

marked_goes : (kind : Kind) (config : Fields) (at : ℕ) (rest : List ℕ) → at ≤ MAX_FEED → 0 < length rest → IsMarked kind (limited at rest)
    → Next kind config (limited at rest) → Goes kind config false at rest
marked_goes kind config at rest within some right (inl begun) =
    inl (short_ending kind config false at rest within some (inr (right, refl, begun)) (cases_lt MAX_FEED (at + length rest)))
marked_goes kind config at rest within some right (inr (inl large)) = inl (Broken (UnitLong (at + MARKER_LEN)), (refl, refl, right, large))
marked_goes kind config at rest within some right (inr (inr (inl (behind, wrong)))) =
    let e : behind ≡ at + MARKER_LEN + behind - (at + MARKER_LEN) = omega arith in
    inl (
      Broken (Sample (at + MARKER_LEN + behind)),
      (omega arith, refl, right, subst (λ (n : ℕ). HasWrongSample kind config (limited at rest) n) e wrong),
    )
marked_goes kind config at rest within some right (inr (inr (inr (unit, tail, is, sized)))) =
    let behind = drop (MAX_FEED - at) rest in
    let all : rest ≡ item kind unit ++ (tail ++ behind) =
    sym (take-append-drop (MAX_FEED - at) rest) ∙ ap (λ (xs : List ℕ). xs ++ behind) is ∙ append_assoc (item kind unit) tail behind in
    let fits : at + length (item kind unit) ≤ MAX_FEED =
    let a = ap (length {A = ℕ}) is in let b = length-append (item kind unit) tail in let c = length-take (MAX_FEED - at) rest in omega arith in
    inr (refl, (unit, tail ++ behind, all, sized, fits))

four_goes : (kind : Kind) (config : Fields) (full : Bool) (at : ℕ) (rest : List ℕ) → at ≤ MAX_FEED → 0 < length rest → AreBytes rest
    → 4 ≤ length (limited at rest)
    → ((take (length (marker kind)) (limited at rest) ≡ marker kind) ⊎ ((place : ℕ) × Differs (marker kind) (limited at rest) place))
    → Goes kind config full at rest
four_goes kind config full at rest within some bytes many (inr (place, d)) =
    let long = marker_long kind in
    let inside = d.0 in
    inl (
      Broken (Marker at),
      (
        refl,
        many,
        λ right. d.2
            (sym (get_or-take 4 (limited at rest) place 0 (omega arith)) ∙ ap (λ (xs : List ℕ). slice_index xs place) right),
      ),
    )
four_goes kind config true at rest within some bytes many (inl same) = inl (Full, (refl, ap (λ (n : ℕ). take n (limited at rest)) (sym (marker_long kind)) ∙ same))
four_goes kind config false at rest within some bytes many (inl same) =
    let right : IsMarked kind (limited at rest) = ap (λ (n : ℕ). take n (limited at rest)) (sym (marker_long kind)) ∙ same in
    marked_goes kind config at rest within some right (next kind config (limited at rest) (taken_bytes (MAX_FEED - at) rest bytes) right)

some_goes : (kind : Kind) (config : Fields) (full : Bool) (at : ℕ) (rest : List ℕ) → at ≤ MAX_FEED → 0 < length rest → AreBytes rest
    → ((length (limited at rest) < 4) ⊎ (4 ≤ length (limited at rest))) → Goes kind config full at rest
some_goes kind config full at rest within some bytes (inl few) = inl (short_ending kind config full at rest within some (inl few) (cases_lt MAX_FEED (at + length rest)))
some_goes kind config full at rest within some bytes (inr many) =
    four_goes kind config full at rest within some bytes many (begins_or_differs (marker kind) (limited at rest) (let l = marker_long kind in omega arith))

goes : (kind : Kind) (config : Fields) (full : Bool) (at : ℕ) (rest : List ℕ) → at ≤ MAX_FEED → AreBytes rest → Goes kind config full at rest
goes kind config full at [] within bytes = inl (Clean, refl)
goes kind config full at (x ∷ xs) within bytes = some_goes kind config full at (x ∷ xs) within (omega arith) bytes (cases_lt (length (limited at (x ∷ xs))) 4)

-- one more unit in front
Splits-more : (kind : Kind) (config : Fields) (max at count : ℕ) (unit tail : List ℕ) (units : List (List ℕ)) (ending : Ending) → IsSized kind config unit
    → Splits kind config max (at + length (item kind unit)) (count + 1) tail units ending
    → Splits kind config max at count (item kind unit ++ tail) (unit ∷ units) ending
Splits-more kind config max at count unit tail units ending most s =
    let long : length (flat_map (item kind) (unit ∷ units)) ≡ length (item kind unit) + length (flat_map (item kind) units) =
    length-append (item kind unit) (flat_map (item kind) units) in
    let place : at + length (item kind unit) + length (flat_map (item kind) units) ≡ at + length (flat_map (item kind) (unit ∷ units)) = omega arith in
    let number : count + 1 + length units ≡ count + length (unit ∷ units) = omega arith in
    let within = s.within in
    let few = s.few in
    record {
      rest = s.rest;
      split = ap (λ (xs : List ℕ). item kind unit ++ xs) s.split ∙ sym (append_assoc (item kind unit) (flat_map (item kind) units) s.rest);
      sized = All-front unit units most s.sized;
      few = omega arith;
      within = omega arith;
      ends = subst (λ (n : ℕ). EndsAt kind config (n == max) (at + length (flat_map (item kind) (unit ∷ units))) s.rest ending) number
          (subst (λ (p : ℕ). EndsAt kind config (count + 1 + length units == max) p s.rest ending) place s.ends);
    }
  where
    All-front : (u : List ℕ) (us : List (List ℕ)) → IsSized kind config u → Sized kind config us → Sized kind config (u ∷ us)
    All-front u us p h zero d inside = p
    All-front u us p h (suc k) d inside = h k d (omega arith)

-- what is behind an item are bytes
tail_bytes : (kind : Kind) (unit tail rest : List ℕ) → rest ≡ item kind unit ++ tail → AreBytes rest → AreBytes tail
tail_bytes kind unit tail rest is bytes =
    subst AreBytes (ap (drop (length (item kind unit))) is ∙ drop_at (item kind unit) tail (length (item kind unit)) refl)
    (left_bytes (length (item kind unit)) rest bytes)

-- the bytes from a place on are items, and end somehow
abbrev Items : Kind → Fields → ℕ → ℕ → ℕ → List ℕ → Type 0
Items kind config max at count rest = (units : List (List ℕ)) × (ending : Ending) × Splits kind config max at count rest units ending

none_more : (kind : Kind) (config : Fields) (max at count : ℕ) (rest : List ℕ) (ending : Ending) → at ≤ MAX_FEED → count ≤ max
    → EndsAt kind config (count == max) at rest ending → Items kind config max at count rest
none_more kind config max at count rest ending within few ends = (
  [],
  ending,
  record {
    rest = rest;
    split = refl;
    sized = All-nil (IsSized kind config);
    few = omega arith;
    within = omega arith;
    ends =
        subst (λ (n : ℕ). EndsAt kind config (n == max) (at + 0) rest ending) (let e : count ≡ count + 0 = omega arith in e)
        (subst (λ (p : ℕ). EndsAt kind config (count == max) p rest ending) (let e : at ≡ at + 0 = omega arith in e) ends);
  },
)

room : (count max : ℕ) → count ≤ max → (count == max) ≡ false → ((count ≡ max) ⊎ (count ≢ max)) → count < max
room count max few e (inl same) = absurd (let f = eq-eqb count max same in cc)
room count max few e (inr other) = omega arith

one_more : (kind : Kind) (config : Fields) (max at count : ℕ) (rest unit tail : List ℕ) → rest ≡ item kind unit ++ tail → IsSized kind config unit
    → Items kind config max (at + length (item kind unit)) (count + 1) tail → Items kind config max at count rest
one_more kind config max at count rest unit tail is sized (units, ending, s) = (
  unit ∷ units,
  ending,
  subst (λ (xs : List ℕ). Splits kind config max at count xs (unit ∷ units) ending) (sym is)
      (Splits-more kind config max at count unit tail units ending sized s),
)

-- the same for fewer bytes
abbrev Fewer : ℕ → Kind → Fields → ℕ → Type 0
Fewer fuel kind config max = (at count : ℕ) (rest : List ℕ) → length rest < fuel → at ≤ MAX_FEED → count ≤ max → AreBytes rest → Items kind config max at count rest

goes_split : (fuel : ℕ) (kind : Kind) (config : Fields) (max : ℕ) → Fewer fuel kind config max → (at count : ℕ) (rest : List ℕ) → length rest < suc fuel
    → at ≤ MAX_FEED → count ≤ max → AreBytes rest → Goes kind config (count == max) at rest → Items kind config max at count rest
goes_split fuel kind config max fewer at count rest less within few bytes (inl (ending, ends)) = none_more kind config max at count rest ending within few ends
goes_split fuel kind config max fewer at count rest less within few bytes (inr (still, (unit, tail, is, sized, fits))) =
    let a = ap (length {A = ℕ}) is in
    let b = length-append (item kind unit) tail in
    let c = item_long kind unit in
    let less_max = room count max few still (cases_eq count max) in
    one_more kind config max at count rest unit tail is sized
    (fewer (at + length (item kind unit)) (count + 1) tail (omega arith) fits (omega arith) (tail_bytes kind unit tail rest is bytes))

splits : (fuel : ℕ) (kind : Kind) (config : Fields) (max : ℕ) → Fewer fuel kind config max
splits zero kind config max at count rest less within few bytes = absurd (omega arith)
splits (suc fuel) kind config max at count rest less within few bytes =
    goes_split fuel kind config max (splits fuel kind config max) at count rest less within few bytes (goes kind config (count == max) at rest within bytes)

-- a head and a split of the bytes behind it are a feed
feed_from : (kind : Kind) (config : Fields) (head tail : List ℕ) (units : List (List ℕ)) (ending : Ending) → IsHead kind head config
    → Splits kind config config.max_frames FEED_HEAD_LEN 0 tail units ending → IsFeedOf kind (head ++ tail) config units ending
feed_from kind config head tail units ending right s =
    let long : FEED_HEAD_LEN + length (flat_map (item kind) units) ≡ length (head ++ flat_map (item kind) units) =
    ap (λ (n : ℕ). n + length (flat_map (item kind) units)) (sym (head_long kind head config right)) ∙ sym (length-append head (flat_map (item kind) units)) in
    let number : 0 + length units ≡ length units = omega arith in
    let few = s.few in
    let within = s.within in
    record {
      head = head;
      rest = s.rest;
      configured = right;
      split = ap (λ (xs : List ℕ). head ++ xs) s.split ∙ sym (append_assoc head (flat_map (item kind) units) s.rest);
      sized = s.sized;
      few = omega arith;
      within = omega arith;
      ends = subst (λ (n : ℕ). EndsAt kind config (n == config.max_frames) (length (head ++ flat_map (item kind) units)) s.rest ending) number
          (subst (λ (p : ℕ). EndsAt kind config (0 + length units == config.max_frames) p s.rest ending) long s.ends);
    }

option_cases : (found : Option ℕ) → (found ≡ None) ⊎ ((x : ℕ) × (found ≡ Some x))
option_cases None = inl refl
option_cases (Some x) = inr (x, refl)

-- a feed of bytes that has its head
abbrev Read : Kind → List ℕ → Type 0
Read kind bytes = (units : List (List ℕ)) × (ending : Ending) × IsFeed kind bytes units ending

configured : (kind : Kind) (bytes : List ℕ) → AreBytes bytes → FEED_HEAD_LEN ≤ length bytes
    → take MAGIC_LEN (take FEED_HEAD_LEN bytes) ≡ magic kind
    → ((first_fault (drop MAGIC_LEN (take FEED_HEAD_LEN bytes)) ≡ None) ⊎ ((field : ℕ) × (first_fault
    (drop MAGIC_LEN (take FEED_HEAD_LEN bytes)) ≡ Some field)))
    → Read kind bytes
configured kind bytes are enough right (inr (field, broken)) =
    ([], Broken (FeedHead (MAGIC_LEN + field)), inr (refl, (enough, inr (record { field = field; magic_is = right; broken = broken; place = refl }))))
configured kind bytes are enough right (inl kept) =
    let head = take FEED_HEAD_LEN bytes in
    let tail = drop FEED_HEAD_LEN bytes in
    let spelling = drop MAGIC_LEN head in
    let long : length spelling ≡ 64 = length-drop MAGIC_LEN head ∙ (let l = length-take FEED_HEAD_LEN bytes in omega arith) in
    let config = fields_of spelling in
    let is_head : IsHead kind head config = record {
      spelling = spelling;
      split = sym (take-append-drop MAGIC_LEN head) ∙ ap (λ (xs : List ℕ). xs ++ spelling) right;
      spelled = spells_there spelling long (left_bytes MAGIC_LEN head (taken_bytes FEED_HEAD_LEN bytes are)) kept;
    } in
    let s =
    splits (suc (length tail)) kind config config.max_frames FEED_HEAD_LEN 0 tail (omega arith) (omega arith) (omega arith) (left_bytes FEED_HEAD_LEN bytes are) in
    let feed : IsFeedOf kind (head ++ tail) config s.0 s.1 = feed_from kind config head tail s.0 s.1 is_head s.2 in
    (s.0, s.1, inl (config, subst (λ (xs : List ℕ). IsFeedOf kind xs config s.0 s.1) (take-append-drop FEED_HEAD_LEN bytes) feed))

begun_head : (kind : Kind) (bytes : List ℕ) → AreBytes bytes → FEED_HEAD_LEN ≤ length bytes
    → ((take (length (magic kind)) (take FEED_HEAD_LEN bytes) ≡ magic kind) ⊎ ((at : ℕ) × Differs (magic kind) (take FEED_HEAD_LEN bytes) at))
    → Read kind bytes
begun_head kind bytes are enough (inl right) =
    configured kind bytes are enough (ap (λ (n : ℕ). take n (take FEED_HEAD_LEN bytes)) (sym (magic_long kind)) ∙ right)
    (option_cases (first_fault (drop MAGIC_LEN (take FEED_HEAD_LEN bytes))))
begun_head kind bytes are enough (inr (at, d)) =
    let long = magic_long kind in
    let inside = d.0 in
    ([], Broken (FeedHead at), inr (refl, (enough, inl (record { inside = omega arith; same = d.1; other = d.2 }))))

pub every_feed : (kind : Kind) (bytes : List ℕ) → AreBytes bytes → Read kind bytes
every_feed kind bytes are = on (cases_lt (length bytes) FEED_HEAD_LEN)
  where
    on : (length bytes < FEED_HEAD_LEN) ⊎ (FEED_HEAD_LEN ≤ length bytes) → Read kind bytes
    on (inl few) = ([], Broken (FeedCut (length bytes)), inr (refl, (refl, few)))
    on (inr enough) =
        begun_head kind bytes are enough (begins_or_differs (magic kind) (take FEED_HEAD_LEN bytes)
        (let m = magic_long kind in let l = length-take FEED_HEAD_LEN bytes in omega arith))

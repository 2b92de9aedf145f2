-- A feed has one configuration, one list of units and one ending.
use Rattle.std.proofs.Common.{◌≡◌, ℕ, ◌+◌, ◌-◌, ◌<◌, ◌≤◌, ◌==◌, List, ◌++◌, length, take, drop, slice_index, Some, None}
use Rattle.std.proofs.Common.{sym, ap, ◌∙◌, subst, append_assoc, arith, inl, inr, ◌⊎◌, Bool}
use Rattle.std.specs.List.{flat_map}
use Rattle.std.proofs.lemmas.List.{length-take, length-append, take_at, drop_at, get_or-take}
use Rattle.std.proofs.lemmas.Bool.{cases_lt}
use Rattle.rec_bytes.specs.Configuration.{Fields, first_fault, fields_of}
use Rattle.rec_bytes.specs.laws.Spellings.{spelling_long}
use Rattle.raw_feed.specs.declared.head.TheConstants.{FEED_HEAD_LEN}
use Rattle.raw_feed.specs.declared.kind.Kind.{Kind}
use Rattle.raw_feed.specs.declared.fault.FeedFault.TheVariants.{Memory, FeedHead, Marker, FeedCut, SourceFault, TooLong, Sample, UnitLong}
use Rattle.raw_feed.specs.Items.{Ending, Clean, Full, Broken, EndsAt, limited, item}
use Rattle.raw_feed.specs.Feeds.{IsHead, IsFeedOf, IsFeed, DiffersAt, BreaksConfigAt, EndsInHead, magic}
use Rattle.raw_feed.specs.Breaks.{judged_to}
use Rattle.raw_feed.specs.HasRead.{behind_units}
use Rattle.raw_feed.specs.declared.limits.TheConstants.{MAX_FEED}
use Rattle.raw_feed.proofs.KindLemmas.{magic_long, magic_whole, long_there, wrong_there}
use Rattle.raw_feed.proofs.EndingLemmas.{marked_long}
use Rattle.raw_feed.proofs.SplitLemmas.{Splits, one_split}

pub head_long : (kind : Kind) (head : List ℕ) (config : Fields) → IsHead kind head config → length head ≡ FEED_HEAD_LEN
head_long kind head config h =
    let all = ap (length {A = ℕ}) h.split in
    let parts = length-append (magic kind) h.spelling in
    let front = magic_long kind in
    let rest = spelling_long h.spelling config h.spelled in
    omega arith

-- the head of a feed is its first bytes
pub head_is : (kind : Kind) (bytes : List ℕ) (config : Fields) (units : List (List ℕ)) (ending : Ending)
    → (f : IsFeedOf kind bytes config units ending) → take FEED_HEAD_LEN bytes ≡ f.head
head_is kind bytes config units ending f =
    ap (take FEED_HEAD_LEN) (f.split ∙ append_assoc f.head (flat_map (item kind) units) f.rest)
    ∙ take_at f.head (flat_map (item kind) units ++ f.rest) FEED_HEAD_LEN (head_long kind f.head config f.configured)

pub behind_head : (kind : Kind) (bytes : List ℕ) (config : Fields) (units : List (List ℕ)) (ending : Ending)
    → (f : IsFeedOf kind bytes config units ending) → drop FEED_HEAD_LEN bytes ≡ flat_map (item kind) units ++ f.rest
behind_head kind bytes config units ending f =
    ap (drop FEED_HEAD_LEN) (f.split ∙ append_assoc f.head (flat_map (item kind) units) f.rest)
    ∙ drop_at f.head (flat_map (item kind) units ++ f.rest) FEED_HEAD_LEN (head_long kind f.head config f.configured)

-- a head has one configuration
pub one_config : (kind : Kind) (head : List ℕ) (one other : Fields) → IsHead kind head one → IsHead kind head other → one ≡ other
one_config kind head one other h k =
    let spelling_is : h.spelling ≡ k.spelling =
    sym (drop_at (magic kind) h.spelling 8 (magic_long kind)) ∙ ap (drop 8) (sym h.split ∙ k.split) ∙ drop_at (magic kind) k.spelling 8 (magic_long kind) in
    sym h.spelled.stand ∙ ap fields_of spelling_is ∙ k.spelled.stand

-- a feed is its head and a split of the bytes behind it
pub Splits-feed : (kind : Kind) (bytes : List ℕ) (config : Fields) (units : List (List ℕ)) (ending : Ending)
    → IsFeedOf kind bytes config units ending → Splits kind config config.max_frames FEED_HEAD_LEN 0 (drop FEED_HEAD_LEN bytes) units ending
Splits-feed kind bytes config units ending f =
    let long : length (f.head ++ flat_map (item kind) units) ≡ FEED_HEAD_LEN + length (flat_map (item kind) units) =
    length-append f.head (flat_map (item kind) units) ∙ ap (λ (n : ℕ). n + length (flat_map (item kind) units)) (head_long kind f.head config f.configured) in
    let number : length units ≡ 0 + length units = omega arith in
    let most = f.within in
    let few = f.few in
    record {
      rest = f.rest;
      split = behind_head kind bytes config units ending f;
      sized = f.sized;
      few = omega arith;
      within = omega arith;
      ends = subst (λ (n : ℕ). EndsAt kind config (n == config.max_frames) (FEED_HEAD_LEN + length (flat_map (item kind) units)) f.rest ending) number
          (subst (λ (p : ℕ). EndsAt kind config (length units == config.max_frames) p f.rest ending) long f.ends);
    }

-- two feeds of the same bytes are one
pub one_feed_of : (kind : Kind) (bytes : List ℕ) (config config' : Fields) (units others : List (List ℕ)) (ending other : Ending)
    → IsFeedOf kind bytes config units ending → IsFeedOf kind bytes config' others other
    → (config ≡ config') × (units ≡ others) × (ending ≡ other)
one_feed_of kind bytes config config' units others ending other f g =
    let heads : f.head ≡ g.head = sym (head_is kind bytes config units ending f) ∙ head_is kind bytes config' others other g in
    let configs : config ≡ config' = one_config kind g.head config config' (subst (λ (xs : List ℕ). IsHead kind xs config) heads f.configured) g.configured in
    let mine = Splits-feed kind bytes config units ending f in
    let theirs =
    subst (λ (c : Fields). Splits kind c c.max_frames FEED_HEAD_LEN 0 (drop FEED_HEAD_LEN bytes) others other) (sym configs)
    (Splits-feed kind bytes config' others other g) in
    let same = one_split kind config config.max_frames FEED_HEAD_LEN 0 (drop FEED_HEAD_LEN bytes) units others ending other mine theirs in
    (configs, same.0, same.1)

-- the first byte that differs is one, and a right magic has none
pub differs_first : (kind : Kind) (head : List ℕ) (at there : ℕ) → DiffersAt kind head at → take there head ≡ take there (magic kind) → there ≤ at
differs_first kind head at there d same = on (cases_lt at there)
  where
    on : (at < there) ⊎ (there ≤ at) → there ≤ at
    on (inr most) = most
    on (inl above) =
        absurd (d.other (sym (get_or-take there head at 0 above) ∙ ap (λ (xs : List ℕ). slice_index xs at) same ∙ get_or-take there (magic kind) at 0 above))

pub one_differs : (kind : Kind) (head : List ℕ) (at there : ℕ) → DiffersAt kind head at → DiffersAt kind head there → at ≡ there
one_differs kind head at there d e =
    let a = differs_first kind head at there d e.same in
    let b = differs_first kind head there at e d.same in
    omega arith

pub differs_or_breaks : (kind : Kind) (head : List ℕ) (at there : ℕ) → DiffersAt kind head at → BreaksConfigAt kind head there → ⊥
differs_or_breaks kind head at there d b =
    let a = differs_first kind head at 8 d (b.magic_is ∙ sym (magic_whole kind)) in
    let i = d.inside in
    omega arith

pub one_breaks : (kind : Kind) (head : List ℕ) (at there : ℕ) → BreaksConfigAt kind head at → BreaksConfigAt kind head there → at ≡ there
one_breaks kind head at there a b =
    let field : Some a.field ≡ Some b.field = sym a.broken ∙ b.broken in
    let same : a.field ≡ b.field = cc (field) in
    let p = a.place in
    let q = b.place in
    omega arith

pub one_fault : (kind : Kind) (head : List ℕ) (at there : ℕ) → (DiffersAt kind head at ⊎ BreaksConfigAt kind head at)
    → (DiffersAt kind head there ⊎ BreaksConfigAt kind head there) → at ≡ there
one_fault kind head at there (inl a) (inl b) = one_differs kind head at there a b
one_fault kind head at there (inl a) (inr b) = absurd (differs_or_breaks kind head at there a b)
one_fault kind head at there (inr a) (inl b) = absurd (differs_or_breaks kind head there at b a)
one_fault kind head at there (inr a) (inr b) = one_breaks kind head at there a b

-- a head that is spelled shows no fault
pub head_faultless : (kind : Kind) (head : List ℕ) (config : Fields) (at : ℕ) → IsHead kind head config
    → (DiffersAt kind head at ⊎ BreaksConfigAt kind head at) → ⊥
head_faultless kind head config at h (inl d) =
    let a = differs_first kind head at 8 d (ap (take 8) h.split ∙ take_at (magic kind) h.spelling 8 (magic_long kind) ∙ sym (magic_whole kind)) in
    let i = d.inside in
    omega arith
head_faultless kind head config at h (inr b) =
    let same : None ≡ Some b.field =
    sym h.spelled.kept ∙ sym (ap first_fault (ap (drop 8) h.split ∙ drop_at (magic kind) h.spelling 8 (magic_long kind))) ∙ b.broken in
    cc

-- a feed that ends in its head ends in one way there, and has no units elsewhere
pub one_head_ending : (kind : Kind) (bytes : List ℕ) (one other : Ending) → EndsInHead kind bytes one → EndsInHead kind bytes other → one ≡ other
one_head_ending kind bytes (Broken (FeedCut p)) (Broken (FeedCut q)) a b = ap (λ (n : ℕ). Broken (FeedCut n)) (a.0 ∙ sym b.0)
one_head_ending kind bytes (Broken (FeedCut p)) (Broken (FeedHead q)) a b = absurd (let m = a.1 in let n = b.0 in omega arith)
one_head_ending kind bytes (Broken (FeedHead p)) (Broken (FeedCut q)) a b = absurd (let m = a.0 in let n = b.1 in omega arith)
one_head_ending kind bytes (Broken (FeedHead p)) (Broken (FeedHead q)) a b =
    ap (λ (n : ℕ). Broken (FeedHead n)) (one_fault kind (take FEED_HEAD_LEN bytes) p q a.1 b.1)
one_head_ending kind bytes (Broken (FeedCut p)) Clean a b = absurd b
one_head_ending kind bytes (Broken (FeedCut p)) Full a b = absurd b
one_head_ending kind bytes (Broken (FeedCut p)) (Broken Memory) a b = absurd b
one_head_ending kind bytes (Broken (FeedCut p)) (Broken (Marker q)) a b = absurd b
one_head_ending kind bytes (Broken (FeedCut p)) (Broken (SourceFault q)) a b = absurd b
one_head_ending kind bytes (Broken (FeedCut p)) (Broken (TooLong q)) a b = absurd b
one_head_ending kind bytes (Broken (FeedCut p)) (Broken (Sample q)) a b = absurd b
one_head_ending kind bytes (Broken (FeedCut p)) (Broken (UnitLong q)) a b = absurd b
one_head_ending kind bytes (Broken (FeedHead p)) Clean a b = absurd b
one_head_ending kind bytes (Broken (FeedHead p)) Full a b = absurd b
one_head_ending kind bytes (Broken (FeedHead p)) (Broken Memory) a b = absurd b
one_head_ending kind bytes (Broken (FeedHead p)) (Broken (Marker q)) a b = absurd b
one_head_ending kind bytes (Broken (FeedHead p)) (Broken (SourceFault q)) a b = absurd b
one_head_ending kind bytes (Broken (FeedHead p)) (Broken (TooLong q)) a b = absurd b
one_head_ending kind bytes (Broken (FeedHead p)) (Broken (Sample q)) a b = absurd b
one_head_ending kind bytes (Broken (FeedHead p)) (Broken (UnitLong q)) a b = absurd b
one_head_ending kind bytes Clean other a b = absurd a
one_head_ending kind bytes Full other a b = absurd a
one_head_ending kind bytes (Broken Memory) other a b = absurd a
one_head_ending kind bytes (Broken (Marker p)) other a b = absurd a
one_head_ending kind bytes (Broken (SourceFault p)) other a b = absurd a
one_head_ending kind bytes (Broken (TooLong p)) other a b = absurd a
one_head_ending kind bytes (Broken (Sample p)) other a b = absurd a
one_head_ending kind bytes (Broken (UnitLong p)) other a b = absurd a

pub not_in_head : (kind : Kind) (bytes : List ℕ) (config : Fields) (units : List (List ℕ)) (ending other : Ending)
    → IsFeedOf kind bytes config units ending → EndsInHead kind bytes other → ⊥
not_in_head kind bytes config units ending (Broken (FeedCut p)) f (e, fewer) =
    let l = ap (length {A = ℕ}) (head_is kind bytes config units ending f) in
    let m = head_long kind f.head config f.configured in
    let n = length-take FEED_HEAD_LEN bytes in
    omega arith
not_in_head kind bytes config units ending (Broken (FeedHead p)) f (enough, fault) =
    head_faultless kind f.head config p f.configured
    (subst (λ (xs : List ℕ). DiffersAt kind xs p ⊎ BreaksConfigAt kind xs p) (head_is kind bytes config units ending f) fault)
not_in_head kind bytes config units ending Clean f a = a
not_in_head kind bytes config units ending Full f a = a
not_in_head kind bytes config units ending (Broken Memory) f a = a
not_in_head kind bytes config units ending (Broken (Marker p)) f a = a
not_in_head kind bytes config units ending (Broken (SourceFault p)) f a = a
not_in_head kind bytes config units ending (Broken (TooLong p)) f a = a
not_in_head kind bytes config units ending (Broken (Sample p)) f a = a
not_in_head kind bytes config units ending (Broken (UnitLong p)) f a = a

-- two splits of the same bytes are one
pub one_feed : (kind : Kind) (bytes : List ℕ) (units others : List (List ℕ)) (ending other : Ending) → IsFeed kind bytes units ending
    → IsFeed kind bytes others other → (units ≡ others) × (ending ≡ other)
one_feed kind bytes units others ending other (inl (config, f)) (inl (config', g)) =
    let same = one_feed_of kind bytes config config' units others ending other f g in (same.1, same.2)
one_feed kind bytes units others ending other (inl (config, f)) (inr (none, ends)) = absurd (not_in_head kind bytes config units ending other f ends)
one_feed kind bytes units others ending other (inr (none, ends)) (inl (config, g)) = absurd (not_in_head kind bytes config others other ending g ends)
one_feed kind bytes units others ending other (inr (none, ends)) (inr (none', ends')) = (none ∙ sym none', one_head_ending kind bytes ending other ends ends')

-- the bytes that judge an ending are there
judged_at : (kind : Kind) (config : Fields) (full : Bool) (at : ℕ) (rest : List ℕ) (ending : Ending) → EndsAt kind config full at rest ending → judged_to at ending ≤ at + length rest
judged_at kind config full at rest Clean e = omega arith
judged_at kind config full at rest Full e = let m = marked_long kind (limited at rest) e.1 in let l = length-take (MAX_FEED - at) rest in omega arith
judged_at kind config full at rest (Broken (Marker place)) e = let m = e.1 in let l = length-take (MAX_FEED - at) rest in omega arith
judged_at kind config full at rest (Broken (UnitLong place)) e =
    let m = long_there kind (limited at rest) e.3 in let l = length-take (MAX_FEED - at) rest in omega arith
judged_at kind config full at rest (Broken (Sample place)) e =
    let from = e.0 in
    let m = wrong_there kind config (limited at rest) (place - (at + 4)) e.3 in let l = length-take (MAX_FEED - at) rest in omega arith
judged_at kind config full at rest (Broken (FeedCut place)) e = let m = e.0 in omega arith
judged_at kind config full at rest (Broken (TooLong place)) e = let m = e.0 in let n = e.1 in omega arith
judged_at kind config full at rest (Broken (FeedHead place)) e = absurd e
judged_at kind config full at rest (Broken (SourceFault count)) e = absurd e
judged_at kind config full at rest (Broken Memory) e = absurd e

judged_head : (kind : Kind) (at : ℕ) (bytes : List ℕ) (ending : Ending) → EndsInHead kind bytes ending → judged_to at ending ≤ length bytes
judged_head kind at bytes (Broken (FeedCut place)) e = let m = e.0 in omega arith
judged_head kind at bytes (Broken (FeedHead place)) e = e.0
judged_head kind at bytes Clean e = absurd e
judged_head kind at bytes Full e = absurd e
judged_head kind at bytes (Broken (Marker place)) e = absurd e
judged_head kind at bytes (Broken (Sample place)) e = absurd e
judged_head kind at bytes (Broken (UnitLong place)) e = absurd e
judged_head kind at bytes (Broken (TooLong place)) e = absurd e
judged_head kind at bytes (Broken (SourceFault count)) e = absurd e
judged_head kind at bytes (Broken Memory) e = absurd e

pub judged_there : (kind : Kind) (bytes : List ℕ) (units : List (List ℕ)) (ending : Ending) → IsFeed kind bytes units ending
    → judged_to (behind_units kind units) ending ≤ length bytes
judged_there kind bytes units ending (inl (config, f)) =
    let front = f.head ++ flat_map (item kind) units in
    let at_is : length front ≡ behind_units kind units =
    length-append f.head (flat_map (item kind) units) ∙ ap (λ (n : ℕ). n + length (flat_map (item kind) units)) (head_long kind f.head config f.configured) in
    let judged = judged_at kind config (length units == config.max_frames) (length front) f.rest ending f.ends in
    let all : length bytes ≡ length front + length f.rest = ap (length {A = ℕ}) f.split ∙ length-append front f.rest in
    let here : judged_to (length front) ending ≤ length bytes = omega arith in
    subst (λ (p : ℕ). judged_to p ending ≤ length bytes) at_is here
judged_there kind bytes units ending (inr (none, ends)) = judged_head kind (behind_units kind units) bytes ending ends

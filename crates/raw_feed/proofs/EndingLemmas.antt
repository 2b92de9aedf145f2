-- A feed ends in one way at a place, and not before an item that is whole.
use Rattle.std.proofs.Common.{◌≡◌, ℕ, ◌+◌, ◌-◌, ◌≤◌, List, [], ◌++◌, length, take, Bool, true, false, refl, sym, ap, ◌∙◌, subst, arith, inl, inr}
use Rattle.std.proofs.lemmas.List.{length-take, length-append, take_all}
use Rattle.std.proofs.lemmas.Bool.{false≢true}
use Rattle.rec_bytes.specs.Configuration.{Fields}
use Rattle.raw_feed.specs.declared.limits.TheConstants.{MAX_FEED}
use Rattle.raw_feed.specs.declared.kind.Kind.{Kind}
use Rattle.raw_feed.specs.declared.fault.FeedFault.{FeedFault}
use Rattle.raw_feed.specs.declared.fault.FeedFault.TheVariants.{Memory, FeedHead, Marker, FeedCut, SourceFault, TooLong, Sample, UnitLong}
use Rattle.raw_feed.specs.Items.{Ending, Clean, Full, Broken, EndsAt, IsBegun, IsLong, HasWrongSample, IsShort, IsMarked, IsSized, limited, item}
use Rattle.raw_feed.proofs.KindLemmas.{marker_long, item_marked, item_long, begun_not_long, begun_not_wrong, long_not_wrong, one_wrong}
use Rattle.raw_feed.proofs.KindLemmas.{item_not_begun, item_not_long, item_not_wrong}
use Rattle.raw_feed.proofs.BreakLemmas.{take-append_more}

-- bytes that begin with a marker are at least four
pub marked_long : (kind : Kind) (xs : List ℕ) → IsMarked kind xs → 4 ≤ length xs
marked_long kind xs marked = let l = ap (length {A = ℕ}) marked in let m = length-take 4 xs in let n = marker_long kind in omega arith

pub nil_unmarked : (xs : List ℕ) (n : ℕ) → xs ≡ [] → 4 ≤ length (take n xs) → ⊥
nil_unmarked xs n e many = let l = ap (length {A = ℕ}) e in let m = length-take n xs in omega arith

-- short bytes are no wrong marker, no item too many and no unit too long
pub short_marked : (kind : Kind) (config : Fields) (full : Bool) (xs : List ℕ) → IsShort kind config full xs → 4 ≤ length xs → IsMarked kind xs
short_marked kind config full xs (inl few) many = absurd (omega arith)
short_marked kind config full xs (inr more) many = more.0

pub short_open : (kind : Kind) (config : Fields) (full : Bool) (xs : List ℕ) → IsShort kind config full xs → 4 ≤ length xs → full ≡ false
short_open kind config full xs (inl few) many = absurd (omega arith)
short_open kind config full xs (inr more) many = more.1

pub short_begun : (kind : Kind) (config : Fields) (full : Bool) (xs : List ℕ) → IsShort kind config full xs → 4 ≤ length xs → IsBegun kind config xs
short_begun kind config full xs (inl few) many = absurd (omega arith)
short_begun kind config full xs (inr more) many = more.2

-- all bytes are judged where none lies behind the limit
pub cut_limited : (kind : Kind) (config : Fields) (full : Bool) (at place : ℕ) (rest : List ℕ) → place ≡ at + length rest → place ≤ MAX_FEED
    → IsShort kind config full rest → IsShort kind config full (limited at rest)
cut_limited kind config full at place rest e within short = rw (take_all (MAX_FEED - at) rest (omega arith)) short

-- the ways to end that exclude each other
pub clash_marker : (kind : Kind) (config : Fields) (full : Bool) (xs : List ℕ) → 4 ≤ length xs → (IsMarked kind xs → ⊥) → IsShort kind config full xs → ⊥
clash_marker kind config full xs many other short = other (short_marked kind config full xs short many)

pub clash_full : (kind : Kind) (config : Fields) (full : Bool) (xs : List ℕ) → full ≡ true → IsMarked kind xs → IsShort kind config full xs → ⊥
clash_full kind config full xs e marked short = let o = short_open kind config full xs short (marked_long kind xs marked) in cc

pub clash_long : (kind : Kind) (config : Fields) (full : Bool) (xs : List ℕ) → IsMarked kind xs → IsLong kind xs → IsShort kind config full xs → ⊥
clash_long kind config full xs marked large short = begun_not_long kind config xs (short_begun kind config full xs short (marked_long kind xs marked)) large

pub clash_wrong : (kind : Kind) (config : Fields) (full : Bool) (xs : List ℕ) (behind : ℕ) → IsMarked kind xs → HasWrongSample kind config xs behind
    → IsShort kind config full xs → ⊥
clash_wrong kind config full xs behind marked wrong short =
    begun_not_wrong kind config xs behind (short_begun kind config full xs short (marked_long kind xs marked)) wrong

pub item_not_short : (kind : Kind) (config : Fields) (unit tail : List ℕ) → IsSized kind config unit → IsShort kind config false (item kind unit ++ tail) → ⊥
item_not_short kind config unit tail most short =
    let all = length-append (item kind unit) tail in
    let four = item_long kind unit in
    item_not_begun kind config unit tail most (short_begun kind config false (item kind unit ++ tail) short (omega arith))

pub one_place : (f : ℕ → FeedFault) (a b c : ℕ) → a ≡ c → b ≡ c → Broken (f a) ≡ Broken (f b)
one_place f a b c p q = ap (λ (n : ℕ). Broken (f n)) (p ∙ sym q)

-- a feed ends in one way
pub one_ending : (kind : Kind) (config : Fields) (full : Bool) (at : ℕ) (rest : List ℕ) → at ≤ MAX_FEED → (one other : Ending) → EndsAt kind config full at rest one
    → EndsAt kind config full at rest other → one ≡ other
one_ending kind config full at rest within Clean Clean a b = refl
one_ending kind config full at rest within Clean Full a b = absurd (nil_unmarked rest (MAX_FEED - at) a (marked_long kind (limited at rest) b.1))
one_ending kind config full at rest within Clean (Broken (Marker q)) a b = absurd (nil_unmarked rest (MAX_FEED - at) a b.1)
one_ending kind config full at rest within Clean (Broken (Sample q)) a b = absurd (nil_unmarked rest (MAX_FEED - at) a (marked_long kind (limited at rest) b.2))
one_ending kind config full at rest within Clean (Broken (UnitLong q)) a b = absurd (nil_unmarked rest (MAX_FEED - at) a (marked_long kind (limited at rest) b.2))
one_ending kind config full at rest within Clean (Broken (FeedCut q)) a b = absurd ((let l = ap (length {A = ℕ}) a in let m = b.2 in omega arith))
one_ending kind config full at rest within Clean (Broken (TooLong q)) a b = absurd ((let l = ap (length {A = ℕ}) a in let m = b.1 in omega arith))
one_ending kind config full at rest within Clean (Broken Memory) a b = absurd b
one_ending kind config full at rest within Clean (Broken (FeedHead q)) a b = absurd b
one_ending kind config full at rest within Clean (Broken (SourceFault q)) a b = absurd b
one_ending kind config full at rest within Full Clean a b = absurd (nil_unmarked rest (MAX_FEED - at) b (marked_long kind (limited at rest) a.1))
one_ending kind config full at rest within Full Full a b = refl
one_ending kind config full at rest within Full (Broken (Marker q)) a b = absurd ((b.2 a.1))
one_ending kind config full at rest within Full (Broken (Sample q)) a b = absurd ((let m = a.0 in let n = b.1 in cc))
one_ending kind config full at rest within Full (Broken (UnitLong q)) a b = absurd ((let m = a.0 in let n = b.1 in cc))
one_ending kind config full at rest within Full (Broken (FeedCut q)) a b =
    absurd (clash_full kind config full (limited at rest) a.0 a.1 (cut_limited kind config full at q rest b.0 b.1 b.3))
one_ending kind config full at rest within Full (Broken (TooLong q)) a b = absurd (clash_full kind config full (limited at rest) a.0 a.1 b.2)
one_ending kind config full at rest within Full (Broken Memory) a b = absurd b
one_ending kind config full at rest within Full (Broken (FeedHead q)) a b = absurd b
one_ending kind config full at rest within Full (Broken (SourceFault q)) a b = absurd b
one_ending kind config full at rest within (Broken (Marker p)) Clean a b = absurd (nil_unmarked rest (MAX_FEED - at) b a.1)
one_ending kind config full at rest within (Broken (Marker p)) Full a b = absurd ((a.2 b.1))
one_ending kind config full at rest within (Broken (Marker p)) (Broken (Marker q)) a b = one_place Marker p q at a.0 b.0
one_ending kind config full at rest within (Broken (Marker p)) (Broken (Sample q)) a b = absurd ((a.2 b.2))
one_ending kind config full at rest within (Broken (Marker p)) (Broken (UnitLong q)) a b = absurd ((a.2 b.2))
one_ending kind config full at rest within (Broken (Marker p)) (Broken (FeedCut q)) a b =
    absurd (clash_marker kind config full (limited at rest) a.1 a.2 (cut_limited kind config full at q rest b.0 b.1 b.3))
one_ending kind config full at rest within (Broken (Marker p)) (Broken (TooLong q)) a b = absurd (clash_marker kind config full (limited at rest) a.1 a.2 b.2)
one_ending kind config full at rest within (Broken (Marker p)) (Broken Memory) a b = absurd b
one_ending kind config full at rest within (Broken (Marker p)) (Broken (FeedHead q)) a b = absurd b
one_ending kind config full at rest within (Broken (Marker p)) (Broken (SourceFault q)) a b = absurd b
one_ending kind config full at rest within (Broken (UnitLong p)) Clean a b = absurd (nil_unmarked rest (MAX_FEED - at) b (marked_long kind (limited at rest) a.2))
one_ending kind config full at rest within (Broken (UnitLong p)) Full a b = absurd ((let m = b.0 in let n = a.1 in cc))
one_ending kind config full at rest within (Broken (UnitLong p)) (Broken (Marker q)) a b = absurd ((b.2 a.2))
one_ending kind config full at rest within (Broken (UnitLong p)) (Broken (Sample q)) a b = absurd (long_not_wrong kind config (limited at rest) (q - (at + 4)) a.3 b.3)
one_ending kind config full at rest within (Broken (UnitLong p)) (Broken (UnitLong q)) a b = one_place UnitLong p q (at + 4) a.0 b.0
one_ending kind config full at rest within (Broken (UnitLong p)) (Broken (FeedCut q)) a b =
    absurd (clash_long kind config full (limited at rest) a.2 a.3 (cut_limited kind config full at q rest b.0 b.1 b.3))
one_ending kind config full at rest within (Broken (UnitLong p)) (Broken (TooLong q)) a b = absurd (clash_long kind config full (limited at rest) a.2 a.3 b.2)
one_ending kind config full at rest within (Broken (UnitLong p)) (Broken Memory) a b = absurd b
one_ending kind config full at rest within (Broken (UnitLong p)) (Broken (FeedHead q)) a b = absurd b
one_ending kind config full at rest within (Broken (UnitLong p)) (Broken (SourceFault q)) a b = absurd b
one_ending kind config full at rest within (Broken (Sample p)) Clean a b = absurd (nil_unmarked rest (MAX_FEED - at) b (marked_long kind (limited at rest) a.2))
one_ending kind config full at rest within (Broken (Sample p)) Full a b = absurd ((let m = b.0 in let n = a.1 in cc))
one_ending kind config full at rest within (Broken (Sample p)) (Broken (Marker q)) a b = absurd ((b.2 a.2))
one_ending kind config full at rest within (Broken (Sample p)) (Broken (UnitLong q)) a b = absurd (long_not_wrong kind config (limited at rest) (p - (at + 4)) b.3 a.3)
one_ending kind config full at rest within (Broken (Sample p)) (Broken (Sample q)) a b =
    let same = one_wrong kind config (limited at rest) (p - (at + 4)) (q - (at + 4)) a.3 b.3 in
    let from = a.0 in
    let from_too = b.0 in
    one_place Sample p q q (omega arith) refl
one_ending kind config full at rest within (Broken (Sample p)) (Broken (FeedCut q)) a b =
    absurd (clash_wrong kind config full (limited at rest) (p - (at + 4)) a.2 a.3 (cut_limited kind config full at q rest b.0 b.1 b.3))
one_ending kind config full at rest within (Broken (Sample p)) (Broken (TooLong q)) a b = absurd (clash_wrong kind config full (limited at rest) (p - (at + 4)) a.2 a.3 b.2)
one_ending kind config full at rest within (Broken (Sample p)) (Broken Memory) a b = absurd b
one_ending kind config full at rest within (Broken (Sample p)) (Broken (FeedHead q)) a b = absurd b
one_ending kind config full at rest within (Broken (Sample p)) (Broken (SourceFault q)) a b = absurd b
one_ending kind config full at rest within (Broken (FeedCut p)) Clean a b = absurd ((let l = ap (length {A = ℕ}) b in let m = a.2 in omega arith))
one_ending kind config full at rest within (Broken (FeedCut p)) Full a b =
    absurd (clash_full kind config full (limited at rest) b.0 b.1 (cut_limited kind config full at p rest a.0 a.1 a.3))
one_ending kind config full at rest within (Broken (FeedCut p)) (Broken (Marker q)) a b =
    absurd (clash_marker kind config full (limited at rest) b.1 b.2 (cut_limited kind config full at p rest a.0 a.1 a.3))
one_ending kind config full at rest within (Broken (FeedCut p)) (Broken (Sample q)) a b =
    absurd (clash_wrong kind config full (limited at rest) (q - (at + 4)) b.2 b.3 (cut_limited kind config full at p rest a.0 a.1 a.3))
one_ending kind config full at rest within (Broken (FeedCut p)) (Broken (UnitLong q)) a b =
    absurd (clash_long kind config full (limited at rest) b.2 b.3 (cut_limited kind config full at p rest a.0 a.1 a.3))
one_ending kind config full at rest within (Broken (FeedCut p)) (Broken (FeedCut q)) a b = one_place FeedCut p q (at + length rest) a.0 b.0
one_ending kind config full at rest within (Broken (FeedCut p)) (Broken (TooLong q)) a b = absurd ((let m = a.0 in let n = a.1 in let l = b.1 in omega arith))
one_ending kind config full at rest within (Broken (FeedCut p)) (Broken Memory) a b = absurd b
one_ending kind config full at rest within (Broken (FeedCut p)) (Broken (FeedHead q)) a b = absurd b
one_ending kind config full at rest within (Broken (FeedCut p)) (Broken (SourceFault q)) a b = absurd b
one_ending kind config full at rest within (Broken (TooLong p)) Clean a b = absurd ((let l = ap (length {A = ℕ}) b in let m = a.1 in omega arith))
one_ending kind config full at rest within (Broken (TooLong p)) Full a b = absurd (clash_full kind config full (limited at rest) b.0 b.1 a.2)
one_ending kind config full at rest within (Broken (TooLong p)) (Broken (Marker q)) a b = absurd (clash_marker kind config full (limited at rest) b.1 b.2 a.2)
one_ending kind config full at rest within (Broken (TooLong p)) (Broken (Sample q)) a b = absurd (clash_wrong kind config full (limited at rest) (q - (at + 4)) b.2 b.3 a.2)
one_ending kind config full at rest within (Broken (TooLong p)) (Broken (UnitLong q)) a b = absurd (clash_long kind config full (limited at rest) b.2 b.3 a.2)
one_ending kind config full at rest within (Broken (TooLong p)) (Broken (FeedCut q)) a b = absurd ((let m = b.0 in let n = b.1 in let l = a.1 in omega arith))
one_ending kind config full at rest within (Broken (TooLong p)) (Broken (TooLong q)) a b = one_place TooLong p q MAX_FEED a.0 b.0
one_ending kind config full at rest within (Broken (TooLong p)) (Broken Memory) a b = absurd b
one_ending kind config full at rest within (Broken (TooLong p)) (Broken (FeedHead q)) a b = absurd b
one_ending kind config full at rest within (Broken (TooLong p)) (Broken (SourceFault q)) a b = absurd b
one_ending kind config full at rest within (Broken Memory) other a b = absurd a
one_ending kind config full at rest within (Broken (FeedHead p)) other a b = absurd a
one_ending kind config full at rest within (Broken (SourceFault p)) other a b = absurd a

-- where an item is whole and may follow, the feed doesn't end
pub goes_on : (kind : Kind) (config : Fields) (at : ℕ) (unit tail : List ℕ) (ending : Ending) → IsSized kind config unit → at + length (item kind unit) ≤ MAX_FEED
    → EndsAt kind config false at (item kind unit ++ tail) ending → ⊥
goes_on kind config at unit tail ending most within ends =
    on ending (take-append_more (MAX_FEED - at) (item kind unit) tail (omega arith)) ends
  where
    more : List ℕ
    more = take (MAX_FEED - at - length (item kind unit)) tail

    on : (e : Ending) → limited at (item kind unit ++ tail) ≡ item kind unit ++ more → EndsAt kind config false at (item kind unit ++ tail) e → ⊥
    on Clean is e = let l = ap (length {A = ℕ}) e in let m = length-append (item kind unit) tail in let n = item_long kind unit in omega arith
    on Full is e = false≢true e.0
    on (Broken (Marker place)) is e = e.2 (subst (IsMarked kind) (sym is) (item_marked kind unit more))
    on (Broken (UnitLong place)) is e = item_not_long kind config unit more most (subst (IsLong kind) is e.3)
    on (Broken (Sample place)) is e =
        item_not_wrong kind config unit more (place - (at + 4)) most (subst (λ (xs : List ℕ). HasWrongSample kind config xs (place - (at + 4))) is e.3)
    on (Broken (FeedCut place)) is e = item_not_short kind config unit tail most e.3
    on (Broken (TooLong place)) is e = item_not_short kind config unit more most (subst (λ (xs : List ℕ). IsShort kind config false xs) is e.2)
    on (Broken Memory) is e = e
    on (Broken (FeedHead place)) is e = e
    on (Broken (SourceFault count)) is e = e

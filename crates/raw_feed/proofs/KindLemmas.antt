-- What a kind of items keeps: its marker, its items, and the parts of them. A further kind adds its cases here, and no other proof.
use Rattle.std.proofs.Common.{◌≡◌, ℕ, ◌+◌, ◌-◌, ◌*◌, ◌≤◌, List, ◌++◌, length, take, drop, refl, sym, ap, ◌∙◌, append_assoc, arith, inl, inr, ◌⊎◌, ◌<◌}
use Rattle.std.proofs.lemmas.List.{length-append, length-drop, length-take, take_at, drop_at, take_all, drop-drop, take-append-drop}
use Rattle.std.proofs.lemmas.Bool.{cases_lt}
use Rattle.byteorder.specs.Endian.{big_number, big_bytes}
use Rattle.byteorder.specs.Numbers.{big_number-reads_back, length-bytes_high_first}
use Rattle.rec_bytes.specs.laws.Bytes.{AreBytes, bytes_of_4}
use Rattle.raw_feed.specs.declared.kind.TheConstants.{UNIT_MARKER, PICTURE_MARKER, MARKER_LEN, MAGIC_LEN, UNIT_HEAD_LEN, SAMPLE_LEN}
use Rattle.raw_feed.specs.declared.limits.TheConstants.{MAX_UNIT, MAX_SAMPLE}
use Rattle.raw_feed.specs.declared.kind.Kind.{Kind}
use Rattle.raw_feed.specs.declared.kind.Kind.TheVariants.{Units, Pictures}
use Rattle.rec_bytes.specs.Configuration.{Fields}
use Rattle.raw_feed.specs.declared.fault.FeedFault.TheVariants.{Memory, FeedHead, Marker, FeedCut, SourceFault, TooLong, Sample, UnitLong}
use Rattle.raw_feed.specs.Items.{IsBegun, IsLong, HasWrongSample, IsWrongSample, IsMarked, IsSized, unit_len, marker, body, item}
use Rattle.raw_feed.specs.Items.{Ending, Clean, Full, Broken, picture_samples, picture_len, sample_in}
use Rattle.raw_feed.specs.Breaks.{Reaches, judged_to}
use Rattle.raw_feed.proofs.SampleLemmas.{sample_before, sample_taken, look}
use Rattle.raw_feed.specs.Feeds.{magic}

pub magic_long : (kind : Kind) → length (magic kind) ≡ MAGIC_LEN
magic_long Units = refl
magic_long Pictures = refl

pub magic_whole : (kind : Kind) → take MAGIC_LEN (magic kind) ≡ magic kind
magic_whole kind = take_all MAGIC_LEN (magic kind) (let m = magic_long kind in omega arith)

pub marker_long : (kind : Kind) → length (marker kind) ≡ MARKER_LEN
marker_long Units = refl
marker_long Pictures = refl

-- a length that is too large is there, and so is a sample
pub long_there : (kind : Kind) (rest : List ℕ) → IsLong kind rest → UNIT_HEAD_LEN ≤ length rest
long_there Units rest large = large.0
long_there Pictures rest large = absurd large

pub wrong_there : (kind : Kind) (config : Fields) (rest : List ℕ) (behind : ℕ) → HasWrongSample kind config rest behind
    → MARKER_LEN + behind + SAMPLE_LEN ≤ length rest
wrong_there Units config rest behind wrong = absurd wrong
wrong_there Pictures config rest behind (k, is, wrong) = let t = wrong.there in let l = length-drop MARKER_LEN rest in omega arith

-- bytes that begin with a marker end inside the item, spell too large a length or have a wrong sample, and only one of these
pub begun_not_long : (kind : Kind) (config : Fields) (rest : List ℕ) → IsBegun kind config rest → IsLong kind rest → ⊥
begun_not_long Units config rest (inl few) (many, large) = omega arith
begun_not_long Units config rest (inr (most, fewer)) (many, large) = omega arith
begun_not_long Pictures config rest begun large = large

pub begun_not_wrong : (kind : Kind) (config : Fields) (rest : List ℕ) (behind : ℕ) → IsBegun kind config rest → HasWrongSample kind config rest behind → ⊥
begun_not_wrong Units config rest behind begun wrong = wrong
begun_not_wrong Pictures config rest behind (fewer, right) (k, is, wrong) = let r = right k wrong.there in let a = wrong.above in omega arith

pub long_not_wrong : (kind : Kind) (config : Fields) (rest : List ℕ) (behind : ℕ) → IsLong kind rest → HasWrongSample kind config rest behind → ⊥
long_not_wrong Units config rest behind large wrong = wrong
long_not_wrong Pictures config rest behind large wrong = large

-- the first wrong sample is one
pub one_wrong : (kind : Kind) (config : Fields) (rest : List ℕ) (behind there : ℕ) → HasWrongSample kind config rest behind
    → HasWrongSample kind config rest there → behind ≡ there
one_wrong Units config rest behind there wrong other = absurd wrong
one_wrong Pictures config rest behind there (k, is, wrong) (j, is_too, other) = on (cases_lt k j) (cases_lt j k)
  where
    on : ((k < j) ⊎ (j ≤ k)) → ((j < k) ⊎ (k ≤ j)) → behind ≡ there
    on (inl before) also = absurd (let f = other.first k before in let a = wrong.above in omega arith)
    on (inr most) (inl before) = absurd (let f = wrong.first j before in let a = other.above in omega arith)
    on (inr most) (inr least) = omega arith

-- bytes that were read up to the one that judges their ending reach it
pub reaches : (kind : Kind) (read at : ℕ) (ending : Ending) → read ≡ judged_to at ending → Reaches kind read at ending
reaches Units read at ending e = e
reaches Pictures read at Clean e = e
reaches Pictures read at Full e = e
reaches Pictures read at (Broken (Sample place)) e = omega arith
reaches Pictures read at (Broken Memory) e = e
reaches Pictures read at (Broken (FeedHead place)) e = e
reaches Pictures read at (Broken (Marker place)) e = e
reaches Pictures read at (Broken (FeedCut place)) e = e
reaches Pictures read at (Broken (SourceFault count)) e = e
reaches Pictures read at (Broken (TooLong place)) e = e
reaches Pictures read at (Broken (UnitLong place)) e = e

-- an item at the front of bytes shows its marker
pub item_marked : (kind : Kind) (unit tail : List ℕ) → IsMarked kind (item kind unit ++ tail)
item_marked kind unit tail =
    ap (take MARKER_LEN) (append_assoc (marker kind) (body kind unit) tail) ∙ take_at (marker kind) (body kind unit ++ tail) MARKER_LEN (marker_long kind)

pub behind_marker : (kind : Kind) (unit tail : List ℕ) → drop MARKER_LEN (item kind unit ++ tail) ≡ body kind unit ++ tail
behind_marker kind unit tail =
    ap (drop MARKER_LEN) (append_assoc (marker kind) (body kind unit) tail) ∙ drop_at (marker kind) (body kind unit ++ tail) MARKER_LEN (marker_long kind)

pub item_long : (kind : Kind) (unit : List ℕ) → MARKER_LEN ≤ length (item kind unit)
item_long kind unit = let l = length-append (marker kind) (body kind unit) in let m = marker_long kind in omega arith

-- the item of a unit is as long as its marker, its length and the unit
pub unit_item_long : (unit : List ℕ) → length (item Units unit) ≡ UNIT_HEAD_LEN + length unit
unit_item_long unit =
    let all = length-append UNIT_MARKER (big_bytes 4 (length unit) ++ unit) in
    let front = length-append (big_bytes 4 (length unit)) unit in
    let four = length-bytes_high_first 4 (length unit) in
    omega arith

item_unit_len : (unit tail : List ℕ) → length unit ≤ MAX_UNIT → unit_len (item Units unit ++ tail) ≡ length unit
item_unit_len unit tail most =
    ap (big_number 4) (behind_marker Units unit tail ∙ append_assoc (big_bytes 4 (length unit)) unit tail)
    ∙ big_number-reads_back 4 (length unit) (unit ++ tail) (omega arith)

-- the bytes of a picture's item behind its marker
picture_there : (bytes tail : List ℕ) → drop MARKER_LEN (item Pictures bytes ++ tail) ≡ bytes ++ tail
picture_there bytes tail = behind_marker Pictures bytes tail

-- an item at the front of bytes is whole
pub item_not_begun : (kind : Kind) (config : Fields) (unit tail : List ℕ) → IsSized kind config unit → IsBegun kind config (item kind unit ++ tail) → ⊥
item_not_begun Units config unit tail most (inl few) = let l = length-append (item Units unit) tail in let m = unit_item_long unit in omega arith
item_not_begun Units config unit tail most (inr (less, fewer)) =
    let len = item_unit_len unit tail most in let l = length-append (item Units unit) tail in let m = unit_item_long unit in omega arith
item_not_begun Pictures config bytes tail (long, right) (fewer, begun) =
    let l = length-append (item Pictures bytes) tail in
    let m = length-append PICTURE_MARKER bytes in
    omega arith

-- and spells no length that is too large
pub item_not_long : (kind : Kind) (config : Fields) (unit tail : List ℕ) → IsSized kind config unit → IsLong kind (item kind unit ++ tail) → ⊥
item_not_long Units config unit tail most (many, large) = let len = item_unit_len unit tail most in omega arith
item_not_long Pictures config bytes tail most large = large

-- and has no wrong sample
pub item_not_wrong : (kind : Kind) (config : Fields) (unit tail : List ℕ) (behind : ℕ) → IsSized kind config unit
    → HasWrongSample kind config (item kind unit ++ tail) behind → ⊥
item_not_wrong Units config unit tail behind most wrong = wrong
item_not_wrong Pictures config bytes tail behind (long, right) (k, is, wrong) =
    let inside = wrong.inside in
    let room : SAMPLE_LEN * k + SAMPLE_LEN ≤ length bytes = omega arith in
    let same : sample_in (drop MARKER_LEN (item Pictures bytes ++ tail)) k ≡ sample_in bytes k =
    ap (λ (xs : List ℕ). sample_in xs k) (picture_there bytes tail) ∙ sample_before bytes tail k room in
    let r = right k room in
    let a = wrong.above in
    omega arith

-- items at the front of the same bytes are one
pub one_unit : (kind : Kind) (config : Fields) (unit other tail rest : List ℕ) → IsSized kind config unit → IsSized kind config other
    → item kind unit ++ tail ≡ item kind other ++ rest → (unit ≡ other) × (tail ≡ rest)
one_unit Units config unit other tail rest most most_other e =
    let len : length unit ≡ length other = sym (item_unit_len unit tail most) ∙ ap unit_len e ∙ item_unit_len other rest most_other in
    let back : (u t : List ℕ) → drop 4 (item Units u ++ t) ≡ big_bytes 4 (length u) ++ (u ++ t) =
    λ u t. behind_marker Units u t ∙ append_assoc (big_bytes 4 (length u)) u t in
    let bodies : big_bytes 4 (length unit) ++ (unit ++ tail) ≡ big_bytes 4 (length other) ++ (other ++ rest) =
    sym (back unit tail) ∙ ap (drop 4) e ∙ back other rest in
    let units : unit ++ tail ≡ other ++ rest =
    sym (drop_at (big_bytes 4 (length unit)) (unit ++ tail) 4 (length-bytes_high_first 4 (length unit)))
    ∙ ap (drop 4) bodies
    ∙ drop_at (big_bytes 4 (length other)) (other ++ rest) 4 (length-bytes_high_first 4 (length other)) in (
      sym (take_at unit tail (length unit) refl) ∙ ap (take (length unit)) units ∙ take_at other rest (length unit) (sym len),
      sym (drop_at unit tail (length unit) refl) ∙ ap (drop (length unit)) units ∙ drop_at other rest (length unit) (sym len),
    )
one_unit Pictures config bytes other tail rest (long, right) (long_too, right_too) e =
    let behind : bytes ++ tail ≡ other ++ rest = sym (picture_there bytes tail) ∙ ap (drop MARKER_LEN) e ∙ picture_there other rest in
    let same : length bytes ≡ length other = long ∙ sym long_too in (
      sym (take_at bytes tail (length bytes) refl) ∙ ap (take (length bytes)) behind ∙ take_at other rest (length bytes) (sym same),
      sym (drop_at bytes tail (length bytes) refl) ∙ ap (drop (length bytes)) behind ∙ drop_at other rest (length bytes) (sym same),
    )

-- an item at the front of bytes
abbrev pub HasItem : Kind → Fields → List ℕ → Type 0
HasItem kind config rest = (unit : List ℕ) × (tail : List ℕ) × (rest ≡ item kind unit ++ tail) × IsSized kind config unit

-- what bytes that begin with a marker hold: a part of an item, too large a length, a wrong sample, or an item
abbrev pub Next : Kind → Fields → List ℕ → Type 0
Next kind config rest =
    IsBegun kind config rest ⊎ (IsLong kind rest ⊎ (((behind : ℕ) × HasWrongSample kind config rest behind) ⊎ HasItem kind config rest))

-- the item of a unit whose bytes are all there
unit_there : (rest : List ℕ) (n : ℕ) → AreBytes rest → IsMarked Units rest → n ≡ unit_len rest → UNIT_HEAD_LEN + n ≤ length rest
    → rest ≡ item Units (take n (drop 8 rest)) ++ drop n (drop 8 rest)
unit_there rest n bytes right n_is room =
    let behind = drop 8 rest in
    let unit = take n behind in
    let long : length unit ≡ n = length-take n behind ∙ (let l = length-drop 8 rest in omega arith) in
    let four : take 4 (drop 4 rest) ≡ big_bytes 4 (unit_len rest) = bytes_of_4 4 rest bytes (omega arith) in
    let spelled : take 4 (drop 4 rest) ≡ big_bytes 4 (length unit) = four ∙ ap (big_bytes 4) (sym n_is ∙ sym long) in
    let eight : drop 4 (drop 4 rest) ≡ behind = drop-drop 4 4 rest in
    let split : rest ≡ UNIT_MARKER ++ (big_bytes 4 (length unit) ++ (unit ++ drop n behind)) =
    sym (take-append-drop 4 rest)
    ∙ ap (λ (xs : List ℕ). take 4 rest ++ xs)
    (sym (take-append-drop 4 (drop 4 rest)) ∙ ap (λ (xs : List ℕ). take 4 (drop 4 rest) ++ xs) (eight ∙ sym (take-append-drop n behind)))
    ∙ ap (λ (xs : List ℕ). xs ++ (take 4 (drop 4 rest) ++ (unit ++ drop n behind))) right
    ∙ ap (λ (xs : List ℕ). UNIT_MARKER ++ (xs ++ (unit ++ drop n behind))) spelled in
    split
    ∙ ap (λ (xs : List ℕ). UNIT_MARKER ++ xs) (sym (append_assoc (big_bytes 4 (length unit)) unit (drop n behind)))
    ∙ sym (append_assoc UNIT_MARKER (big_bytes 4 (length unit) ++ unit) (drop n behind))

unit_next : (config : Fields) (rest : List ℕ) → AreBytes rest → IsMarked Units rest → ((length rest < 8) ⊎ (8 ≤ length rest))
    → ((MAX_UNIT < unit_len rest) ⊎ (unit_len rest ≤ MAX_UNIT)) → ((length rest < 8 + unit_len rest) ⊎ (8 + unit_len rest ≤ length rest))
    → Next Units config rest
unit_next config rest bytes right (inl few) large whole = inl (inl few)
unit_next config rest bytes right (inr many) (inl large) whole = inr (inl (many, large))
unit_next config rest bytes right (inr many) (inr most) (inl fewer) = inl (inr (most, fewer))
unit_next config rest bytes right (inr many) (inr most) (inr enough) =
    let n = unit_len rest in
    inr (inr (inr (take n (drop 8 rest), drop n (drop 8 rest), unit_there rest n bytes right refl enough, (let l = length-take n (drop 8 rest) in omega arith))))

-- the samples of a picture whose bytes are all there
picture_item : (config : Fields) (rest : List ℕ) (len : ℕ) → IsMarked Pictures rest → len ≡ picture_len config → MARKER_LEN + len ≤ length rest
    → ((k : ℕ) → k < picture_samples config → SAMPLE_LEN * k + SAMPLE_LEN ≤ length (drop MARKER_LEN rest)
    → sample_in (drop MARKER_LEN rest) k ≤ MAX_SAMPLE)
    → HasItem Pictures config rest
picture_item config rest len marked is enough right =
    let behind = drop MARKER_LEN rest in
    let bytes = take len behind in
    let all : length behind ≡ length rest - MARKER_LEN = length-drop MARKER_LEN rest in
    let long : length bytes ≡ len = length-take len behind ∙ omega arith in (
      bytes,
      drop len behind,
      sym (take-append-drop MARKER_LEN rest)
          ∙ ap (λ (xs : List ℕ). xs ++ behind) marked
          ∙ ap (λ (xs : List ℕ). PICTURE_MARKER ++ xs) (sym (take-append-drop len behind))
          ∙ sym (append_assoc PICTURE_MARKER bytes (drop len behind)),
      (
        long ∙ is,
        λ k room.
            let same : sample_in bytes k ≡ sample_in behind k = sample_taken len behind k (omega arith) in
            let r = right k (omega arith) (omega arith) in
            omega arith,
      ),
    )

picture_next : (config : Fields) (rest : List ℕ) → IsMarked Pictures rest
    → ((k : ℕ) → k < picture_samples config → SAMPLE_LEN * k + SAMPLE_LEN ≤ length (drop MARKER_LEN rest)
    → sample_in (drop MARKER_LEN rest) k ≤ MAX_SAMPLE)
    → ((length rest < MARKER_LEN + picture_len config) ⊎ (MARKER_LEN + picture_len config ≤ length rest)) → Next Pictures config rest
picture_next config rest marked right (inl fewer) = inl (fewer, λ k room. right k (let l = length-drop MARKER_LEN rest in omega arith) room)
picture_next config rest marked right (inr enough) = inr (inr (inr (picture_item config rest (picture_len config) marked refl enough right)))

pub next : (kind : Kind) (config : Fields) (rest : List ℕ) → AreBytes rest → IsMarked kind rest → Next kind config rest
next Units config rest bytes right =
    unit_next config rest bytes right (cases_lt (length rest) 8) (cases_lt MAX_UNIT (unit_len rest)) (cases_lt (length rest) (8 + unit_len rest))
next Pictures config rest bytes marked = on (look (picture_samples config) (drop MARKER_LEN rest))
  where
    on : (((k : ℕ) → k < picture_samples config → SAMPLE_LEN * k + SAMPLE_LEN ≤ length (drop MARKER_LEN rest)
        → sample_in (drop MARKER_LEN rest) k ≤ MAX_SAMPLE)
        ⊎ ((k : ℕ) × IsWrongSample (picture_samples config) (drop MARKER_LEN rest) k)) → Next Pictures config rest
    on (inl right) = picture_next config rest marked right (cases_lt (length rest) (MARKER_LEN + picture_len config))
    on (inr (k, wrong)) = inr (inr (inl (SAMPLE_LEN * k, (k, refl, wrong))))

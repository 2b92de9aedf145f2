-- How the bytes of a unit come piece by piece.
use Rattle.std.proofs.Common.{◌≡◌, ℕ, ◌+◌, ◌-◌, ◌<◌, ◌≤◌, List, [], ◌++◌, length, take, drop, Bool, false, Option, Some, None, Ok, Err}
use Rattle.std.proofs.Common.{refl, sym, ap, ◌∙◌, subst, arith}
use Rattle.std.proofs.lemmas.List.{length-drop, length-take, length-append, take_all}
use Rattle.std.proofs.Math.Seq.{take-add}
use Rattle.byteorder.specs.Endian.{big_bytes}
use Rattle.byteorder.specs.Numbers.{length-bytes_high_first}
use Rattle.rec_bytes.specs.Configuration.{Fields}
use Rattle.raw_feed.specs.declared.kind.TheConstants.{UNIT_MARKER}
use Rattle.raw_feed.specs.declared.limits.TheConstants.{MAX_UNIT, MAX_FEED}
use Rattle.raw_feed.specs.declared.kind.Kind.{Kind}
use Rattle.raw_feed.specs.declared.kind.Kind.TheVariants.{Units}
use Rattle.raw_feed.specs.declared.fault.FeedFault.{FeedFault}
use Rattle.raw_feed.specs.declared.fault.FeedFault.TheVariants.{Memory, FeedCut}
use Rattle.raw_feed.specs.Told.{Told, after}
use Rattle.raw_feed.specs.Items.{IsShort}
use Rattle.raw_feed.specs.inner.Parts.{Fills, TakesPart, LenRead, BytesRead, ItemRead}
use Rattle.raw_feed.specs.Breaks.{Breaks, Gave}
use Rattle.raw_feed.proofs.KindLemmas.{reaches}
use Rattle.raw_feed.proofs.PartLemmas.{after-zero, Gave-none, Gave-take, Gave-more}
use Rattle.raw_feed.proofs.BreakLemmas.{ShortWithin, Breaks-part, Breaks-cut, Breaks-shift, short_bytes, short_ends}

-- the bytes are the first that were left
abbrev pub Gathered : Option Told → Option Told → List ℕ → Type 0
Gathered None now bytes = now ≡ None
Gathered (Some old) now bytes = Gave bytes old now

pub Gathered-none : (told : Option Told) → Gathered told told []
Gathered-none None = refl
Gathered-none (Some old) = Gave-none old

-- one more piece, that came whole
pub Gathered-more : (at had more n : ℕ) (told mid now : Option Told) (bytes longer : List ℕ) → n ≡ more → had + more ≤ length longer
    → take had longer ≡ take had bytes → Gathered told mid (take had bytes) → TakesPart at mid now (Ok n) (take more (drop had longer))
    → Gathered told now (take (had + more) longer)
Gathered-more at had more n None mid now bytes longer whole room kept g part = rw g at part
Gathered-more at had more n (Some old) mid now bytes longer whole room kept (taken, moved) part =
    let first = take had longer in
    let piece = take more (drop had longer) in
    let k_is : length (take had bytes) ≡ had = ap (length {A = ℕ}) (sym kept) ∙ length-take had longer ∙ omega arith in
    let first_long : length first ≡ had = length-take had longer ∙ omega arith in
    let took : TakesPart at (Some (after had old)) now (Ok n) piece =
    subst (λ (t : Option Told). TakesPart at t now (Ok n) piece) (moved ∙ ap (λ (k : ℕ). Some (after k old)) k_is) part in
    let fills : Fills n (after had old) now piece = took.1 in
    let piece_long : length piece ≡ n = length-take more (drop had longer) ∙ (let l = length-drop had longer in omega arith) in
    let piece_is : take n (drop had old.left) ≡ piece = sym fills.bytes ∙ take_all n piece (omega arith) in
    let more_given : Gave piece (after had old) now =
    subst (λ (xs : List ℕ). Gave xs (after had old) now) piece_is (Gave-take n (after had old) now fills.there fills.moved) in
    let first_taken : take had old.left ≡ first = ap (λ (k : ℕ). take k old.left) (sym k_is) ∙ taken ∙ sym kept in
    subst (λ (xs : List ℕ). Gave xs old now) (sym (take-add had more longer)) (Gave-more had first piece old now first_long first_taken more_given)

-- a unit whose bytes were gathered is read
pub BytesRead-ok : (at len : ℕ) (told now : Option Told) (unit : List ℕ) → length unit ≡ len → Gathered told now unit → BytesRead at len told now (Ok unit)
BytesRead-ok at len None now unit long g = g
BytesRead-ok at len (Some old) now unit long g = (long, g)

-- the head of an item is as long as a marker and a length
pub length-front : (len : ℕ) → length (UNIT_MARKER ++ big_bytes 4 len) ≡ 8
length-front len = length-append UNIT_MARKER (big_bytes 4 len) ∙ ap (λ (n : ℕ). 4 + n) (length-bytes_high_first 4 len)

-- memory was wanted before a part of an item that is short came
pub Breaks-memory : (kind : Kind) (config : Fields) (full : Bool) (at : ℕ) (front : List ℕ) (old : Told) (new : Option Told) → IsShort kind config full (front ++ [])
    → at + length front ≤ MAX_FEED → new ≡ Some old → Breaks kind config full at front old new Memory
Breaks-memory kind config full at front old new short within same =
    let ends = short_ends kind config full at front [] short (omega arith) in
    record {
      given = [];
      gave = (refl, same ∙ ap Some (sym (after-zero old)));
      ending = ends.0;
      read = ends.1;
      reach =
          reaches kind (at + length front + length {A = ℕ} []) at ends.0 (let l = length-append {A = ℕ} front [] in let r = ends.2 in omega arith);
      answered = ends.3;
      shown = λ is. absurd is;
    }

-- the exits of the reader of a unit's bytes
pub BytesRead-memory : (at len : ℕ) (told mid : Option Told) (bytes : List ℕ) → len ≤ MAX_UNIT → length bytes < len
    → at + 8 + length bytes ≤ MAX_FEED → Gathered told mid bytes → BytesRead at len told mid (Err Memory)
BytesRead-memory at len None mid bytes most fewer within g = g
BytesRead-memory at len (Some old) mid bytes most fewer within (taken, moved) = λ config.
    let k = length bytes in
    let front = UNIT_MARKER ++ big_bytes 4 len in
    let behind : length (front ++ bytes) ≡ 8 + k = length-append front bytes ∙ ap (λ (n : ℕ). n + k) (length-front len) in
    Breaks-shift Units config false at front k bytes old mid Memory refl taken
    (Breaks-memory Units config false at (front ++ bytes) (after k old) mid (short_bytes config len bytes (len - k) most (omega arith) [] (omega arith)) (omega arith) moved)

pub BytesRead-failed : (at len had more place : ℕ) (told mid now : Option Told) (bytes piece : List ℕ) (fault : FeedFault)
    → length bytes ≡ had → length piece ≡ more → place ≡ at + 8 + had → len ≤ MAX_UNIT → had + more ≤ len → place ≤ MAX_FEED
    → Gathered told mid bytes → TakesPart place mid now (Err fault) piece → BytesRead at len told now (Err fault)
BytesRead-failed at len had more place None mid now bytes piece fault had_is wanted place_is most room within g part = rw g at part
BytesRead-failed at len had more place (Some old) mid now bytes piece fault had_is wanted place_is most room within (taken, moved) part = λ config.
    let k = length bytes in
    let front = UNIT_MARKER ++ big_bytes 4 len in
    let behind : length (front ++ bytes) ≡ 8 + k = length-append front bytes ∙ ap (λ (n : ℕ). n + k) (length-front len) in
    let took : TakesPart place (Some (after k old)) now (Err fault) piece = rw moved at part in
    let broken : Breaks Units config false at (front ++ bytes) (after k old) now fault =
    Breaks-part Units config false at (front ++ bytes) place (after k old) now piece fault
    (subst (λ (n : ℕ). ShortWithin Units config false (front ++ bytes) n) (sym wanted) (short_bytes config len bytes more most (omega arith))) (omega arith) within took in
    Breaks-shift Units config false at front k bytes old now fault refl taken broken

pub BytesRead-cut : (at len had more place n end : ℕ) (told mid now : Option Told) (bytes piece : List ℕ)
    → length bytes ≡ had → length piece ≡ more → place ≡ at + 8 + had → end ≡ place + n → len ≤ MAX_UNIT → had + more ≤ len → n < more
    → place + n ≤ MAX_FEED → Gathered told mid bytes → TakesPart place mid now (Ok n) piece → BytesRead at len told now (Err (FeedCut end))
BytesRead-cut at len had more place n end None mid now bytes piece had_is wanted place_is end_is most room fewer within g part = rw g at part
BytesRead-cut at len had more place n end (Some old) mid now bytes piece had_is wanted place_is end_is most room fewer within (taken, moved) part = λ config.
    let k = length bytes in
    let front = UNIT_MARKER ++ big_bytes 4 len in
    let took : TakesPart place (Some (after k old)) now (Ok n) piece = rw moved at part in
    let behind : length (front ++ bytes) ≡ 8 + k = length-append front bytes ∙ ap (λ (m : ℕ). m + k) (length-front len) in
    let there : at + length (front ++ bytes) + n ≡ end = omega arith in
    let broken : Breaks Units config false at (front ++ bytes) (after k old) now (FeedCut (at + length (front ++ bytes) + n)) =
    Breaks-cut Units config false at (front ++ bytes) more n (after k old) now piece (short_bytes config len bytes more most (omega arith))
    wanted fewer (omega arith) (omega arith) took.1 in
    let placed : Breaks Units config false at (front ++ bytes) (after k old) now (FeedCut end) =
    subst (λ (p : ℕ). Breaks Units config false at (front ++ bytes) (after k old) now (FeedCut p)) there broken in
    Breaks-shift Units config false at front k bytes old now (FeedCut end) refl taken placed

-- four bytes of a length were given
four_given : (len : ℕ) (old : Told) (now : Option Told) → Gave (big_bytes 4 len) old now → (take 4 old.left ≡ big_bytes 4 len) × (now ≡ Some (after 4 old))
four_given len old now (taken, moved) =
    let four = length-bytes_high_first 4 len in
    (ap (λ (n : ℕ). take n old.left) (sym four) ∙ taken, moved ∙ ap (λ (n : ℕ). Some (after n old)) four)

-- a length and a unit make an item
pub ItemRead-ok : (config : Fields) (at len : ℕ) (told mid now : Option Told) (unit : List ℕ) → LenRead at told mid (Ok len)
    → BytesRead at len mid now (Ok unit) → ItemRead Units config at told now (Ok unit)
ItemRead-ok config at len None mid now unit l b = rw l at b
ItemRead-ok config at len (Some old) mid now unit l b =
    let f = four_given len old mid l in
    let bytes : BytesRead at len (Some (after 4 old)) now (Ok unit) = rw f.1 at b in
    subst (λ (n : ℕ). Gave (big_bytes 4 n ++ unit) old now) (sym bytes.0)
    (Gave-more 4 (big_bytes 4 len) unit old now (length-bytes_high_first 4 len) f.0 bytes.1)

pub ItemRead-broken : (config : Fields) (at len : ℕ) (told mid now : Option Told) (fault : FeedFault) → LenRead at told mid (Ok len)
    → BytesRead at len mid now (Err fault) → ItemRead Units config at told now (Err fault)
ItemRead-broken config at len None mid now fault l b = rw l at b
ItemRead-broken config at len (Some old) mid now fault l b =
    let f = four_given len old mid l in
    let bytes : Breaks Units config false at (UNIT_MARKER ++ big_bytes 4 len) (after 4 old) now fault =
    subst (λ (m : Option Told). BytesRead at len m now (Err fault)) f.1 b config in
    Breaks-shift Units config false at UNIT_MARKER 4 (big_bytes 4 len) old now fault (length-bytes_high_first 4 len) f.0 bytes

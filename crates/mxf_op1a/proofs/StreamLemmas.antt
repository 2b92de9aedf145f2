-- The clauses on elements: what bodies add to the essence stream, and which elements partitions have.
use Rattle.std.proofs.Common.{◌≡◌, inl, inr, ℕ, ◌+◌, ◌<◌, ◌==◌, Bool, true, false, if◌then◌else◌, List, [], ◌∷◌, ◌++◌, length, map, sum_by, None, refl}
use Rattle.std.proofs.Common.{sym, ap, ◌∙◌, arith}
use Rattle.std.proofs.lemmas.Bool.{cases_eq, eq-eqb, eqb-true, ne_eqb}
use Rattle.std.proofs.lemmas.List.Sums.{sum_by-cons}
use Rattle.std.proofs.lemmas.Slice.Eq.{bytes_eq-Decides}
use Rattle.std.specs.List.{flat_map, AllByRecursion}
use Rattle.std.specs.Str.{bytes_eq}
use Rattle.mxf_names.specs.declared.keys.TheConstants.{PICTURE_ELEMENT_KEY}
use Rattle.mxf_op1a.specs.Contents.{Placed}
use Rattle.mxf_op1a.specs.Partitions.{File, Part, elements, stream_len}
use Rattle.mxf_op1a.specs.Clauses.{broken_5, broken_6, first_place, lacking, offset_in, other_elements, places, stream_offsets}
use Rattle.mxf_op1a.specs.Kept.{CountsStream, HasNone, HasPictures, HoldsElements, offsets_in}
use Rattle.mxf_op1a.proofs.Steps.{both_none, each_both, each_kept, each_none, each_so, goes, goes_back, kept_each, map_none, no_place, none_both, none_each}

-- 5. from a sum on
abbrev pub CountsFrom : ℕ → List Part → Type 0
CountsFrom so_far bodies =
    (before behind : List Part) (body : Part) → bodies ≡ before ++ body ∷ behind → body.pack.body_offset ≡ so_far + sum_by stream_len before

counts_from : (so_far : ℕ) (bodies : List Part) → broken_5 so_far bodies ≡ None → CountsFrom so_far bodies
unfolding broken_5
counts_from so_far [] e [] behind body is = absurd (cc)
counts_from so_far [] e (b ∷ before) behind body is = absurd (cc)
counts_from so_far (first ∷ bodies) e [] behind body is =
    let both = goes (first.pack.body_offset == so_far) (broken_5 (so_far + stream_len first) bodies) first.at e in
    let same : body ≡ first = cc in
    let moved : body.pack.body_offset ≡ first.pack.body_offset = ap (λ (p : Part). p.pack.body_offset) same in
    let own : first.pack.body_offset ≡ so_far = eqb-true first.pack.body_offset so_far both.0 in
    moved ∙ own ∙ omega arith
counts_from so_far (first ∷ bodies) e (b ∷ before) behind body is =
    let both = goes (first.pack.body_offset == so_far) (broken_5 (so_far + stream_len first) bodies) first.at e in
    let same : first ≡ b = cc in
    let rest_is : bodies ≡ before ++ body ∷ behind = cc in
    let rest : body.pack.body_offset ≡ so_far + stream_len first + sum_by stream_len before =
    counts_from (so_far + stream_len first) bodies both.1 before behind body rest_is in
    rest ∙ ap (λ (p : Part). so_far + stream_len p + sum_by stream_len before) same
    ∙ sym (regroup so_far (stream_len b) (sum_by stream_len before) (sum_by stream_len (b ∷ before)) (sum_by-cons stream_len b before))
  where
    regroup : (a b c d : ℕ) → d ≡ b + c → a + d ≡ a + b + c
    regroup a b c d h = omega arith

-- one body less
pub counts_less : (so_far : ℕ) (first : Part) (bodies : List Part) → CountsFrom so_far (first ∷ bodies) → CountsFrom (so_far + stream_len first) bodies
counts_less so_far first bodies k before behind body is =
    k (first ∷ before) behind body (ap (λ (ps : List Part). first ∷ ps) is)
    ∙ regroup so_far (stream_len first) (sum_by stream_len before) (sum_by stream_len (first ∷ before)) (sum_by-cons stream_len first before)
  where
    regroup : (a b c d : ℕ) → d ≡ b + c → a + d ≡ a + b + c
    regroup a b c d h = omega arith

pub counts_first : (so_far : ℕ) (first : Part) (bodies : List Part) → CountsFrom so_far (first ∷ bodies) → first.pack.body_offset ≡ so_far
counts_first so_far first bodies k = k [] bodies first refl ∙ omega arith

counts_back_from : (so_far : ℕ) (bodies : List Part) → CountsFrom so_far bodies → broken_5 so_far bodies ≡ None
unfolding broken_5
counts_back_from so_far [] k = refl
counts_back_from so_far (first ∷ bodies) k =
    goes_back (first.pack.body_offset == so_far) (broken_5 (so_far + stream_len first) bodies) first.at
    (eq-eqb first.pack.body_offset so_far (counts_first so_far first bodies k))
    (counts_back_from (so_far + stream_len first) bodies (counts_less so_far first bodies k))

-- a sum from 0 on
from_start : (bodies : List Part) → CountsStream bodies → CountsFrom 0 bodies
from_start bodies k before behind body is = k before behind body is ∙ omega arith

pub counts : (bodies : List Part) → broken_5 0 bodies ≡ None → CountsStream bodies
counts bodies e before behind body is = counts_from 0 bodies e before behind body is ∙ omega arith

pub counts_back : (bodies : List Part) → CountsStream bodies → broken_5 0 bodies ≡ None
counts_back bodies k = counts_back_from 0 bodies (from_start bodies k)

-- where body offsets are these sums, stream offsets go from them on
offsets_from : (so_far : ℕ) (bodies : List Part) → CountsFrom so_far bodies → stream_offsets so_far bodies ≡ flat_map offsets_in bodies
unfolding stream_offsets
offsets_from so_far [] k = refl
offsets_from so_far (body ∷ bodies) k =
    ap (λ (n : ℕ). map (offset_in body n) (elements body.items) ++ stream_offsets (so_far + stream_len body) bodies) (sym (counts_first so_far body bodies k))
    ∙ ap (λ (xs : List ℕ). offsets_in body ++ xs) (offsets_from (so_far + stream_len body) bodies (counts_less so_far body bodies k))

pub offsets_are : (bodies : List Part) → CountsStream bodies → stream_offsets 0 bodies ≡ flat_map offsets_in bodies
offsets_are bodies k = offsets_from 0 bodies (from_start bodies k)

-- 6. a body has elements, with this key
pub some_there : (n len : ℕ) → (if n == 0 then len ∷ [] else []) ≡ [] → 0 < n
some_there n len e = elim (cases_eq n 0) [
  | inl none ↦ let t : (n == 0) ≡ true = eq-eqb n 0 none in let bad = rw t at e in absurd (cc)
  | inr some ↦ omega arith
]

pub there_some : (n len : ℕ) → 0 < n → (if n == 0 then len ∷ [] else []) ≡ []
there_some n len some = let t : (n == 0) ≡ false = ne_eqb n 0 (λ (z : n ≡ 0). omega arith) in rw t refl

-- the place of each element that isn't a picture; nothing where there is an element
abbrev pub others_in : Part → List ℕ
others_in body = places (other_elements body.items)

abbrev pub lack_in : ℕ → Part → List ℕ
lack_in len body = if length (elements body.items) == 0 then len ∷ [] else []

abbrev pub all_in : Part → List ℕ
all_in part = places (elements part.items)

abbrev pub IsPicture : Placed → Type 0
IsPicture p = p.item.key ≡ PICTURE_ELEMENT_KEY

abbrev pub is_picture : Placed → Bool
is_picture p = bytes_eq p.item.key PICTURE_ELEMENT_KEY

pictures : (len : ℕ) (body : Part) → others_in body ≡ [] → lack_in len body ≡ [] → HasPictures body
pictures len body others lack =
    let items : List Placed = elements body.items in
    record {
      some = some_there (length items) len lack;
      keys = each_so (λ p. is_picture p ≡ true) IsPicture (λ p. (bytes_eq-Decides p.item.key PICTURE_ELEMENT_KEY).0) items
          (kept_each is_picture items (map_none (λ (p : Placed). p.at) (other_elements body.items) others));
    }

pictures_keyed : (body : Part) → HasPictures body → others_in body ≡ []
pictures_keyed body k =
    let items : List Placed = elements body.items in
    ap places (each_kept is_picture items
    (each_so IsPicture (λ p. is_picture p ≡ true) (λ p. (bytes_eq-Decides p.item.key PICTURE_ELEMENT_KEY).1) items k.keys))

none_in : (parts : List Part) → flat_map all_in parts ≡ [] → AllByRecursion HasNone parts
none_in parts e = each_so (λ part. all_in part ≡ []) HasNone (λ part. map_none (λ (p : Placed). p.at) (elements part.items)) parts (none_each all_in parts e)

in_none : (parts : List Part) → AllByRecursion HasNone parts → flat_map all_in parts ≡ []
in_none parts k = each_none all_in parts (each_so HasNone (λ part. all_in part ≡ []) (λ part. ap places) parts k)

pub held : (len : ℕ) (before : List Placed) (file : File) → broken_6 len before file ≡ None → HoldsElements before file
held len before file e =
    let front : List ℕ = places (elements before) in
    let header : List ℕ = flat_map all_in file.header in
    let bodies : List ℕ = flat_map others_in file.bodies in
    let footer : List ℕ = flat_map all_in file.footer in
    let lack : List ℕ = lacking len file.bodies in
    let none = no_place (front ++ header ++ bodies ++ footer ++ lack) e in
    let a = both_none (front ++ header ++ bodies ++ footer) lack none in
    let b = both_none (front ++ header ++ bodies) footer a.0 in
    let c = both_none (front ++ header) bodies b.0 in
    let d = both_none front header c.0 in
    record {
      front = map_none (λ (p : Placed). p.at) (elements before) d.0;
      header = none_in file.header d.1;
      bodies = each_both (λ body. others_in body ≡ []) (λ body. lack_in len body ≡ []) HasPictures (pictures len) file.bodies
          (none_each others_in file.bodies c.1) (none_each (lack_in len) file.bodies a.1);
      footer = none_in file.footer b.1;
    }

pub held_back : (len : ℕ) (before : List Placed) (file : File) → HoldsElements before file → broken_6 len before file ≡ None
held_back len before file k =
    let front : List ℕ = places (elements before) in
    let header : List ℕ = flat_map all_in file.header in
    let bodies : List ℕ = flat_map others_in file.bodies in
    let footer : List ℕ = flat_map all_in file.footer in
    let lack : List ℕ = lacking len file.bodies in
    let others : bodies ≡ [] = each_none others_in file.bodies (each_so HasPictures (λ body. others_in body ≡ []) pictures_keyed file.bodies k.bodies) in
    let some : lack ≡ [] = each_none (lack_in len) file.bodies
    (each_so HasPictures (λ body. lack_in len body ≡ []) (λ body h. there_some (length (elements body.items)) len h.some) file.bodies k.bodies) in
    let d = none_both front header (ap places k.front) (in_none file.header k.header) in
    let c = none_both (front ++ header) bodies d others in
    let b = none_both (front ++ header ++ bodies) footer c (in_none file.footer k.footer) in
    ap first_place (none_both (front ++ header ++ bodies ++ footer) lack b some)

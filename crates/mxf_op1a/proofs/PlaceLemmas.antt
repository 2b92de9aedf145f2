-- The clauses on the places and the kinds of partitions.
use Rattle.std.proofs.Common.{◌≡◌, ℕ, ◌==◌, ◌&&◌, true, List, [], ◌∷◌, ◌++◌, length, map, take, None, refl, ap, ap₂, ◌∙◌}
use Rattle.std.proofs.lemmas.Bool.{and_from, and_parts, eq-eqb, eqb-true}
use Rattle.std.specs.List.{AllByRecursion}
use Rattle.mxf_names.specs.declared.partition_keys.PartitionKind.{PartitionKind}
use Rattle.mxf_names.specs.declared.partition_keys.PartitionKind.TheVariants.{Header, Body, Footer}
use Rattle.mxf_names.specs.declared.partition_keys.PartitionStatus.{PartitionStatus}
use Rattle.mxf_names.specs.declared.partition_keys.PartitionStatus.TheVariants.{OpenIncomplete, ClosedIncomplete, OpenComplete, ClosedComplete}
use Rattle.mxf_op1a.specs.Partitions.{Part}
use Rattle.mxf_op1a.specs.Clauses.{broken_3, broken_4, broken_behind, is_body, is_closed, is_closed_footer, is_footer, is_header, is_open, is_open_header}
use Rattle.mxf_op1a.specs.Kept.{IsBody, IsClosedFooter, IsHeaderToFooter, IsOpenHeader, NamesPlaces}
use Rattle.mxf_op1a.proofs.Steps.{goes, goes_back}

-- 3. from a place on
abbrev pub PlacesFrom : ℕ → List Part → Type 0
PlacesFrom before all =
    (map (λ part. part.pack.this) all ≡ map (λ part. part.at) all)
    × (map (λ part. part.pack.previous) all ≡ take (length all) (before ∷ map (λ part. part.at) all))

places_from : (before : ℕ) (all : List Part) → broken_3 before all ≡ None → PlacesFrom before all
unfolding broken_3
places_from before [] e = (refl, refl)
places_from before (part ∷ all) e =
    let both = goes (part.pack.this == part.at && part.pack.previous == before) (broken_3 part.at all) part.at e in
    let own = and_parts (part.pack.this == part.at) (part.pack.previous == before) both.0 in
    let rest = places_from part.at all both.1 in (
      ap₂ (λ (x : ℕ) (xs : List ℕ). x ∷ xs) (eqb-true part.pack.this part.at own.0) rest.0,
      ap₂ (λ (x : ℕ) (xs : List ℕ). x ∷ xs) (eqb-true part.pack.previous before own.1) rest.1,
    )

places_back_from : (before : ℕ) (all : List Part) → PlacesFrom before all → broken_3 before all ≡ None
unfolding broken_3
places_back_from before [] k = refl
places_back_from before (part ∷ all) k =
    let this = k.0 in let previous = k.1 in
    let own : part.pack.this ≡ part.at = cc in
    let old : part.pack.previous ≡ before = cc in
    let rest : PlacesFrom part.at all = (cc, cc) in
    goes_back (part.pack.this == part.at && part.pack.previous == before) (broken_3 part.at all) part.at
    (and_from (part.pack.this == part.at) (part.pack.previous == before) (eq-eqb part.pack.this part.at own) (eq-eqb part.pack.previous before old))
    (places_back_from part.at all rest)

pub places : (all : List Part) → broken_3 0 all ≡ None → NamesPlaces all
places all e = let both = places_from 0 all e in record { this = both.0; previous = both.1 }

pub places_back : (all : List Part) → NamesPlaces all → broken_3 0 all ≡ None
places_back all k = places_back_from 0 all (k.this, k.previous)

-- kinds and statuses
header_is : (kind : PartitionKind) → is_header kind ≡ true → kind ≡ Header
header_is Header e = refl
header_is Body e = absurd (cc)
header_is Footer e = absurd (cc)

pub body_is : (kind : PartitionKind) → is_body kind ≡ true → kind ≡ Body
body_is Header e = absurd (cc)
body_is Body e = refl
body_is Footer e = absurd (cc)

footer_is : (kind : PartitionKind) → is_footer kind ≡ true → kind ≡ Footer
footer_is Header e = absurd (cc)
footer_is Body e = absurd (cc)
footer_is Footer e = refl

open_is : (status : PartitionStatus) → is_open status ≡ true → status ≡ OpenIncomplete
open_is OpenIncomplete e = refl
open_is ClosedIncomplete e = absurd (cc)
open_is OpenComplete e = absurd (cc)
open_is ClosedComplete e = absurd (cc)

closed_is : (status : PartitionStatus) → is_closed status ≡ true → status ≡ ClosedComplete
closed_is OpenIncomplete e = absurd (cc)
closed_is ClosedIncomplete e = absurd (cc)
closed_is OpenComplete e = absurd (cc)
closed_is ClosedComplete e = refl

pub open_header : (part : Part) → is_open_header part ≡ true → IsOpenHeader part
open_header part e =
    let both = and_parts (is_header part.pack.kind) (is_open part.pack.status) e in
    record { kind = header_is part.pack.kind both.0; status = open_is part.pack.status both.1 }

pub open_header_back : (part : Part) → IsOpenHeader part → is_open_header part ≡ true
open_header_back part k = and_from (is_header part.pack.kind) (is_open part.pack.status) (ap is_header k.kind) (ap is_open k.status)

pub closed_footer : (part : Part) → is_closed_footer part ≡ true → IsClosedFooter part
closed_footer part e =
    let both = and_parts (is_footer part.pack.kind && is_closed part.pack.status) (part.pack.footer == part.at) e in
    let own = and_parts (is_footer part.pack.kind) (is_closed part.pack.status) both.0 in
    record { kind = footer_is part.pack.kind own.0; status = closed_is part.pack.status own.1; named = eqb-true part.pack.footer part.at both.1 }

pub closed_footer_back : (part : Part) → IsClosedFooter part → is_closed_footer part ≡ true
closed_footer_back part k =
    and_from (is_footer part.pack.kind && is_closed part.pack.status) (part.pack.footer == part.at)
    (and_from (is_footer part.pack.kind) (is_closed part.pack.status) (ap is_footer k.kind) (ap is_closed k.status)) (eq-eqb part.pack.footer part.at k.named)

-- 4. behind the header
record AreBehind (all : List Part) : Type 0 where
  bodies : List Part
  footer : Part
  all_are : all ≡ bodies ++ footer ∷ []
  between : AllByRecursion IsBody bodies
  ends : IsClosedFooter footer

behind : (part : Part) (all : List Part) → broken_behind (part ∷ all) ≡ None → AreBehind (part ∷ all)
unfolding broken_behind
behind part [] e =
    record { bodies = []; footer = part; all_are = refl; between = tt; ends = closed_footer part (goes (is_closed_footer part) None part.at e).0 }
behind part (next ∷ all) e =
    let both = goes (is_body part.pack.kind) (broken_behind (next ∷ all)) part.at e in
    let rest = behind next all both.1 in
    record {
      bodies = part ∷ rest.bodies;
      footer = rest.footer;
      all_are = ap (λ (ps : List Part). part ∷ ps) rest.all_are;
      between = (body_is part.pack.kind both.0, rest.between);
      ends = rest.ends;
    }

behind_back : (bodies : List Part) (footer : Part) → AllByRecursion IsBody bodies → IsClosedFooter footer → broken_behind (bodies ++ footer ∷ []) ≡ None
unfolding broken_behind
behind_back [] footer between ends = goes_back (is_closed_footer footer) None footer.at (closed_footer_back footer ends) refl
behind_back (body ∷ []) footer between ends =
    goes_back (is_body body.pack.kind) (broken_behind (footer ∷ [])) body.at (ap is_body between.0) (behind_back [] footer tt ends)
behind_back (body ∷ next ∷ bodies) footer between ends =
    goes_back (is_body body.pack.kind) (broken_behind (next ∷ (bodies ++ footer ∷ []))) body.at (ap is_body between.0)
    (behind_back (next ∷ bodies) footer between.1 ends)

pub kinds : (len : ℕ) (all : List Part) → broken_4 len all ≡ None → IsHeaderToFooter all
kinds len [] e = absurd (cc)
kinds len (part ∷ []) e = absurd (cc)
kinds len (part ∷ next ∷ all) e =
    let both = goes (is_open_header part) (broken_behind (next ∷ all)) part.at e in
    let rest = behind next all both.1 in
    record {
      header = part;
      bodies = rest.bodies;
      footer = rest.footer;
      all_are = ap (λ (ps : List Part). part ∷ ps) rest.all_are;
      begins = open_header part both.0;
      between = rest.between;
      ends = rest.ends;
    }

kinds_by : (len : ℕ) (header footer : Part) (bodies : List Part) → IsOpenHeader header → AllByRecursion IsBody bodies → IsClosedFooter footer
    → broken_4 len (header ∷ (bodies ++ footer ∷ [])) ≡ None
kinds_by len header footer [] begins between ends =
    goes_back (is_open_header header) (broken_behind (footer ∷ [])) header.at (open_header_back header begins) (behind_back [] footer tt ends)
kinds_by len header footer (body ∷ bodies) begins between ends =
    goes_back (is_open_header header) (broken_behind (body ∷ (bodies ++ footer ∷ []))) header.at (open_header_back header begins)
    (behind_back (body ∷ bodies) footer between ends)

pub kinds_back : (len : ℕ) (all : List Part) → IsHeaderToFooter all → broken_4 len all ≡ None
kinds_back len all k = ap (broken_4 len) k.all_are ∙ kinds_by len k.header k.footer k.bodies k.begins k.between k.ends

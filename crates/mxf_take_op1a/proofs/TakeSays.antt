-- What the packs and the index tables of a take's file say.
use Rattle.std.proofs.Common.{◌≡◌, ℕ, ◌+◌, ◌-◌, ◌*◌, ◌%◌, ◌<◌, ◌==◌, true, false, List, [], ◌∷◌, ◌++◌, length}
use Rattle.std.proofs.Common.{take, Some, None, refl, sym, ap, ◌∙◌, inl, inr, arith, append-nil, length-append}
use Rattle.std.proofs.lemmas.Bool.{cases_eq, eq-eqb, ne_eqb, eqb-true}
use Rattle.std.proofs.lemmas.List.{take_at, take-append-le}
use Rattle.rec_bytes.specs.Configuration.{Fields}
use Rattle.rec_bytes.specs.Ranges.{IsInRange}
use Rattle.klv.specs.laws.Lengths.{length-spelled}
use Rattle.mxf_names.specs.Picture.{picture_item}
use Rattle.mxf_take_file.specs.Essence.{essence}
use Rattle.mxf_take_file.specs.Extents.{extents, file_len, body_count}
use Rattle.mxf_take_file.specs.Layout.{growing}
use Rattle.mxf_take_file.specs.Packs.{body_pack, footer_pack}
use Rattle.mxf_take_file.specs.Segments.{whole_first, last_first, pack_before}
use Rattle.mxf_take_file.specs.laws.Counts.{count_none, count_begins, count_stays, count_times, count_some, last_within}
use Rattle.mxf_take_file.specs.laws.Lengths.{essence_more}
use Rattle.mxf_take_file.specs.laws.Parts.{growing_len}
use Rattle.mxf_take_op1a.proofs.Says.{NamePlaces, NameKinds, CountStream, CountBytes, HoldUnits}
use Rattle.mxf_take_op1a.proofs.Shapes.{Units}
use Rattle.mxf_take_op1a.proofs.TakeShape.{shape, segment_bytes_are, metadata_bytes_are}

-- a number that is a multiple, by the test
pub even_from : (part n : ℕ) → (n % part == 0) ≡ true → n % part ≡ 0
even_from part n due = eqb-true (n % part) 0 due

pub uneven_from : (part n : ℕ) → (n % part == 0) ≡ false → n % part ≡ 0 → ⊥
uneven_from part n stays e = let is = eq-eqb (n % part) 0 e in absurd (cc)

-- where a body begins behind units, the one before began part units before
pub last_whole : (part n : ℕ) → n % part ≡ 0 → (body_count part n - 1) * part ≡ n - part
last_whole part n even =
    let times = count_times part n even in
    elim (cases_eq (body_count part n) 0) [
      | inl none ↦
          let zero_is : n ≡ 0 = sym times ∙ ap (λ (k : ℕ). k * part) none ∙ omega arith in
          let left : (body_count part n - 1) * part ≡ (0 - 1) * part = ap (λ (k : ℕ). (k - 1) * part) none in
          omega (arith, zero_is, left)
      | inr some ↦
          let c : body_count part n ≡ (body_count part n - 1) + 1 = omega arith in
          let more : body_count part n * part ≡ (body_count part n - 1 + 1) * part = ap (λ (k : ℕ). k * part) c in
          omega (arith, times, more)
    ]

-- behind the next unit the last one begins there
pub last_begins : (part n : ℕ) → 0 < part → n % part ≡ 0 → (body_count part (n + 1) - 1) * part ≡ n
last_begins part n some even =
    let e : body_count part (n + 1) - 1 ≡ body_count part n = omega (arith, count_begins part n some even) in
    ap (λ (k : ℕ). k * part) e ∙ count_times part n even

pub last_stays : (part n : ℕ) → 0 < part → (n % part ≡ 0 → ⊥) → (body_count part (n + 1) - 1) * part ≡ (body_count part n - 1) * part
last_stays part n some uneven = ap (λ (k : ℕ). (k - 1) * part) (count_stays part n some uneven)

-- the length of one unit more
pub one_more : (units : Units) (unit : List ℕ) → length (units ++ unit ∷ []) ≡ length units + 1
one_more units unit = length-append units (unit ∷ [])

-- no units are a multiple
none_even : (part : ℕ) → 0 < part → (0 % part == 0) ≡ true
none_even part some = eq-eqb (0 % part) 0 (elim (cases_eq (0 % part) 0) [
  | inl even ↦ even
  | inr uneven ↦
      let one : body_count part (0 + 1) ≡ body_count part 0 = count_stays part 0 some uneven in
      let none = count_none part some in
      let some_is = count_some part 1 some (omega arith) in
      absurd (omega (arith, one, none, some_is))
])

pub first_due : (cfg : Fields) (units : Units) → IsInRange cfg → (shape cfg units).due [] ≡ true
first_due cfg units h = none_even cfg.part h.part.least

-- the place of the last body's pack
abbrev pub last_place : Fields → Units → ℕ
last_place cfg units = pack_before (extents cfg.part units) ((body_count cfg.part (length units) - 1) * cfg.part)

last_place_due : (cfg : Fields) (units : Units) (unit : List ℕ) → IsInRange cfg → (length units % cfg.part == 0) ≡ true
    → last_place cfg (units ++ unit ∷ []) ≡ length (growing cfg units)
last_place_due cfg units unit h due =
    let all : Units = units ++ unit ∷ [] in
    let long = one_more units unit in
    let some : length all ≡ 0 → ⊥ = λ (q : length all ≡ 0). omega arith in
    let first : (body_count cfg.part (length all) - 1) * cfg.part ≡ length units =
    ap (λ (n : ℕ). (body_count cfg.part n - 1) * cfg.part) long ∙ last_begins cfg.part (length units) h.part.least (even_from cfg.part (length units) due) in
    rw (ne_eqb (length all) 0 some) (
    ap (λ (n : ℕ). file_len cfg.part (take n all)) first
    ∙ ap (file_len cfg.part) (take_at units (unit ∷ []) (length units) refl)
    ∙ sym (growing_len cfg units h)
    )

last_place_stays : (cfg : Fields) (units : Units) (unit : List ℕ) → IsInRange cfg → (length units % cfg.part == 0) ≡ false
    → last_place cfg (units ++ unit ∷ []) ≡ last_place cfg units
last_place_stays cfg units unit h stays =
    let all : Units = units ++ unit ∷ [] in
    let long = one_more units unit in
    let some : length all ≡ 0 → ⊥ = λ (q : length all ≡ 0). omega arith in
    let uneven = uneven_from cfg.part (length units) stays in
    let there : length units ≡ 0 → ⊥ = λ (q : length units ≡ 0).
    uneven (ap (λ (n : ℕ). n % cfg.part) q ∙ even_from cfg.part 0 (none_even cfg.part h.part.least)) in
    let first : (body_count cfg.part (length all) - 1) * cfg.part ≡ (body_count cfg.part (length units) - 1) * cfg.part =
    ap (λ (n : ℕ). (body_count cfg.part n - 1) * cfg.part) long ∙ last_stays cfg.part (length units) h.part.least uneven in
    let within = last_within cfg.part (length units) h.part.least in
    rw (ne_eqb (length all) 0 some, ne_eqb (length units) 0 there) (
    ap (λ (n : ℕ). file_len cfg.part (take n all)) first
    ∙ ap (file_len cfg.part) (take-append-le ((body_count cfg.part (length units) - 1) * cfg.part) units (unit ∷ []) within)
    )

pub end_of_file : (cfg : Fields) (units : Units) → IsInRange cfg → file_len cfg.part (take (length units) units) ≡ length (growing cfg units)
end_of_file cfg units h =
    ap (file_len cfg.part) (ap (take (length units)) (sym (append-nil units)) ∙ take_at units [] (length units) refl) ∙ sym (growing_len cfg units h)

pub name_places : (cfg : Fields) (units : Units) → IsInRange cfg → NamePlaces (shape cfg units) units
unfolding body_pack footer_pack
name_places cfg units h = record {
  before = last_place cfg;
  header_this = refl;
  header_previous = refl;
  starts = refl;
  this = λ us. end_of_file cfg us h;
  previous = λ us due. ap (pack_before (extents cfg.part us)) (sym (last_whole cfg.part (length us) (even_from cfg.part (length us) due)));
  due = λ us unit due. last_place_due cfg us unit h due;
  stays = λ us unit stays. last_place_stays cfg us unit h stays;
  footer_this = end_of_file cfg units h;
  footer_previous = refl;
}

pub name_kinds : (cfg : Fields) (units : Units) → IsInRange cfg → NameKinds (shape cfg units) units
unfolding body_pack footer_pack
name_kinds cfg units h = record {
  header_is = refl;
  header_open = refl;
  body_is = λ us. refl;
  footer_is = refl;
  footer_closed = refl;
  footer_named = end_of_file cfg units h;
}

unfoldable pub count_stream : (cfg : Fields) (units : Units) → CountStream (shape cfg units) units
unfolding body_pack
count_stream cfg units = record {
  stream = λ us. length (essence us);
  starts = refl;
  more = λ us unit. omega (arith, essence_more us unit, length-spelled (picture_item unit) refl);
  offset = λ us. refl;
}

pub count_bytes : (cfg : Fields) (units : Units) → IsInRange cfg → CountBytes (shape cfg units) units
unfolding body_pack footer_pack
count_bytes cfg units h = record {
  header_metadata = metadata_bytes_are cfg None h;
  header_index = refl;
  body_metadata = λ us. refl;
  body_index = λ us. segment_bytes_are cfg (extents cfg.part us) (whole_first cfg (extents cfg.part us));
  footer_metadata = metadata_bytes_are cfg (Some (length units)) h;
  footer_index = segment_bytes_are cfg (extents cfg.part units) (last_first cfg (extents cfg.part units));
}

pub hold_units : (cfg : Fields) (units : Units) → HoldUnits (shape cfg units)
hold_units cfg units = record { key = λ unit. refl; value = λ unit. refl }

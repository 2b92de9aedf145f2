-- The first set of a kind, from a set on.
use Rattle.std.proofs.Common.{◌≡◌, ℕ, suc, ◌+◌, ◌<◌, ◌≤◌, ◌==◌, Bool, cond, List, ◌∷◌, length, get_or, take, drop, replicate, Option, Some, refl, sym}
use Rattle.std.proofs.Common.{ap, ap₂, ◌∙◌, arith}
use Rattle.std.proofs.lemmas.Bool.{eq-eqb, ne_eqb}
use Rattle.std.proofs.lemmas.List.{drop_all, length-drop, length-take-le, drop-drop, drop-take}
use Rattle.std.proofs.Math.Seq.{drop-cons}
use Rattle.byteorder.specs.Endian.{big_number}
use Rattle.byteorder.specs.Numbers.{big_from-take}
use Rattle.local_sets.specs.Reads.{items_in}
use Rattle.local_sets.specs.laws.Reads.{first_short, no_items}
use Rattle.mxf_metadata_reader.specs.Fields.{items_of_kind, or_zeros, pair_of}
use Rattle.mxf_metadata_reader.specs.PlacedSets.{PlacedSet}
use Rattle.mxf_metadata_reader.specs.inner.Places.{placed, sets_at}
use Rattle.mxf_metadata_reader.specs.declared.outline.SetPlace.{SetPlace}

kind_step : (kind : ℕ) (one : PlacedSet) (sets : List PlacedSet)
    → items_of_kind kind (one ∷ sets) ≡ cond (one.set.kind == kind) one.set.items (items_of_kind kind sets)
unfolding items_of_kind
kind_step kind one sets = refl

-- a set, and those behind it
kinds_step : (kind : ℕ) (bytes : List ℕ) (sets : List SetPlace) (i : ℕ) (d : SetPlace) → i < length sets
    → items_of_kind kind (sets_at bytes (drop i sets))
    ≡ cond ((get_or sets i d).kind == kind) (placed bytes (get_or sets i d)).set.items (items_of_kind kind (sets_at bytes (drop (i + 1) sets)))
kinds_step kind bytes sets i d lt =
    let one : PlacedSet = placed bytes (get_or sets i d) in
    let next : suc i ≡ i + 1 = omega arith in
    ap (λ (xs : List SetPlace). items_of_kind kind (sets_at bytes xs)) (drop-cons sets i d lt)
    ∙ kind_step kind one (sets_at bytes (drop (suc i) sets))
    ∙ ap (λ (n : ℕ). cond (one.set.kind == kind) one.set.items (items_of_kind kind (sets_at bytes (drop n sets)))) next

pub kind_here : (kind : ℕ) (bytes value : List ℕ) (sets : List SetPlace) (i : ℕ) (d : SetPlace) → i < length sets → (get_or sets i d).kind ≡ kind
    → value ≡ take (get_or sets i d).value_len (drop (get_or sets i d).value_at bytes)
    → items_of_kind kind (sets_at bytes (drop i sets)) ≡ items_in value
kind_here kind bytes value sets i d lt same e =
    let one : PlacedSet = placed bytes (get_or sets i d) in
    kinds_step kind bytes sets i d lt
    ∙ ap (λ (b : Bool). cond b one.set.items (items_of_kind kind (sets_at bytes (drop (i + 1) sets)))) (eq-eqb (get_or sets i d).kind kind same)
    ∙ ap items_in (sym e)

pub kind_later : (kind : ℕ) (bytes : List ℕ) (sets : List SetPlace) (i : ℕ) (d : SetPlace) → i < length sets → ((get_or sets i d).kind ≡ kind → ⊥)
    → items_of_kind kind (sets_at bytes (drop i sets)) ≡ items_of_kind kind (sets_at bytes (drop (i + 1) sets))
kind_later kind bytes sets i d lt other =
    let one : PlacedSet = placed bytes (get_or sets i d) in
    kinds_step kind bytes sets i d lt
    ∙ ap (λ (b : Bool). cond b one.set.items (items_of_kind kind (sets_at bytes (drop (i + 1) sets)))) (ne_eqb (get_or sets i d).kind kind other)

pub kind_none : (kind : ℕ) (bytes value : List ℕ) (sets : List SetPlace) (i : ℕ) → length sets ≤ i → length value ≡ 0
    → items_of_kind kind (sets_at bytes (drop i sets)) ≡ items_in value
unfolding items_of_kind
kind_none kind bytes value sets i past e =
    ap (λ (xs : List SetPlace). items_of_kind kind (sets_at bytes xs)) (drop_all i sets past)
    ∙ sym (no_items (length value) value (first_short value (omega (arith, e))))

-- a value of a size is itself
pub sized_value : (size : ℕ) (value : List ℕ) → length value ≡ size → or_zeros size (Some value) ≡ value
sized_value size value e = ap (λ (b : Bool). cond b value (replicate size 0)) (eq-eqb (length value) size e)

-- the value that was found, with its size
found_value : (size at len : ℕ) (value : List ℕ) (first : Option (List ℕ)) → Some (take len (drop at value)) ≡ first → len ≡ size → at + len ≤ length value
    → or_zeros size first ≡ take size (drop at value)
found_value size at len value first e same w =
    let rest : List ℕ = drop at value in
    let long : length (take len rest) ≡ size = length-take-le len rest (omega (arith, length-drop at value)) ∙ same in
    ap (or_zeros size) (sym e) ∙ sized_value size (take len rest) long ∙ ap (λ (n : ℕ). take n rest) same

pub pair_found : (at len first second : ℕ) (value : List ℕ) (found : Option (List ℕ)) → Some (take len (drop at value)) ≡ found → len ≡ 8
    → at + len ≤ length value
    → first ≡ big_number 4 (drop at value) → second ≡ big_number 4 (drop (at + 4) value) → (first, second) ≡ pair_of (or_zeros 8 found)
pair_found at len first second value found e same w p q =
    let rest : List ℕ = drop at value in
    let is : or_zeros 8 found ≡ take 8 rest = found_value 8 at len value found e same w in
    let pair : ℕ → ℕ → ℕ × ℕ = λ a b. (a, b) in
    let low : big_number 4 (take 8 rest) ≡ first = big_from-take 0 4 8 rest (omega arith) ∙ sym p in
    let half : drop 4 (take 8 rest) ≡ take 4 (drop 4 rest) = drop-take 4 4 rest in
    let moved : drop 4 rest ≡ drop (at + 4) value = drop-drop 4 at value ∙ ap (λ (n : ℕ). drop n value) (omega arith) in
    let high : big_number 4 (drop 4 (take 8 rest)) ≡ second =
    ap (big_number 4) half ∙ big_from-take 0 4 4 (drop 4 rest) (omega arith) ∙ ap (big_number 4) moved ∙ sym q in
    ap₂ pair (sym low) (sym high) ∙ ap pair_of (sym is)

pub half_found : (at len : ℕ) (half value : List ℕ) (found : Option (List ℕ)) → Some (take len (drop at value)) ≡ found → len ≡ 32 → at + len ≤ length value
    → half ≡ take 16 (drop (at + 16) value) → half ≡ drop 16 (or_zeros 32 found)
half_found at len half value found e same w p =
    let rest : List ℕ = drop at value in
    let is : or_zeros 32 found ≡ take 32 rest = found_value 32 at len value found e same w in
    let moved : drop 16 rest ≡ drop (at + 16) value = drop-drop 16 at value ∙ ap (λ (n : ℕ). drop n value) (omega arith) in
    p ∙ ap (take 16) (sym moved) ∙ sym (drop-take 16 16 rest) ∙ ap (drop 16) (sym is)

-- A partition's first primer, and the bytes of its metadata.
use Rattle.std.proofs.Common.{◌≡◌, ◌⊎◌, inl, inr, ℕ, ◌+◌, ◌-◌, min, max, true, false, List, [], ◌∷◌, ◌++◌, length, map, filter, take, drop, Option, Some, None}
use Rattle.std.proofs.Common.{refl, sym, ap, ap₂, subst, ◌∙◌, arith, append_assoc}
use Rattle.std.proofs.lemmas.List.{drop-drop, drop_at, take_at}
use Rattle.std.proofs.lemmas.List.Concat.{flat_map-append}
use Rattle.std.specs.List.{flat_map, AllByRecursion}
use Rattle.klv.specs.Items.{IsItem, Item, spelled}
use Rattle.mxf_metadata_check.specs.Metadata.{behind}
use Rattle.mxf_metadata_reader.specs.PrimerTags.{tags_of_primer}
use Rattle.mxf_op1a.specs.Clauses.{first_place, places}
use Rattle.mxf_op1a.specs.Contents.{Content, Placed, content_of, is_pack, is_primer, is_set, placed_from}
use Rattle.mxf_op1a.specs.Contents.Content.{Fill, Pack, Primer, Set, Segment, RandomIndex, Element, Other}
use Rattle.mxf_op1a.specs.Metadata.{least, set_at, sets_behind, sets_from, wrong_behind, wrong_from, wrong_sets}
use Rattle.mxf_op1a.specs.Partitions.{Part, being, from_first, place_of, up_to}
use Rattle.mxf_reader.specs.declared.part.SeenPart.{SeenPart}
use Rattle.mxf_reader.specs.inner.Metadata.{HoldsMetadata, IsPartOf, metadata_end}
use Rattle.mxf_reader.specs.inner.Parts.{place_or}
use Rattle.mxf_reader.specs.inner.Seen.{run_end}
use Rattle.mxf_reader.proofs.MetadataRuns.{IsRunOf, first_here, first_later, long_with, run_of_items, run_stop, up_more, up_none}

-- items stand in bytes from a place on, and all of them end at another
pub record Stand (bytes : List ℕ) (stop at : ℕ) (items : List Item) : Type 0 where
  pub each : AllByRecursion IsItem items
  pub rest : List ℕ
  pub bytes_are : drop at bytes ≡ flat_map spelled items ++ rest
  pub stop_is : stop ≡ at + length (flat_map spelled items)

-- those behind the first stand behind it
pub stand_next : (bytes : List ℕ) (stop at : ℕ) (item : Item) (items : List Item) → Stand bytes stop at (item ∷ items)
    → Stand bytes stop (at + length (spelled item)) items
stand_next bytes stop at item items s =
    let long = long_with item items in
    let stop_is = s.stop_is in
    record {
      each = s.each.1;
      rest = s.rest;
      bytes_are =
          sym (drop-drop (length (spelled item)) at bytes)
          ∙ ap (drop (length (spelled item))) (s.bytes_are ∙ append_assoc (spelled item) (flat_map spelled items) s.rest)
          ∙ drop_at (spelled item) (flat_map spelled items ++ s.rest) (length (spelled item)) refl;
      stop_is = omega (arith, long, stop_is);
    }

-- the first primer of a partition, and the items behind it
pub record IsPrimerIn (bytes : List ℕ) (len stop from : ℕ) (items : List Item) : Type 0 where
  pub at : ℕ
  pub primer : Item
  pub behind : List Item
  pub stand : Stand bytes stop at (primer ∷ behind)
  pub first : from_first is_primer (up_to is_pack (placed_from from items))
      ≡ record { at = at; item = primer } ∷ up_to is_pack (placed_from (at + length (spelled primer)) behind)
  pub end : place_of len (from_first is_pack (placed_from from items))
      ≡ place_of len (from_first is_pack (placed_from (at + length (spelled primer)) behind))

-- there is one, or none
abbrev pub MayHavePrimer : List ℕ → ℕ → ℕ → ℕ → List Item → Type 0
MayHavePrimer bytes len stop from items =
    (from_first is_primer (up_to is_pack (placed_from from items)) ≡ []) ⊎ IsPrimerIn bytes len stop from items

-- an item is a pack, or else a primer, or neither
abbrev IsOne : Content → Type 0
IsOne content =
    (is_pack content ≡ true)
    ⊎ (((is_pack content ≡ false) × (is_primer content ≡ true)) ⊎ ((is_pack content ≡ false) × (is_primer content ≡ false)))

-- so it is of each content
is_one : (content : Content) → IsOne content
is_one (Pack pack) = inl refl
is_one Fill = inr (inr (refl, refl))
is_one Primer = inr (inl (refl, refl))
is_one Set = inr (inr (refl, refl))
is_one Segment = inr (inr (refl, refl))
is_one RandomIndex = inr (inr (refl, refl))
is_one Element = inr (inr (refl, refl))
is_one Other = inr (inr (refl, refl))

-- the first item is the primer
primer_here : (bytes : List ℕ) (len stop from : ℕ) (item : Item) (items : List Item) → Stand bytes stop from (item ∷ items)
    → is_pack (content_of item) ≡ false → is_primer (content_of item) ≡ true → IsPrimerIn bytes len stop from (item ∷ items)
unfolding placed_from
primer_here bytes len stop from item items s bare is =
    let p : Placed = record { at = from; item = item } in
    let ps : List Placed = placed_from (from + length (spelled item)) items in
    record {
      at = from;
      primer = item;
      behind = items;
      stand = s;
      first = ap (from_first is_primer) (up_more is_pack p ps bare) ∙ first_here is_primer p (up_to is_pack ps) is;
      end = ap (place_of len) (first_later is_pack p ps bare);
    }

-- it is among those behind the first
first_same : (p : Placed) (ps : List Placed) → being is_pack p ≡ false → being is_primer p ≡ false
    → from_first is_primer (up_to is_pack (p ∷ ps)) ≡ from_first is_primer (up_to is_pack ps)
first_same p ps bare other = ap (from_first is_primer) (up_more is_pack p ps bare) ∙ first_later is_primer p (up_to is_pack ps) other

primer_later : (bytes : List ℕ) (len stop from : ℕ) (item : Item) (items : List Item) → is_pack (content_of item) ≡ false
    → is_primer (content_of item) ≡ false
    → MayHavePrimer bytes len stop (from + length (spelled item)) items → MayHavePrimer bytes len stop from (item ∷ items)
unfolding placed_from
primer_later bytes len stop from item items bare other (inl none) =
    inl (first_same (record { at = from; item = item }) (placed_from (from + length (spelled item)) items) bare other ∙ none)
primer_later bytes len stop from item items bare other (inr f) =
    let p : Placed = record { at = from; item = item } in
    let ps : List Placed = placed_from (from + length (spelled item)) items in
    inr (record {
      at = f.at;
      primer = f.primer;
      behind = f.behind;
      stand = f.stand;
      first = first_same p ps bare other ∙ f.first;
      end = ap (place_of len) (first_later is_pack p ps bare) ∙ f.end;
    })

-- of all items there is one or none
pub primer_found : (bytes : List ℕ) (len stop from : ℕ) (items : List Item) → Stand bytes stop from items → MayHavePrimer bytes len stop from items
unfolding placed_from up_to from_first
primer_found bytes len stop from [] s = inl refl
primer_found bytes len stop from (item ∷ items) s =
    let p : Placed = record { at = from; item = item } in
    let next : ℕ = from + length (spelled item) in
    let behind = stand_next bytes stop from item items s in
    elim (is_one (content_of item)) [
      | inl is ↦ inl (ap (from_first is_primer) (up_none is_pack p (placed_from next items) is))
      | inr (inl h) ↦ inr (primer_here bytes len stop from item items s h.0 h.1)
      | inr (inr h) ↦ primer_later bytes len stop from item items h.0 h.1 (primer_found bytes len stop next items behind)
    ]

-- the first of items
each_front : {X : Type 0} (P : X → Type 0) (xs ys : List X) → AllByRecursion P (xs ++ ys) → AllByRecursion P xs
each_front P [] ys h = tt
each_front P (x ∷ xs) ys h = (h.0, each_front P xs ys h.1)

-- the bytes of a primer and of a run behind it
bytes_of_run : (bytes : List ℕ) (stop at : ℕ) (primer : Item) (run others : List Item) (n : ℕ) → Stand bytes stop at (primer ∷ (run ++ others))
    → length (flat_map spelled (primer ∷ run)) ≡ n → take n (drop at bytes) ≡ flat_map spelled (primer ∷ run)
bytes_of_run bytes stop at primer run others n s long =
    let mine : List ℕ = flat_map spelled (primer ∷ run) in
    ap (take n) (s.bytes_are
    ∙ ap (λ (xs : List ℕ). xs ++ s.rest) (flat_map-append spelled (primer ∷ run) others)
    ∙ append_assoc mine (flat_map spelled others) s.rest)
    ∙ take_at mine (flat_map spelled others ++ s.rest) n long

-- what is wrong depends on the sets alone
wrong_same : (at : ℕ) (tags : Option (List ℕ)) (a b : List Placed) → sets_behind a ≡ sets_behind b → wrong_behind at tags a ≡ wrong_behind at tags b
wrong_same at None a b e = refl
wrong_same at (Some tags) a b e = ap (wrong_sets tags) e

-- the bytes up to where they end
end_of_run : (end at a b : ℕ) → end ≡ at + a + b → max end at - at ≡ a + b
end_of_run end at a b e = omega arith

-- where they end, by what is kept
end_is : (bytes : List ℕ) (stop : ℕ) (p : SeenPart) (part : Part) (h : IsPartOf bytes stop p part)
    (f : IsPrimerIn bytes (length bytes) stop h.lies.from h.lies.items)
    → place_or p.end p.primer_end ≡ run_stop (length bytes) (placed_from (f.at + length (spelled f.primer)) f.behind)
end_is bytes stop p part h f =
    ap₂ place_or (h.end ∙ h.lies.end_is ∙ f.end)
    (h.primer_end ∙ ap (λ (ps : List Placed). run_end is_set (from_first is_primer ps)) h.lies.items_are ∙ ap (run_end is_set) f.first)

-- the bytes that are read are a primer and a run behind it
held : (bytes read : List ℕ) (stop : ℕ) (p : SeenPart) (part : Part) (h : IsPartOf bytes stop p part)
    (f : IsPrimerIn bytes (length bytes) stop h.lies.from h.lies.items)
    → IsRunOf (length bytes) stop (f.at + length (spelled f.primer)) f.behind
    → read ≡ take (metadata_end p f.at stop - f.at) (drop f.at bytes) → HoldsMetadata read f.at part
held bytes read stop p part h f r is =
    let mine : List ℕ = flat_map spelled (f.primer ∷ r.run) in
    let end : min (place_or p.end p.primer_end) stop ≡ f.at + length (spelled f.primer) + length (flat_map spelled r.run) =
    ap (λ (n : ℕ). min n stop) (end_is bytes stop p part h f) ∙ r.end in
    let long = long_with f.primer r.run in
    let count : length mine ≡ metadata_end p f.at stop - f.at =
    long ∙ sym (end_of_run (min (place_or p.end p.primer_end) stop) f.at (length (spelled f.primer)) (length (flat_map spelled r.run)) end) in
    let stand : Stand bytes stop f.at (f.primer ∷ (r.run ++ r.rest)) =
    subst (λ (xs : List Item). Stand bytes stop f.at (f.primer ∷ xs)) r.items_are f.stand in
    let ps : List Placed = up_to is_pack (placed_from (f.at + length (spelled f.primer)) f.behind) in
    let from : from_first is_primer part.items ≡ record { at = f.at; item = f.primer } ∷ ps = ap (from_first is_primer) h.lies.items_are ∙ f.first in
    let sets : sets_behind ps ≡ sets_behind (behind f.at f.primer r.run) =
    ap (λ (qs : List Placed). map set_at (filter (being is_set) qs)) (r.up ∙ sym r.same) in
    record {
      primer = f.primer;
      items = r.run;
      are = record {
        are_items = record {
          bytes_are = is ∙ bytes_of_run bytes stop f.at f.primer r.run r.rest (metadata_end p f.at stop - f.at) stand count;
          each = each_front IsItem (f.primer ∷ r.run) r.rest stand.each;
        };
        each = r.each;
      };
      wrong = λ len.
          ap (λ (qs : List Placed). least (wrong_from len qs)) from
          ∙ ap least (wrong_same f.at (tags_of_primer f.primer) ps (behind f.at f.primer r.run) sets);
      sets = ap sets_from from ∙ sets;
    }

-- without a primer none is kept
none_kept : (o : Option ℕ) (ps : List Placed) → ps ≡ [] → o ≡ first_place (places ps) → o ≡ None
none_kept o ps none e = e ∙ ap (λ (qs : List Placed). first_place (places qs)) none

-- the items of a partition stand in the file
stand_so : (bytes : List ℕ) (stop : ℕ) (p : SeenPart) (part : Part) (h : IsPartOf bytes stop p part) → Stand bytes stop h.lies.from h.lies.items
stand_so bytes stop p part h = record { each = h.lies.each; rest = h.lies.rest; bytes_are = h.lies.bytes_are; stop_is = h.lies.stop_is }

-- by what is kept there is a primer
found_held : (bytes read : List ℕ) (stop first : ℕ) (p : SeenPart) (part : Part) (h : IsPartOf bytes stop p part)
    → MayHavePrimer bytes (length bytes) stop h.lies.from h.lies.items → p.primer ≡ Some first
    → read ≡ take (metadata_end p first stop - first) (drop first bytes) → HoldsMetadata read first part
found_held bytes read stop first p part h (inl none) e is =
    let missing : p.primer ≡ None = none_kept p.primer (from_first is_primer part.items) (ap (from_first is_primer) h.lies.items_are ∙ none) h.primer in
    absurd (cc)
found_held bytes read stop first p part h (inr f) e is =
    let here : p.primer ≡ Some f.at = h.primer
    ∙ ap (λ (ps : List Placed). first_place (places ps)) (ap (from_first is_primer) h.lies.items_are ∙ f.first) in
    let same : first ≡ f.at = cc in
    let stop_is = (stand_next bytes stop f.at f.primer f.behind f.stand).stop_is in
    subst (λ (at : ℕ). HoldsMetadata read at part) (sym same)
    (held bytes read stop p part h f
    (run_of_items (length bytes) stop (f.at + length (spelled f.primer)) f.behind stop_is h.lies.inside)
    (is ∙ ap (λ (at : ℕ). take (metadata_end p at stop - at) (drop at bytes)) same))

-- what is read from the primer on is the metadata
pub metadata_held : (bytes read : List ℕ) (stop first : ℕ) (p : SeenPart) (part : Part) → IsPartOf bytes stop p part → p.primer ≡ Some first
    → read ≡ take (metadata_end p first stop - first) (drop first bytes) → HoldsMetadata read first part
metadata_held bytes read stop first p part h e is =
    found_held bytes read stop first p part h (primer_found bytes (length bytes) stop h.lies.from h.lies.items (stand_so bytes stop p part h)) e is

-- there is no first place of items that are there
no_place : (ps : List Placed) → first_place (places ps) ≡ None → ps ≡ []
no_place [] e = refl
no_place (p ∷ ps) e = absurd (cc)

-- there is no primer
pub primer_missing : (bytes : List ℕ) (stop : ℕ) (p : SeenPart) (part : Part) → IsPartOf bytes stop p part → p.primer ≡ None
    → from_first is_primer part.items ≡ []
primer_missing bytes stop p part h none = no_place (from_first is_primer part.items) (sym h.primer ∙ none)

-- Metadata that was read, and what is wrong with it.
use Rattle.std.proofs.Common.{◌≡◌, ℕ, ◌+◌, ◌<◌, Bool, true, false, cond, List, [], ◌∷◌, length, drop, Option, Some, None, refl, sym, ap, ap₂, subst, ◌∙◌, arith}
use Rattle.std.proofs.lemmas.List.{length-drop}
use Rattle.std.specs.Option.{option_or}
use Rattle.local_sets.specs.Sets.{RawItem}
use Rattle.local_sets.specs.Reads.{item_len}
use Rattle.mxf_metadata.specs.Tags.{is_among}
use Rattle.mxf_metadata_reader.specs.Faults.{cut_fault, end_fault, item_fault, items_fault, links_fault, name_fault, names_fault, sets_fault}
use Rattle.mxf_metadata_reader.specs.Fields.{fields_of}
use Rattle.mxf_metadata_reader.specs.PlacedSets.{PlacedSet, sets_from}
use Rattle.mxf_metadata_reader.specs.Reads.{AreFirstItems, HasFault, IsReadSets, Metadata, Refuses, end_of, fault_of, first_fault, sets_behind}
use Rattle.mxf_metadata_reader.specs.References.{all_found, names_of}
use Rattle.mxf_metadata_reader.specs.Sizes.{is_sized}
use Rattle.mxf_metadata_reader.specs.inner.Places.{IsOutline, sets_at}
use Rattle.mxf_metadata_reader.specs.inner.Primers.{IsPrimer}
use Rattle.mxf_metadata_reader.specs.declared.fault.SetFault.{SetFault}
use Rattle.mxf_metadata_reader.specs.declared.fault.SetFault.TheVariants.{Memory, NotPrimer, UnknownTag, SetCut, ItemSize, BrokenReference}
use Rattle.mxf_metadata_reader.specs.declared.fields.Sets.{Sets}
use Rattle.mxf_metadata_reader.specs.declared.outline.Outline.{Outline}
use Rattle.mxf_metadata_reader.specs.declared.outline.SetPlace.{SetPlace}
use Rattle.mxf_metadata_reader.specs.declared.primer.Primer.{Primer}

-- a fault of an item
abbrev IsOfItem : SetFault → Type 0
IsOfItem Memory = ⊥
IsOfItem NotPrimer = ⊥
IsOfItem (UnknownTag at tag) = Unit {0}
IsOfItem (SetCut at tag) = Unit {0}
IsOfItem (ItemSize at tag) = Unit {0}
IsOfItem (BrokenReference at tag) = Unit {0}

-- if there is one
abbrev IsOfItemIf : Option SetFault → Type 0
IsOfItemIf None = Unit {0}
IsOfItemIf (Some fault) = IsOfItem fault

or_is : (a b : Option SetFault) → IsOfItemIf a → IsOfItemIf b → IsOfItemIf (option_or a b)
or_is None b p q = q
or_is (Some fault) b p q = p

item_by : (known sized : Bool) (at tag : ℕ) → IsOfItemIf (cond known (cond sized None (Some (ItemSize at tag))) (Some (UnknownTag at tag)))
item_by true true at tag = tt
item_by true false at tag = tt
item_by false sized at tag = tt

cut_is : (at : ℕ) (rest : List ℕ) → IsOfItemIf (cut_fault at rest)
cut_is at [] = tt
cut_is at (byte ∷ rest) = tt

end_is : (at : ℕ) (rest : List ℕ) → IsOfItemIf (end_fault at rest)
end_is at [] = tt
end_is at (byte ∷ rest) = tt

items_are : (tags : List ℕ) (at : ℕ) (items : List RawItem) (rest : List ℕ) → IsOfItemIf (items_fault tags at items rest)
unfolding items_fault
items_are tags at [] rest = cut_is at rest
items_are tags at (item ∷ items) rest =
    or_is (item_fault tags at item) (items_fault tags (at + item_len item) items rest) (item_by (is_among item.tag tags)
    (is_sized item.tag item.value) at item.tag)
    (items_are tags (at + item_len item) items rest)

sets_are : (tags : List ℕ) (sets : List PlacedSet) → IsOfItemIf (sets_fault tags sets)
unfolding sets_fault
sets_are tags [] = tt
sets_are tags (one ∷ sets) =
    or_is (items_fault tags one.at one.set.items one.set.rest) (sets_fault tags sets) (items_are tags one.at one.set.items one.set.rest) (sets_are tags sets)

name_by : (found : Bool) (at tag : ℕ) → IsOfItemIf (cond found None (Some (BrokenReference at tag)))
name_by true at tag = tt
name_by false at tag = tt

names_are : (all : List PlacedSet) (at : ℕ) (items : List RawItem) → IsOfItemIf (names_fault all at items)
unfolding names_fault
names_are all at [] = tt
names_are all at (item ∷ items) =
    or_is (name_fault all at item) (names_fault all (at + item_len item) items) (name_by (all_found all (names_of item)) at item.tag)
    (names_are all (at + item_len item) items)

links_are : (all sets : List PlacedSet) → IsOfItemIf (links_fault all sets)
unfolding links_fault
links_are all [] = tt
links_are all (one ∷ sets) =
    or_is (names_fault all one.at one.set.items) (links_fault all sets) (names_are all one.at one.set.items) (links_are all sets)

-- what is wrong is wrong with an item
fault_is : (tags : List ℕ) (sets : List PlacedSet) (end : ℕ) (rest : List ℕ) → IsOfItemIf (fault_of tags sets end rest)
fault_is tags sets end rest =
    or_is (option_or (sets_fault tags sets) (end_fault end rest)) (links_fault sets sets)
    (or_is (sets_fault tags sets) (end_fault end rest) (sets_are tags sets) (end_is end rest)) (links_are sets sets)

refused_so : (bytes : List ℕ) (fault : SetFault) → IsOfItem fault → HasFault bytes (Some fault) → Refuses bytes fault
refused_so bytes Memory p h = tt
refused_so bytes NotPrimer p h = absurd p
refused_so bytes (UnknownTag at tag) p h = h
refused_so bytes (SetCut at tag) p h = h
refused_so bytes (ItemSize at tag) p h = h
refused_so bytes (BrokenReference at tag) p h = h

-- metadata of a primer pack and of what stands behind it
pub made : (bytes : List ℕ) (primer : Primer) (outline : Outline) → IsPrimer bytes primer → IsOutline bytes primer.end outline → Metadata bytes
made bytes primer outline p o = record {
  front = p.front;
  items = o.items;
  rest = drop outline.stop bytes;
  behind = subst (λ (xs : List ℕ). AreFirstItems xs o.items (drop outline.stop bytes)) p.rest o.are_first;
}

made_sets : (bytes : List ℕ) (primer : Primer) (outline : Outline) (p : IsPrimer bytes primer) (o : IsOutline bytes primer.end outline)
    → sets_behind (made bytes primer outline p o) ≡ sets_at bytes outline.sets.items
unfolding made
made_sets bytes primer outline p o = ap (λ (n : ℕ). sets_from n o.items) (sym p.place) ∙ sym o.sets_are

made_end : (bytes : List ℕ) (primer : Primer) (outline : Outline) (p : IsPrimer bytes primer) (o : IsOutline bytes primer.end outline)
    → end_of (made bytes primer outline p o) ≡ outline.stop
unfolding made
made_end bytes primer outline p o = let place = p.place in let stop = o.place in omega (arith, place, stop)

made_fault : (bytes : List ℕ) (primer : Primer) (outline : Outline) (p : IsPrimer bytes primer) (o : IsOutline bytes primer.end outline)
    → first_fault (made bytes primer outline p o) ≡ fault_of p.front.tags (sets_at bytes outline.sets.items) outline.stop (drop outline.stop bytes)
unfolding made
made_fault bytes primer outline p o =
    ap₂ (λ (sets : List PlacedSet) (end : ℕ). fault_of p.front.tags sets end (drop outline.stop bytes)) (made_sets bytes primer outline p o)
    (made_end bytes primer outline p o)

-- something is wrong
pub is_refused : (bytes : List ℕ) (primer : Primer) (outline : Outline) (p : IsPrimer bytes primer) (o : IsOutline bytes primer.end outline)
    (places : List SetPlace)
    (fault : SetFault) → places ≡ outline.sets.items
    → Some fault ≡ fault_of p.front.tags (sets_at bytes places) outline.stop (drop outline.stop bytes) → Refuses bytes fault
is_refused bytes primer outline p o places fault same found =
    let e : Some fault ≡ fault_of p.front.tags (sets_at bytes outline.sets.items) outline.stop (drop outline.stop bytes) =
    found ∙ ap (λ (xs : List SetPlace). fault_of p.front.tags (sets_at bytes xs) outline.stop (drop outline.stop bytes)) same in
    let sets : List PlacedSet = sets_at bytes outline.sets.items in
    refused_so bytes fault (subst IsOfItemIf (sym e) (fault_is p.front.tags sets outline.stop (drop outline.stop bytes)))
    (made bytes primer outline p o, made_fault bytes primer outline p o ∙ sym e)

-- or nothing is
pub is_read : (bytes : List ℕ) (primer : Primer) (outline : Outline) (p : IsPrimer bytes primer) (o : IsOutline bytes primer.end outline)
    (places fields_places : List SetPlace)
    (fields : Sets) → places ≡ outline.sets.items → fields_places ≡ outline.sets.items
    → None ≡ fault_of p.front.tags (sets_at bytes places) outline.stop (drop outline.stop bytes)
    → fields ≡ fields_of (sets_at bytes fields_places) → IsReadSets bytes fields
is_read bytes primer outline p o places fields_places fields same also found is = record {
  metadata = made bytes primer outline p o;
  right =
      made_fault bytes primer outline p o
      ∙ ap (λ (xs : List SetPlace). fault_of p.front.tags (sets_at bytes xs) outline.stop (drop outline.stop bytes)) (sym same)
      ∙ sym found;
  fields = is ∙ ap (λ (xs : List SetPlace). fields_of (sets_at bytes xs)) also ∙ ap fields_of (sym (made_sets bytes primer outline p o));
}

end_some : (at : ℕ) (rest : List ℕ) → 0 < length rest → end_fault at rest ≡ Some (SetCut at 0)
end_some at [] h = absurd (omega arith)
end_some at (byte ∷ rest) h = refl

-- the bytes end inside an item of key, length and value
pub stop_fault : (tags bytes : List ℕ) (sets : List PlacedSet) (stop : ℕ) → sets_fault tags sets ≡ None → stop < length bytes
    → fault_of tags sets stop (drop stop bytes) ≡ Some (SetCut stop 0)
stop_fault tags bytes sets stop none lt =
    ap₂ (λ (a b : Option SetFault). option_or (option_or a b) (links_fault sets sets)) none
    (end_some stop (drop stop bytes) (omega (arith, length-drop stop bytes)))

-- The sets that are written, as they are read: nothing is wrong with them.
use Rattle.std.proofs.Common.{◌≡◌, ℕ, ◌+◌, ◌&&◌, ◌||◌, Bool, true, false, cond, List, [], ◌∷◌, ◌++◌, length, map, Option, Some, None, refl, sym, ap, ap₂, ◌∙◌}
use Rattle.std.proofs.lemmas.Bool.{eq-eqb}
use Rattle.std.proofs.lemmas.List.Folds.{flat_map-map}
use Rattle.std.proofs.lemmas.Slice.Eq.{bytes_eq-Decides}
use Rattle.std.specs.List.{flat_map, filter, list_any, AllByRecursion}
use Rattle.std.specs.Option.{option_or}
use Rattle.std.specs.Str.{bytes_eq}
use Rattle.klv.specs.Items as klv
use Rattle.klv.specs.Items.{spelled}
use Rattle.local_sets.specs.Sets.{IsRawItem, RawItem, raw, raw_bytes, items_bytes, set_item, set_value}
use Rattle.local_sets.specs.Reads.{items_in, rest_in, item_len}
use Rattle.local_sets.specs.Values.{value_bytes}
use Rattle.local_sets.specs.laws.Reads.{written_items, written_rest}
use Rattle.local_sets.specs.declared.set.Item.{Item}
use Rattle.mxf_names.specs.Keys.{set_key}
use Rattle.mxf_names.specs.declared.tags.TheConstants.{INSTANCE_ID}
use Rattle.mxf_metadata.specs.Links.{Node, Reference, is_one_of, is_resolved, kinds_named}
use Rattle.mxf_metadata.specs.Metadata.{Set}
use Rattle.mxf_metadata.specs.Nodes as nodes
use Rattle.mxf_metadata.specs.Nodes.{ids_at, is_reference, node, references}
use Rattle.mxf_metadata_reader.specs.Faults.{items_fault, links_fault, names_fault, sets_fault}
use Rattle.mxf_metadata_reader.specs.PlacedSets.{PlacedSet, ReadSet, placed_at, set_of, sets_from}
use Rattle.mxf_metadata_reader.specs.References.{all_found, first_value, has_id, ids_of_size, is_found, is_id, names_of}
use Rattle.mxf_metadata_reader.specs.Sizes.{is_sized, size_of}
use Rattle.mxf_metadata_reader.specs.declared.fault.SetFault.{SetFault}
use Rattle.mxf_metadata_reader.specs.declared.fault.SetFault.TheVariants.{BrokenReference, ItemSize, UnknownTag}
use Rattle.mxf_metadata_reader.proofs.LinkLemmas.{found_cons}
use Rattle.mxf_metadata_reader.proofs.WrittenLemmas.{IsGood}

-- the item of key, length and value that a set is
abbrev pub set_klv : Set → klv.Item
set_klv set = set_item (set_key set.kind) set.items

-- a set that is written, as it is read
abbrev pub as_read : Set → ReadSet
as_read set = record { kind = set.kind; items = map raw set.items; rest = [] }

-- sets one behind the other
unfoldable pub placed_from : ℕ → List Set → List PlacedSet
placed_from at [] = []
placed_from at (set ∷ sets) = record { at = at + 20; set = as_read set } ∷ placed_from (at + length (spelled (set_klv set))) sets

-- the items of each set are good
abbrev pub AreGood : List ℕ → List Set → Type 0
AreGood tags sets = AllByRecursion (λ (set : Set). AllByRecursion (IsGood tags) set.items) sets

raw_each : (tags : List ℕ) (items : List Item) → AllByRecursion (IsGood tags) items → AllByRecursion IsRawItem (map raw items)
raw_each tags [] h = tt
raw_each tags (item ∷ items) h = (h.0.is_raw, raw_each tags items h.1)

-- a set is read as itself
set_read : (tags : List ℕ) (set : Set) → AllByRecursion (IsGood tags) set.items → set_of (set_klv set) ≡ Some (as_read set)
set_read tags set h =
    let each = raw_each tags set.items h in
    let value : items_bytes set.items ≡ set_value (map raw set.items) = sym (flat_map-map raw_bytes raw set.items) in
    let made : List RawItem → List ℕ → ReadSet = λ items rest. record { kind = set.kind; items = items; rest = rest } in
    ap Some (ap₂ made (ap items_in value ∙ written_items (map raw set.items) each) (ap rest_in value ∙ written_rest (map raw set.items) each))

pub sets_are_placed : (tags : List ℕ) (at : ℕ) (sets : List Set) → AreGood tags sets → sets_from at (map set_klv sets) ≡ placed_from at sets
unfolding sets_from placed_from
sets_are_placed tags at [] h = refl
sets_are_placed tags at (set ∷ sets) h =
    ap₂ (λ (o : Option ReadSet) (xs : List PlacedSet). placed_at (at + 20) o ++ xs) (set_read tags set h.0)
    (sets_are_placed tags (at + length (spelled (set_klv set))) sets h.1)

-- no item is wrong
no_item : (tags : List ℕ) (at : ℕ) (items : List Item) → AllByRecursion (IsGood tags) items → items_fault tags at (map raw items) [] ≡ None
unfolding items_fault
no_item tags at [] h = refl
no_item tags at (item ∷ items) h =
    let rest : Option SetFault = items_fault tags (at + item_len (raw item)) (map raw items) [] in
    ap₂ (λ (known sized : Bool). option_or (cond known (cond sized None (Some (ItemSize at item.tag))) (Some
    (UnknownTag at item.tag))) rest) h.0.known h.0.sized
    ∙ no_item tags (at + item_len (raw item)) items h.1

pub no_set : (tags : List ℕ) (at : ℕ) (sets : List Set) → AreGood tags sets → sets_fault tags (placed_from at sets) ≡ None
unfolding sets_fault placed_from
no_set tags at [] h = refl
no_set tags at (set ∷ sets) h =
    let rest : Option SetFault = sets_fault tags (placed_from (at + length (spelled (set_klv set))) sets) in
    ap (λ (o : Option SetFault). option_or o rest) (no_item tags (at + 20) set.items h.0)
    ∙ no_set tags (at + length (spelled (set_klv set))) sets h.1

-- a set has one identifier, of 16 bytes, as it is written and as it is read
pub record HasOwn (set : Set) : Type 0 where
  pub id : List ℕ
  pub first : first_value INSTANCE_ID (map raw set.items) ≡ Some id
  pub own : ids_at INSTANCE_ID set ≡ id ∷ []
  pub long : length id ≡ 16

bool_same : (a b : Bool) → (a ≡ true → b ≡ true) → (b ≡ true → a ≡ true) → a ≡ b
bool_same true b f g = sym (f refl)
bool_same false true f g = g refl
bool_same false false f g = refl

turned : (xs ys : List ℕ) → bytes_eq xs ys ≡ bytes_eq ys xs
turned xs ys =
    bool_same (bytes_eq xs ys) (bytes_eq ys xs)
    (λ t. (bytes_eq-Decides ys xs).1 (sym ((bytes_eq-Decides xs ys).0 t)))
    (λ t. (bytes_eq-Decides xs ys).1 (sym ((bytes_eq-Decides ys xs).0 t)))

or_false : (b : Bool) → (b || false) ≡ b
or_false true = refl
or_false false = refl

-- a set has an identifier in both ways
has_same : (id : List ℕ) (set : Set) → HasOwn set → has_id id (map raw set.items) ≡ list_any (bytes_eq id) (node set).own
has_same id set h =
    ap (is_id id) h.first
    ∙ ap (λ (b : Bool). b && bytes_eq h.id id) (eq-eqb (length h.id) 16 h.long)
    ∙ turned h.id id
    ∙ sym (or_false (bytes_eq id h.id))
    ∙ ap (list_any (bytes_eq id)) (sym h.own)

abbrev with : List ℕ → Node (List ℕ) → Bool
with id n = list_any (bytes_eq id) n.own

none_found : (id : List ℕ) → is_found id [] ≡ false
unfolding Rattle.mxf_metadata_reader.specs.References.find
none_found id = refl

found_same : (id : List ℕ) (at : ℕ) (sets : List Set) → AllByRecursion HasOwn sets → is_found id (placed_from at sets) ≡ list_any (with id) (map node sets)
unfolding placed_from
found_same id at [] h = none_found id
found_same id at (set ∷ sets) h =
    let rest : List PlacedSet = placed_from (at + length (spelled (set_klv set))) sets in
    found_cons id (record { at = at + 20; set = as_read set }) rest
    ∙ ap₂ (λ (a b : Bool). a || b) (has_same id set h.0) (found_same id (at + length (spelled (set_klv set))) sets h.1)

-- where a reference names one set, some set has the identifier
any_by : (P : Node (List ℕ) → Bool) (kinds : List ℕ) (b : Bool) (n : Node (List ℕ)) (ns : List (Node (List ℕ)))
    → (is_one_of kinds (filter P ns) ≡ true → list_any P ns ≡ true) → is_one_of kinds (cond b (n ∷ filter P ns) (filter P ns)) ≡ true
    → (b || list_any P ns) ≡ true
any_by P kinds true n ns f t = refl
any_by P kinds false n ns f t = f t

any_of_one : (P : Node (List ℕ) → Bool) (kinds : List ℕ) (ns : List (Node (List ℕ))) → is_one_of kinds (filter P ns) ≡ true → list_any P ns ≡ true
any_of_one P kinds [] t = absurd (cc)
any_of_one P kinds (n ∷ ns) t = any_by P kinds (P n) n ns (any_of_one P kinds ns) t

-- what is resolved is found
abbrev IsResolved : List Set → Reference (List ℕ) → Type 0
IsResolved all reference = is_resolved bytes_eq (map node all) reference ≡ true

found_resolved : (all : List Set) (at : ℕ) (reference : Reference (List ℕ)) → AllByRecursion HasOwn all → IsResolved all reference
    → is_found reference.id (placed_from at all) ≡ true
found_resolved all at reference own t =
    found_same reference.id at all own ∙ any_of_one (with reference.id) (kinds_named reference.tag) (map node all) t

abbrev named_by : ℕ → List ℕ → Reference (List ℕ)
named_by tag id = record { tag = tag; id = id }

ids_found : (all : List Set) (at tag : ℕ) (ids : List (List ℕ)) → AllByRecursion HasOwn all → AllByRecursion (IsResolved all) (map (named_by tag) ids)
    → all_found (placed_from at all) ids ≡ true
unfolding all_found
ids_found all at tag [] own h = refl
ids_found all at tag (id ∷ ids) own h =
    ap₂ (λ (a b : Bool). a && b) (found_resolved all at (named_by tag id) own h.0) (ids_found all at tag ids own h.1)

abbrev named_if : Bool → ℕ → List (List ℕ) → List (Reference (List ℕ))
named_if b tag ids = cond b (map (named_by tag) ids) []

-- an item's names are found
item_found : (all : List Set) (at : ℕ) (b : Bool) (item : Item) → is_reference item.tag ≡ b → is_sized item.tag (value_bytes item.value) ≡ true
    → (b ≡ true → ids_of_size (size_of item.tag) (value_bytes item.value) ≡ nodes.ids_in item.value)
    → AllByRecursion HasOwn all → AllByRecursion (IsResolved all) (named_if b item.tag (nodes.ids_in item.value))
    → all_found (placed_from at all) (names_of (raw item)) ≡ true
unfolding all_found
item_found all at true item e sized same own h =
    ap₂ (λ (a b : Bool). all_found (placed_from at all) (cond (a && b) (ids_of_size (size_of item.tag) (value_bytes item.value)) [])) e sized
    ∙ ap (all_found (placed_from at all)) (same refl)
    ∙ ids_found all at item.tag (nodes.ids_in item.value) own h
item_found all at false item e sized same own h =
    ap (λ (a : Bool). all_found (placed_from at all) (cond (a && is_sized item.tag (value_bytes item.value)) (ids_of_size (size_of item.tag)
    (value_bytes item.value)) [])) e

-- what holds of each of two lists holds of each of one
all_first : {A : Type 0} (P : A → Type 0) (xs ys : List A) → AllByRecursion P (xs ++ ys) → AllByRecursion P xs
all_first P [] ys h = tt
all_first P (x ∷ xs) ys h = (h.0, all_first P xs ys h.1)

all_second : {A : Type 0} (P : A → Type 0) (xs ys : List A) → AllByRecursion P (xs ++ ys) → AllByRecursion P ys
all_second P [] ys h = h
all_second P (x ∷ xs) ys h = all_second P xs ys h.1

abbrev names_in : Item → List (Reference (List ℕ))
names_in item = named_if (is_reference item.tag) item.tag (nodes.ids_in item.value)

no_name : (tags : List ℕ) (all : List Set) (start at : ℕ) (items : List Item) → AllByRecursion HasOwn all → AllByRecursion (IsGood tags) items
    → AllByRecursion (IsResolved all) (flat_map names_in items) → names_fault (placed_from start all) at (map raw items) ≡ None
unfolding names_fault
no_name tags all start at [] own h r = refl
no_name tags all start at (item ∷ items) own h r =
    let rest : Option SetFault = names_fault (placed_from start all) (at + item_len (raw item)) (map raw items) in
    let found = item_found all start (is_reference item.tag) item refl h.0.sized h.0.named own (all_first (IsResolved all) (names_in item)
    (flat_map names_in items) r) in
    ap (λ (b : Bool). option_or (cond b None (Some (BrokenReference at item.tag))) rest) found
    ∙ no_name tags all start (at + item_len (raw item)) items own h.1 (all_second (IsResolved all) (names_in item) (flat_map names_in items) r)

pub no_link : (tags : List ℕ) (all : List Set) (start at : ℕ) (sets : List Set) → AllByRecursion HasOwn all → AreGood tags sets
    → AllByRecursion (λ (n : Node (List ℕ)). AllByRecursion (IsResolved all) n.names) (map node sets)
    → links_fault (placed_from start all) (placed_from at sets) ≡ None
unfolding links_fault placed_from
no_link tags all start at [] own h r = refl
no_link tags all start at (set ∷ sets) own h r =
    let next : ℕ = at + length (spelled (set_klv set)) in
    let rest : Option SetFault = links_fault (placed_from start all) (placed_from next sets) in
    ap (λ (o : Option SetFault). option_or o rest) (no_name tags all start (at + 20) set.items own h.0 r.0)
    ∙ no_link tags all start next sets own h.1 r.1

-- Sets that are sound.
use Rattle.std.proofs.Common.{◌≡◌, ℕ, ◌&&◌, Bool, true, is_some, List, [], ◌∷◌, Option, Some, None, refl, ap, ◌∙◌}
use Rattle.std.proofs.lemmas.Bool.{and_from, and_parts}
use Rattle.std.proofs.lemmas.Slice.Eq.{bytes_eq-Decides}
use Rattle.std.specs.List.{list_all}
use Rattle.local_sets.specs.Sets.{RawItem}
use Rattle.mxf_metadata.specs.Tags.{is_among}
use Rattle.mxf_metadata_reader.specs.References.{names_of}
use Rattle.mxf_metadata_reader.specs.Sizes.{is_sized}
use Rattle.mxf_op1a.specs.Metadata.{SetAt, is_empty, is_sound, is_sound_item, is_value, set_with}
use Rattle.mxf_op1a.specs.KeptMetadata.{HasSet, IsSoundItem, IsSoundSet}
use Rattle.mxf_op1a.proofs.Steps.{all_each, each_all, each_so}

-- a value that is there
pub value_is : (bytes : List ℕ) (value : Option (List ℕ)) → is_value bytes value ≡ true → value ≡ Some bytes
value_is bytes None e = absurd (cc)
value_is bytes (Some value) e = ap (λ (xs : List ℕ). Some xs) ((bytes_eq-Decides value bytes).0 e)

pub is_value_back : (bytes : List ℕ) (value : Option (List ℕ)) → value ≡ Some bytes → is_value bytes value ≡ true
is_value_back bytes value e = ap (is_value bytes) e ∙ (bytes_eq-Decides bytes bytes).1 refl

some_is : (o : Option SetAt) → is_some o ≡ true → (s : SetAt) × (o ≡ Some s)
some_is None e = absurd (cc)
some_is (Some s) e = (s, refl)

has_set : (sets : List SetAt) (id : List ℕ) → is_some (set_with sets id) ≡ true → HasSet sets id
has_set sets id e = some_is (set_with sets id) e

has_set_back : (sets : List SetAt) (id : List ℕ) → HasSet sets id → is_some (set_with sets id) ≡ true
has_set_back sets id k = ap (λ (o : Option SetAt). is_some o) k.1

empty_is : (bytes : List ℕ) → is_empty bytes ≡ true → bytes ≡ []
empty_is [] e = refl
empty_is (byte ∷ bytes) e = absurd (cc)

-- the test that an identifier is found
abbrev pub is_there : List SetAt → List ℕ → Bool
is_there sets id = is_some (set_with sets id)

sound_item : (tags : List ℕ) (sets : List SetAt) (item : RawItem) → is_sound_item tags sets item ≡ true → IsSoundItem tags sets item
sound_item tags sets item e =
    let both = and_parts (is_among item.tag tags && is_sized item.tag item.value) (list_all (is_there sets) (names_of item)) e in
    let own = and_parts (is_among item.tag tags) (is_sized item.tag item.value) both.0 in
    record {
      listed = own.0;
      sized = own.1;
      found = each_so (λ id. is_there sets id ≡ true) (HasSet sets) (has_set sets) (names_of item) (all_each (is_there sets) (names_of item) both.1);
    }

sound_item_back : (tags : List ℕ) (sets : List SetAt) (item : RawItem) → IsSoundItem tags sets item → is_sound_item tags sets item ≡ true
sound_item_back tags sets item k =
    and_from (is_among item.tag tags && is_sized item.tag item.value) (list_all (is_there sets) (names_of item))
    (and_from (is_among item.tag tags) (is_sized item.tag item.value) k.listed k.sized)
    (each_all (is_there sets) (names_of item) (each_so (HasSet sets) (λ id. is_there sets id ≡ true) (has_set_back sets) (names_of item) k.found))

pub sound_set : (tags : List ℕ) (sets : List SetAt) (s : SetAt) → is_sound tags sets s ≡ true → IsSoundSet tags sets s
sound_set tags sets s e =
    let both = and_parts (is_empty s.set.rest) (list_all (is_sound_item tags sets) s.set.items) e in
    record {
      whole = empty_is s.set.rest both.0;
      items = each_so (λ item. is_sound_item tags sets item ≡ true) (IsSoundItem tags sets) (sound_item tags sets) s.set.items
          (all_each (is_sound_item tags sets) s.set.items both.1);
    }

pub sound_set_back : (tags : List ℕ) (sets : List SetAt) (s : SetAt) → IsSoundSet tags sets s → is_sound tags sets s ≡ true
sound_set_back tags sets s k =
    and_from (is_empty s.set.rest) (list_all (is_sound_item tags sets) s.set.items) (ap is_empty k.whole)
    (each_all (is_sound_item tags sets) s.set.items
    (each_so (IsSoundItem tags sets) (λ item. is_sound_item tags sets item ≡ true) (sound_item_back tags sets) s.set.items k.items))

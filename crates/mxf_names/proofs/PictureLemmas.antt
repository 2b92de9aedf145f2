-- Joined picture elements are items.
use Rattle.std.proofs.Common.{◌≡◌, ℕ, ◌^◌, ◌<◌, List, [], ◌∷◌, ◌++◌, ◌+◌, length, map, refl, ap, arith}
use Rattle.std.specs.List.{flat_map, AllByRecursion}
use Rattle.klv.specs.Items.{IsItem, AreItems, spelled, length_limit}
use Rattle.mxf_names.specs.Picture.{picture_item, picture_element}
use Rattle.klv.specs.laws.Lengths.{length-spelled}
use Rattle.klv.specs.declared.head.TheConstants.{ELEMENT_HEAD_LEN}

-- a unit that the length has room for makes an item
is_item : (unit : List ℕ) → length unit < 2 ^ 56 → IsItem (picture_item unit)
unfolding length_limit
is_item unit h = record { key = refl; form = omega arith; fits = omega arith }

-- so each of them does
each_is : (units : List (List ℕ)) → AllByRecursion (λ unit. length unit < 2 ^ 56) units → AllByRecursion IsItem (map picture_item units)
each_is [] h = tt
each_is (unit ∷ units) h = (is_item unit h.0, each_is units h.1)

-- their bytes are those of the items
joined : (units : List (List ℕ)) → flat_map picture_element units ≡ flat_map spelled (map picture_item units)
joined [] = refl
joined (unit ∷ units) = ap (λ rest. picture_element unit ++ rest) (joined units)

-- joined picture elements are a list of items
pub elements_are_items : (units : List (List ℕ)) → AllByRecursion (λ unit. length unit < 2 ^ 56) units → AreItems (flat_map picture_element units) (map picture_item units)
elements_are_items units h = record { bytes_are = joined units; each = each_is units h }

-- a picture element has 24 bytes more than its unit
pub length_element : (unit : List ℕ) → length (picture_element unit) ≡ ELEMENT_HEAD_LEN + length unit
length_element unit = length-spelled (picture_item unit) refl

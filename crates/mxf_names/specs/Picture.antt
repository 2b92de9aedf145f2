-- The item that carries a coded frame (SMPTE RDD 44). docs/FORMATS.md, "Picture elements".
use Rattle.std.specs.Prelude.{ℕ, List}
use Rattle.klv.specs.Items.{Item, item_of, spelled}
use Rattle.mxf_names.specs.declared.keys.TheConstants.{PICTURE_ELEMENT_KEY}

-- the item of a coded frame: its length is 87h and seven bytes
abbrev pub picture_item : List ℕ → Item
picture_item unit = item_of PICTURE_ELEMENT_KEY 7 unit

-- the picture element of a unit
abbrev pub picture_element : List ℕ → List ℕ
picture_element unit = spelled (picture_item unit)

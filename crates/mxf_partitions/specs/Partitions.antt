-- Partition packs (SMPTE ST 377-1). docs/FORMATS.md, "Partition packs".
use Rattle.std.specs.Prelude.{◌≡◌, ℕ, List, [], ◌∷◌, ◌++◌, length, replicate}
use Rattle.std.specs.List.{flat_map, AllByRecursion}
use Rattle.byteorder.specs.Endian.{big_bytes}
use Rattle.klv.specs.Items.{Item, item_of, spelled}
use Rattle.mxf_names.specs.Keys.{partition_key}
use Rattle.mxf_partitions.specs.declared.partition.Partition.{Partition}
use Rattle.mxf_partitions.specs.declared.partition.TheConstants.{LABEL_LEN}

-- the batch of essence container labels: their count, the bytes of each, and the labels
abbrev pub label_batch : List (List ℕ) → List ℕ
label_batch labels = big_bytes 4 (length labels) ++ big_bytes 4 LABEL_LEN ++ flat_map (λ label. label) labels

-- the fields of a partition pack that has these labels, in order
abbrev pub pack_value : Partition → List (List ℕ) → List ℕ
pack_value p labels =
    big_bytes 2 p.major ++ big_bytes 2 p.minor ++ big_bytes 4 p.kag
    ++ big_bytes 8 p.this ++ big_bytes 8 p.previous ++ big_bytes 8 p.footer
    ++ big_bytes 8 p.header_bytes ++ big_bytes 8 p.index_bytes ++ big_bytes 4 p.index_sid
    ++ big_bytes 8 p.body_offset ++ big_bytes 4 p.body_sid ++ p.pattern ++ label_batch labels

-- the first of some labels, 16 zero bytes where there is none
abbrev pub first_label : List (List ℕ) → List ℕ
first_label [] = replicate LABEL_LEN 0
first_label (label ∷ labels) = label

-- an item is the pack of a partition with these labels, whatever the form of its length
pub record IsPack (item : Item) (p : Partition) (labels : List (List ℕ)) : Type 0 where
  pub key : item.key ≡ partition_key p.kind p.status
  pub value : item.value ≡ pack_value p labels
  pub count : p.label_count ≡ length labels
  pub first : p.label ≡ first_label labels
  pub sized : AllByRecursion (λ label. length label ≡ LABEL_LEN) labels

-- the pack of ours: one label, and a length of 83h and three bytes
abbrev pub pack_item : Partition → Item
pack_item p = item_of (partition_key p.kind p.status) 3 (pack_value p (p.label ∷ []))

-- as it is spelled
abbrev pub partition_pack : Partition → List ℕ
partition_pack p = spelled (pack_item p)

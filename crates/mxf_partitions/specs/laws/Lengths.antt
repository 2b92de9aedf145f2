-- Laws of partition packs and of the random index pack: proved here, for proofs to cite.
use Rattle.std.proofs.Common.{◌≡◌, ℕ, ◌+◌, ◌*◌, List, [], ◌∷◌, ◌++◌, length, refl, ap, arith, length-append}
use Rattle.std.specs.List.{flat_map}
use Rattle.byteorder.specs.Endian.{big_bytes}
use Rattle.klv.specs.Items.{klv_head, length_bytes}
use Rattle.klv.specs.laws.Lengths.{length-spelled}
use Rattle.mxf_names.specs.declared.keys.TheConstants.{RANDOM_INDEX_KEY}
use Rattle.mxf_partitions.specs.declared.partition.Partition.{Partition}
use Rattle.mxf_partitions.specs.declared.partition.TheConstants.{LABEL_LEN, PACK_FIELDS_LEN, PACK_LEN}
use Rattle.mxf_partitions.specs.declared.random_index.PackEntry.{PackEntry}
use Rattle.mxf_partitions.specs.declared.random_index.TheConstants.{PACK_ENTRY_LEN, PACK_END_LEN}
use Rattle.mxf_partitions.specs.Partitions.{pack_value, pack_item, partition_pack}
use Rattle.mxf_partitions.specs.RandomIndex.{entry_bytes, index_value, random_index_item, random_index_head, random_index_end, random_index_pack}
use Rattle.mxf_partitions.specs.RandomIndex.{random_index_size}

-- the fields of a partition pack have 104 bytes
pub length-pack_value : (p : Partition) → length p.pattern ≡ LABEL_LEN → length p.label ≡ LABEL_LEN
    → length (pack_value p (p.label ∷ [])) ≡ PACK_FIELDS_LEN + LABEL_LEN
length-pack_value p pattern label = simp length-append (omega (arith, pattern, label, length-append p.label []))

-- a partition pack has 124 bytes
pub length-partition_pack : (p : Partition) → length p.pattern ≡ LABEL_LEN → length p.label ≡ LABEL_LEN → length (partition_pack p) ≡ PACK_LEN
length-partition_pack p pattern label = omega (arith, length-spelled (pack_item p) refl, length-pack_value p pattern label)

-- an entry has 12 bytes
pub length-entries : (entries : List PackEntry) → length (flat_map entry_bytes entries) ≡ PACK_ENTRY_LEN * length entries
length-entries [] = refl
length-entries (entry ∷ entries) = omega (arith, length-append (entry_bytes entry) (flat_map entry_bytes entries), length-entries entries)

-- the value of a random index pack: an entry has 12 bytes, the length 4
length-index_value : (entries : List PackEntry) (size : ℕ) → length (index_value entries size) ≡ PACK_ENTRY_LEN * length entries + PACK_END_LEN
length-index_value entries size = omega (arith, length-append (flat_map entry_bytes entries) (big_bytes 4 size), length-entries entries)

-- a random index pack is what stands before its entries, the entries, and what stands behind them
pub random_index_pack-pieces : (entries : List PackEntry)
    → random_index_pack entries ≡ random_index_head (length entries) ++ flat_map entry_bytes entries ++ random_index_end (length entries)
unfolding length_bytes
random_index_pack-pieces entries =
    let size : ℕ = random_index_size (length entries) in
    ap (λ (n : ℕ). klv_head RANDOM_INDEX_KEY 3 n ++ index_value entries size) (length-index_value entries size)

-- a random index pack has 24 bytes, and 12 for each entry
pub length-random_index_pack : (entries : List PackEntry) → length (random_index_pack entries) ≡ random_index_size (length entries)
length-random_index_pack entries =
    omega (arith, length-spelled (random_index_item entries) refl, length-index_value entries (random_index_size (length entries)))

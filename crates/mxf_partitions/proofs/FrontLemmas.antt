-- What the bytes with which a value begins tell of it.
use Rattle.std.proofs.Common.{◌≡◌, ℕ, ◌+◌, ◌-◌, ◌≤◌, ◌==◌, true, List, take, drop, replicate, if◌then◌else◌, Some, refl, sym, ap, ◌∙◌, arith}
use Rattle.std.proofs.lemmas.List.{drop-take, take-take}
use Rattle.byteorder.specs.Endian.{big_number}
use Rattle.byteorder.specs.Numbers.{big_from-take}
use Rattle.klv.specs.Items.{Item}
use Rattle.mxf_names.specs.declared.partition_keys.PartitionKind.{PartitionKind}
use Rattle.mxf_names.specs.declared.partition_keys.PartitionStatus.{PartitionStatus}
use Rattle.mxf_partitions.specs.Reads.{fields_of, has_pack_key, has_pack_size, kind_of, status_of, pack_of}
use Rattle.mxf_partitions.specs.Refusals.{IsPackFront}
use Rattle.mxf_partitions.specs.inner.Fronts.{front_size}

-- what stands behind a place of the first 104 bytes
behind : (k : ℕ) (xs : List ℕ) → k ≤ 104 → drop k (take 104 xs) ≡ take (104 - k) (drop k xs)
behind k xs h =
    let whole : 104 ≡ k + (104 - k) = omega arith in
    ap (λ (n : ℕ). drop k (take n xs)) whole ∙ drop-take k (104 - k) xs

-- a number among them
near : (n k : ℕ) (xs : List ℕ) → k + n ≤ 104 → big_number n (drop k (take 104 xs)) ≡ big_number n (drop k xs)
near n k xs h = ap (big_number n) (behind k xs (omega arith)) ∙ big_from-take 0 n (104 - k) (drop k xs) (omega arith)

-- a label among them
near_label : (k : ℕ) (xs : List ℕ) → k + 16 ≤ 104 → take 16 (drop k (take 104 xs)) ≡ take 16 (drop k xs)
near_label k xs h = ap (take 16) (behind k xs (omega arith)) ∙ take-take 16 (104 - k) (drop k xs) (omega arith)

-- all fields are among them
near_fields : (kind : PartitionKind) (status : PartitionStatus) (xs : List ℕ) → fields_of kind status (take 104 xs) ≡ fields_of kind status xs
near_fields kind status xs = λ i. record {
  kind = kind;
  status = status;
  major = near 2 0 xs (omega arith) i;
  minor = near 2 2 xs (omega arith) i;
  kag = near 4 4 xs (omega arith) i;
  this = near 8 8 xs (omega arith) i;
  previous = near 8 16 xs (omega arith) i;
  footer = near 8 24 xs (omega arith) i;
  header_bytes = near 8 32 xs (omega arith) i;
  index_bytes = near 8 40 xs (omega arith) i;
  index_sid = near 4 48 xs (omega arith) i;
  body_offset = near 8 52 xs (omega arith) i;
  body_sid = near 4 60 xs (omega arith) i;
  pattern = near_label 64 xs (omega arith) i;
  label_count = near 4 80 xs (omega arith) i;
  label = if near 4 80 xs (omega arith) i == 0 then replicate 16 0 else near_label 88 xs (omega arith) i;
}

-- the size that they tell
pub size_told : (item : Item) (key : List ℕ) (value_len : ℕ) (front : List ℕ) → IsPackFront item key value_len front
    → has_pack_size item.value ≡ front_size value_len front
unfolding has_pack_size
size_told item key value_len front f =
    let count : big_number 4 (drop 80 item.value) ≡ big_number 4 (drop 80 front) =
    sym (near 4 80 item.value (omega arith)) ∙ ap (λ (xs : List ℕ). big_number 4 (drop 80 xs)) f.front_is ∙ near 4 80 front (omega arith) in
    let size : big_number 4 (drop 84 item.value) ≡ big_number 4 (drop 84 front) =
    sym (near 4 84 item.value (omega arith)) ∙ ap (λ (xs : List ℕ). big_number 4 (drop 84 xs)) f.front_is ∙ near 4 84 front (omega arith) in
    rw (f.value_len_is, count, size) refl

-- and what it says
pub fields_told : (item : Item) (key : List ℕ) (value_len : ℕ) (front : List ℕ) (kind : PartitionKind) (status : PartitionStatus)
    → IsPackFront item key value_len front
    → fields_of kind status item.value ≡ fields_of kind status front
fields_told item key value_len front kind status f =
    sym (near_fields kind status item.value) ∙ ap (λ (xs : List ℕ). fields_of kind status xs) f.front_is ∙ near_fields kind status front

-- what an item says that has key and size of a pack, and a kind and a status
pub pack_says : (item : Item) (kind : PartitionKind) (status : PartitionStatus) → has_pack_key item.key ≡ true → has_pack_size item.value ≡ true
    → kind_of item.key ≡ Some kind → status_of item.key ≡ Some status → pack_of item ≡ Some (fields_of kind status item.value)
unfolding pack_of
pack_says item kind status key size k s = rw (key, size, k, s) refl

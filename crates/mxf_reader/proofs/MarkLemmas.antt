-- What items are, by their heads and the fronts of their values.
use Rattle.std.proofs.Common.{◌≡◌, ⊎_elim, ℕ, true, false, List, Option, Some, None, refl, ap}
use Rattle.klv.specs.Items.{Item}
use Rattle.mxf_names.specs.declared.partition_keys.PartitionKind.{PartitionKind}
use Rattle.mxf_names.specs.declared.partition_keys.PartitionStatus.{PartitionStatus}
use Rattle.mxf_op1a.specs.Contents.{content_of, content_by_key, pack_or_other}
use Rattle.mxf_partitions.specs.Reads.{pack_of, has_pack_key, has_pack_size, kind_of, status_of, partition_of}
use Rattle.mxf_partitions.specs.Refusals.{RefusesPack}
use Rattle.mxf_partitions.specs.declared.partition.Partition.{Partition}
use Rattle.mxf_partitions.specs.declared.fault.PackFault.{PackFault}
use Rattle.mxf_partitions.specs.declared.fault.PackFault.TheVariants.{Memory, NotPack, PackSize, PackKind, IndexPackSize, IndexPackOrder}
use Rattle.mxf_reader.specs.inner.Marks.{has_pack_start}

pub content_is_pack : (item : Item) (pack : Partition) → pack_of item ≡ Some pack → content_of item ≡ pack_or_other (Some pack) item.key
unfolding content_of
content_is_pack item pack e = ap (λ (x : Option Partition). pack_or_other x item.key) e

pub content_by : (item : Item) → pack_of item ≡ None → content_of item ≡ content_by_key item.key
unfolding content_of
content_by item e = ap (λ (x : Option Partition). pack_or_other x item.key) e

no_kind : (status : Option PartitionStatus) (value : List ℕ) → partition_of None status value ≡ None
no_kind status value = refl

no_status : (kind : Option PartitionKind) (value : List ℕ) → partition_of kind None value ≡ None
no_status None value = refl
no_status (Some kind) value = refl

not_pack : (item : Item) → has_pack_key item.key ≡ false → pack_of item ≡ None
unfolding pack_of
not_pack item e = rw e refl

not_size : (item : Item) → has_pack_key item.key ≡ true → has_pack_size item.value ≡ false → pack_of item ≡ None
unfolding pack_of
not_size item e f = rw (e, f) refl

not_kind : (item : Item) → has_pack_key item.key ≡ true → has_pack_size item.value ≡ true → kind_of item.key ≡ None → pack_of item ≡ None
unfolding pack_of
not_kind item e f g = rw (e, f, g) refl

not_status : (item : Item) → has_pack_key item.key ≡ true → has_pack_size item.value ≡ true → status_of item.key ≡ None → pack_of item ≡ None
unfolding pack_of
not_status item e f g = rw (e, f, g) (no_status (kind_of item.key) item.value)

-- what is refused as a pack is none
pub refused_none : (item : Item) (fault : PackFault) → RefusesPack item fault → pack_of item ≡ None
refused_none item NotPack e = not_pack item e
refused_none item PackSize e = not_size item e.0 e.1
refused_none item PackKind e =
    ⊎_elim (λ (none : kind_of item.key ≡ None). not_kind item e.0 e.1 none) (λ (none : status_of item.key ≡ None). not_status item e.0 e.1 none) e.2
refused_none item IndexPackSize e = absurd e
refused_none item (IndexPackOrder entry) e = absurd e
refused_none item Memory e = absurd e

no_pack_key : (key : List ℕ) → has_pack_start key ≡ false → has_pack_key key ≡ false
unfolding has_pack_key
no_pack_key key e = rw e refl

-- a key that begins otherwise is no pack's
pub other_start : (item : Item) → has_pack_start item.key ≡ false → content_of item ≡ content_by_key item.key
other_start item e = content_by item (not_pack item (no_pack_key item.key e))

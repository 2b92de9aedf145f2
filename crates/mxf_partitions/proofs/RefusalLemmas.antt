-- Packs that are accepted, and packs that are refused.
use Rattle.std.proofs.Common.{◌≡◌, ◌⊎◌, ◌↔◌, inl, inr, ℕ, false, List, Option, Some, None, Result, Ok, Err, IsOk, IfOk, IfErr, refl, sym, ap, subst, ◌∙◌}
use Rattle.klv.specs.Items.{Item}
use Rattle.klv.specs.Reads.{IsItemAt}
use Rattle.mxf_names.specs.declared.partition_keys.PartitionKind.{PartitionKind}
use Rattle.mxf_names.specs.declared.partition_keys.PartitionStatus.{PartitionStatus}
use Rattle.mxf_partitions.specs.Reads.{has_pack_key, has_pack_size, kind_of, status_of, pack_of, partition_of}
use Rattle.mxf_partitions.specs.Refusals.{IsPackFront, IsReadPack, RefusesPack, RefusesFront}
use Rattle.mxf_partitions.specs.declared.partition.Partition.{Partition}
use Rattle.mxf_partitions.specs.declared.fault.PackFault.{PackFault}
use Rattle.mxf_partitions.specs.declared.fault.PackFault.TheVariants.{Memory, NotPack, PackSize, PackKind, IndexPackSize, IndexPackOrder}
use Rattle.mxf_partitions.proofs.ItemLemmas.{First, one_at}

-- without a kind or a status nothing is said
partition_none : (kind : Option PartitionKind) (status : Option PartitionStatus) (value : List ℕ) → (kind ≡ None) ⊎ (status ≡ None)
    → partition_of kind status value ≡ None
partition_none None status value e = refl
partition_none (Some kind) None value e = refl
partition_none (Some kind) (Some status) value e = elim e [
  | inl none ↦ absurd (cc)
  | inr none ↦ absurd (cc)
]

-- an item that is refused says nothing
pub refused_says : (item : Item) (fault : PackFault) → RefusesPack item fault → pack_of item ≡ None
unfolding pack_of
refused_says item NotPack r = rw r refl
refused_says item PackSize r = rw (r.0, r.1) refl
refused_says item PackKind r = rw (r.0, r.1) (partition_none (kind_of item.key) (status_of item.key) item.value r.2)
refused_says item IndexPackSize r = absurd r
refused_says item (IndexPackOrder entry) r = absurd r
refused_says item Memory r = absurd r

-- what is refused of the item that stands there is refused of the bytes
pub front_refused : First → (bytes : List ℕ) (item : Item) (fault : PackFault) → IsItemAt bytes 0 item → RefusesPack item fault → RefusesFront bytes fault
front_refused first bytes item NotPack s r = λ other t. subst (λ (i : Item). has_pack_key i.key ≡ false) (one_at first bytes item other s t) r
front_refused first bytes item PackSize s r = (item, s, r)
front_refused first bytes item PackKind s r = (item, s, r)
front_refused first bytes item IndexPackSize s r = absurd r
front_refused first bytes item (IndexPackOrder entry) s r = absurd r
front_refused first bytes item Memory s r = absurd r

some_none : (p : Partition) → Some p ≡ None → ⊥
some_none p e = absurd (cc)

-- of bytes that begin with a pack nothing is refused
pub front_none : First → (bytes : List ℕ) (p : Partition) (fault : PackFault) → RefusesFront bytes fault → IsReadPack bytes p → ⊥
front_none first bytes p NotPack r h = some_none p (sym h.says ∙ refused_says h.item NotPack (r h.item h.stands))
front_none first bytes p PackSize r h =
    some_none p (sym h.says ∙ refused_says h.item PackSize (subst (λ (i : Item). RefusesPack i PackSize) (one_at first bytes r.0 h.item r.1 h.stands) r.2))
front_none first bytes p PackKind r h =
    some_none p (sym h.says ∙ refused_says h.item PackKind (subst (λ (i : Item). RefusesPack i PackKind) (one_at first bytes r.0 h.item r.1 h.stands) r.2))
front_none first bytes p IndexPackSize r h = r
front_none first bytes p (IndexPackOrder entry) r h = r
front_none first bytes p Memory r h = r

-- a pack is accepted exactly where one stands
pub front_accepted : First → (bytes : List ℕ) (result : Result Partition PackFault) → IfOk result (IsReadPack bytes) → IfErr result (RefusesFront bytes)
    → IsOk result ↔ ((p : Partition) × IsReadPack bytes p)
front_accepted first bytes (Ok p) ok err = ((λ t. (p, ok)), λ t. refl)
front_accepted first bytes (Err fault) ok err = ((λ t. absurd (cc)), λ h. absurd (front_none first bytes h.0 fault err h.1))

-- what was told of the front of the item is told of the bytes
pub front_read : First → (bytes key : List ℕ) (value_len : ℕ) (front : List ℕ) (item : Item) (result : Result Partition PackFault)
    → IsItemAt bytes 0 item → IsPackFront item key value_len front
    → IfOk result (λ p. (i : Item) → IsPackFront i key value_len front → pack_of i ≡ Some p)
    → IfErr result (λ fault. (i : Item) → IsPackFront i key value_len front → RefusesPack i fault)
    → IfOk result (IsReadPack bytes) × IfErr result (RefusesFront bytes)
front_read first bytes key value_len front item (Ok p) s f ok err = (record { item = item; stands = s; says = ok item f }, tt)
front_read first bytes key value_len front item (Err fault) s f ok err = (tt, front_refused first bytes item fault s (err item f))

-- one refusal stands there at most
pub front_one : First → (bytes : List ℕ) (a b : PackFault) → RefusesFront bytes a → RefusesFront bytes b → a ≡ b
front_one first bytes NotPack NotPack p q = refl
front_one first bytes NotPack PackSize p q = let key = p q.0 q.1 in let other = q.2.0 in absurd (cc)
front_one first bytes NotPack PackKind p q = let key = p q.0 q.1 in let other = q.2.0 in absurd (cc)
front_one first bytes NotPack IndexPackSize p q = absurd q
front_one first bytes NotPack (IndexPackOrder entry) p q = absurd q
front_one first bytes NotPack Memory p q = absurd q
front_one first bytes PackSize NotPack p q = let key = q p.0 p.1 in let other = p.2.0 in absurd (cc)
front_one first bytes PackSize PackSize p q = refl
front_one first bytes PackSize PackKind p q =
    let same = ap (λ (item : Item). has_pack_size item.value) (one_at first bytes p.0 q.0 p.1 q.1) in
    let size = p.2.1 in let other = q.2.1 in absurd (cc)
front_one first bytes PackSize IndexPackSize p q = absurd q
front_one first bytes PackSize (IndexPackOrder entry) p q = absurd q
front_one first bytes PackSize Memory p q = absurd q
front_one first bytes PackKind NotPack p q = let key = q p.0 p.1 in let other = p.2.0 in absurd (cc)
front_one first bytes PackKind PackSize p q =
    let same = ap (λ (item : Item). has_pack_size item.value) (one_at first bytes p.0 q.0 p.1 q.1) in
    let size = p.2.1 in let other = q.2.1 in absurd (cc)
front_one first bytes PackKind PackKind p q = refl
front_one first bytes PackKind IndexPackSize p q = absurd q
front_one first bytes PackKind (IndexPackOrder entry) p q = absurd q
front_one first bytes PackKind Memory p q = absurd q
front_one first bytes IndexPackSize b p q = absurd p
front_one first bytes (IndexPackOrder entry) b p q = absurd p
front_one first bytes Memory b p q = absurd p

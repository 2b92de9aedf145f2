-- What a partition pack says is what stands in it.
use Rattle.std.proofs.Common.{◌≡◌, ℕ, suc, ◌+◌, ◌*◌, ◌^◌, ◌<◌, ◌==◌, true, false, List, [], ◌∷◌, length, drop, Some, refl, sym, ap, ap₂, subst, ◌∙◌, arith}
use Rattle.std.proofs.lemmas.Bool.{ne_eqb}
use Rattle.std.proofs.lemmas.List.{length-append, take_at, drop_at, drop-drop}
use Rattle.std.specs.List.{flat_map, AllByRecursion}
use Rattle.byteorder.specs.Endian.{big_number}
use Rattle.byteorder.specs.Numbers.{big_number-reads_back}
use Rattle.klv.specs.Items.{Item}
use Rattle.mxf_names.specs.Keys.{partition_key}
use Rattle.mxf_names.specs.declared.partition_keys.PartitionKind.{PartitionKind}
use Rattle.mxf_names.specs.declared.partition_keys.PartitionKind.TheVariants.{Header, Body, Footer}
use Rattle.mxf_names.specs.declared.partition_keys.PartitionStatus.{PartitionStatus}
use Rattle.mxf_names.specs.declared.partition_keys.PartitionStatus.TheVariants.{OpenIncomplete, ClosedIncomplete, OpenComplete, ClosedComplete}
use Rattle.mxf_partitions.specs.Partitions.{IsPack, pack_value, label_batch, first_label}
use Rattle.mxf_partitions.specs.Ranges.{IsInRange}
use Rattle.mxf_partitions.specs.Reads.{pack_of, has_pack_key, has_pack_size, kind_of, status_of, fields_of, label_of}
use Rattle.mxf_partitions.specs.declared.partition.Partition.{Partition}
use Rattle.mxf_partitions.proofs.FrontLemmas.{pack_says}

-- the key of a partition's pack names its kind and its status
key_is : (kind : PartitionKind) (status : PartitionStatus) → has_pack_key (partition_key kind status) ≡ true
unfolding has_pack_key
key_is kind status = refl

kind_is : (kind : PartitionKind) (status : PartitionStatus) → kind_of (partition_key kind status) ≡ Some kind
unfolding kind_of
kind_is Header status = refl
kind_is Body status = refl
kind_is Footer status = refl

status_is : (kind : PartitionKind) (status : PartitionStatus) → status_of (partition_key kind status) ≡ Some status
unfolding status_of
status_is kind OpenIncomplete = refl
status_is kind ClosedIncomplete = refl
status_is kind OpenComplete = refl
status_is kind ClosedComplete = refl

-- labels of 16 bytes each
pub labels_long : (labels : List (List ℕ)) → AllByRecursion (λ label. length label ≡ 16) labels → length (flat_map (λ label. label) labels) ≡ 16 * length labels
labels_long [] sized = refl
labels_long (label ∷ labels) sized =
    let rest = labels_long labels sized.1 in
    let first = sized.0 in
    omega (arith, length-append label (flat_map (λ l. l) labels), rest, first)

-- what stands behind the pattern
batch_at : (p : Partition) (labels : List (List ℕ)) → length p.pattern ≡ 16 → drop 80 (pack_value p labels) ≡ label_batch labels
batch_at p labels long = drop_at p.pattern (label_batch labels) 16 long

-- how many labels there are, and how long each is
count_back : (p : Partition) (labels : List (List ℕ)) → length p.pattern ≡ 16 → length labels < 256 ^ 4
    → big_number 4 (drop 80 (pack_value p labels)) ≡ length labels
count_back p labels long few =
    ap (big_number 4) (batch_at p labels long) ∙ big_number-reads_back 4 (length labels) (drop 4 (label_batch labels)) few

size_back : (p : Partition) (labels : List (List ℕ)) → length p.pattern ≡ 16 → big_number 4 (drop 84 (pack_value p labels)) ≡ 16
size_back p labels long = ap (big_number 4) (sym (drop-drop 4 80 (pack_value p labels)) ∙ ap (drop 4) (batch_at p labels long))

-- the labels behind them
labels_at : (p : Partition) (labels : List (List ℕ)) → length p.pattern ≡ 16 → drop 88 (pack_value p labels) ≡ flat_map (λ label. label) labels
labels_at p labels long = sym (drop-drop 8 80 (pack_value p labels)) ∙ ap (drop 8) (batch_at p labels long)

-- bytes of the value of a pack
pack_long : (p : Partition) (labels : List (List ℕ)) → length p.pattern ≡ 16 → AllByRecursion (λ label. length label ≡ 16) labels
    → length (pack_value p labels) ≡ 88 + 16 * length labels
pack_long p labels long sized =
    omega (arith, length-append p.pattern (label_batch labels), long, labels_long labels sized)

-- the first of them
first_back : (labels : List (List ℕ)) → AllByRecursion (λ label. length label ≡ 16) labels
    → label_of (length labels) (flat_map (λ label. label) labels) ≡ first_label labels
first_back [] sized = refl
first_back (label ∷ labels) sized =
    let some : (suc (length labels) == 0) ≡ false = ne_eqb (suc (length labels)) 0 (λ (e : suc (length labels) ≡ 0). omega arith) in
    rw some (take_at label (flat_map (λ l. l) labels) 16 sized.0)

-- all fields are read back
fields_back : (p : Partition) (labels : List (List ℕ)) → IsInRange p → p.label_count ≡ length labels → p.label ≡ first_label labels
    → AllByRecursion (λ label. length label ≡ 16) labels → fields_of p.kind p.status (pack_value p labels) ≡ p
fields_back p labels r count first sized =
    let v : List ℕ = pack_value p labels in
    let few : length labels < 256 ^ 4 = subst (λ (n : ℕ). n < 256 ^ 4) count r.label_count in
    let labels_back : label_of (big_number 4 (drop 80 v)) (drop 88 v) ≡ p.label =
    ap₂ (λ (n : ℕ) (xs : List ℕ). label_of n xs) (count_back p labels r.pattern few) (labels_at p labels r.pattern) ∙ first_back labels sized ∙ sym first in
    λ i. record {
      kind = p.kind;
      status = p.status;
      major = big_number-reads_back 2 p.major (drop 2 v) r.major i;
      minor = big_number-reads_back 2 p.minor (drop 4 v) r.minor i;
      kag = big_number-reads_back 4 p.kag (drop 8 v) r.kag i;
      this = big_number-reads_back 8 p.this (drop 16 v) r.this i;
      previous = big_number-reads_back 8 p.previous (drop 24 v) r.previous i;
      footer = big_number-reads_back 8 p.footer (drop 32 v) r.footer i;
      header_bytes = big_number-reads_back 8 p.header_bytes (drop 40 v) r.header_bytes i;
      index_bytes = big_number-reads_back 8 p.index_bytes (drop 48 v) r.index_bytes i;
      index_sid = big_number-reads_back 4 p.index_sid (drop 52 v) r.index_sid i;
      body_offset = big_number-reads_back 8 p.body_offset (drop 60 v) r.body_offset i;
      body_sid = big_number-reads_back 4 p.body_sid (drop 64 v) r.body_sid i;
      pattern = take_at p.pattern (label_batch labels) 16 r.pattern i;
      label_count = (count_back p labels r.pattern few ∙ sym count) i;
      label = labels_back i;
    }

-- the pack of a partition says that partition
pub pack_back : (item : Item) (p : Partition) (labels : List (List ℕ)) → IsInRange p → IsPack item p labels → pack_of item ≡ Some p
unfolding has_pack_size
pack_back item p labels r is =
    let v : List ℕ = pack_value p labels in
    let few : length labels < 256 ^ 4 = subst (λ (n : ℕ). n < 256 ^ 4) is.count r.label_count in
    let sized : has_pack_size v ≡ true =
    rw (pack_long p labels r.pattern is.sized, count_back p labels r.pattern few, size_back p labels r.pattern) (grind arith) in
    pack_says item p.kind p.status
    (ap has_pack_key is.key ∙ key_is p.kind p.status) (ap has_pack_size is.value ∙ sized)
    (ap kind_of is.key ∙ kind_is p.kind p.status) (ap status_of is.key ∙ status_is p.kind p.status)
    ∙ ap Some (ap (λ (xs : List ℕ). fields_of p.kind p.status xs) is.value ∙ fields_back p labels r is.count is.first is.sized)

-- What stands in a partition pack is what it says.
use Rattle.std.proofs.Common.{◌≡◌, inl, inr, ℕ, zero, suc, ◌+◌, ◌*◌, ◌≤◌, ◌==◌, ◌&&◌, Bool, true, false, List, [], ◌∷◌, ◌++◌, length, take, drop}
use Rattle.std.proofs.Common.{slice_index, if◌then◌else◌, Option, Some, None, refl, sym, ap, ap₂, ◌∙◌, arith}
use Rattle.std.proofs.lemmas.Bool.{and_parts, cases_eq, eq-eqb, ne_eqb}
use Rattle.std.proofs.lemmas.Bool.Decides.{Decides-eqb}
use Rattle.std.proofs.lemmas.List.{length-drop, length-take-le, drop-drop, take-append-drop, drop_more, drop_all, get_or-take}
use Rattle.std.proofs.lemmas.Nat.{be_bytes_8}
use Rattle.std.proofs.lemmas.Slice.Eq.{bytes_eq-Decides}
use Rattle.std.specs.Int.{from_be_bytes, w64}
use Rattle.std.specs.List.{flat_map, AllByRecursion}
use Rattle.std.specs.Str.{bytes_eq}
use Rattle.byteorder.specs.Endian.{big_bytes, big_number}
use Rattle.rec_bytes.specs.laws.Bytes.{taken_bytes, left_bytes, bytes_of_2, bytes_of_4}
use Rattle.klv.specs.Items.{Item, IsItem}
use Rattle.mxf_names.specs.Keys.{partition_key, kind_byte, status_byte}
use Rattle.mxf_names.specs.declared.keys.TheConstants.{PARTITION_KEY_START}
use Rattle.mxf_names.specs.declared.partition_keys.PartitionKind.{PartitionKind}
use Rattle.mxf_names.specs.declared.partition_keys.PartitionKind.TheVariants.{Header, Body, Footer}
use Rattle.mxf_names.specs.declared.partition_keys.PartitionStatus.{PartitionStatus}
use Rattle.mxf_names.specs.declared.partition_keys.PartitionStatus.TheVariants.{OpenIncomplete, ClosedIncomplete, OpenComplete, ClosedComplete}
use Rattle.mxf_partitions.specs.Partitions.{IsPack, pack_value, label_batch, first_label}
use Rattle.mxf_partitions.specs.Ranges.{AreBytes}
use Rattle.mxf_partitions.specs.Reads.{pack_of, has_pack_key, has_pack_size, kind_of, status_of, fields_of, label_of, partition_of}
use Rattle.mxf_partitions.specs.declared.partition.Partition.{Partition}

-- the number of eight bytes, in std's word
number_8 : (xs : List ℕ) → big_number 8 xs ≡ from_be_bytes w64 (take 8 xs)
number_8 xs =
    rw (
      get_or-take 8 xs 0 0 (omega arith),
      get_or-take 8 xs 1 0 (omega arith),
      get_or-take 8 xs 2 0 (omega arith),
      get_or-take 8 xs 3 0 (omega arith),
      get_or-take 8 xs 4 0 (omega arith),
      get_or-take 8 xs 5 0 (omega arith),
      get_or-take 8 xs 6 0 (omega arith),
      get_or-take 8 xs 7 0 (omega arith),
    ) (omega arith)

-- the bytes of the number that stands in eight bytes are these eight
pub bytes_of_8 : (at : ℕ) (xs : List ℕ) → AreBytes xs → at + 8 ≤ length xs → take 8 (drop at xs) ≡ big_bytes 8 (big_number 8 (drop at xs))
bytes_of_8 at xs are room =
    let rest : List ℕ = drop at xs in
    let long : length (take 8 rest) ≡ 8 = length-take-le 8 rest (omega (arith, length-drop at xs)) in
    sym (be_bytes_8 (take 8 rest) (big_number 8 rest) long (taken_bytes 8 rest (left_bytes at xs are)) (number_8 rest))

-- labels of 16 bytes that stand one behind the other
unfoldable cut : ℕ → List ℕ → List (List ℕ)
cut zero xs = []
cut (suc n) xs = take 16 xs ∷ cut n (drop 16 xs)

cut_whole : (n : ℕ) (xs : List ℕ) → length xs ≡ 16 * n → flat_map (λ label. label) (cut n xs) ≡ xs
unfolding cut
cut_whole zero [] long = refl
cut_whole zero (x ∷ xs) long = absurd (omega arith)
cut_whole (suc n) xs long =
    ap (λ (ys : List ℕ). take 16 xs ++ ys) (cut_whole n (drop 16 xs) (omega (arith, length-drop 16 xs))) ∙ take-append-drop 16 xs

cut_count : (n : ℕ) (xs : List ℕ) → length (cut n xs) ≡ n
unfolding cut
cut_count zero xs = refl
cut_count (suc n) xs = ap suc (cut_count n (drop 16 xs))

cut_sized : (n : ℕ) (xs : List ℕ) → length xs ≡ 16 * n → AllByRecursion (λ label. length label ≡ 16) (cut n xs)
unfolding cut
cut_sized zero xs long = tt
cut_sized (suc n) xs long = (length-take-le 16 xs (omega arith), cut_sized n (drop 16 xs) (omega (arith, length-drop 16 xs)))

cut_first : (n : ℕ) (xs : List ℕ) → label_of n xs ≡ first_label (cut n xs)
unfolding cut
cut_first zero xs = refl
cut_first (suc n) xs =
    let some : (suc n == 0) ≡ false = ne_eqb (suc n) 0 (λ (e : suc n ≡ 0). omega arith) in
    rw some refl

-- the kind and the status that a key names are its bytes
kind_told : (key : List ℕ) (kind : PartitionKind) → kind_of key ≡ Some kind → slice_index key 13 ≡ kind_byte kind
unfolding kind_of
kind_told key kind e = elim (cases_eq (slice_index key 13) 2) [
  | inl same ↦
      let t : (slice_index key 13 == 2) ≡ true = eq-eqb (slice_index key 13) 2 same in
      let told = rw t at e in
      let is : Header ≡ kind = cc in
      same ∙ ap kind_byte is
  | inr other ↦
      let t : (slice_index key 13 == 2) ≡ false = ne_eqb (slice_index key 13) 2 other in
      let e1 = rw t at e in
      elim (cases_eq (slice_index key 13) 3) [
        | inl same ↦
            let t1 : (slice_index key 13 == 3) ≡ true = eq-eqb (slice_index key 13) 3 same in
            let told = rw t1 at e1 in
            let is : Body ≡ kind = cc in
            same ∙ ap kind_byte is
        | inr third ↦
            let t1 : (slice_index key 13 == 3) ≡ false = ne_eqb (slice_index key 13) 3 third in
            let e2 = rw t1 at e1 in
            elim (cases_eq (slice_index key 13) 4) [
              | inl same ↦
                  let t2 : (slice_index key 13 == 4) ≡ true = eq-eqb (slice_index key 13) 4 same in
                  let told = rw t2 at e2 in
                  let is : Footer ≡ kind = cc in
                  same ∙ ap kind_byte is
              | inr none ↦
                  let t2 : (slice_index key 13 == 4) ≡ false = ne_eqb (slice_index key 13) 4 none in
                  let told = rw t2 at e2 in
                  absurd (cc)
            ]
      ]
]

status_told : (key : List ℕ) (status : PartitionStatus) → status_of key ≡ Some status → slice_index key 14 ≡ status_byte status
unfolding status_of
status_told key status e = elim (cases_eq (slice_index key 14) 1) [
  | inl same ↦
      let t : (slice_index key 14 == 1) ≡ true = eq-eqb (slice_index key 14) 1 same in
      let told = rw t at e in
      let is : OpenIncomplete ≡ status = cc in
      same ∙ ap status_byte is
  | inr other ↦
      let t : (slice_index key 14 == 1) ≡ false = ne_eqb (slice_index key 14) 1 other in
      let e1 = rw t at e in
      elim (cases_eq (slice_index key 14) 2) [
        | inl same ↦
            let t1 : (slice_index key 14 == 2) ≡ true = eq-eqb (slice_index key 14) 2 same in
            let told = rw t1 at e1 in
            let is : ClosedIncomplete ≡ status = cc in
            same ∙ ap status_byte is
        | inr third ↦
            let t1 : (slice_index key 14 == 2) ≡ false = ne_eqb (slice_index key 14) 2 third in
            let e2 = rw t1 at e1 in
            elim (cases_eq (slice_index key 14) 3) [
              | inl same ↦
                  let t2 : (slice_index key 14 == 3) ≡ true = eq-eqb (slice_index key 14) 3 same in
                  let told = rw t2 at e2 in
                  let is : OpenComplete ≡ status = cc in
                  same ∙ ap status_byte is
              | inr fourth ↦
                  let t2 : (slice_index key 14 == 3) ≡ false = ne_eqb (slice_index key 14) 3 fourth in
                  let e3 = rw t2 at e2 in
                  elim (cases_eq (slice_index key 14) 4) [
                    | inl same ↦
                        let t3 : (slice_index key 14 == 4) ≡ true = eq-eqb (slice_index key 14) 4 same in
                        let told = rw t3 at e3 in
                        let is : ClosedComplete ≡ status = cc in
                        same ∙ ap status_byte is
                    | inr none ↦
                        let t3 : (slice_index key 14 == 4) ≡ false = ne_eqb (slice_index key 14) 4 none in
                        let told = rw t3 at e3 in
                        absurd (cc)
                  ]
            ]
      ]
]

-- so a key that is a pack's is that of its kind and its status
key_made : (key : List ℕ) (kind : PartitionKind) (status : PartitionStatus) → length key ≡ 16 → has_pack_key key ≡ true → kind_of key ≡ Some kind
    → status_of key ≡ Some status
    → key ≡ partition_key kind status
unfolding has_pack_key
key_made key kind status long t k s =
    let both = and_parts (bytes_eq (take 13 key) PARTITION_KEY_START) (slice_index key 15 == 0) t in
    let start : take 13 key ≡ PARTITION_KEY_START = (bytes_eq-Decides (take 13 key) PARTITION_KEY_START).0 both.0 in
    let last : slice_index key 15 ≡ 0 = (Decides-eqb (slice_index key 15) 0).0 both.1 in
    let end : drop 15 key ≡ 0 ∷ [] =
    drop_more key 15 0 (omega arith) ∙ ap₂ (λ (x : ℕ) (xs : List ℕ). x ∷ xs) last (drop_all 16 key (omega arith)) in
    let rest : drop 13 key ≡ kind_byte kind ∷ status_byte status ∷ 0 ∷ [] =
    drop_more key 13 0 (omega arith)
    ∙ ap₂ (λ (x : ℕ) (xs : List ℕ). x ∷ xs) (kind_told key kind k)
    (drop_more key 14 0 (omega arith) ∙ ap₂ (λ (x : ℕ) (xs : List ℕ). x ∷ xs) (status_told key status s) end) in
    sym (take-append-drop 13 key) ∙ ap₂ (λ (xs ys : List ℕ). xs ++ ys) start rest

-- a number and what stands behind it
step : (n at : ℕ) (xs rest : List ℕ) → take n (drop at xs) ≡ big_bytes n (big_number n (drop at xs)) → drop (at + n) xs ≡ rest
    → drop at xs ≡ big_bytes n (big_number n (drop at xs)) ++ rest
step n at xs rest spelled e =
    sym (take-append-drop n (drop at xs)) ∙ ap₂ (λ (ys zs : List ℕ). ys ++ zs) spelled (drop-drop n at xs ∙ e)

-- a value is what its fields spell
value_made : (v : List ℕ) (kind : PartitionKind) (status : PartitionStatus) (labels : List (List ℕ)) → AreBytes v → 88 ≤ length v
    → big_number 4 (drop 84 v) ≡ 16
    → length labels ≡ big_number 4 (drop 80 v) → drop 88 v ≡ flat_map (λ label. label) labels → v ≡ pack_value (fields_of kind status v) labels
value_made v kind status labels are long size count behind =
    let flat : List ℕ = flat_map (λ label. label) labels in
    let two = λ (at : ℕ) (h : at + 2 ≤ length v). bytes_of_2 at v are h in
    let four = λ (at : ℕ) (h : at + 4 ≤ length v). bytes_of_4 at v are h in
    let eight = λ (at : ℕ) (h : at + 8 ≤ length v). bytes_of_8 at v are h in
    let at_84 : drop 84 v ≡ big_bytes 4 16 ++ flat = step 4 84 v flat (four 84 (omega arith)) behind ∙ ap (λ (n : ℕ). big_bytes 4 n ++ flat) size in
    let at_80 : drop 80 v ≡ label_batch labels =
    step 4 80 v (big_bytes 4 16 ++ flat) (four 80 (omega arith)) at_84 ∙ ap (λ (n : ℕ). big_bytes 4 n ++ (big_bytes 4 16 ++ flat)) (sym count) in
    let at_64 : drop 64 v ≡ take 16 (drop 64 v) ++ label_batch labels =
    sym (take-append-drop 16 (drop 64 v)) ∙ ap (λ (xs : List ℕ). take 16 (drop 64 v) ++ xs) (drop-drop 16 64 v ∙ at_80) in
    let at_60 = step 4 60 v _ (four 60 (omega arith)) at_64 in
    let at_52 = step 8 52 v _ (eight 52 (omega arith)) at_60 in
    let at_48 = step 4 48 v _ (four 48 (omega arith)) at_52 in
    let at_40 = step 8 40 v _ (eight 40 (omega arith)) at_48 in
    let at_32 = step 8 32 v _ (eight 32 (omega arith)) at_40 in
    let at_24 = step 8 24 v _ (eight 24 (omega arith)) at_32 in
    let at_16 = step 8 16 v _ (eight 16 (omega arith)) at_24 in
    let at_8 = step 8 8 v _ (eight 8 (omega arith)) at_16 in
    let at_4 = step 4 4 v _ (four 4 (omega arith)) at_8 in
    let at_2 = step 2 2 v _ (two 2 (omega arith)) at_4 in
    step 2 0 v _ (two 0 (omega arith)) at_2

-- what is said, and by what
told : (test : Bool) (kind : Option PartitionKind) (status : Option PartitionStatus) (value : List ℕ) (p : Partition)
    → (if test then partition_of kind status value else None) ≡ Some p
    → (test ≡ true) × (kind ≡ Some p.kind) × (status ≡ Some p.status) × (p ≡ fields_of p.kind p.status value)
told false kind status value p e = absurd (cc)
told true None status value p e = absurd (cc)
told true (Some k) None value p e = absurd (cc)
told true (Some k) (Some s) value p e =
    let same : fields_of k s value ≡ p = cc in
    let kind_is = ap (λ (q : Partition). q.kind) same in
    let status_is = ap (λ (q : Partition). q.status) same in
    (refl, ap Some kind_is, ap Some status_is, sym same ∙ ap₂ (λ (x : PartitionKind) (y : PartitionStatus). fields_of x y value) kind_is status_is)

-- an item that says a partition is its pack
pub pack_stands : (item : Item) (p : Partition) → IsItem item → AreBytes item.value → pack_of item ≡ Some p → (labels : List (List ℕ)) × IsPack item p labels
unfolding pack_of has_pack_size
pack_stands item p is are e =
    let v : List ℕ = item.value in
    let t = told (has_pack_key item.key && has_pack_size v) (kind_of item.key) (status_of item.key) v p e in
    let tests = and_parts (has_pack_key item.key) (has_pack_size v) t.0 in
    let n : ℕ = big_number 4 (drop 80 v) in
    let sizes = and_parts (length v == 88 + 16 * n) (big_number 4 (drop 84 v) == 16) tests.1 in
    let long : length v ≡ 88 + 16 * n = (Decides-eqb (length v) (88 + 16 * n)).0 sizes.0 in
    let size : big_number 4 (drop 84 v) ≡ 16 = (Decides-eqb (big_number 4 (drop 84 v)) 16).0 sizes.1 in
    let rest : length (drop 88 v) ≡ 16 * n = omega (arith, length-drop 88 v, long) in
    let labels : List (List ℕ) = cut n (drop 88 v) in
    let value : v ≡ pack_value (fields_of p.kind p.status v) labels =
    value_made v p.kind p.status labels are (omega (arith, long)) size (cut_count n (drop 88 v)) (sym (cut_whole n (drop 88 v) rest)) in (
      labels,
      record {
        key = key_made item.key p.kind p.status is.key tests.0 t.1 t.2;
        value = value ∙ ap (λ (q : Partition). pack_value q labels) (sym t.3);
        count = ap (λ (q : Partition). q.label_count) t.3 ∙ sym (cut_count n (drop 88 v));
        first = ap (λ (q : Partition). q.label) t.3 ∙ cut_first n (drop 88 v);
        sized = cut_sized n (drop 88 v) rest;
      },
    )

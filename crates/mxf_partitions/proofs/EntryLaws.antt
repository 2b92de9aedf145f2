-- What a random index pack says is what stands in it, and the other way.
use Rattle.std.proofs.Common.{◌≡◌, ℕ, zero, suc, ◌+◌, ◌*◌, ◌^◌, ◌<◌, ◌≤◌, ◌==◌, ◌&&◌, Bool, true, false, List, [], ◌∷◌, ◌++◌, length, map, get_or}
use Rattle.std.proofs.Common.{take, drop, if◌then◌else◌, Some, None, refl, sym, ap, ap₂, ◌∙◌, arith}
use Rattle.std.proofs.lemmas.Bool.{and_from, and_parts}
use Rattle.std.proofs.lemmas.Bool.Decides.{Decides-eqb}
use Rattle.std.proofs.lemmas.List.{length-append, length-drop, drop_at, drop-drop, take-append-drop, drop-take, take-take, take_all, same_lists, append-nil}
use Rattle.std.proofs.lemmas.List.FromFn.{length-map-range_with_len, get_or-map-range_with_len, map-range_with_len_more}
use Rattle.std.proofs.lemmas.Grind.{flat_map-append}
use Rattle.std.proofs.lemmas.Slice.Eq.{bytes_eq-Decides}
use Rattle.std.specs.List.{flat_map, range_with_len, AllByRecursion}
use Rattle.std.specs.Str.{bytes_eq}
use Rattle.byteorder.specs.Endian.{big_bytes, big_number}
use Rattle.byteorder.specs.Numbers.{big_number-reads_back}
use Rattle.rec_bytes.specs.laws.Bytes.{bytes_of_4}
use Rattle.klv.specs.Items.{Item, spelled}
use Rattle.mxf_names.specs.declared.keys.TheConstants.{RANDOM_INDEX_KEY}
use Rattle.mxf_partitions.specs.RandomIndex.{IsRandomIndex, entry_bytes, index_value}
use Rattle.mxf_partitions.specs.Ranges.{AreBytes, IsEntryInRange}
use Rattle.mxf_partitions.specs.Reads.{entries_of, entries_in, entry_at, entry_count, has_index_size}
use Rattle.mxf_partitions.specs.laws.Lengths.{length-entries}
use Rattle.mxf_partitions.specs.declared.random_index.PackEntry.{PackEntry}
use Rattle.mxf_partitions.proofs.IndexLemmas.{index_says}
use Rattle.mxf_partitions.proofs.StandLemmas.{bytes_of_8}

-- the first bytes, and those behind them
take_both : (m n : ℕ) (xs : List ℕ) → take (m + n) xs ≡ take m xs ++ take n (drop m xs)
take_both m n xs =
    sym (take-append-drop m (take (m + n) xs)) ∙ ap₂ (λ (ys zs : List ℕ). ys ++ zs) (take-take m (m + n) xs (omega arith)) (drop-take m n xs)

-- what is said, and by what
told : (test : Bool) (all entries : List PackEntry) → (if test then Some all else None) ≡ Some entries → (test ≡ true) × (all ≡ entries)
told false all entries e = absurd (cc)
told true all entries e = (refl, cc)

-- twelve bytes and what stands behind them
twelve : (i : ℕ) (xs ys : List ℕ) → length xs ≡ 12 → drop (12 * suc i) (xs ++ ys) ≡ drop (12 * i) ys
twelve i xs ys long =
    let whole : 12 * suc i ≡ 12 + 12 * i = omega arith in
    ap (λ (n : ℕ). drop n (xs ++ ys)) whole ∙ sym (drop-drop (12 * i) 12 (xs ++ ys)) ∙ ap (drop (12 * i)) (drop_at xs ys 12 long)

-- each entry is read back
entry_back : (entries : List PackEntry) (tail : List ℕ) (i : ℕ) (d : PackEntry) → AllByRecursion IsEntryInRange entries → i < length entries
    → entry_at (flat_map entry_bytes entries ++ tail) i ≡ get_or entries i d
entry_back [] tail i d each below = absurd (omega arith)
entry_back (entry ∷ entries) tail zero d each below =
    let rest : List ℕ = flat_map entry_bytes entries ++ tail in
    λ j. record {
      body_sid = big_number-reads_back 4 entry.body_sid (big_bytes 8 entry.at ++ rest) each.0.body_sid j;
      at = big_number-reads_back 8 entry.at rest each.0.at j;
    }
entry_back (entry ∷ entries) tail (suc i) d each below =
    let rest : List ℕ = flat_map entry_bytes entries ++ tail in
    let all : List ℕ = flat_map entry_bytes (entry ∷ entries) ++ tail in
    let front : drop (12 * suc i) all ≡ drop (12 * i) rest = twelve i (entry_bytes entry) rest refl in
    let place : drop (12 * suc i + 4) all ≡ drop (12 * i + 4) rest =
    sym (drop-drop 4 (12 * suc i) all) ∙ ap (drop 4) front ∙ drop-drop 4 (12 * i) rest in
    let same : entry_at all (suc i) ≡ entry_at rest i = λ j. record { body_sid = big_number 4 (front j); at = big_number 8 (place j) } in
    same ∙ entry_back entries tail i d each.1 (omega arith)

-- so all of them are
entries_back : (entries : List PackEntry) (tail : List ℕ) → AllByRecursion IsEntryInRange entries
    → map (entry_at (flat_map entry_bytes entries ++ tail)) (range_with_len 0 (length entries)) ≡ entries
entries_back entries tail each =
    let v : List ℕ = flat_map entry_bytes entries ++ tail in
    let n : ℕ = length entries in
    let long = length-map-range_with_len (entry_at v) 0 n in
    same_lists (map (entry_at v) (range_with_len 0 n)) entries long
    (λ k d below.
    let less : k < n = omega (arith, long) in
    get_or-map-range_with_len (entry_at v) 0 n k k d less (omega arith) ∙ entry_back entries tail k d each less)

-- bytes of the value
pub value_long : (entries : List PackEntry) (size : ℕ) → length (index_value entries size) ≡ 12 * length entries + 4
value_long entries size = omega (arith, length-append (flat_map entry_bytes entries) (big_bytes 4 size), length-entries entries)

-- how many entries it has
count_back : (entries : List PackEntry) (size : ℕ) → entry_count (index_value entries size) ≡ length entries
count_back entries size = let long = value_long entries size in omega (arith, long)

-- it is entries and the last word
size_back : (entries : List PackEntry) (size : ℕ) → size < 256 ^ 4 → has_index_size (index_value entries size) size ≡ true
unfolding has_index_size
size_back entries size small =
    let last : big_number 4 (drop (12 * length entries) (index_value entries size)) ≡ size =
    ap (big_number 4) (drop_at (flat_map entry_bytes entries) (big_bytes 4 size) (12 * length entries) (length-entries entries))
    ∙ big_number-reads_back 4 size [] small in
    rw (count_back entries size, value_long entries size, last) (grind arith)

-- the random index pack of some entries says them
pub index_back : (item : Item) (entries : List PackEntry) → AllByRecursion IsEntryInRange entries → length (spelled item) < 256 ^ 4 → IsRandomIndex item entries
    → entries_of item ≡ Some entries
index_back item entries each small is =
    let size : ℕ = length (spelled item) in
    let v : List ℕ = index_value entries size in
    let key : bytes_eq item.key RANDOM_INDEX_KEY ≡ true = ap (λ (xs : List ℕ). bytes_eq xs RANDOM_INDEX_KEY) is.key in
    let sized : has_index_size item.value size ≡ true = ap (λ (xs : List ℕ). has_index_size xs size) is.value ∙ size_back entries size small in
    let all : entries_in v ≡ entries =
    ap (λ (n : ℕ). map (entry_at v) (range_with_len 0 n)) (count_back entries size) ∙ entries_back entries (big_bytes 4 size) each in
    index_says item (and_from (bytes_eq item.key RANDOM_INDEX_KEY) (has_index_size item.value size) key sized) ∙ ap Some (ap entries_in is.value ∙ all)

-- an entry is its twelve bytes
entry_stands : (v : List ℕ) (k : ℕ) → AreBytes v → 12 * k + 12 ≤ length v → entry_bytes (entry_at v k) ≡ take 12 (drop (12 * k) v)
entry_stands v k are room =
    let rest : List ℕ = drop (12 * k) v in
    let behind : drop (12 * k + 4) v ≡ drop 4 rest = sym (drop-drop 4 (12 * k) v) in
    let place = bytes_of_8 (12 * k + 4) v are (omega arith) in
    ap₂ (λ (xs ys : List ℕ). xs ++ ys) (sym (bytes_of_4 (12 * k) v are (omega arith))) (sym place ∙ ap (take 8) behind)
    ∙ sym (take_both 4 8 rest)

-- so entries are the bytes with which a value begins
entries_stand : (v : List ℕ) (n : ℕ) → AreBytes v → 12 * n ≤ length v → flat_map entry_bytes (map (entry_at v) (range_with_len 0 n)) ≡ take (12 * n) v
entries_stand v zero are room = refl
entries_stand v (suc n) are room =
    let before : List PackEntry = map (entry_at v) (range_with_len 0 n) in
    let next : suc n ≡ n + 1 = omega arith in
    let more : map (entry_at v) (range_with_len 0 (suc n)) ≡ before ++ entry_at v n ∷ [] =
    ap (λ (m : ℕ). map (entry_at v) (range_with_len 0 m)) next ∙ map-range_with_len_more (entry_at v) 0 n n (omega arith) in
    let whole : 12 * n + 12 ≡ 12 * suc n = omega arith in
    ap (flat_map entry_bytes) more
    ∙ flat_map-append entry_bytes before (entry_at v n ∷ [])
    ∙ ap₂ (λ (xs ys : List ℕ). xs ++ ys) (entries_stand v n are (omega arith)) (append-nil (entry_bytes (entry_at v n)) ∙ entry_stands v n are (omega arith))
    ∙ sym (take_both (12 * n) 12 v)
    ∙ ap (λ (m : ℕ). take m v) whole

-- an item that says entries is their random index pack
pub index_stands : (item : Item) (entries : List PackEntry) → AreBytes item.value → entries_of item ≡ Some entries → IsRandomIndex item entries
unfolding entries_of has_index_size
index_stands item entries are e =
    let v : List ℕ = item.value in
    let size : ℕ = length (spelled item) in
    let n : ℕ = entry_count v in
    let t = told (bytes_eq item.key RANDOM_INDEX_KEY && has_index_size v size) (entries_in v) entries e in
    let tests = and_parts (bytes_eq item.key RANDOM_INDEX_KEY) (has_index_size v size) t.0 in
    let sizes = and_parts (length v == 12 * n + 4) (big_number 4 (drop (12 * n) v) == size) tests.1 in
    let long : length v ≡ 12 * n + 4 = (Decides-eqb (length v) (12 * n + 4)).0 sizes.0 in
    let last : big_number 4 (drop (12 * n) v) ≡ size = (Decides-eqb (big_number 4 (drop (12 * n) v)) size).0 sizes.1 in
    let word : drop (12 * n) v ≡ big_bytes 4 size =
    sym (take_all 4 (drop (12 * n) v) (omega (arith, length-drop (12 * n) v, long)))
    ∙ bytes_of_4 (12 * n) v are (omega (arith, long))
    ∙ ap (big_bytes 4) last in
    let front : take (12 * n) v ≡ flat_map entry_bytes entries =
    sym (entries_stand v n are (omega (arith, long))) ∙ ap (flat_map entry_bytes) t.1 in
    record {
      key = (bytes_eq-Decides item.key RANDOM_INDEX_KEY).0 tests.0;
      value = sym (take-append-drop (12 * n) v) ∙ ap₂ (λ (xs ys : List ℕ). xs ++ ys) front word;
    }

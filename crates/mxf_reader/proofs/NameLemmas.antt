-- Whether the last item names the partitions.
use Rattle.std.proofs.Common.{◌≡◌, ◌≢◌, inl, inr, ℕ, suc, ◌+◌, ◌*◌, ◌==◌, ◌&&◌, ◌≤◌, ◌<◌, Bool, true, false}
use Rattle.std.proofs.Common.{if◌then◌else◌, List, [], ◌∷◌, length, map, drop, get_or, Option, Some, None, refl, sym, ap, ◌∙◌, arith, drop-cons}
use Rattle.std.proofs.lemmas.Bool.{and_parts, cases_Bool, eq-eqb, eqb-true}
use Rattle.std.proofs.lemmas.List.{drop_all}
use Rattle.std.proofs.lemmas.List.FromFn.{length-map-range_with_len}
use Rattle.std.proofs.lemmas.Slice.Eq.{bytes_eq-Decides}
use Rattle.std.specs.List.{AllByRecursion, range_with_len}
use Rattle.std.specs.Str.{bytes_eq}
use Rattle.klv.specs.Items.{Item, spelled}
use Rattle.mxf_names.specs.declared.keys.TheConstants.{RANDOM_INDEX_KEY}
use Rattle.mxf_op1a.specs.Clauses.{entries_match, last_item}
use Rattle.mxf_op1a.specs.Contents.{Content, Placed, content_of, content_by_key, is_fill, is_random_index, pack_or_other}
use Rattle.mxf_op1a.specs.Contents.Content.{Fill, Pack, Primer, Set, Segment, RandomIndex, Element, Other}
use Rattle.mxf_op1a.specs.Partitions.{Part, being}
use Rattle.mxf_op1a.specs.Whole.{StandsIn}
use Rattle.mxf_partitions.specs.Reads.{entries_in, entries_of, entry_at, entry_count, has_index_size}
use Rattle.mxf_partitions.specs.Reads.{has_pack_key, has_pack_size, kind_of, pack_of, partition_of, status_of}
use Rattle.mxf_partitions.specs.declared.partition.Partition.{Partition}
use Rattle.mxf_partitions.specs.declared.random_index.PackEntry.{PackEntry}
use Rattle.mxf_reader.specs.declared.mark.Mark.{Mark}
use Rattle.mxf_reader.specs.declared.part.SeenPart.{SeenPart}
use Rattle.mxf_reader.specs.inner.Files.{mark_if}
use Rattle.mxf_reader.specs.inner.Items.{IsMarkOf}
use Rattle.mxf_reader.specs.inner.Marks as marks
use Rattle.mxf_reader.specs.inner.Names.{IsNaming, is_entry_of, is_index, names_from}
use Rattle.mxf_reader.specs.inner.Seen.{due_with, seen_parts}
use Rattle.mxf_reader.proofs.RuleLemmas.{nobody}

-- the last item of which something is kept
pub record HasLast (bytes : List ℕ) (items : List Placed) (m : Mark) : Type 0 where
  pub p : Placed
  pub last : last_item None items ≡ Some p
  pub mark : IsMarkOf bytes m p

-- one that stands in the file, if there is one
abbrev Stands : List ℕ → Option Placed → Type 0
Stands bytes None = Unit {0}
Stands bytes (Some p) = StandsIn bytes p

last_step : (bytes : List ℕ) (b : Bool) (so : Option Placed) (x : Placed) → Stands bytes so → StandsIn bytes x
    → Stands bytes (if b then so else Some x)
last_step bytes true so x h s = h
last_step bytes false so x h s = s

last_stands : (bytes : List ℕ) (so : Option Placed) (ps : List Placed) → Stands bytes so → AllByRecursion (StandsIn bytes) ps
    → Stands bytes (last_item so ps)
unfolding last_item
last_stands bytes so [] h each = h
last_stands bytes so (x ∷ ps) h each =
    last_stands bytes (if being is_fill x then so else Some x) ps (last_step bytes (being is_fill x) so x h each.0) each.1

last_by : (bytes : List ℕ) (items : List Placed) (m : Mark) (o : Option Placed) → last_item None items ≡ o → Stands bytes o → mark_if o ≡ Some m
    → HasLast bytes items m
last_by bytes items m None e s is = absurd (cc)
last_by bytes items m (Some p) e s is = record { p = p; last = e; mark = record { stands = s; is = cc } }

pub has_last : (bytes : List ℕ) (items : List Placed) (m : Mark) → AllByRecursion (StandsIn bytes) items → mark_if (last_item None items) ≡ Some m
    → HasLast bytes items m
has_last bytes items m each is = last_by bytes items m (last_item None items) refl (last_stands bytes None items tt each) is

no_mark : (o : Option Placed) → mark_if o ≡ None → o ≡ None
no_mark None e = refl
no_mark (Some p) e = absurd (cc)

pub no_last : (items : List Placed) → mark_if (last_item None items) ≡ None → last_item None items ≡ None
no_last items e = no_mark (last_item None items) e

-- an item is a random index pack by its key
index_kind : (c : Content) → is_index (marks.kind_of c) ≡ is_random_index c
index_kind Fill = refl
index_kind (Pack pack) = refl
index_kind Primer = refl
index_kind Set = refl
index_kind Segment = refl
index_kind RandomIndex = refl
index_kind Element = refl
index_kind Other = refl

by_tests : (a b c d e f : Bool)
    → is_random_index (if a then Fill else if b then Primer else if c then Set else if d then Segment
    else if e then RandomIndex else if f then Element else Other) ≡ true
    → e ≡ true
by_tests true b c d e f h = absurd (cc)
by_tests false true c d e f h = absurd (cc)
by_tests false false true d e f h = absurd (cc)
by_tests false false false true e f h = absurd (cc)
by_tests false false false false true f h = refl
by_tests false false false false false true h = absurd (cc)
by_tests false false false false false false h = absurd (cc)

index_tested : (o : Option Partition) (key : List ℕ) → is_random_index (pack_or_other o key) ≡ true → bytes_eq key RANDOM_INDEX_KEY ≡ true
index_tested (Some pack) key h = absurd (cc)
index_tested None key h = by_tests _ _ _ _ (bytes_eq key RANDOM_INDEX_KEY) _ h

index_key : (item : Item) → is_random_index (content_of item) ≡ true → item.key ≡ RANDOM_INDEX_KEY
unfolding content_of
index_key item h = (bytes_eq-Decides item.key RANDOM_INDEX_KEY).0 (index_tested (pack_of item) item.key h)

no_pack : (b : Bool) (value : List ℕ) → (if b then partition_of None (status_of RANDOM_INDEX_KEY) value else None) ≡ None
no_pack true value = refl
no_pack false value = refl

no_index_kind : kind_of RANDOM_INDEX_KEY ≡ None
unfolding kind_of
no_index_kind = refl

index_no_pack : (item : Item) → item.key ≡ RANDOM_INDEX_KEY → pack_of item ≡ None
unfolding pack_of
index_no_pack item e = rw (e, no_index_kind) (no_pack (has_pack_key RANDOM_INDEX_KEY && has_pack_size item.value) item.value)

index_content : (item : Item) → item.key ≡ RANDOM_INDEX_KEY → is_random_index (content_of item) ≡ true
unfolding content_of
index_content item e =
    ap (λ (o : Option Partition). is_random_index (pack_or_other o item.key)) (index_no_pack item e)
    ∙ ap (λ (key : List ℕ). is_random_index (content_by_key key)) e

-- one by its key, of which this is kept
pub marked_key : (bytes : List ℕ) (m : Mark) (p : Placed) → IsMarkOf bytes m p → is_index m.kind ≡ true → p.item.key ≡ RANDOM_INDEX_KEY
marked_key bytes m p h e = index_key p.item (sym (index_kind (content_of p.item)) ∙ ap (λ (x : Mark). is_index x.kind) (sym h.is) ∙ e)

no_entries : (item : Item) → bytes_eq item.key RANDOM_INDEX_KEY ≡ false → entries_of item ≡ None
unfolding entries_of
no_entries item e = rw e refl

other_item : (item : Item) → is_random_index (content_of item) ≡ false → entries_of item ≡ None
other_item item h = elim (cases_Bool (bytes_eq item.key RANDOM_INDEX_KEY)) [
  | inl is ↦
      let both : true ≡ false = sym (index_content item ((bytes_eq-Decides item.key RANDOM_INDEX_KEY).0 is)) ∙ h in
      absurd (cc)
  | inr none ↦ no_entries item none
]

-- an item with another key names nothing
pub other_kind : (bytes : List ℕ) (m : Mark) (p : Placed) (seen : List SeenPart) → IsMarkOf bytes m p → is_index m.kind ≡ false
    → IsNaming p.item seen false
other_kind bytes m p seen h e all is =
    let none : is_random_index (content_of p.item) ≡ false =
    sym (index_kind (content_of p.item)) ∙ ap (λ (x : Mark). is_index x.kind) (sym h.is) ∙ e in
    sym (ap (λ (o : Option (List PackEntry)). entries_match o all) (other_item p.item none))

-- as many partitions are kept as there are
length_seen : (first : Bool) (due : ℕ) (ps : List Part) → length (seen_parts first due ps) ≡ length ps
unfolding seen_parts
length_seen first due [] = refl
length_seen first due (p ∷ ps) = ap (λ (n : ℕ). suc n) (length_seen false (due_with first due p) ps)

and_none : (a b : Bool) → b ≡ false → (a && b) ≡ false
and_none true b e = e
and_none false b e = refl

-- entries of another number than the partitions' don't match them
match_not : (entries : List PackEntry) (all : List Part) → length entries ≢ length all → entries_match (Some entries) all ≡ false
match_not [] [] ne = absurd (ne refl)
match_not [] (p ∷ ps) ne = refl
match_not (e ∷ es) [] ne = refl
match_not (e ∷ es) (p ∷ ps) ne =
    and_none (e.body_sid == p.pack.body_sid && e.at == p.at) (entries_match (Some es) ps) (match_not es ps (λ h. ne (ap (λ (n : ℕ). suc n) h)))

match_if : (b : Bool) (entries : List PackEntry) (all : List Part) → (b ≡ true → length entries ≢ length all)
    → entries_match (if b then Some entries else None) all ≡ false
match_if true entries all h = match_not entries all (h refl)
match_if false entries all h = refl

index_size : (value : List ℕ) (size : ℕ) → has_index_size value size ≡ true → length value ≡ 12 * entry_count value + 4
unfolding has_index_size
index_size value size e = eqb-true (length value) (12 * entry_count value + 4) (and_parts (length value == 12 * entry_count value + 4) _ e).0

-- nor does a value of another length
size_not : (item : Item) (all : List Part) → length item.value ≢ 12 * length all + 4 → entries_match (entries_of item) all ≡ false
unfolding entries_of
size_not item all ne =
    match_if (bytes_eq item.key RANDOM_INDEX_KEY && has_index_size item.value (length (spelled item))) (entries_in item.value) all
    (λ h same.
    let sized : length item.value ≡ 12 * entry_count item.value + 4 =
    index_size item.value (length (spelled item))
    (and_parts (bytes_eq item.key RANDOM_INDEX_KEY) (has_index_size item.value (length (spelled item))) h).1 in
    let count : length (entries_in item.value) ≡ entry_count item.value =
    length-map-range_with_len (entry_at item.value) 0 (entry_count item.value) in
    ne (omega arith))

pub other_size : (bytes : List ℕ) (m : Mark) (p : Placed) (seen : List SeenPart) → IsMarkOf bytes m p → (m.value_len == 12 * length seen + 4) ≡ false
    → IsNaming p.item seen false
other_size bytes m p seen h e all is =
    let len : m.value_len ≡ length p.item.value = ap (λ (x : Mark). x.value_len) h.is in
    let count : length seen ≡ length all = ap length is ∙ length_seen true 0 all in
    sym (size_not p.item all (λ same.
    let test : (m.value_len == 12 * length seen + 4) ≡ true =
    eq-eqb m.value_len (12 * length seen + 4) (len ∙ same ∙ ap (λ (n : ℕ). 12 * n + 4) (sym count)) in
    let both : true ≡ false = sym test ∙ e in
    absurd (cc)))

-- the entries in order, by what is kept of partitions
match_from : (value : List ℕ) (k : ℕ) (first : Bool) (due : ℕ) (ps : List Part)
    → names_from value k (seen_parts first due ps) ≡ entries_match (Some (map (entry_at value) (range_with_len k (length ps)))) ps
unfolding names_from seen_parts
match_from value k first due [] = refl
match_from value k first due (p ∷ ps) =
    ap (λ (b : Bool). ((entry_at value k).body_sid == p.pack.body_sid && (entry_at value k).at == p.at) && b)
    (match_from value (k + 1) false (due_with first due p) ps)

pub names_all : (item : Item) (value : List ℕ) (seen : List SeenPart) → item.value ≡ value → length value ≡ 12 * length seen + 4
    → entries_of item ≡ Some (entries_in item.value) → IsNaming item seen (names_from value 0 seen)
names_all item value seen is long says all parts_are =
    let count : length seen ≡ length all = ap length parts_are ∙ length_seen true 0 all in
    let entries : entry_count value ≡ length all = omega arith in
    ap (names_from value 0) parts_are
    ∙ match_from value 0 true 0 all
    ∙ ap (λ (n : ℕ). entries_match (Some (map (entry_at value) (range_with_len 0 n))) all) (sym entries)
    ∙ ap (λ (xs : List ℕ). entries_match (Some (entries_in xs)) all) (sym is)
    ∙ ap (λ (o : Option (List PackEntry)). entries_match o all) (sym says)

pub names_none : (item : Item) (seen : List SeenPart) → entries_of item ≡ None → IsNaming item seen false
names_none item seen none all is = sym (ap (λ (o : Option (List PackEntry)). entries_match o all) none)

-- the entries in order, one partition later
pub names_next : (value : List ℕ) (k : ℕ) (ps : List SeenPart) → k < length ps → is_entry_of (entry_at value k) (get_or ps k nobody) ≡ true
    → names_from value k (drop k ps) ≡ names_from value (k + 1) (drop (k + 1) ps)
unfolding names_from
names_next value k ps h e =
    let next : suc k ≡ k + 1 = omega arith in
    ap (names_from value k) (drop-cons ps k nobody h)
    ∙ ap (λ (b : Bool). b && names_from value (k + 1) (drop (suc k) ps)) e
    ∙ ap (λ (n : ℕ). names_from value (k + 1) (drop n ps)) next

pub names_not : (value : List ℕ) (k : ℕ) (ps : List SeenPart) → k < length ps → is_entry_of (entry_at value k) (get_or ps k nobody) ≡ false
    → names_from value k (drop k ps) ≡ false
unfolding names_from
names_not value k ps h e =
    ap (names_from value k) (drop-cons ps k nobody h)
    ∙ ap (λ (b : Bool). b && names_from value (k + 1) (drop (suc k) ps)) e

pub names_end : (value : List ℕ) (k : ℕ) (ps : List SeenPart) → length ps ≤ k → names_from value k (drop k ps) ≡ true
unfolding names_from
names_end value k ps h = ap (names_from value k) (drop_all k ps h)

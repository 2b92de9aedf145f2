-- The clauses of OP1a, over what is kept of a file.
use Rattle.std.proofs.Common.{◌≡◌, ℕ, suc, ◌+◌, ◌-◌, ◌==◌, ◌&&◌, ◌||◌, not, ◌≤◌, ◌<◌, nat_lt, Bool, true, false, if◌then◌else◌, List, [], ◌∷◌, length, take, drop, get_or, arith, Option, Some, None, refl, sym, ap, ap₂, ◌∙◌, drop-cons}
use Rattle.std.proofs.lemmas.List.{drop_all}
use Rattle.mxf_names.specs.declared.partition_keys.PartitionKind.TheVariants.{Header}
use Rattle.mxf_names.specs.declared.partition_keys.PartitionStatus.TheVariants.{OpenIncomplete}
use Rattle.mxf_op1a.specs.Clauses.{broken_1, broken_3, broken_5, broken_10, ends_well, first_place, last_item, places}
use Rattle.mxf_op1a.specs.Contents.{Content, Placed, content_of, is_fill, is_primer, is_random_index, is_segment, is_set}
use Rattle.mxf_op1a.specs.Contents.Content.{Fill, Pack, Primer, Set, Segment, RandomIndex, Element, Other}
use Rattle.mxf_op1a.specs.Partitions.{Part, all_but_last, file_of, from_first, index_len, metadata_len, parts, run_of, stream_len}
use Rattle.mxf_reader.specs.declared.clauses.Rule.{Rule}
use Rattle.mxf_reader.specs.declared.clauses.Rule.TheVariants.{Places, Offset, Lengths}
use Rattle.mxf_reader.specs.declared.file.SeenFile.{SeenFile}
use Rattle.mxf_reader.specs.declared.part.SeenPart.{SeenPart}
use Rattle.mxf_reader.specs.inner.Files.{AreSeen, mark_if}
use Rattle.mxf_reader.specs.inner.Marks.{kind_of}
use Rattle.mxf_reader.specs.inner.Rules.{end_by, end_seen, first_bad, keeps, run_len, seen_1}
use Rattle.mxf_reader.specs.inner.Seen.{due_with, run_end, seen_part, seen_parts}
use Rattle.mxf_reader.proofs.SeenLemmas.{place_same}

-- a partition, where a place in a list names none
abbrev pub nobody : SeenPart
nobody = record {
  at = 0;
  pack = record {
    kind = Header;
    status = OpenIncomplete;
    major = 0;
    minor = 0;
    kag = 0;
    this = 0;
    previous = 0;
    footer = 0;
    header_bytes = 0;
    index_bytes = 0;
    index_sid = 0;
    body_offset = 0;
    body_sid = 0;
    pattern = [];
    label_count = 0;
    label = [];
  };
  is_first = false;
  due = 0;
  element = None;
  other = None;
  primer = None;
  primer_end = None;
  segment = None;
  segment_end = None;
  end = 0;
}

-- the first that doesn't keep a rule, one partition later
pub bad_next : (rule : Rule) (before k next : ℕ) (ps : List SeenPart) → k < length ps → next ≡ suc k → keeps rule before (get_or ps k nobody) ≡ true
    → first_bad rule before (drop k ps) ≡ first_bad rule (get_or ps k nobody).at (drop next ps)
unfolding first_bad
bad_next rule before k next ps h e kept =
    ap (first_bad rule before) (drop-cons ps k nobody h)
    ∙ ap (λ (b : Bool). if b then first_bad rule (get_or ps k nobody).at (drop (suc k) ps) else Some (get_or ps k nobody).at) kept
    ∙ ap (λ (n : ℕ). first_bad rule (get_or ps k nobody).at (drop n ps)) (sym e)

pub bad_here : (rule : Rule) (before k : ℕ) (ps : List SeenPart) → k < length ps → keeps rule before (get_or ps k nobody) ≡ false
    → first_bad rule before (drop k ps) ≡ Some (get_or ps k nobody).at
unfolding first_bad
bad_here rule before k ps h broken =
    ap (first_bad rule before) (drop-cons ps k nobody h)
    ∙ ap (λ (b : Bool). if b then first_bad rule (get_or ps k nobody).at (drop (suc k) ps) else Some (get_or ps k nobody).at) broken

pub bad_none : (rule : Rule) (before k : ℕ) (ps : List SeenPart) → length ps ≤ k → first_bad rule before (drop k ps) ≡ None
unfolding first_bad
bad_none rule before k ps h = ap (first_bad rule before) (drop_all k ps h)

-- clause 3
pub places_kept : (first : Bool) (due before : ℕ) (ps : List Part) → first_bad Places before (seen_parts first due ps) ≡ broken_3 before ps
unfolding first_bad seen_parts broken_3
places_kept first due before [] = refl
places_kept first due before (p ∷ ps) =
    ap (λ (o : Option ℕ). if p.pack.this == p.at && p.pack.previous == before then o else Some p.at) (places_kept false (due_with first due p) p.at ps)

-- the bytes of a run
run_by : (goes : Content → Bool) (end : ℕ) (items : List Placed) → run_len (first_place (places items)) (run_end goes items) end ≡ run_of goes end items
run_by goes end [] = refl
run_by goes end (p ∷ ps) = ap (λ (n : ℕ). n - p.at) (place_same end (from_first (λ content. not (goes content || is_fill content)) ps))

-- clause 10
pub lengths_kept : (first : Bool) (due before : ℕ) (ps : List Part) → first_bad Lengths before (seen_parts first due ps) ≡ broken_10 ps
unfolding first_bad seen_parts broken_10
lengths_kept first due before [] = refl
lengths_kept first due before (p ∷ ps) =
    let rest : Option ℕ = first_bad Lengths p.at (seen_parts false (due_with first due p) ps) in
    ap₂ (λ (m n : ℕ). if p.pack.header_bytes == m && p.pack.index_bytes == n then rest else Some p.at)
    (run_by is_set p.end (from_first is_primer p.items)) (run_by is_segment p.end (from_first is_segment p.items))
    ∙ ap (λ (o : Option ℕ). if p.pack.header_bytes == metadata_len p && p.pack.index_bytes == index_len p then o else Some p.at)
    (lengths_kept false (due_with first due p) p.at ps)

-- clause 5, of bodies
pub offsets_kept : (due before : ℕ) (ps : List Part) → first_bad Offset before (seen_parts false due ps) ≡ broken_5 due ps
unfolding first_bad seen_parts broken_5
offsets_kept due before [] = refl
offsets_kept due before (p ∷ ps) =
    ap (λ (o : Option ℕ). if p.pack.body_offset == due then o else Some p.at) (offsets_kept (due + stream_len p) p.at ps)

-- clause 1
end_kind : (len : ℕ) (c : Content) → end_by len (kind_of c) ≡ (if is_random_index c then None else Some len)
end_kind len Fill = refl
end_kind len (Pack pack) = refl
end_kind len Primer = refl
end_kind len Set = refl
end_kind len Segment = refl
end_kind len RandomIndex = refl
end_kind len Element = refl
end_kind len Other = refl

end_kept : (len : ℕ) (last : Option Placed) → end_seen len (mark_if last) ≡ ends_well len last
end_kept len None = refl
end_kept len (Some p) = end_kind len (content_of p.item)

pub ends_kept : (file : SeenFile) (items : List Placed) → AreSeen items file → seen_1 file.stop file.len file.last ≡ broken_1 file.stop file.len items
ends_kept file items h =
    ap (λ (o : Option ℕ). if nat_lt file.stop file.len then Some file.stop else o) (ap (end_seen file.len) h.last ∙ end_kept file.len (last_item None items))

pub clause_3_kept : (file : SeenFile) (items : List Placed) → AreSeen items file → first_bad Places 0 file.parts.items ≡ broken_3 0 (parts file.len items)
clause_3_kept file items h = ap (first_bad Places 0) h.parts ∙ places_kept true 0 0 (parts file.len items)

pub clause_10_kept : (file : SeenFile) (items : List Placed) → AreSeen items file → first_bad Lengths 0 file.parts.items ≡ broken_10 (parts file.len items)
clause_10_kept file items h = ap (first_bad Lengths 0) h.parts ∙ lengths_kept true 0 0 (parts file.len items)

-- as many are kept
pub length_seen : (first : Bool) (due : ℕ) (ps : List Part) → length (seen_parts first due ps) ≡ length ps
unfolding seen_parts
length_seen first due [] = refl
length_seen first due (p ∷ ps) = ap (λ (n : ℕ). suc n) (length_seen false (due_with first due p) ps)

-- what is kept of all but the last
pub but_last_seen : (due : ℕ) (p : Part) (ps : List Part) → take (length ps) (seen_parts false due (p ∷ ps)) ≡ seen_parts false due (all_but_last p ps)
unfolding seen_parts all_but_last
but_last_seen due p [] = refl
but_last_seen due p (q ∷ ps) = ap (λ (xs : List SeenPart). seen_part false due p ∷ xs) (but_last_seen (due + stream_len p) q ps)

-- what is kept of the bodies
pub bodies_seen : (ps : List Part) → 2 ≤ length (seen_parts true 0 ps)
    → take (length (seen_parts true 0 ps) - 2) (drop 1 (seen_parts true 0 ps)) ≡ seen_parts false 0 (file_of ps).bodies
unfolding seen_parts
bodies_seen [] h = absurd (omega (arith, h))
bodies_seen (p ∷ []) h = absurd (omega (arith, h))
bodies_seen (p ∷ q ∷ ps) h =
    let len : length (seen_parts true 0 (p ∷ q ∷ ps)) - 2 ≡ length ps = omega (arith, length_seen true 0 (p ∷ q ∷ ps)) in
    ap (λ (n : ℕ). take n (seen_parts false 0 (q ∷ ps))) len ∙ but_last_seen 0 q ps

-- there are none
no_bodies : (ps : List Part) → length (seen_parts true 0 ps) < 2 → broken_5 0 (file_of ps).bodies ≡ None
unfolding broken_5
no_bodies [] h = refl
no_bodies (p ∷ []) h = refl
no_bodies (p ∷ q ∷ ps) h = absurd (omega (arith, h, length_seen true 0 (p ∷ q ∷ ps)))

pub clause_5_none : (file : SeenFile) (items : List Placed) → AreSeen items file → length file.parts.items < 2
    → None ≡ broken_5 0 (file_of (parts file.len items)).bodies
clause_5_none file items h few =
    let same : length file.parts.items ≡ length (seen_parts true 0 (parts file.len items)) = ap length h.parts in
    sym (no_bodies (parts file.len items) (omega (arith, few, same)))

pub clause_5_kept : (file : SeenFile) (items : List Placed) → AreSeen items file → 2 ≤ length file.parts.items
    → first_bad Offset 0 (take (length file.parts.items - 2) (drop 1 file.parts.items)) ≡ broken_5 0 (file_of (parts file.len items)).bodies
clause_5_kept file items h some =
    let ps : List Part = parts file.len items in
    let same : length file.parts.items ≡ length (seen_parts true 0 ps) = ap length h.parts in
    ap (λ (xs : List SeenPart). first_bad Offset 0 (take (length xs - 2) (drop 1 xs))) h.parts
    ∙ ap (first_bad Offset 0) (bodies_seen ps (omega (arith, some, same)))
    ∙ offsets_kept 0 0 (file_of ps).bodies

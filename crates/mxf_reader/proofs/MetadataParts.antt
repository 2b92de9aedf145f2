-- A file's header and footer, and what is kept of them.
use Rattle.std.proofs.Common.{◌≡◌, ℕ, zero, suc, ◌+◌, ◌<◌, ◌≤◌, Bool, true, false, List, [], ◌∷◌, ◌++◌, length, get_or, Option, Some, None, refl, sym, ap, subst, ◌∙◌, arith}
use Rattle.std.proofs.lemmas.List.{length-append}
use Rattle.std.specs.List.{flat_map, AllByRecursion}
use Rattle.klv.specs.Items.{Item, spelled}
use Rattle.mxf_op1a.specs.Contents.{Content, content_of, placed_from}
use Rattle.mxf_op1a.specs.Contents.Content.{Fill, Pack, Primer, Set, Segment, RandomIndex, Element, Other}
use Rattle.mxf_op1a.specs.Partitions.{Part, file_of, last_of, part_of, parts}
use Rattle.mxf_reader.specs.declared.file.SeenFile.{SeenFile}
use Rattle.mxf_reader.specs.declared.part.SeenPart.{SeenPart}
use Rattle.mxf_reader.specs.inner.Files.{IsSeen}
use Rattle.mxf_reader.specs.inner.Inside.{IsInside, IsPartInside, IsRunWithin}
use Rattle.mxf_reader.specs.inner.Metadata.{IsPartOf, LiesIn, metadata_end}
use Rattle.mxf_reader.specs.inner.Parts.{place_or}
use Rattle.mxf_reader.specs.inner.Seen.{due_with, seen_part, seen_parts}
use Rattle.mxf_reader.proofs.MetadataHeld.{Stand, stand_next}

-- the partition that an item begins, if it is a pack, lies in the file
part_lies : (content : Content) (bytes : List ℕ) (stop at : ℕ) (item : Item) (items : List Item) → stop ≤ length bytes
    → Stand bytes stop (at + length (spelled item)) items
    → AllByRecursion (LiesIn bytes stop) (parts (length bytes) (placed_from (at + length (spelled item)) items))
    → AllByRecursion (LiesIn bytes stop)
    (part_of (length bytes) (record { at = at; item = item }) (placed_from (at + length (spelled item)) items) content
    ++ parts (length bytes) (placed_from (at + length (spelled item)) items))
part_lies (Pack pack) bytes stop at item items inside s h = (
  record {
    from = at + length (spelled item);
    items = items;
    each = s.each;
    rest = s.rest;
    bytes_are = s.bytes_are;
    stop_is = s.stop_is;
    inside = inside;
    items_are = refl;
    end_is = refl;
  },
  h,
)
part_lies Fill bytes stop at item items inside s h = h
part_lies Primer bytes stop at item items inside s h = h
part_lies Set bytes stop at item items inside s h = h
part_lies Segment bytes stop at item items inside s h = h
part_lies RandomIndex bytes stop at item items inside s h = h
part_lies Element bytes stop at item items inside s h = h
part_lies Other bytes stop at item items inside s h = h

-- each partition of a file lies in it
parts_lie : (bytes : List ℕ) (stop at : ℕ) (items : List Item) → stop ≤ length bytes → Stand bytes stop at items
    → AllByRecursion (LiesIn bytes stop) (parts (length bytes) (placed_from at items))
unfolding placed_from parts
parts_lie bytes stop at [] inside s = tt
parts_lie bytes stop at (item ∷ items) inside s =
    let next = stand_next bytes stop at item items s in
    part_lies (content_of item) bytes stop at item items inside next (parts_lie bytes stop (at + length (spelled item)) items inside next)

-- what is kept of a partition is this
part_kept : (bytes : List ℕ) (stop : ℕ) (first : Bool) (due : ℕ) (part : Part) → LiesIn bytes stop part
    → IsPartOf bytes stop (seen_part first due part) part
part_kept bytes stop first due part lies = record { lies = lies; primer = refl; primer_end = refl; end = refl }

-- the partitions of a file that was seen lie in it
file_lies : (bytes : List ℕ) (file : SeenFile) (seen : IsSeen bytes file)
    → AllByRecursion (LiesIn bytes file.stop) (parts file.len (placed_from 0 seen.outline.items))
file_lies bytes file seen =
    let long : length bytes ≡ length (flat_map spelled seen.outline.items) + length seen.outline.rest =
    ap length seen.outline.bytes_are ∙ length-append (flat_map spelled seen.outline.items) seen.outline.rest in
    let stop = seen.stop in
    let end : file.stop ≡ 0 + length (flat_map spelled seen.outline.items) = omega (arith, stop) in
    subst (λ (len : ℕ). AllByRecursion (LiesIn bytes file.stop) (parts len (placed_from 0 seen.outline.items))) (sym seen.len)
    (parts_lie bytes file.stop 0 seen.outline.items (omega (arith, long, stop))
    (record { each = seen.outline.each; rest = seen.outline.rest; bytes_are = seen.outline.bytes_are; stop_is = end }))

-- what is kept is of a file's only partition of a kind
pub record IsOnly (bytes : List ℕ) (stop : ℕ) (p : SeenPart) (all : List Part) : Type 0 where
  pub part : Part
  pub all_are : all ≡ part ∷ []
  pub kept : IsPartOf bytes stop p part

-- the first of partitions
header_kept : (bytes : List ℕ) (stop : ℕ) (all : List Part) (d : SeenPart) → 0 < length (seen_parts true 0 all)
    → AllByRecursion (LiesIn bytes stop) all
    → IsOnly bytes stop (get_or (seen_parts true 0 all) 0 d) (file_of all).header
unfolding seen_parts
header_kept bytes stop [] d h lies = absurd (omega (arith, h))
header_kept bytes stop (part ∷ []) d h lies = record { part = part; all_are = refl; kept = part_kept bytes stop true 0 part lies.0 }
header_kept bytes stop (part ∷ next ∷ all) d h lies = record { part = part; all_are = refl; kept = part_kept bytes stop true 0 part lies.0 }

-- what is kept first is of the header
pub header_is : (bytes : List ℕ) (file : SeenFile) (seen : IsSeen bytes file) (d : SeenPart) → 0 < length file.parts.items
    → IsOnly bytes file.stop (get_or file.parts.items 0 d) (file_of (parts file.len (placed_from 0 seen.outline.items))).header
header_is bytes file seen d h =
    let all : List Part = parts file.len (placed_from 0 seen.outline.items) in
    let same = seen.seen.parts in
    subst (λ (ps : List SeenPart). IsOnly bytes file.stop (get_or ps 0 d) (file_of all).header) (sym same)
    (header_kept bytes file.stop all d (subst (λ (ps : List SeenPart). 0 < length ps) same h) (file_lies bytes file seen))

-- the last of partitions
last_kept : (bytes : List ℕ) (stop due : ℕ) (part : Part) (all : List Part) (d : SeenPart) (k : ℕ) → k ≡ length all
    → AllByRecursion (LiesIn bytes stop) (part ∷ all)
    → IsPartOf bytes stop (get_or (seen_parts false due (part ∷ all)) k d) (last_of part all)
unfolding seen_parts last_of
last_kept bytes stop due part [] d k e lies =
    subst (λ (n : ℕ). IsPartOf bytes stop (get_or (seen_part false due part ∷ []) n d) part) (sym e) (part_kept bytes stop false due part lies.0)
last_kept bytes stop due part (next ∷ all) d k e lies =
    subst (λ (n : ℕ). IsPartOf bytes stop (get_or (seen_parts false due (part ∷ next ∷ all)) n d) (last_of next all)) (sym e)
    (last_kept bytes stop (due_with false due part) next all d (length all) refl lies.1)

-- of each partition one thing is kept
length_seen : (first : Bool) (due : ℕ) (all : List Part) → length (seen_parts first due all) ≡ length all
unfolding seen_parts
length_seen first due [] = refl
length_seen first due (part ∷ all) = ap (λ (n : ℕ). suc n) (length_seen false (due_with first due part) all)

-- the last of two or more
footer_kept : (bytes : List ℕ) (stop : ℕ) (all : List Part) (d : SeenPart) (k : ℕ) → k + 1 ≡ length (seen_parts true 0 all) → 0 < k
    → AllByRecursion (LiesIn bytes stop) all
    → IsOnly bytes stop (get_or (seen_parts true 0 all) k d) (file_of all).footer
unfolding seen_parts
footer_kept bytes stop [] d k e h lies = absurd (omega (arith, e))
footer_kept bytes stop (part ∷ []) d k e h lies = absurd (omega (arith, e, h))
footer_kept bytes stop (part ∷ next ∷ all) d k e h lies =
    let long = length_seen true 0 (part ∷ next ∷ all) in
    let is : k ≡ suc (length all) = omega (arith, e, long) in
    record {
      part = last_of next all;
      all_are = refl;
      kept = subst (λ (n : ℕ). IsPartOf bytes stop (get_or (seen_parts true 0 (part ∷ next ∷ all)) n d) (last_of next all)) (sym is)
          (last_kept bytes stop 0 next all d (length all) refl lies.1);
    }

-- what is kept last is of the footer
pub footer_is : (bytes : List ℕ) (file : SeenFile) (seen : IsSeen bytes file) (d : SeenPart) (k : ℕ) → k + 1 ≡ length file.parts.items → 0 < k
    → IsOnly bytes file.stop (get_or file.parts.items k d) (file_of (parts file.len (placed_from 0 seen.outline.items))).footer
footer_is bytes file seen d k e h =
    let all : List Part = parts file.len (placed_from 0 seen.outline.items) in
    let same = seen.seen.parts in
    subst (λ (ps : List SeenPart). IsOnly bytes file.stop (get_or ps k d) (file_of all).footer) (sym same)
    (footer_kept bytes file.stop all d k (e ∙ ap length same) h (file_lies bytes file seen))

-- where nothing is kept, there are none
none_kept : (all : List Part) → length (seen_parts true 0 all) ≡ 0 → all ≡ []
unfolding seen_parts
none_kept [] e = refl
none_kept (part ∷ all) e = absurd (omega (arith, e))

-- there are no partitions
pub no_parts : (bytes : List ℕ) (file : SeenFile) (seen : IsSeen bytes file) → length file.parts.items ≡ 0
    → parts file.len (placed_from 0 seen.outline.items) ≡ []
no_parts bytes file seen e = none_kept (parts file.len (placed_from 0 seen.outline.items)) (sym (ap length seen.seen.parts) ∙ e)

-- where one thing is kept, there is one
one_kept : (all : List Part) → length (seen_parts true 0 all) < 2 → (file_of all).footer ≡ []
one_kept [] h = refl
one_kept (part ∷ []) h = refl
one_kept (part ∷ next ∷ all) h = absurd (omega (arith, h, length_seen true 0 (part ∷ next ∷ all)))

-- there is no footer
pub no_footer : (bytes : List ℕ) (file : SeenFile) (seen : IsSeen bytes file) → length file.parts.items < 2
    → (file_of (parts file.len (placed_from 0 seen.outline.items))).footer ≡ []
no_footer bytes file seen h =
    one_kept (parts file.len (placed_from 0 seen.outline.items)) (subst (λ (ps : List SeenPart). length ps < 2) seen.seen.parts h)

-- what holds of each holds of one
all_at : {X : Type 0} (P : X → Type 0) (xs : List X) (k : ℕ) (d : X) → AllByRecursion P xs → k < length xs → P (get_or xs k d)
all_at P [] k d all h = absurd (omega (arith, h))
all_at P (x ∷ xs) zero d all h = all.0
all_at P (x ∷ xs) (suc k) d all h = all_at P xs k d all.1 (omega (arith, h))

-- a partition of a file lies inside it
pub part_inside : (len : ℕ) (file : SeenFile) (k : ℕ) (d : SeenPart) → IsInside len file → k < length file.parts.items
    → IsPartInside len (get_or file.parts.items k d)
part_inside len file k d inside h = all_at (IsPartInside len) file.parts.items k d inside.parts h

-- where a run may end
run_within : (end first : ℕ) (until : Option ℕ) → IsRunWithin end (Some first) until → (first ≤ end) × (place_or end until ≤ end)
run_within end first None h = (h, omega arith)
run_within end first (Some until) h = (omega (arith, h.0, h.1), h.1)

-- so do its metadata
pub metadata_inside : (len stop first : ℕ) (p : SeenPart) → IsPartInside len p → p.primer ≡ Some first
    → (first ≤ metadata_end p first stop) × (metadata_end p first stop ≤ p.end)
metadata_inside len stop first p h e =
    let w = run_within p.end first p.primer_end (subst (λ (primer : Option ℕ). IsRunWithin p.end primer p.primer_end) e h.metadata) in
    (omega arith, omega (arith, w.0, w.1))

-- Clauses one after the other.
use Rattle.std.proofs.Common.{◌≡◌, ℕ, List, length, Option, Some, None, refl, sym, ap, ◌∙◌}
use Rattle.std.specs.List.{flat_map}
use Rattle.klv.specs.Items.{spelled}
use Rattle.mxf_op1a.specs.Clauses.{broken_6, broken_7}
use Rattle.mxf_op1a.specs.Contents.{Placed, is_pack, placed_from}
use Rattle.mxf_op1a.specs.Op1a.{at_place, first_broken, first_of_clauses, or_next}
use Rattle.mxf_op1a.specs.Partitions.{file_of, parts, up_to}
use Rattle.mxf_op1a.specs.declared.breaks.Break.{Break}
use Rattle.mxf_reader.specs.declared.file.SeenFile.{SeenFile}
use Rattle.mxf_reader.specs.inner.Files.{IsSeen}
use Rattle.mxf_reader.specs.inner.Judged.{contents_broken, structure_broken}

-- a clause that is broken ends it
pub broken_here : (clause at : ℕ) (place : Option ℕ) (next : Option Break) → place ≡ Some at → or_next clause place next ≡ Some (at_place clause at)
broken_here clause at place next e = ap (λ (o : Option ℕ). or_next clause o next) e

-- one that is kept leaves it to the next
pub kept_here : (clause : ℕ) (place : Option ℕ) (next behind : Option Break) → place ≡ None → next ≡ behind → or_next clause place next ≡ behind
kept_here clause place next behind none e = ap (λ (o : Option ℕ). or_next clause o next) none ∙ e

-- what clauses name that aren't the last is named of all
names_more : (clause : ℕ) (place : Option ℕ) (one all : Option Break) (broken : Break)
    → (one ≡ Some broken → all ≡ Some broken) → or_next clause place one ≡ Some broken → or_next clause place all ≡ Some broken
names_more clause (Some at) one all broken more e = e
names_more clause None one all broken more e = more e

-- where none of them is broken, this one isn't, nor one behind it
none_here : (clause : ℕ) (place : Option ℕ) (next : Option Break) → or_next clause place next ≡ None → (place ≡ None) × (next ≡ None)
none_here clause (Some at) next e = absurd (cc)
none_here clause None next e = (refl, e)

-- the six clauses on structure, and what follows
abbrev six : Option ℕ → Option ℕ → Option ℕ → Option ℕ → Option ℕ → Option ℕ → Option Break → Option Break
six a b c d e f next = or_next 1 a (or_next 2 b (or_next 3 c (or_next 4 d (or_next 5 e (or_next 6 f next)))))

-- the first that is broken of six stays so whatever follows
six_named : (a b c d e f : Option ℕ) (next : Option Break) (broken : Break) → six a b c d e f None ≡ Some broken → six a b c d e f next ≡ Some broken
six_named a b c d e f next broken =
    names_more 1 a _ _ broken (names_more 2 b _ _ broken (names_more 3 c _ _ broken (names_more 4 d _ _ broken (names_more 5 e _ _ broken
    (names_more 6 f None next broken (λ (bad : None ≡ Some broken). absurd (cc)))))))

-- all six are kept
record AreKept (a b c d e f : Option ℕ) : Type 0 where
  one : a ≡ None
  two : b ≡ None
  three : c ≡ None
  four : d ≡ None
  five : e ≡ None
  last : f ≡ None

-- where nothing is broken, each of six is kept, and what follows
six_kept : (a b c d e f : Option ℕ) (next : Option Break) → six a b c d e f next ≡ None → AreKept a b c d e f × (next ≡ None)
six_kept a b c d e f next none =
    let p = none_here 1 a _ none in
    let q = none_here 2 b _ p.1 in
    let r = none_here 3 c _ q.1 in
    let s = none_here 4 d _ r.1 in
    let t = none_here 5 e _ s.1 in
    let u = none_here 6 f _ t.1 in
    (record { one = p.0; two = q.0; three = r.0; four = s.0; five = t.0; last = u.0 }, u.1)

-- six that are kept leave it to what follows
six_passed : (a b c d e f : Option ℕ) (next : Option Break) → AreKept a b c d e f → six a b c d e f next ≡ next
six_passed a b c d e f next k =
    kept_here 1 a _ next k.one (kept_here 2 b _ next k.two (kept_here 3 c _ next k.three (kept_here 4 d _ next k.four (kept_here 5 e _ next k.five
    (kept_here 6 f next next k.last refl)))))

-- where the clauses on structure are kept, elements stand only in bodies
pub held : (len stop : ℕ) (items : List Placed) → structure_broken len stop items ≡ None
    → broken_6 len (up_to is_pack items) (file_of (parts len items)) ≡ None
held len stop items e = (six_kept _ _ _ _ _ _ None e).0.last

-- the first of all clauses is the first of those on structure
all_named : (len stop : ℕ) (items : List Placed) (broken : Break) → structure_broken len stop items ≡ Some broken
    → first_of_clauses len stop items (parts len items) (file_of (parts len items)) ≡ Some broken
all_named len stop items broken e = six_named _ _ _ _ _ _ (contents_broken len items) broken e

-- or else of those behind them
all_passed : (len stop : ℕ) (items : List Placed) → structure_broken len stop items ≡ None
    → first_of_clauses len stop items (parts len items) (file_of (parts len items)) ≡ contents_broken len items
all_passed len stop items e = six_passed _ _ _ _ _ _ (contents_broken len items) (six_kept _ _ _ _ _ _ None e).0

-- all clauses of a file, by what is kept of it
seen_broken : (bytes : List ℕ) (file : SeenFile) (seen : IsSeen bytes file)
    → first_broken (length bytes) seen.outline.items
    ≡ first_of_clauses file.len file.stop (placed_from 0 seen.outline.items) (parts file.len (placed_from 0 seen.outline.items))
    (file_of (parts file.len (placed_from 0 seen.outline.items)))
unfolding first_broken
seen_broken bytes file seen =
    let placed : List Placed = placed_from 0 seen.outline.items in
    ap (λ (n : ℕ). first_of_clauses n (length (flat_map spelled seen.outline.items)) placed (parts n placed) (file_of (parts n placed))) (sym seen.len)
    ∙ ap (λ (n : ℕ). first_of_clauses file.len n placed (parts file.len placed) (file_of (parts file.len placed))) (sym seen.stop)

-- one on structure that is broken is the first of the file
pub judged_first : (bytes : List ℕ) (file : SeenFile) (seen : IsSeen bytes file) (broken : Break)
    → structure_broken file.len file.stop (placed_from 0 seen.outline.items) ≡ Some broken → first_broken (length bytes) seen.outline.items ≡ Some broken
judged_first bytes file seen broken e = seen_broken bytes file seen ∙ all_named file.len file.stop (placed_from 0 seen.outline.items) broken e

-- where those on structure are kept, the first of the others is the first of the file
pub judged_behind : (bytes : List ℕ) (file : SeenFile) (seen : IsSeen bytes file) (broken : Option Break)
    → structure_broken file.len file.stop (placed_from 0 seen.outline.items) ≡ None → contents_broken file.len (placed_from 0 seen.outline.items) ≡ broken
    → first_broken (length bytes) seen.outline.items ≡ broken
judged_behind bytes file seen broken none e = seen_broken bytes file seen ∙ all_passed file.len file.stop (placed_from 0 seen.outline.items) none ∙ e

-- where no clause is broken, that on elements isn't, nor that on metadata
pub record KeepsBoth (len : ℕ) (items : List Placed) : Type 0 where
  pub held : broken_6 len (up_to is_pack items) (file_of (parts len items)) ≡ None
  pub described : broken_7 len (file_of (parts len items)) ≡ None

-- so it is of a file of which this is kept
pub keeps_both : (bytes : List ℕ) (file : SeenFile) (seen : IsSeen bytes file) → first_broken (length bytes) seen.outline.items ≡ None
    → KeepsBoth file.len (placed_from 0 seen.outline.items)
keeps_both bytes file seen none =
    let placed : List Placed = placed_from 0 seen.outline.items in
    let all = six_kept _ _ _ _ _ _ (contents_broken file.len placed) (sym (seen_broken bytes file seen) ∙ none) in
    record { held = all.0.last; described = (none_here 7 _ _ all.1).0 }

-- Where elements stand in a file, over what is kept of it.
use Rattle.std.proofs.Common.{◌≡◌, ℕ, zero, suc, ◌-◌, ◌==◌, ◌||◌, not, ◌≤◌, ◌<◌, Bool, true, false, if◌then◌else◌, List, [], ◌∷◌, ◌++◌, length, take, drop, get_or, arith, Option, Some, None, refl, sym, ap, ap₂, ◌∙◌, drop-cons, append-nil}
use Rattle.std.proofs.lemmas.Bool.{ne_eqb}
use Rattle.std.proofs.lemmas.List.{drop_all}
use Rattle.std.specs.List.{flat_map}
use Rattle.std.specs.Option.{is_some, is_none}
use Rattle.mxf_op1a.specs.Clauses.{broken_6, first_place, lacking, other_elements, places}
use Rattle.mxf_op1a.specs.Contents.{Placed, is_pack}
use Rattle.mxf_op1a.specs.Partitions.{Part, all_but_last, elements, file_of, last_of, parts, up_to}
use Rattle.mxf_reader.specs.declared.file.SeenFile.{SeenFile}
use Rattle.mxf_reader.specs.declared.part.SeenPart.{SeenPart}
use Rattle.mxf_reader.specs.inner.Files.{AreSeen}
use Rattle.mxf_reader.specs.inner.Parts.{first_of}
use Rattle.mxf_reader.specs.inner.Rules.{misplaced_behind, first_other, lack_seen, lacks_element, last_element, seen_6}
use Rattle.mxf_reader.specs.inner.Seen.{due_with, seen_parts}
use Rattle.mxf_reader.proofs.KeptLemmas.{first_assoc}
use Rattle.mxf_reader.proofs.RuleLemmas.{but_last_seen, length_seen, nobody}

-- the first of two places, where the one is known to be
taken : (o next : Option ℕ) → is_some o ≡ true → first_of o next ≡ o
taken None next h = absurd cc
taken (Some place) next h = refl

-- and where it is known not to be
skipped : (o next : Option ℕ) → is_some o ≡ false → first_of o next ≡ next
skipped None next h = refl
skipped (Some place) next h = absurd cc

-- the first element with another key, one partition later
pub other_next : (k next : ℕ) (ps : List SeenPart) → k < length ps → next ≡ suc k → is_some (get_or ps k nobody).other ≡ false
    → first_other (drop k ps) ≡ first_other (drop next ps)
unfolding first_other
other_next k next ps h e none =
    ap first_other (drop-cons ps k nobody h)
    ∙ skipped (get_or ps k nobody).other (first_other (drop (suc k) ps)) none
    ∙ ap (λ (n : ℕ). first_other (drop n ps)) (sym e)

-- it is that of the partition here
pub other_here : (k : ℕ) (ps : List SeenPart) → k < length ps → is_some (get_or ps k nobody).other ≡ true
    → first_other (drop k ps) ≡ (get_or ps k nobody).other
unfolding first_other
other_here k ps h some =
    ap first_other (drop-cons ps k nobody h) ∙ taken (get_or ps k nobody).other (first_other (drop (suc k) ps)) some

-- behind the last there is none
pub other_none : (k : ℕ) (ps : List SeenPart) → length ps ≤ k → first_other (drop k ps) ≡ None
unfolding first_other
other_none k ps h = ap first_other (drop_all k ps h)

-- whether one lacks an element, one partition later
pub lack_next : (k next : ℕ) (ps : List SeenPart) → k < length ps → next ≡ suc k → is_some (get_or ps k nobody).element ≡ true
    → lacks_element (drop k ps) ≡ lacks_element (drop next ps)
unfolding lacks_element
lack_next k next ps h e some =
    ap lacks_element (drop-cons ps k nobody h)
    ∙ ap (λ (b : Bool). not b || lacks_element (drop (suc k) ps)) some
    ∙ ap (λ (n : ℕ). lacks_element (drop n ps)) (sym e)

-- the partition here lacks one
pub lack_here : (k : ℕ) (ps : List SeenPart) → k < length ps → is_some (get_or ps k nobody).element ≡ false → lacks_element (drop k ps) ≡ true
unfolding lacks_element
lack_here k ps h none =
    ap lacks_element (drop-cons ps k nobody h) ∙ ap (λ (b : Bool). not b || lacks_element (drop (suc k) ps)) none

-- behind the last none lacks one
pub lack_none : (k : ℕ) (ps : List SeenPart) → length ps ≤ k → lacks_element (drop k ps) ≡ false
unfolding lacks_element
lack_none k ps h = ap lacks_element (drop_all k ps h)

-- the last partition by its place
last_from : (k : ℕ) (ps : List SeenPart) → suc k ≡ length ps → (get_or ps k nobody).element ≡ last_element ps
unfolding last_element
last_from k [] h = absurd (omega (arith, h))
last_from zero (p ∷ []) h = refl
last_from (suc k) (p ∷ []) h = absurd (omega (arith, h))
last_from zero (p ∷ q ∷ ps) h = absurd (omega (arith, h))
last_from (suc k) (p ∷ q ∷ ps) h = last_from k (q ∷ ps) (omega (arith, h))

-- the same by the length
pub last_at : (ps : List SeenPart) → 0 < length ps → (get_or ps (length ps - 1) nobody).element ≡ last_element ps
last_at ps h = last_from (length ps - 1) ps (omega (arith, h))

-- no partition, and the first by its place
pub behind_none : (len : ℕ) (ps : List SeenPart) → length ps ≡ 0 → None ≡ misplaced_behind len ps
unfolding first_other last_element lacks_element
behind_none len [] h = refl
behind_none len (p ∷ ps) h = absurd (omega (arith, h))

-- the same of all partitions
pub six_none : (len : ℕ) (ps : List SeenPart) → length ps ≡ 0 → None ≡ seen_6 len ps
six_none len [] h = refl
six_none len (p ∷ ps) h = absurd (omega (arith, h))

-- the first partition and those behind it
pub six_first : (len : ℕ) (ps : List SeenPart) → 0 < length ps → first_of (get_or ps 0 nobody).element (misplaced_behind len (drop 1 ps)) ≡ seen_6 len ps
six_first len [] h = absurd (omega (arith, h))
six_first len (p ∷ ps) h = refl

-- the first of joined places
first_both : (xs ys : List ℕ) → first_place (xs ++ ys) ≡ first_of (first_place xs) (first_place ys)
first_both [] ys = refl
first_both (x ∷ xs) ys = refl

-- the first element with another key, by the partitions
others_seen : (due : ℕ) (bodies : List Part)
    → first_other (seen_parts false due bodies) ≡ first_place (flat_map (λ (body : Part). places (other_elements body.items)) bodies)
unfolding first_other seen_parts
others_seen due [] = refl
others_seen due (p ∷ ps) =
    ap (first_of (first_place (places (other_elements p.items)))) (others_seen (due_with false due p) ps)
    ∙ sym (first_both (places (other_elements p.items)) (flat_map (λ (body : Part). places (other_elements body.items)) ps))

-- one partition's part in it
lack_step : (len : ℕ) (es : List Placed) (b : Bool) (rest : List ℕ) → (if b then Some len else None) ≡ first_place rest
    → (if is_none (first_place (places es)) || b then Some len else None) ≡ first_place ((if length es == 0 then len ∷ [] else []) ++ rest)
lack_step len [] b rest h = refl
lack_step len (e ∷ es) b rest h =
    let some : (suc (length es) == 0) ≡ false = ne_eqb (suc (length es)) 0 (λ (n : suc (length es) ≡ 0). omega arith) in
    h ∙ ap (λ (t : Bool). first_place ((if t then len ∷ [] else []) ++ rest)) (sym some)

-- the file's length where one lacks an element
lacks_seen : (len due : ℕ) (bodies : List Part) → lack_seen len (seen_parts false due bodies) ≡ first_place (lacking len bodies)
unfolding lacks_element seen_parts
lacks_seen len due [] = refl
lacks_seen len due (p ∷ ps) =
    lack_step len (elements p.items) (lacks_element (seen_parts false (due_with false due p) ps)) (lacking len ps) (lacks_seen len (due_with false due p) ps)

-- the first element of the last
footer_seen : (due : ℕ) (p : Part) (ps : List Part) → last_element (seen_parts false due (p ∷ ps)) ≡ first_place (places (elements (last_of p ps).items))
unfolding last_element seen_parts last_of
footer_seen due p [] = refl
footer_seen due p (q ∷ ps) = footer_seen (due_with false due p) q ps

-- the places of a partition's elements
abbrev element_places : Part → List ℕ
element_places part = places (elements part.items)

-- all that stands elsewhere than it should, behind the header
behind_seen : (len : ℕ) (q : Part) (ps : List Part)
    → misplaced_behind len (seen_parts false 0 (q ∷ ps))
    ≡ first_of (first_place (flat_map (λ (body : Part). places (other_elements body.items)) (all_but_last q ps)))
    (first_of (first_place (element_places (last_of q ps) ++ [])) (first_place (lacking len (all_but_last q ps))))
behind_seen len q ps =
    let s : List SeenPart = seen_parts false 0 (q ∷ ps) in
    let long : length s - 1 ≡ length ps = omega (arith, length_seen false 0 (q ∷ ps)) in
    let bodies : take (length s - 1) s ≡ seen_parts false 0 (all_but_last q ps) = ap (λ (n : ℕ). take n s) long ∙ but_last_seen 0 q ps in
    let footer : last_element s ≡ first_place (element_places (last_of q ps) ++ []) =
    footer_seen 0 q ps ∙ sym (ap first_place (append-nil (element_places (last_of q ps)))) in
    ap₂ (λ (bs : List SeenPart) (o : Option ℕ). first_of (first_other bs) (first_of o (lack_seen len bs))) bodies footer
    ∙ ap₂ (λ (o l : Option ℕ). first_of o (first_of (first_place (element_places (last_of q ps) ++ [])) l))
    (others_seen 0 (all_but_last q ps)) (lacks_seen len 0 (all_but_last q ps))

-- the first of five
first_of_five : (a b c d e : List ℕ)
    → first_place (a ++ b ++ c ++ d ++ e)
    ≡ first_of (first_place a) (first_of (first_place b) (first_of (first_place c) (first_of (first_place d) (first_place e))))
first_of_five a b c d e =
    let m : Option ℕ = first_place a in
    let n : Option ℕ = first_place b in
    let o : Option ℕ = first_place c in
    let p : Option ℕ = first_place d in
    let q : Option ℕ = first_place e in
    let two : first_place (a ++ b) ≡ first_of m n = first_both a b in
    let three : first_place ((a ++ b) ++ c) ≡ first_of (first_of m n) o = first_both (a ++ b) c ∙ ap (λ (x : Option ℕ). first_of x o) two in
    let four : first_place (((a ++ b) ++ c) ++ d) ≡ first_of (first_of (first_of m n) o) p =
    first_both ((a ++ b) ++ c) d ∙ ap (λ (x : Option ℕ). first_of x p) three in
    first_both (((a ++ b) ++ c) ++ d) e
    ∙ ap (λ (x : Option ℕ). first_of x q) four
    ∙ sym (first_assoc m n (first_of o (first_of p q)) ∙ first_assoc (first_of m n) o (first_of p q) ∙ first_assoc (first_of (first_of m n) o) p q)

-- all that stands elsewhere than it should
six_seen : (len : ℕ) (front : List Placed) (ps : List Part)
    → first_of (first_place (places (elements front))) (seen_6 len (seen_parts true 0 ps)) ≡ broken_6 len front (file_of ps)
unfolding seen_parts first_other last_element lacks_element
six_seen len front [] = sym (first_of_five (places (elements front)) [] [] [] [])
six_seen len front (p ∷ []) =
    ap (λ (o : Option ℕ). first_of (first_place (places (elements front))) (first_of o None)) (sym (ap first_place (append-nil (element_places p))))
    ∙ sym (first_of_five (places (elements front)) (element_places p ++ []) [] [] [])
six_seen len front (p ∷ q ∷ ps) =
    let a : Option ℕ = first_place (places (elements front)) in
    ap₂ (λ (o b : Option ℕ). first_of a (first_of o b)) (sym (ap first_place (append-nil (element_places p)))) (behind_seen len q ps)
    ∙ sym (first_of_five (places (elements front)) (element_places p ++ [])
    (flat_map (λ (body : Part). places (other_elements body.items)) (all_but_last q ps)) (element_places (last_of q ps) ++ [])
    (lacking len (all_but_last q ps)))

-- clause 6
pub clause_6_kept : (file : SeenFile) (items : List Placed) → AreSeen items file
    → first_of file.front (seen_6 file.len file.parts.items) ≡ broken_6 file.len (up_to is_pack items) (file_of (parts file.len items))
clause_6_kept file items h =
    ap₂ (λ (o : Option ℕ) (ps : List SeenPart). first_of o (seen_6 file.len ps)) h.front h.parts
    ∙ six_seen file.len (up_to is_pack items) (parts file.len items)

-- The kinds of a file's partitions, over what is kept of a file.
use Rattle.std.proofs.Common.{◌≡◌, ◌⊎◌, ⊎_elim, ℕ, suc, ◌≤◌, ◌<◌, Bool, true, false, if◌then◌else◌, List, [], ◌∷◌, length, drop, get_or, arith, Option, Some, None, refl, sym, ap, ◌∙◌, drop-cons}
use Rattle.std.proofs.lemmas.List.{drop_all}
use Rattle.mxf_op1a.specs.Clauses.{broken_4, broken_behind, is_body}
use Rattle.mxf_op1a.specs.Contents.{Placed}
use Rattle.mxf_op1a.specs.Partitions.{Part, parts}
use Rattle.mxf_reader.specs.declared.file.SeenFile.{SeenFile}
use Rattle.mxf_reader.specs.declared.part.SeenPart.{SeenPart}
use Rattle.mxf_reader.specs.inner.Files.{AreSeen}
use Rattle.mxf_reader.specs.inner.Rules.{bad_behind, is_first_kept, is_last_kept, seen_4}
use Rattle.mxf_reader.specs.inner.Seen.{due_with, seen_part, seen_parts}
use Rattle.mxf_reader.proofs.RuleLemmas.{nobody}

pub behind_next : (last : SeenPart) (ps : List SeenPart) (k next : ℕ) → k < length ps → next ≡ suc k → is_body last.pack.kind ≡ true
    → bad_behind (last ∷ drop k ps) ≡ bad_behind (get_or ps k nobody ∷ drop next ps)
unfolding bad_behind
behind_next last ps k next h e body =
    let p : SeenPart = get_or ps k nobody in
    ap (λ (xs : List SeenPart). bad_behind (last ∷ xs)) (drop-cons ps k nobody h)
    ∙ ap (λ (b : Bool). if b then bad_behind (p ∷ drop (suc k) ps) else Some last.at) body
    ∙ ap (λ (n : ℕ). bad_behind (p ∷ drop n ps)) (sym e)

pub behind_here : (last : SeenPart) (ps : List SeenPart) (k : ℕ) → k < length ps → is_body last.pack.kind ≡ false
    → bad_behind (last ∷ drop k ps) ≡ Some last.at
unfolding bad_behind
behind_here last ps k h body =
    let p : SeenPart = get_or ps k nobody in
    ap (λ (xs : List SeenPart). bad_behind (last ∷ xs)) (drop-cons ps k nobody h)
    ∙ ap (λ (b : Bool). if b then bad_behind (p ∷ drop (suc k) ps) else Some last.at) body

pub behind_last : (last : SeenPart) (ps : List SeenPart) (k : ℕ) (b : Bool) → length ps ≤ k → is_last_kept last ≡ b
    → bad_behind (last ∷ drop k ps) ≡ (if b then None else Some last.at)
unfolding bad_behind
behind_last last ps k b h kept =
    ap (λ (xs : List SeenPart). bad_behind (last ∷ xs)) (drop_all k ps h)
    ∙ ap (λ (c : Bool). if c then None else Some last.at) kept

-- the same of what is kept of partitions
behind_seen : (due : ℕ) (ps : List Part) → bad_behind (seen_parts false due ps) ≡ broken_behind ps
unfolding bad_behind seen_parts broken_behind
behind_seen due [] = refl
behind_seen due (p ∷ []) = refl
behind_seen due (p ∷ q ∷ ps) =
    ap (λ (o : Option ℕ). if is_body p.pack.kind then o else Some p.at) (behind_seen (due_with false due p) (q ∷ ps))

order_seen : (len : ℕ) (ps : List Part) → seen_4 len (seen_parts true 0 ps) ≡ broken_4 len ps
unfolding seen_parts
order_seen len [] = refl
order_seen len (p ∷ []) = refl
order_seen len (p ∷ q ∷ ps) =
    ap (λ (o : Option ℕ). if is_first_kept (seen_part true 0 p) then o else Some p.at) (behind_seen 0 (q ∷ ps))

pub order_kept : (file : SeenFile) (items : List Placed) → AreSeen items file → seen_4 file.len file.parts.items ≡ broken_4 file.len (parts file.len items)
order_kept file items h = ap (seen_4 file.len) h.parts ∙ order_seen file.len (parts file.len items)

-- by the first two places
pub order_none : (len : ℕ) (ps : List SeenPart) → length ps ≡ 0 → Some len ≡ seen_4 len ps
order_none len [] h = refl
order_none len (p ∷ ps) h = absurd (omega (arith, h))

pub order_first : (len : ℕ) (ps : List SeenPart) → 0 < length ps → (length ps ≡ 1) ⊎ (is_first_kept (get_or ps 0 nobody) ≡ false)
    → Some (get_or ps 0 nobody).at ≡ seen_4 len ps
order_first len [] h e = absurd (omega (arith, h))
order_first len (p ∷ []) h e = refl
order_first len (p ∷ q ∷ ps) h e =
    ⊎_elim
    (λ (one : length (p ∷ q ∷ ps) ≡ 1). absurd (omega (arith, one)))
    (λ (other : is_first_kept p ≡ false). sym (ap (λ (b : Bool). if b then bad_behind (q ∷ ps) else Some p.at) other))
    e

pub order_behind : (len : ℕ) (ps : List SeenPart) → 2 ≤ length ps → is_first_kept (get_or ps 0 nobody) ≡ true
    → bad_behind (get_or ps 1 nobody ∷ drop 2 ps) ≡ seen_4 len ps
order_behind len [] h e = absurd (omega (arith, h))
order_behind len (p ∷ []) h e = absurd (omega (arith, h))
order_behind len (p ∷ q ∷ ps) h e = sym (ap (λ (b : Bool). if b then bad_behind (q ∷ ps) else Some p.at) e)

-- The head of a commit file tells its configuration, and a wrong head its place.
use Rattle.std.proofs.Common.{◌≡◌, inl, inr, ℕ, ◌+◌, ◌<◌, ◌≤◌, List, [], ◌∷◌, ◌++◌, length, take, drop, get_or, slice_index, Some}
use Rattle.std.proofs.Common.{refl, sym, ap, subst, ◌∙◌, arith, append_assoc}
use Rattle.std.proofs.lemmas.Bool.{cases_lt}
use Rattle.std.proofs.lemmas.List.{get_or-take, get_or_append_left, length-append, take_at, drop_at, take-append-drop}
use Rattle.std.proofs.lemmas.Option.{none-some, same_Some}
use Rattle.rec_bytes.specs.Configuration.{Fields, Spells, spelling, fields_of, first_fault}
use Rattle.rec_bytes.specs.Places.{with_bytes}
use Rattle.rec_bytes.specs.laws.Places.{with_bytes-three, with_bytes-whole}
use Rattle.rec_bytes.specs.laws.Spellings.{spelling_long}
use Rattle.commit_sidecar.specs.declared.head.TheConstants.{MAGIC}
use Rattle.commit_sidecar.specs.Refusals.{IsNoTake}
use Rattle.commit_sidecar.specs.Says.{Says, head_of}
use Rattle.commit_sidecar.specs.Looks.{BeginsHead}
use Rattle.commit_sidecar.specs.laws.Records.{length-head}

-- the spelling of a configuration spells it
pub spells_itself : (bytes : List ℕ) (cfg : Fields) → Spells bytes cfg → Spells (spelling cfg) cfg
spells_itself bytes cfg s = subst (λ (xs : List ℕ). Spells xs cfg) s.spelled s

-- the magic, the spelling and a gate, written one behind the other
pub head_is : (cfg : Fields) (old x y z bytes : List ℕ) → length old ≡ 73 → Spells bytes cfg → x ≡ with_bytes old 0 MAGIC
    → y ≡ with_bytes x 8 bytes → z ≡ with_bytes y 72 (0 ∷ []) → z ≡ head_of cfg ++ 0 ∷ []
head_is cfg old x y z bytes long s first second third =
    let size : length bytes ≡ 64 = spelling_long bytes cfg s in
    let both : length (MAGIC ++ bytes) ≡ 72 = omega (arith, length-append MAGIC bytes, size) in
    let whole : length ((MAGIC ++ bytes) ++ 0 ∷ []) ≡ length old = omega (arith, length-append (MAGIC ++ bytes) (0 ∷ []), both, long) in
    with_bytes-three old 0 8 72 MAGIC bytes (0 ∷ []) x y z refl (omega (arith, both)) (omega (arith, long)) (omega (arith, long)) first second third
    ∙ with_bytes-whole old ((MAGIC ++ bytes) ++ 0 ∷ []) whole
    ∙ ap (λ (xs : List ℕ). (MAGIC ++ xs) ++ 0 ∷ []) s.spelled

-- a head and a gate that isn't open say no marks
pub says_none : (commits : List ℕ) (cfg : Fields) → Spells (spelling cfg) cfg → commits ≡ head_of cfg ++ 0 ∷ [] → Says commits cfg []
says_none commits cfg s e = record { is_config = s; follow = tt; gate = 0; shut = λ z. omega (arith, z); rest = []; is = e }

-- the magic and a spelling behind it are a head
pub begins_head : (bytes spelled : List ℕ) (cfg : Fields) → 72 ≤ length bytes → take 8 bytes ≡ MAGIC → spelled ≡ take 64 (drop 8 bytes) → Spells spelled cfg
    → BeginsHead bytes cfg
begins_head bytes spelled cfg long magic is s = record {
  is_config = spells_itself spelled cfg s;
  rest = drop 64 (drop 8 bytes);
  is = sym (take-append-drop 8 bytes)
      ∙ ap (λ (xs : List ℕ). xs ++ drop 8 bytes) magic
      ∙ ap (λ (xs : List ℕ). MAGIC ++ xs) (sym (take-append-drop 64 (drop 8 bytes)) ∙ ap (λ (xs : List ℕ). xs ++ drop 64 (drop 8 bytes)) (sym is ∙ s.spelled))
      ∙ sym (append_assoc MAGIC (spelling cfg) (drop 64 (drop 8 bytes)));
}

-- a head that begins bytes is that of one configuration, and what stands behind it is one
pub same_head : (cfg other : Fields) (xs ys : List ℕ) → Spells (spelling cfg) cfg → Spells (spelling other) other
    → head_of cfg ++ xs ≡ head_of other ++ ys → (cfg ≡ other) × (xs ≡ ys)
same_head cfg other xs ys s t e =
    let long : length (head_of cfg) ≡ 72 = length-head cfg s in
    let other_long : length (head_of other) ≡ 72 = length-head other t in
    let heads : head_of cfg ≡ head_of other =
    sym (take_at (head_of cfg) xs 72 long) ∙ ap (λ (zs : List ℕ). take 72 zs) e ∙ take_at (head_of other) ys 72 other_long in
    let spelled : spelling cfg ≡ spelling other =
    sym (drop_at MAGIC (spelling cfg) 8 refl) ∙ ap (λ (zs : List ℕ). drop 8 zs) heads ∙ drop_at MAGIC (spelling other) 8 refl in (
      sym s.stand ∙ ap fields_of spelled ∙ t.stand,
      sym (drop_at (head_of cfg) xs 72 long) ∙ ap (λ (zs : List ℕ). drop 72 zs) e ∙ drop_at (head_of other) ys 72 other_long,
    )

-- of bytes that begin with a head none is wrong
pub no_refusal : (commits rest : List ℕ) (cfg : Fields) (at : ℕ) → Spells (spelling cfg) cfg → commits ≡ head_of cfg ++ rest → IsNoTake commits at → ⊥
no_refusal commits rest cfg at s is (inl differs) =
    let split : commits ≡ MAGIC ++ (spelling cfg ++ rest) = is ∙ append_assoc MAGIC (spelling cfg) rest in
    differs.other (ap (λ (xs : List ℕ). get_or xs at 0) split ∙ get_or_append_left MAGIC (spelling cfg ++ rest) 0 at differs.inside)
no_refusal commits rest cfg at s is (inr (inl cut)) =
    let short = cut.short in
    omega (arith, ap (length {A = ℕ}) is, length-append (head_of cfg) rest, length-head cfg s)
no_refusal commits rest cfg at s is (inr (inr breaks)) =
    let split : commits ≡ MAGIC ++ (spelling cfg ++ rest) = is ∙ append_assoc MAGIC (spelling cfg) rest in
    let behind : drop 8 commits ≡ spelling cfg ++ rest = ap (λ (xs : List ℕ). drop 8 xs) split ∙ drop_at MAGIC (spelling cfg ++ rest) 8 refl in
    let stands : take 64 (drop 8 commits) ≡ spelling cfg =
    ap (λ (xs : List ℕ). take 64 xs) behind ∙ take_at (spelling cfg) rest 64 (spelling_long (spelling cfg) cfg s) in
    none-some breaks.field (sym s.kept ∙ ap first_fault (sym stands) ∙ breaks.broken)

-- the same byte of two fronts that are the same
agrees : (n m at : ℕ) (xs ys : List ℕ) → at < n → at < m → take n xs ≡ take m ys → slice_index xs at ≡ slice_index ys at
agrees n m at xs ys p q e = sym (get_or-take n xs at 0 p) ∙ ap (λ (zs : List ℕ). get_or zs at 0) e ∙ get_or-take m ys at 0 q

-- one place is wrong first
pub one_place : (commits : List ℕ) (at other : ℕ) → IsNoTake commits at → IsNoTake commits other → at ≡ other
one_place commits at other (inl differs) (inl more) = elim (cases_lt at other) [
  | inl less ↦ absurd (differs.other (agrees other other at commits MAGIC less less more.same))
  | inr most ↦ elim (cases_lt other at) [
    | inl less ↦ absurd (more.other (agrees at at other commits MAGIC less less differs.same))
    | inr least ↦ omega arith
  ]
]
one_place commits at other (inl differs) (inr (inl cut)) =
    absurd (differs.other (agrees 8 (length commits) at commits MAGIC differs.inside differs.there cut.same))
one_place commits at other (inl differs) (inr (inr breaks)) =
    absurd (differs.other (sym (get_or-take 8 commits at 0 differs.inside) ∙ ap (λ (zs : List ℕ). get_or zs at 0) breaks.same))
one_place commits at other (inr (inl cut)) (inl differs) =
    absurd (differs.other (agrees 8 (length commits) other commits MAGIC differs.inside differs.there cut.same))
one_place commits at other (inr (inr breaks)) (inl differs) =
    absurd (differs.other (sym (get_or-take 8 commits other 0 differs.inside) ∙ ap (λ (zs : List ℕ). get_or zs other 0) breaks.same))
one_place commits at other (inr (inl cut)) (inr (inl more)) = cut.end ∙ sym more.end
one_place commits at other (inr (inl cut)) (inr (inr breaks)) = let short = cut.short in let whole = breaks.whole in absurd (omega arith)
one_place commits at other (inr (inr breaks)) (inr (inl cut)) = let short = cut.short in let whole = breaks.whole in absurd (omega arith)
one_place commits at other (inr (inr breaks)) (inr (inr more)) =
    let same : Some breaks.field ≡ Some more.field = sym breaks.broken ∙ more.broken in
    let field : breaks.field ≡ more.field = same_Some breaks.field more.field same in
    breaks.place ∙ ap (λ (n : ℕ). 8 + n) field ∙ sym more.place

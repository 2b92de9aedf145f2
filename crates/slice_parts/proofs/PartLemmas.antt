use Rattle.std.proofs.Common.{◌≡◌, ℕ, zero, suc, ℤ, pos, ◌+◌, ◌-◌, ◌*◌, List, [], ◌∷◌, ◌++◌, length, take, drop, get_or, replicate, refl, sym, ap, subst, ◌∙◌, arith, inr}
use Rattle.std.proofs.lemmas.List.{append-nil, length-append, length-drop, take_at, drop_at, drop_all, take_rest}
use borrow.Rule.Slice.PartMut.{put_mid}
use Rattle.bit_io.specs.Read.{Reading}
use Rattle.slice_parts.specs.declared.fault.PartFault.{PartFault}
use Rattle.slice_parts.specs.Joined.{ReadsAll}
use Rattle.slice_parts.specs.Dc.{DcSpells, dc_next}
use Rattle.slice_parts.specs.Dc.DcState.{First}
use Rattle.slice_parts.specs.Component.{IsComponent}
use Rattle.slice_parts.specs.Faults.{PairsBreak, Breaks, first_bit}
use Rattle.slice_parts.specs.inner.Progress.{HasPairs}
use Rattle.slice_parts.specs.laws.OneComponent.{stands}

-- zeros behind a place are zeros
pub zero_rest : (n : ℕ) (old : List ℤ) → old ≡ replicate (length old) (pos 0) → drop n old ≡ replicate (length (drop n old)) (pos 0)
zero_rest zero old e = e
zero_rest (suc n) [] e = refl
zero_rest (suc n) (x ∷ old) e = zero_rest n old (ap (drop 1) e)

-- and so are those before it
pub zero_front : (n : ℕ) (old : List ℤ) → old ≡ replicate (length old) (pos 0) → take n old ≡ replicate (length (take n old)) (pos 0)
zero_front zero old e = refl
zero_front (suc n) [] e = refl
zero_front (suc n) (x ∷ old) e =
    ap (λ (zs : List ℤ). get_or zs 0 (pos 0) ∷ take n old) e ∙ ap (λ (zs : List ℤ). pos 0 ∷ zs) (zero_front n old (ap (drop 1) e))

-- the levels behind the first ones, once those are written
pub behind_dc : (n : ℕ) (dc old : List ℤ) → length dc ≡ n → take (length (dc ++ drop n old) - n) (drop n (dc ++ drop n old)) ≡ drop n old
behind_dc n dc old long = take_rest (dc ++ drop n old) n ∙ drop_at dc (drop n old) n long

-- all levels, once the others are written as well
pub all_levels : (n : ℕ) (dc others old : List ℤ) → length dc ≡ n → put_mid n (length (dc ++ drop n old) - n) (dc ++ drop n old) others ≡ dc ++ others
all_levels n dc others old long =
    let whole : List ℤ = dc ++ drop n old in
    let none : drop (length whole - n) (drop n whole) ≡ [] = drop_all (length whole - n) (drop n whole) (omega (arith, length-drop n whole)) in
    ap (λ (zs : List ℤ). zs ++ (others ++ drop (length whole - n) (drop n whole))) (take_at dc (drop n old) n long) ∙ ap (λ (zs : List ℤ). dc ++ zs) (ap (λ (zs : List ℤ). others ++ zs) none ∙ append-nil others)

pub at_first_bit : (start : Reading) (bits : List ℕ) → start.place ≡ 0 → start.left ≡ bits → start ≡ first_bit bits
at_first_bit start bits first all =
    ap (λ (n : ℕ). reading n start.left) first ∙ ap (reading 0) all
  where
    reading : ℕ → List ℕ → Reading
    reading n left = record { place = n; left = left }

pub part_stands : (n : ℕ) (bits : List ℕ) (start middle : Reading) (dc others old : List ℤ) → start.left ≡ bits → length dc ≡ n → length dc + length others ≡ 64 * n
    → ReadsAll DcSpells dc_next First start middle dc → HasPairs middle others
    → IsComponent n bits (put_mid n (length (dc ++ drop n old) - n) (dc ++ drop n old) others)
part_stands n bits start middle dc others old all long whole first pairs =
    subst (IsComponent n bits) (sym (all_levels n dc others old long))
    (stands n bits start middle (dc ++ others) all (length-append dc others ∙ whole)
    (subst (ReadsAll DcSpells dc_next First start middle) (sym (take_at dc others n long)) first)
    (subst (HasPairs middle) (sym (drop_at dc others n long)) pairs))

pub others_break : (n count : ℕ) (bits : List ℕ) (start middle : Reading) (dc : List ℤ) (fault : PartFault) → start ≡ first_bit bits → length dc ≡ n → count ≡ 63 * n
    → ReadsAll DcSpells dc_next First start middle dc → PairsBreak middle count fault → Breaks n bits fault
others_break n count bits start middle dc fault first long others read breaks = inr (record {
  dc = dc;
  middle = middle;
  all = long;
  read = subst (λ (s : Reading). ReadsAll DcSpells dc_next First s middle dc) first read;
  pairs = subst (λ (k : ℕ). PairsBreak middle k fault) others breaks;
})

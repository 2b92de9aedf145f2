-- Laws of DC levels that stand in bits: proved here, for proofs to cite.
use Rattle.std.proofs.Common.{◌≡◌, ℕ, ℤ, pos, negsuc, neg_ℤ, ◌-ℤ◌, List, [], ◌∷◌, ◌++◌, length, sym, ap, ◌∙◌, arith}
use Rattle.std.specs.List.{fold}
use Rattle.std.proofs.lemmas.Int.{ints}
use Rattle.std.proofs.lemmas.List.{append_assoc, length-append}
use Rattle.bit_io.specs.Read.{Reading}
use Rattle.prores_codes.specs.Folded.{folded}
use Rattle.prores_codes.specs.laws.Apart.{spellings_are_apart}
use Rattle.slice_parts.specs.declared.fault.PartFault.{PartFault}
use Rattle.slice_parts.specs.Dc.{DcState, DcSpells, dc_next, dc_number, dc_code_of, IsDc}
use Rattle.slice_parts.specs.Dc.DcState.{First, Behind}
use Rattle.slice_parts.specs.Faults.{DcBreaks}
use Rattle.slice_parts.specs.laws.JoinedLaws.{IsApart, goes_on}

folded_one : (x y : ℤ) → folded x ≡ folded y → x ≡ y
folded_one (pos m) (pos n) e = ap pos (omega (arith, e))
folded_one (pos m) (negsuc n) e = absurd (omega (arith, e))
folded_one (negsuc m) (pos n) e = absurd (omega (arith, e))
folded_one (negsuc m) (negsuc n) e = ap negsuc (omega (arith, e))

number_one : (s : DcState) (x y : ℤ) → dc_number s x ≡ dc_number s y → x ≡ y
number_one First x y e = folded_one x y e
number_one (Behind b (pos d)) x y e = omega (arith, ints, folded_one (x -ℤ b) (y -ℤ b) e)
number_one (Behind b (negsuc d)) x y e = omega (arith, ints, folded_one (neg_ℤ (x -ℤ b)) (neg_ℤ (y -ℤ b)) e)

-- no level's spelling is the beginning of another's
pub dc_apart : IsApart DcSpells
dc_apart s one two u v x y a b e =
    let r = spellings_are_apart (dc_code_of s) one two u v (dc_number s x) (dc_number s y) a b e in
    (r.0, number_one s x y r.1)

-- where the DC levels break off no whole list of them stands
pub dc_breaks_none : (start : Reading) (count : ℕ) (fault : PartFault) (levels : List ℤ) (s rest : List ℕ) → DcBreaks start count fault → length levels ≡ count → IsDc First levels s → start.left ≡ s ++ rest → ⊥
dc_breaks_none start count fault levels s rest breaks long is e =
    let r = goes_on DcSpells dc_next dc_apart First breaks.levels levels breaks.read.spelled breaks.here.left s rest breaks.read.coded is (sym breaks.read.taken.left ∙ e) (omega (arith, breaks.few, long)) in
    behind r.more r.rest r.items r.coded r.left
  where
    behind : (more : List ℤ) (bits : List ℕ) → levels ≡ breaks.levels ++ more → IsDc (fold dc_next First breaks.levels) more bits → breaks.here.left ≡ bits ++ rest → ⊥
    behind [] bits items coded left = absurd (omega (arith, ap length items, length-append breaks.levels [], long, breaks.few))
    behind (x ∷ more) bits items coded left =
        breaks.none.none (dc_number (fold dc_next First breaks.levels) x) coded.one (coded.rest ++ rest) coded.head
        (left ∙ (ap (λ (bs : List ℕ). bs ++ rest) coded.joined ∙ append_assoc coded.one coded.rest rest))

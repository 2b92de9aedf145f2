-- Laws of parts that stand in bits: proved here, for proofs to cite.
use Rattle.std.proofs.Common.{◌≡◌, ℕ, ℤ, ◌+◌, ◌-◌, ◌*◌, List, ◌++◌, length, take, drop, refl, sym, ap, ◌∙◌, arith, inl, inr}
use Rattle.std.proofs.lemmas.List.{append_assoc, take-append-drop, length-take, length-drop}
use Rattle.bit_io.specs.Read.{Reading}
use Rattle.bit_io.specs.Bits.{bits_of, zeros}
use Rattle.bit_io.specs.laws.BitLaws.{length-zeros}
use Rattle.slice_parts.specs.declared.fault.PartFault.{PartFault}
use Rattle.slice_parts.specs.Joined.{ReadsAll}
use Rattle.slice_parts.specs.Dc.{DcSpells, dc_next}
use Rattle.slice_parts.specs.Dc.DcState.{First}
use Rattle.slice_parts.specs.Pairs.{ArePairsOf, first_pair}
use Rattle.slice_parts.specs.Component.{IsSpelled, IsComponent, IsPadded, IsEnd}
use Rattle.slice_parts.specs.Faults.{Breaks, first_bit}
use Rattle.slice_parts.specs.inner.Progress.{HasPairs}
use Rattle.slice_parts.specs.laws.JoinedLaws.{same_items}
use Rattle.slice_parts.specs.laws.DcApart.{dc_apart, dc_breaks_none}
use Rattle.slice_parts.specs.laws.PairsApart.{pairs_one, pairs_break_none}

-- pairs of levels that stand at a place, and zeros alone behind them
pub pairs_stand : (start : Reading) (levels : List ℤ) (bits left : List ℕ) → ArePairsOf first_pair 0 levels bits → start.left ≡ bits ++ left → IsEnd left → HasPairs start levels
pairs_stand start levels bits left are e end = record {
  pairs = are.pairs;
  here = record { place = start.place + length bits; left = left };
  read = record { spelled = bits; coded = are.coded; taken = record { left = e; place = refl } };
  entries = (are.behind, are.entries);
  ended = end;
}

-- bits have one list of levels
pub component_one : (blocks : ℕ) (bits : List ℕ) (a b : List ℤ) → IsComponent blocks bits a → IsComponent blocks bits b → a ≡ b
component_one blocks bits a b one two =
    let ra : List ℕ = one.levels_are.part.rest ++ one.left in
    let rb : List ℕ = two.levels_are.part.rest ++ two.left in
    let ea : bits ≡ one.levels_are.part.one ++ ra = one.joined ∙ (ap (λ (bs : List ℕ). bs ++ one.left) one.levels_are.part.joined ∙ append_assoc one.levels_are.part.one one.levels_are.part.rest one.left) in
    let eb : bits ≡ two.levels_are.part.one ++ rb = two.joined ∙ (ap (λ (bs : List ℕ). bs ++ two.left) two.levels_are.part.joined ∙ append_assoc two.levels_are.part.one two.levels_are.part.rest two.left) in
    let front : length (take blocks a) ≡ length (take blocks b) = omega (arith, length-take blocks a, length-take blocks b, one.levels_are.long, two.levels_are.long) in
    let behind : length (drop blocks a) ≡ length (drop blocks b) = omega (arith, length-drop blocks a, length-drop blocks b, one.levels_are.long, two.levels_are.long) in
    let dc = same_items DcSpells dc_next dc_apart First (take blocks a) (take blocks b) one.levels_are.part.one ra two.levels_are.part.one rb one.levels_are.part.head two.levels_are.part.head (sym ea ∙ eb) front in
    let start : Reading = record { place = 0; left = ra } in
    let rest : drop blocks a ≡ drop blocks b = pairs_one start (drop blocks a) (drop blocks b)
    (pairs_stand start (drop blocks a) one.levels_are.part.rest one.left one.levels_are.part.tail refl one.ended)
    (pairs_stand start (drop blocks b) two.levels_are.part.rest two.left two.levels_are.part.tail dc.1 two.ended) behind in
    sym (take-append-drop blocks a) ∙ (ap (λ (zs : List ℤ). zs ++ drop blocks a) dc.0 ∙ (ap (λ (zs : List ℤ). take blocks b ++ zs) rest ∙ take-append-drop blocks b))

-- where the bits break off they are no component
pub breaks_none : (blocks : ℕ) (bits : List ℕ) (fault : PartFault) (levels : List ℤ) → Breaks blocks bits fault → IsComponent blocks bits levels → ⊥
breaks_none blocks bits fault levels breaks is = cases breaks
  where
    behind : List ℕ
    behind = is.levels_are.part.rest ++ is.left

    whole : bits ≡ is.levels_are.part.one ++ behind
    whole = is.joined ∙ (ap (λ (bs : List ℕ). bs ++ is.left) is.levels_are.part.joined ∙ append_assoc is.levels_are.part.one is.levels_are.part.rest is.left)

    front : length (take blocks levels) ≡ blocks
    front = omega (arith, length-take blocks levels, is.levels_are.long)

    cases : Breaks blocks bits fault → ⊥
    cases (inl b) = dc_breaks_none (first_bit bits) blocks fault (take blocks levels) is.levels_are.part.one behind b front is.levels_are.part.head whole
    cases (inr b) =
        let read = b.read in
        let same = same_items DcSpells dc_next dc_apart First b.dc (take blocks levels) read.spelled b.middle.left is.levels_are.part.one behind read.coded is.levels_are.part.head (sym read.taken.left ∙ whole) (b.all ∙ sym front) in
        pairs_break_none b.middle (63 * blocks) fault (drop blocks levels) b.pairs (pairs_stand b.middle (drop blocks levels) is.levels_are.part.rest is.left is.levels_are.part.tail same.1 is.ended) (omega (arith, length-drop blocks levels, is.levels_are.long))

-- DC levels and pairs that stand from the first bit on, and zeros alone behind them, are a component
pub stands : (blocks : ℕ) (bits : List ℕ) (start middle : Reading) (levels : List ℤ) → start.left ≡ bits → length levels ≡ 64 * blocks
    → ReadsAll DcSpells dc_next First start middle (take blocks levels) → HasPairs middle (drop blocks levels) → IsComponent blocks bits levels
stands blocks bits start middle levels first long dc pairs = record {
  spelled = dc.spelled ++ pairs.read.spelled;
  left = pairs.here.left;
  levels_are = record {
    long = long;
    part = record {
      one = dc.spelled;
      rest = pairs.read.spelled;
      head = dc.coded;
      tail = record { pairs = pairs.pairs; behind = pairs.entries.0; entries = pairs.entries.1; coded = pairs.read.coded };
      joined = refl;
    };
  };
  joined = sym first ∙ (dc.taken.left ∙ (ap (λ (bs : List ℕ). dc.spelled ++ bs) pairs.read.taken.left ∙ sym (append_assoc dc.spelled pairs.read.spelled pairs.here.left)));
  ended = pairs.ended;
}

-- what is written is read again
pub spelled_is_read : (blocks : ℕ) (levels : List ℤ) (spelled bytes : List ℕ) → IsSpelled blocks levels spelled → IsPadded spelled bytes → IsComponent blocks (bits_of bytes) levels
spelled_is_read blocks levels spelled bytes is padded =
    let n : ℕ = 8 * length bytes - length spelled in
    record {
      spelled = spelled;
      left = zeros n;
      levels_are = is;
      joined = padded.bits;
      ended = ap zeros (sym (length-zeros n));
    }

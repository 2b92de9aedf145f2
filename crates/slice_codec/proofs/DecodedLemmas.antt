-- How a slice is read part by part.
use Rattle.std.proofs.Common.{◌≡◌, ◌-◌, ℕ, ℤ, List, [], ◌++◌, length, take, drop, arith, ap, ◌∙◌}
use Rattle.std.proofs.lemmas.List.{append-nil, length-drop, take_at, drop_at, drop_all, take_rest}
use borrow.Rule.Slice.PartMut.{put_mid}
use Rattle.std.proofs.lemmas.Slice.{take-put_mid}
use Rattle.bit_io.specs.Bits.{bits_of}
use Rattle.prores_scan.specs.WeightsAndScales.{scale_of}
use Rattle.prores_scan.specs.declared.products.CoefficientRange.{CoefficientRange as ProductFault}
use Rattle.slice_parts.specs.Component.{IsComponent}
use Rattle.slice_levels.specs.Products.{InRange, IsFirstAbove}
use Rattle.slice_levels.specs.Rebuilt.{AreRebuilt}
use Rattle.picture_plane.specs.declared.planes.Plane.{Plane}
use Rattle.picture_plane.specs.Blocks.{blocks_of}
use Rattle.slice_codec.specs.Setups.{Setup, weights_of}
use Rattle.slice_codec.specs.Slices.{MeansPart, index_of, part_bytes}
use Rattle.slice_codec.specs.Faults.{Reaches, PassesRange}

-- levels that were read into the front of a longer list are that front
pub front_is : (n : ℕ) (old levels : List ℤ) → length levels ≡ n → take n (put_mid 0 n old levels) ≡ levels
front_is n old levels long = take-put_mid 0 n old levels n (omega (arith, long)) (omega arith)

-- what stands behind the front of a list, once that is written
pub two_rest : (n : ℕ) (front old : List ℤ) → length front ≡ n → take (length (front ++ drop n old) - n) (drop n (front ++ drop n old)) ≡ drop n old
two_rest n front old long = take_rest (front ++ drop n old) n ∙ drop_at front (drop n old) n long

-- a list whose front is written and then the rest
pub two_parts : (n : ℕ) (front back old : List ℤ) → length front ≡ n → put_mid n (length (front ++ drop n old) - n) (front ++ drop n old) back ≡ front ++ back
two_parts n front back old long =
    let whole : List ℤ = front ++ drop n old in
    let none : drop (length whole - n) (drop n whole) ≡ [] = drop_all (length whole - n) (drop n whole) (omega (arith, length-drop n whole)) in
    ap (λ (zs : List ℤ). zs ++ (back ++ drop (length whole - n) (drop n whole))) (take_at front (drop n old) n long)
    ∙ ap (λ (zs : List ℤ). front ++ zs) (ap (λ (zs : List ℤ). back ++ zs) none ∙ append-nil back)

-- a part is read from its bits, and its blocks are given back
pub decoded_part : (setup : Setup) (count n scale : ℕ) (bytes : List ℕ) (plane : Plane) (weights : List ℕ) (front levels : List ℤ) (blocks rebuilt : List (List ℕ))
    → weights ≡ weights_of setup plane → scale ≡ scale_of (index_of bytes) → n ≡ blocks_of plane count → front ≡ levels → blocks ≡ rebuilt → length rebuilt ≡ n
    → IsComponent (blocks_of plane count) (bits_of (part_bytes bytes plane)) levels
    → InRange setup.scan weights scale n front → AreRebuilt setup.scan weights scale front rebuilt
    → MeansPart setup (index_of bytes) plane (part_bytes bytes plane) blocks
decoded_part setup count n scale bytes plane weights front levels blocks rebuilt of_plane of_index due same put long coded in_range given =
    let all : length blocks ≡ blocks_of plane count = ap length put ∙ long ∙ due in
    record {
      levels = levels;
      coded = rw all coded;
      in_range = rw (all, ← due, ← of_plane, ← of_index, ← same) in_range;
      rebuilt = rw (← of_plane, ← of_index, ← same, put) given;
    }

-- a part is read from its bits, and a product is out of range
pub passing_part : (setup : Setup) (count n scale : ℕ) (bytes : List ℕ) (plane : Plane) (weights : List ℕ) (front levels : List ℤ) (fault : ProductFault)
    → weights ≡ weights_of setup plane → scale ≡ scale_of (index_of bytes) → n ≡ blocks_of plane count → front ≡ levels
    → IsComponent (blocks_of plane count) (bits_of (part_bytes bytes plane)) levels → Reaches setup count bytes plane
    → IsFirstAbove setup.scan weights scale n front fault
    → PassesRange setup count bytes fault
passing_part setup count n scale bytes plane weights front levels fault of_plane of_index due same coded reached first = record {
  plane = plane;
  reached = reached;
  first = record { levels = levels; coded = coded; first = rw (← due, ← of_plane, ← of_index, ← same) first };
}

-- Bytes that are no slice have one first fault: proved here, for proofs to cite.
use Rattle.std.proofs.Common.{◌≡◌, ◌<◌, ◌≤◌, ◌+◌, ◌*◌, ◌⊎◌, inl, inr, ⊎_elim, ℕ, ℤ, List, length, refl, sym, ap, ap₂, subst, ◌∙◌, arith}
use Rattle.std.proofs.lemmas.Bool.{cases_order}
use Rattle.bit_io.specs.Bits.{bits_of}
use Rattle.prores_scan.specs.WeightsAndScales.{scale_of}
use Rattle.prores_scan.specs.declared.scans.Scan.{Scan}
use Rattle.prores_scan.specs.declared.products.CoefficientRange.{CoefficientRange as ProductFault}
use Rattle.slice_parts.specs.Faults.{Breaks}
use Rattle.slice_parts.specs.declared.fault.PartFault.{PartFault}
use Rattle.slice_parts.specs.declared.fault.PartFault.TheVariants as part_fault
use Rattle.slice_parts.specs.laws.OneComponent.{component_one, breaks_none}
use Rattle.slice_parts.specs.laws.OneBreakLaws.{breaks_one}
use Rattle.slice_levels.specs.Products.{InRange, IsFirstAbove}
use Rattle.picture_plane.specs.declared.planes.Plane.{Plane}
use Rattle.picture_plane.specs.declared.planes.Plane.TheVariants.{Y, Cb, Cr}
use Rattle.picture_plane.specs.Blocks.{blocks_of}
use Rattle.slice_codec.specs.Setups.{Setup, weights_of}
use Rattle.slice_codec.specs.Slices.{HasSize, head_size, index_of, y_len, cb_len, part_bytes}
use Rattle.slice_codec.specs.Faults.{IsSoundPart, IsOutOfRange, BreaksFirst, PassesRange, Reaches, Refuses, number_of}
use Rattle.slice_codec.specs.declared.fault.SliceFault.{SliceFault}
use Rattle.slice_codec.specs.declared.fault.SliceFault.TheVariants.{SliceShort, SliceHeader, Index, Parts, BitsEnd, TooLong, RunPast, CoefficientRange}

-- a product's number, block by block and each in raster order
abbrev product_number : ProductFault → ℕ
product_number fault = 64 * fault.block + fault.place

-- the first product above 2^22 has no other before it
not_earlier : (scan : Scan) (weights : List ℕ) (scale count : ℕ) (levels : List ℤ) (a b : ProductFault) → IsFirstAbove scan weights scale count levels a
    → IsFirstAbove scan weights scale count levels b → product_number a < product_number b → ⊥
not_earlier scan weights scale count levels a b one two lt =
    omega (arith, one.above, two.first a.block one.k one.within one.position.within (omega (arith, lt, one.position.entry)))

-- and is one
first_above_one : (scan : Scan) (weights : List ℕ) (scale count : ℕ) (levels : List ℤ) (a b : ProductFault) → IsFirstAbove scan weights scale count levels a
    → IsFirstAbove scan weights scale count levels b → CoefficientRange a.block a.place ≡ CoefficientRange b.block b.place
first_above_one scan weights scale count levels a b one two =
    elim (cases_order (product_number a) (product_number b)) [
      | inl same ↦
          let block : a.block ≡ b.block = omega (arith, same, one.position.place_within, two.position.place_within) in
          let place : a.place ≡ b.place = omega (arith, same, block) in
          ap₂ (λ (m n : ℕ). CoefficientRange m n) block place
      | inr (inl lt) ↦ absurd (not_earlier scan weights scale count levels a b one two lt)
      | inr (inr gt) ↦ absurd (not_earlier scan weights scale count levels b a two one gt)
    ]

-- a part's fault as the slice's
abbrev of_part : ℕ → PartFault → SliceFault
of_part part (part_fault.BitsEnd at) = BitsEnd part at
of_part part (part_fault.TooLong at) = TooLong part at
of_part part (part_fault.RunPast at) = RunPast part at

-- the bits of a plane's part break off
record IsBroken (setup : Setup) (count : ℕ) (bytes : List ℕ) (plane : Plane) (fault : SliceFault) : Type 0 where
  of : PartFault
  breaks : Breaks (blocks_of plane count) (bits_of (part_bytes bytes plane)) of
  is : fault ≡ of_part (number_of plane) of

-- or one of its products is out of range
record IsAbove (setup : Setup) (count : ℕ) (bytes : List ℕ) (plane : Plane) (fault : SliceFault) : Type 0 where
  of : ProductFault
  first : IsOutOfRange setup count bytes plane of
  is : fault ≡ CoefficientRange of.block of.place

-- a plane's part is not sound
abbrev IsUnsound : Setup → ℕ → List ℕ → Plane → SliceFault → Type 0
IsUnsound setup count bytes plane fault = IsBroken setup count bytes plane fault ⊎ IsAbove setup count bytes plane fault

unsound_part : (setup : Setup) (count : ℕ) (bytes : List ℕ) (plane : Plane) (fault : SliceFault) → IsUnsound setup count bytes plane fault
    → IsSoundPart setup count bytes plane → ⊥
unsound_part setup count bytes plane fault (inl broken) sound =
    breaks_none (blocks_of plane count) (bits_of (part_bytes bytes plane)) broken.of sound.levels broken.breaks sound.coded
unsound_part setup count bytes plane fault (inr above) sound =
    let n = blocks_of plane count in
    let out = above.first in
    let first = out.first in
    let same = component_one n (bits_of (part_bytes bytes plane)) sound.levels out.levels sound.coded out.coded in
    let in_range = subst (λ (levels : List ℤ). InRange setup.scan (weights_of setup plane) (scale_of (index_of bytes)) n levels) same sound.in_range in
    let small = in_range above.of.block first.k first.within first.position.within in
    absurd (omega (arith, small, first.above))

-- and that has one first fault
unsound_one : (setup : Setup) (count : ℕ) (bytes : List ℕ) (plane : Plane) (a b : SliceFault) → IsUnsound setup count bytes plane a
    → IsUnsound setup count bytes plane b → a ≡ b
unsound_one setup count bytes plane a b (inl one) (inl two) =
    let same = breaks_one (blocks_of plane count) (bits_of (part_bytes bytes plane)) one.of two.of one.breaks two.breaks in
    one.is ∙ ap (of_part (number_of plane)) same ∙ sym two.is
unsound_one setup count bytes plane a b (inl one) (inr two) =
    absurd (breaks_none (blocks_of plane count) (bits_of (part_bytes bytes plane)) one.of two.first.levels one.breaks two.first.coded)
unsound_one setup count bytes plane a b (inr one) (inl two) =
    absurd (breaks_none (blocks_of plane count) (bits_of (part_bytes bytes plane)) two.of one.first.levels two.breaks one.first.coded)
unsound_one setup count bytes plane a b (inr one) (inr two) =
    let n = blocks_of plane count in
    let weights = weights_of setup plane in
    let scale = scale_of (index_of bytes) in
    let same = component_one n (bits_of (part_bytes bytes plane)) one.first.levels two.first.levels one.first.coded two.first.coded in
    let first = subst (λ (levels : List ℤ). IsFirstAbove setup.scan weights scale n levels one.of) same one.first.first in
    one.is ∙ first_above_one setup.scan weights scale n two.first.levels one.of two.of first two.first.first ∙ sym two.is

-- the part of a plane is the first that is not sound
record FailsFirst (setup : Setup) (count : ℕ) (bytes : List ℕ) (fault : SliceFault) : Type 0 where
  plane : Plane
  reached : Reaches setup count bytes plane
  unsound : IsUnsound setup count bytes plane fault

-- a plane is known by its number
plane_one : (p q : Plane) → number_of p ≡ number_of q → p ≡ q
plane_one Y Y e = refl
plane_one Y Cb e = absurd (omega (arith, e))
plane_one Y Cr e = absurd (omega (arith, e))
plane_one Cb Y e = absurd (omega (arith, e))
plane_one Cb Cb e = refl
plane_one Cb Cr e = absurd (omega (arith, e))
plane_one Cr Y e = absurd (omega (arith, e))
plane_one Cr Cb e = absurd (omega (arith, e))
plane_one Cr Cr e = refl

parts_one : (setup : Setup) (count : ℕ) (bytes : List ℕ) (a b : SliceFault) → FailsFirst setup count bytes a → FailsFirst setup count bytes b → a ≡ b
parts_one setup count bytes a b one two =
    elim (cases_order (number_of one.plane) (number_of two.plane)) [
      | inl same ↦
          let unsound = subst (λ (plane : Plane). IsUnsound setup count bytes plane a) (plane_one one.plane two.plane same) one.unsound in
          unsound_one setup count bytes two.plane a b unsound two.unsound
      | inr (inl lt) ↦ absurd (unsound_part setup count bytes one.plane a one.unsound (two.reached.before one.plane lt))
      | inr (inr gt) ↦ absurd (unsound_part setup count bytes two.plane b two.unsound (one.reached.before two.plane gt))
    ]

-- the causes, each where none before it stands
record IsShort (bytes : List ℕ) (fault : SliceFault) : Type 0 where
  below : length bytes < 6
  is : fault ≡ SliceShort (length bytes)

record HasNoSize (bytes : List ℕ) (fault : SliceFault) : Type 0 where
  long : 6 ≤ length bytes
  out : (head_size bytes < 6) ⊎ (length bytes < head_size bytes)
  is : fault ≡ SliceHeader 0

record HasNoIndex (bytes : List ℕ) (fault : SliceFault) : Type 0 where
  sized : HasSize bytes
  out : (index_of bytes ≡ 0) ⊎ (224 < index_of bytes)
  is : fault ≡ Index 1

record HasNoParts (bytes : List ℕ) (fault : SliceFault) : Type 0 where
  sized : HasSize bytes
  some : 1 ≤ index_of bytes
  most : index_of bytes ≤ 224
  past : length bytes < head_size bytes + y_len bytes + cb_len bytes
  is : fault ≡ Parts 2

abbrev FailsBehindIndex : Setup → ℕ → List ℕ → SliceFault → Type 0
FailsBehindIndex setup count bytes fault = HasNoParts bytes fault ⊎ FailsFirst setup count bytes fault

abbrev FailsBehindSize : Setup → ℕ → List ℕ → SliceFault → Type 0
FailsBehindSize setup count bytes fault = HasNoIndex bytes fault ⊎ FailsBehindIndex setup count bytes fault

abbrev FailsBehindLength : Setup → ℕ → List ℕ → SliceFault → Type 0
FailsBehindLength setup count bytes fault = HasNoSize bytes fault ⊎ FailsBehindSize setup count bytes fault

abbrev Fails : Setup → ℕ → List ℕ → SliceFault → Type 0
Fails setup count bytes fault = IsShort bytes fault ⊎ FailsBehindLength setup count bytes fault

-- a part that breaks first is the first that is not sound
broken_first : (setup : Setup) (count : ℕ) (bytes : List ℕ) (part : ℕ) (of : PartFault) → BreaksFirst setup count bytes part of
    → FailsFirst setup count bytes (of_part part of)
broken_first setup count bytes part of first = record {
  plane = first.plane;
  reached = first.reached;
  unsound = inl (record { of = of; breaks = first.breaks; is = ap (λ (n : ℕ). of_part n of) first.numbered });
}

above_first : (setup : Setup) (count : ℕ) (bytes : List ℕ) (of : ProductFault) → PassesRange setup count bytes of
    → FailsFirst setup count bytes (CoefficientRange of.block of.place)
above_first setup count bytes of first = record {
  plane = first.plane;
  reached = first.reached;
  unsound = inr (record { of = of; first = first.first; is = refl });
}

-- what is refused fails in the order of the causes
fails : (setup : Setup) (count : ℕ) (bytes : List ℕ) (fault : SliceFault) → Refuses setup count bytes fault → Fails setup count bytes fault
fails setup count bytes (SliceShort at) r = inl (record { below = r.1; is = ap SliceShort r.0 })
fails setup count bytes (SliceHeader at) r = inr (inl (record { long = r.1; out = r.2; is = ap SliceHeader r.0 }))
fails setup count bytes (Index at) r = inr (inr (inl (record { sized = r.1; out = r.2; is = ap Index r.0 })))
fails setup count bytes (Parts at) r =
    inr (inr (inr (inl (record { sized = r.1; some = r.2; most = r.3; past = r.4; is = ap Parts r.0 }))))
fails setup count bytes (BitsEnd part at) r = inr (inr (inr (inr (broken_first setup count bytes part (part_fault.BitsEnd at) r))))
fails setup count bytes (TooLong part at) r = inr (inr (inr (inr (broken_first setup count bytes part (part_fault.TooLong at) r))))
fails setup count bytes (RunPast part at) r = inr (inr (inr (inr (broken_first setup count bytes part (part_fault.RunPast at) r))))
fails setup count bytes (CoefficientRange block place) r =
    inr (inr (inr (inr (above_first setup count bytes (record { block = block; place = place }) r))))

-- what fails behind a cause's place doesn't have that cause
has_parts : (setup : Setup) (count : ℕ) (bytes : List ℕ) (a b : SliceFault) → HasNoParts bytes a → FailsFirst setup count bytes b → ⊥
has_parts setup count bytes a b none has = omega (arith, none.past, has.reached.head.parts)

has_index : (setup : Setup) (count : ℕ) (bytes : List ℕ) (a : SliceFault) → FailsBehindIndex setup count bytes a → (1 ≤ index_of bytes) × (index_of bytes ≤ 224)
has_index setup count bytes a (inl has) = (has.some, has.most)
has_index setup count bytes a (inr has) = (has.reached.head.some, has.reached.head.most)

has_size : (setup : Setup) (count : ℕ) (bytes : List ℕ) (a : SliceFault) → FailsBehindSize setup count bytes a → HasSize bytes
has_size setup count bytes a (inl has) = has.sized
has_size setup count bytes a (inr (inl has)) = has.sized
has_size setup count bytes a (inr (inr has)) = has.reached.head.sized

is_long : (setup : Setup) (count : ℕ) (bytes : List ℕ) (a : SliceFault) → FailsBehindLength setup count bytes a → 6 ≤ length bytes
is_long setup count bytes a (inl has) = has.long
is_long setup count bytes a (inr has) = (has_size setup count bytes a has).long

no_index : (setup : Setup) (count : ℕ) (bytes : List ℕ) (a b : SliceFault) → HasNoIndex bytes a → FailsBehindIndex setup count bytes b → ⊥
no_index setup count bytes a b none behind =
    let has = has_index setup count bytes b behind in
    ⊎_elim (λ e. absurd (omega (arith, e, has.0))) (λ lt. absurd (omega (arith, lt, has.1))) none.out

no_size : (setup : Setup) (count : ℕ) (bytes : List ℕ) (a b : SliceFault) → HasNoSize bytes a → FailsBehindSize setup count bytes b → ⊥
no_size setup count bytes a b none behind =
    let has = has_size setup count bytes b behind in
    ⊎_elim (λ lt. absurd (omega (arith, lt, has.size))) (λ lt. absurd (omega (arith, lt, has.within))) none.out

-- one cause after the other
behind_index_one : (setup : Setup) (count : ℕ) (bytes : List ℕ) (a b : SliceFault) → FailsBehindIndex setup count bytes a
    → FailsBehindIndex setup count bytes b → a ≡ b
behind_index_one setup count bytes a b (inl one) (inl two) = one.is ∙ sym two.is
behind_index_one setup count bytes a b (inl one) (inr two) = absurd (has_parts setup count bytes a b one two)
behind_index_one setup count bytes a b (inr one) (inl two) = absurd (has_parts setup count bytes b a two one)
behind_index_one setup count bytes a b (inr one) (inr two) = parts_one setup count bytes a b one two

behind_size_one : (setup : Setup) (count : ℕ) (bytes : List ℕ) (a b : SliceFault) → FailsBehindSize setup count bytes a
    → FailsBehindSize setup count bytes b → a ≡ b
behind_size_one setup count bytes a b (inl one) (inl two) = one.is ∙ sym two.is
behind_size_one setup count bytes a b (inl one) (inr two) = absurd (no_index setup count bytes a b one two)
behind_size_one setup count bytes a b (inr one) (inl two) = absurd (no_index setup count bytes b a two one)
behind_size_one setup count bytes a b (inr one) (inr two) = behind_index_one setup count bytes a b one two

behind_length_one : (setup : Setup) (count : ℕ) (bytes : List ℕ) (a b : SliceFault) → FailsBehindLength setup count bytes a
    → FailsBehindLength setup count bytes b → a ≡ b
behind_length_one setup count bytes a b (inl one) (inl two) = one.is ∙ sym two.is
behind_length_one setup count bytes a b (inl one) (inr two) = absurd (no_size setup count bytes a b one two)
behind_length_one setup count bytes a b (inr one) (inl two) = absurd (no_size setup count bytes b a two one)
behind_length_one setup count bytes a b (inr one) (inr two) = behind_size_one setup count bytes a b one two

fails_one : (setup : Setup) (count : ℕ) (bytes : List ℕ) (a b : SliceFault) → Fails setup count bytes a → Fails setup count bytes b → a ≡ b
fails_one setup count bytes a b (inl one) (inl two) = one.is ∙ sym two.is
fails_one setup count bytes a b (inl one) (inr two) = absurd (omega (arith, one.below, is_long setup count bytes b two))
fails_one setup count bytes a b (inr one) (inl two) = absurd (omega (arith, two.below, is_long setup count bytes a one))
fails_one setup count bytes a b (inr one) (inr two) = behind_length_one setup count bytes a b one two

-- bytes that are no slice are refused by one fault
pub slice_refusals_are_one : (setup : Setup) (count : ℕ) (bytes : List ℕ) (a b : SliceFault) → Refuses setup count bytes a → Refuses setup count bytes b → a ≡ b
slice_refusals_are_one setup count bytes a b one two =
    fails_one setup count bytes a b (fails setup count bytes a one) (fails setup count bytes b two)

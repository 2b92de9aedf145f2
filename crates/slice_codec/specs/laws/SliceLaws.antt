-- Laws of what a slice's bytes mean: proved here, for proofs to cite.
use Rattle.std.proofs.Common.{◌≡◌, ◌<◌, ◌+◌, ℕ, ℤ, List, [], length, drop, arith, sym, ap, subst, ◌∙◌, ⊎_elim, slice_index, get_or}
use Rattle.std.proofs.lemmas.List.{get_or-take, get_or-drop}
use Rattle.bit_io.specs.Bits.{bits_of}
use Rattle.prores_scan.specs.WeightsAndScales.{scale_of}
use Rattle.prores_scan.specs.declared.products.CoefficientRange.{CoefficientRange as ProductFault}
use Rattle.slice_parts.specs.Component.{IsComponent}
use Rattle.slice_parts.specs.declared.fault.PartFault.{PartFault}
use Rattle.slice_parts.specs.declared.fault.PartFault.TheVariants as part_fault
use Rattle.slice_parts.specs.laws.OneComponent.{component_one, breaks_none}
use Rattle.slice_levels.specs.Products.{InRange}
use Rattle.slice_levels.specs.Rebuilt.{AreRebuilt}
use Rattle.slice_levels.specs.laws.RebuiltLaws.{rebuilt_is_one}
use Rattle.picture_plane.specs.declared.planes.Plane.{Plane}
use Rattle.picture_plane.specs.Blocks.{blocks_in, blocks_of, first_block, sample_of}
use Rattle.slice_codec.specs.Setups.{Setup, weights_of}
use Rattle.slice_codec.specs.Slices.{MeansPart, MeansSlice, index_of, part_bytes}
use Rattle.slice_codec.specs.Faults.{IsSoundPart, BreaksFirst, PassesRange, Refuses}
use Rattle.slice_codec.specs.declared.fault.SliceFault.{SliceFault}
use Rattle.slice_codec.specs.declared.fault.SliceFault.TheVariants.{SliceShort, SliceHeader, Index, Parts, BitsEnd, TooLong, RunPast, CoefficientRange}

-- a part that means blocks, as many as are due, is sound
pub means_sound : (setup : Setup) (count : ℕ) (bytes : List ℕ) (plane : Plane) (blocks : List (List ℕ)) → length blocks ≡ blocks_of plane count
    → MeansPart setup (index_of bytes) plane (part_bytes bytes plane) blocks → IsSoundPart setup count bytes plane
means_sound setup count bytes plane blocks counted means = record {
  levels = means.levels;
  coded = subst (λ (n : ℕ). IsComponent n (bits_of (part_bytes bytes plane)) means.levels) counted means.coded;
  in_range = subst (λ (n : ℕ). InRange setup.scan (weights_of setup plane) (scale_of (index_of bytes)) n means.levels) counted means.in_range;
}

-- a part whose bits break off is not sound
broken_part : (setup : Setup) (count : ℕ) (bytes : List ℕ) (part : ℕ) (fault : PartFault) → BreaksFirst setup count bytes part fault
    → ((plane : Plane) → IsSoundPart setup count bytes plane) → ⊥
broken_part setup count bytes part fault breaks sound =
    let plane = breaks.plane in
    breaks_none (blocks_of plane count) (bits_of (part_bytes bytes plane)) fault (sound plane).levels breaks.breaks (sound plane).coded

-- nor is a part with a product out of range
passing_part : (setup : Setup) (count : ℕ) (bytes : List ℕ) (fault : ProductFault) → PassesRange setup count bytes fault
    → ((plane : Plane) → IsSoundPart setup count bytes plane) → ⊥
passing_part setup count bytes fault passes sound =
    let plane = passes.plane in
    let n = blocks_of plane count in
    let out = passes.first in
    let first = out.first in
    let same = component_one n (bits_of (part_bytes bytes plane)) (sound plane).levels out.levels (sound plane).coded out.coded in
    let in_range = subst (λ (levels : List ℤ). InRange setup.scan (weights_of setup plane) (scale_of (index_of bytes)) n levels) same (sound plane).in_range in
    let small = in_range fault.block first.k first.within first.position.within in
    absurd (omega (arith, small, first.above))

-- bytes that are refused mean no samples
pub refused_slices_mean_nothing : (setup : Setup) (count : ℕ) (bytes : List ℕ) (fault : SliceFault) (samples : List (List ℕ))
    → Refuses setup count bytes fault → MeansSlice setup count bytes samples → ⊥
refused_slices_mean_nothing setup count bytes fault samples refuses means = cases fault refuses
  where
    sound : (plane : Plane) → IsSoundPart setup count bytes plane
    sound plane = means_sound setup count bytes plane (blocks_in samples plane count) (means.counted plane) (means.parts plane)

    cases : (fault : SliceFault) → Refuses setup count bytes fault → ⊥
    cases (SliceShort at) r = absurd (omega (arith, r.1, means.head.sized.long))
    cases (SliceHeader at) r = ⊎_elim (λ lt. absurd (omega (arith, lt, means.head.sized.size))) (λ lt. absurd (omega (arith, lt, means.head.sized.within))) r.2
    cases (Index at) r = ⊎_elim (λ e. absurd (omega (arith, e, means.head.some))) (λ lt. absurd (omega (arith, lt, means.head.most))) r.2
    cases (Parts at) r = absurd (omega (arith, r.2, means.head.parts))
    cases (BitsEnd part at) r = broken_part setup count bytes part (part_fault.BitsEnd at) r sound
    cases (TooLong part at) r = broken_part setup count bytes part (part_fault.TooLong at) r sound
    cases (RunPast part at) r = broken_part setup count bytes part (part_fault.RunPast at) r sound
    cases (CoefficientRange block place) r = passing_part setup count bytes (record { block = block; place = place }) r sound

-- a block of a plane is one of its blocks
pub block_in : (samples : List (List ℕ)) (plane : Plane) (count block : ℕ) → block < blocks_of plane count
    → get_or (blocks_in samples plane count) block [] ≡ get_or samples (first_block plane + block) []
block_in samples plane count block lt =
    get_or-take (blocks_of plane count) (drop (first_block plane) samples) block [] lt ∙ get_or-drop (first_block plane) samples block []

-- bytes mean one list of samples
pub slices_mean_one : (setup : Setup) (count : ℕ) (bytes : List ℕ) (xs ys : List (List ℕ)) → MeansSlice setup count bytes xs → MeansSlice setup count bytes ys
    → (plane : Plane) (block place : ℕ) → block < blocks_of plane count → place < 64 → sample_of xs plane block place ≡ sample_of ys plane block place
slices_mean_one setup count bytes xs ys one two plane block place lt within =
    let first = one.parts plane in
    let second = two.parts plane in
    let as_x = blocks_in xs plane count in
    let as_y = blocks_in ys plane count in
    let same = one.counted plane ∙ sym (two.counted plane) in
    let coded = subst (λ (n : ℕ). IsComponent n (bits_of (part_bytes bytes plane)) second.levels) (sym same) second.coded in
    let levels = component_one (length as_x) (bits_of (part_bytes bytes plane)) first.levels second.levels first.coded coded in
    let rebuilt = subst (λ (zs : List ℤ). AreRebuilt setup.scan (weights_of setup plane) (scale_of (index_of bytes)) zs as_y) (sym levels) second.rebuilt in
    ap (λ (zs : List ℕ). slice_index zs place) (sym (block_in xs plane count block lt))
    ∙ rebuilt_is_one setup.scan (weights_of setup plane) (scale_of (index_of bytes)) first.levels as_x as_y same first.rebuilt rebuilt block place (omega (arith, one.counted plane, lt)) within
    ∙ ap (λ (zs : List ℕ). slice_index zs place) (block_in ys plane count block lt)

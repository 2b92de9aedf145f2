-- Laws of slices that are cut from one picture: proved here, for proofs to cite.
use Rattle.std.proofs.Common.{◌≡◌, ◌≤◌, ◌<◌, ◌+◌, ◌*◌, ℕ, List, [], get_or, slice_index, sym, subst, ◌∙◌, inl, inr, ⊎_elim}
use Rattle.std.proofs.lemmas.List.{ext_get_or}
use Rattle.rec_bytes.specs.Configuration.{Fields}
use Rattle.picture_plane.specs.declared.planes.Plane.{Plane}
use Rattle.picture_plane.specs.declared.planes.Plane.TheVariants.{Y, Cb, Cr}
use Rattle.picture_plane.specs.declared.slice_names.SliceName.{SliceName}
use Rattle.picture_plane.specs.Pictures.{Planes}
use Rattle.picture_plane.specs.Blocks.{AreSamples, AreCut, blocks_in, blocks_of, first_block}
use Rattle.picture_plane.specs.laws.SampleLaws.{block_within}
use Rattle.slice_codec.specs.Setups.{Setup}
use Rattle.slice_codec.specs.Reading.{AreSliceSamples}
use Rattle.slice_codec.specs.Coded.{IsSpelledPart, IsSliceAt, Fits, IsChosenIndex, IsCodedSlice, IsRebuiltPart, IsRebuiltSlice}
use Rattle.slice_codec.specs.laws.SliceLaws.{block_in}
use Rattle.slice_codec.specs.laws.ThereLaws.{blocks_counted}

-- 64 blocks of ten bits are those of slices of up to 8 macroblocks
pub slice_samples_are : (samples : List (List ℕ)) (count : ℕ) → count ≤ 8 → AreSamples samples → AreSliceSamples count samples
slice_samples_are samples count few are =
    let counted = λ (plane : Plane). blocks_counted samples plane count are.blocks few in
    record {
      counted = counted;
      small = λ plane b p lt within.
          let there : b < blocks_of plane count = subst (λ (n : ℕ). b < n) (counted plane) lt in
          subst (λ (xs : List ℕ). slice_index xs p < 1024) (sym (block_in samples plane count b there)) (are.small (first_block plane + b) p);
    }

-- the planes of so many macroblocks have the same blocks
abbrev pub HaveSameBlocks : ℕ → List (List ℕ) → List (List ℕ) → Type 0
HaveSameBlocks count a b = (plane : Plane) → blocks_in a plane count ≡ blocks_in b plane count

pub same_blocks_back : (count : ℕ) (a b : List (List ℕ)) → HaveSameBlocks count a b → HaveSameBlocks count b a
same_blocks_back count a b same plane = sym (same plane)

-- what is cut from one place of a picture has the same blocks
pub cuts_have_same_blocks : (picture : Planes) (name : SliceName) (a b : List (List ℕ)) → name.count ≤ 8 → AreSamples a → AreSamples b
    → AreCut picture name a → AreCut picture name b → HaveSameBlocks name.count a b
cuts_have_same_blocks picture name a b few one two a_cut b_cut plane =
    let a_long = blocks_counted a plane name.count one.blocks few in
    let b_long = blocks_counted b plane name.count two.blocks few in
    ext_get_or [] (blocks_in a plane name.count) (blocks_in b plane name.count) (a_long ∙ sym b_long) (λ k lt.
    let there : k < blocks_of plane name.count = subst (λ (n : ℕ). k < n) a_long lt in
    let m : ℕ = first_block plane + k in
    let within : m < 64 = block_within plane name.count k few there in
    let a_whole = one.whole m within in
    let same : get_or a m [] ≡ get_or b m [] = ext_get_or 0 (get_or a m []) (get_or b m []) (a_whole ∙ sym (two.whole m within))
    (λ p p_lt. let place : p < 64 = subst (λ (n : ℕ). p < n) a_whole p_lt in a_cut plane k p there place ∙ sym (b_cut plane k p there place)) in
    block_in a plane name.count k there ∙ same ∙ sym (block_in b plane name.count k there))

-- the slice at an index is that of the blocks
slice_at_over : (setup : Setup) (count : ℕ) (a b : List (List ℕ)) (index : ℕ) (bytes : List ℕ) → HaveSameBlocks count a b
    → IsSliceAt setup count a index bytes → IsSliceAt setup count b index bytes
slice_at_over setup count a b index bytes same slice = record {
  y = slice.y;
  cb = slice.cb;
  cr = slice.cr;
  y_spelled = subst (λ (bs : List (List ℕ)). IsSpelledPart setup index Y bs slice.y) (same Y) slice.y_spelled;
  cb_spelled = subst (λ (bs : List (List ℕ)). IsSpelledPart setup index Cb bs slice.cb) (same Cb) slice.cb_spelled;
  cr_spelled = subst (λ (bs : List (List ℕ)). IsSpelledPart setup index Cr bs slice.cr) (same Cr) slice.cr_spelled;
  joined = slice.joined;
}

fits_over : (setup : Setup) (count : ℕ) (a b : List (List ℕ)) (room index : ℕ) → HaveSameBlocks count a b
    → Fits setup count a room index → Fits setup count b room index
fits_over setup count a b room index same fits = (fits.0, slice_at_over setup count a b index fits.0 same fits.1, fits.2)

-- and so is the index
chosen_over : (fields : Fields) (setup : Setup) (count : ℕ) (a b : List (List ℕ)) (index : ℕ) → HaveSameBlocks count a b
    → IsChosenIndex fields setup count a index → IsChosenIndex fields setup count b index
chosen_over fields setup count a b index same chosen =
    let room : ℕ = fields.budget * count in
    let back = same_blocks_back count a b same in
    record {
      from = chosen.from;
      to = chosen.to;
      found = ⊎_elim (λ (f : Fits setup count a room index). inl (fits_over setup count a b room index same f))
          (λ (e : index ≡ fields.qmax). inr e) chosen.found;
      least = λ i from lt fits. chosen.least i from lt (fits_over setup count b a room i back fits);
    }

-- samples with the same blocks have the same slices
pub coded_slice_over : (fields : Fields) (count : ℕ) (a b : List (List ℕ)) (bytes : List ℕ) → HaveSameBlocks count a b
    → IsCodedSlice fields count a bytes → IsCodedSlice fields count b bytes
coded_slice_over fields count a b bytes same coded = record {
  setup = coded.setup;
  of_configuration = coded.of_configuration;
  index = coded.index;
  chosen = chosen_over fields coded.setup count a b coded.index same coded.chosen;
  coded = slice_at_over coded.setup count a b coded.index bytes same coded.coded;
}

-- and give the same samples back
pub rebuilt_slice_over : (fields : Fields) (count : ℕ) (a b rebuilt : List (List ℕ)) → HaveSameBlocks count a b
    → IsRebuiltSlice fields count a rebuilt → IsRebuiltSlice fields count b rebuilt
rebuilt_slice_over fields count a b rebuilt same given = record {
  setup = given.setup;
  of_configuration = given.of_configuration;
  index = given.index;
  chosen = chosen_over fields given.setup count a b given.index same given.chosen;
  parts = λ plane. subst (λ (bs : List (List ℕ)). IsRebuiltPart given.setup given.index plane bs (blocks_in rebuilt plane count))
      (same plane) (given.parts plane);
}

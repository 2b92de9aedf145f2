-- The frame of a picture gives a picture back.
use Rattle.std.proofs.Common.{ℕ, List, [], get_or, subst}
use Rattle.rec_bytes.specs.Configuration.{Fields}
use Rattle.picture_plane.specs.Pictures.{Planes}
use Rattle.picture_plane.specs.Sizes.{size_of, IsSize}
use Rattle.picture_plane.specs.Blocks.{AreSamples, AreCut}
use Rattle.picture_plane.specs.Covering.{SlicesHave}
use Rattle.picture_plane.specs.declared.slice_names.SliceName.{SliceName}
use Rattle.picture_plane.specs.laws.WholeLaws.{shown_slices}
use Rattle.slice_codec.specs.Coded.{IsRebuiltSlice}
use Rattle.slice_codec.specs.laws.ThereLaws.{rebuilt_slice_is_there}
use Rattle.frame_codec.specs.Coded.{IsCodedFrame, IsRebuilt}
use Rattle.frame_codec.specs.Laws.{IsSource}
use Rattle.frame_codec.proofs.FrameSliceLemmas.{frame_number, few_macroblocks, cut_of}

-- samples that the slice of the source gives back
record AreGiven (fields : Fields) (source : Planes) (name : SliceName) (given : List (List ℕ)) : Type 0 where
  samples : List (List ℕ)
  whole : AreSamples samples
  cut : AreCut source name samples
  rebuilt : IsRebuiltSlice fields name.count samples given

-- each slice gives some back
slices_give : (fields : Fields) (source : Planes) (bytes : List ℕ) → IsSource fields source → IsCodedFrame fields source bytes
    → SlicesHave (size_of fields) (λ picture. fields.log2) (λ picture n name given. AreGiven fields source name given)
slices_give fields source bytes is coded picture n name there named =
    let number : ℕ = frame_number (size_of fields) fields.log2 picture n in
    let few = few_macroblocks (size_of fields) fields.log2 picture n name is.ranges.log2 named in
    let cut = cut_of fields source coded.slices picture n name coded.coded there named in
    let given = rebuilt_slice_is_there fields name.count cut.samples (get_or coded.slices number []) few cut.whole.blocks cut.coded in
    (given.0, record { samples = cut.samples; whole = cut.whole; cut = cut.cut; rebuilt = given.1 }, given.2)

-- the frame of a picture gives a picture back
pub coded_frames_give_back : (fields : Fields) (source : Planes) (bytes : List ℕ) → IsSource fields source → IsCodedFrame fields source bytes
    → (rebuilt : Planes) × IsRebuilt fields source rebuilt
coded_frames_give_back fields source bytes is coded =
    let sized : IsSize (size_of fields) = subst IsSize is.size is.whole.size in
    let back = shown_slices (size_of fields) (λ picture. fields.log2) (λ picture n name given. AreGiven fields source name given) sized
    (slices_give fields source bytes is coded) in (
      back.planes,
      record {
        size = back.is_size;
        whole = back.is_picture;
        slices = λ picture n name there named.
            let slice = back.shown picture n name there named in
            record { samples = slice.1.samples; whole = slice.1.whole; cut = slice.1.cut; given = slice.0; rebuilt_are = slice.1.rebuilt; shown = slice.2 };
      },
    )

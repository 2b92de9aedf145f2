-- A picture has one frame.
use Rattle.std.proofs.Common.{◌≡◌, ◌<◌, ◌+◌, ◌/◌, ◌%◌, ℕ, List, [], length, take, drop, get_or, slice_index, sym, ap₂, subst, ◌∙◌, arith, inl, inr}
use Rattle.std.proofs.lemmas.Bool.{cases_lt}
use Rattle.std.proofs.lemmas.List.{ext_get_or, get_or_past, get_or-take, get_or-drop, length-take}
use Rattle.rec_bytes.specs.Configuration.{Fields}
use Rattle.picture_plane.specs.Pictures.{Planes}
use Rattle.picture_plane.specs.Sizes.{size_of}
use Rattle.picture_plane.specs.Slices.{slices_per_picture}
use Rattle.slice_codec.specs.Setups.{Setup}
use Rattle.slice_codec.specs.laws.CutLaws.{cuts_have_same_blocks, coded_slice_over}
use Rattle.slice_codec.specs.laws.OneSlice.{AreBytes, coded_slices_are_one}
use Rattle.slice_codec.specs.laws.SetupLaws.{setups_are_one}
use Rattle.frame_syntax.specs.Written.{head_of, frame_bytes, Holds}
use Rattle.frame_syntax.specs.Frames.{slices_of}
use Rattle.frame_syntax.specs.declared.frame_head.FrameHead.{FrameHead}
use Rattle.frame_codec.specs.Coded.{IsCodedFrame}
use Rattle.frame_codec.specs.Laws.{IsSource}
use Rattle.frame_codec.proofs.FrameSliceLemmas.{slice_of_number, few_macroblocks}
use Rattle.frame_codec.proofs.HeldLemmas.{WrittenFrames, coded_frame_holds, slice_held}

-- a run of bytes is of bytes
taken_bytes : (bytes : List ℕ) (n at : ℕ) → AreBytes bytes → AreBytes (take n (drop at bytes))
taken_bytes bytes n at are k =
    elim (cases_lt k n) [
      | inl lt ↦ subst (λ (x : ℕ). x < 256) (sym (get_or-take n (drop at bytes) k 0 lt ∙ get_or-drop at bytes k 0)) (are (at + k))
      | inr ge ↦ subst (λ (x : ℕ). x < 256) (sym (get_or_past (take n (drop at bytes)) k 0 (omega (arith, ge, length-take n (drop at bytes))))) (omega arith)
    ]

-- the slices of a frame of bytes are of bytes
slice_of_bytes : (bytes : List ℕ) (head : FrameHead) (log2 : ℕ) (slices : List (List ℕ)) → Holds bytes head log2 slices → AreBytes bytes
    → (index : ℕ) → index < length slices → AreBytes (get_or slices index [])
slice_of_bytes bytes head log2 slices held are index lt =
    let span = get_or (slices_of bytes held.parts) index (0, 0) in
    subst AreBytes (slice_held bytes head log2 slices held index lt) (taken_bytes bytes span.1 span.0 are)

-- a picture has one frame
pub coded_frames_are_one : WrittenFrames → (fields : Fields) (source : Planes) (one two : List ℕ) → IsSource fields source
    → ((k : ℕ) → slice_index one k < 256) → ((k : ℕ) → slice_index two k < 256)
    → IsCodedFrame fields source one → IsCodedFrame fields source two → one ≡ two
coded_frames_are_one written fields source one two is one_bytes two_bytes a b =
    a.joined
    ∙ ap₂ (λ (s : Setup) (slices : List (List ℕ)). frame_bytes (head_of fields s.luma s.chroma) fields.log2 slices) setup slices
    ∙ sym b.joined
  where
    setup : a.setup ≡ b.setup
    setup = setups_are_one fields a.setup b.setup a.of_configuration b.of_configuration

    one_slice : (index : ℕ) → index < length a.slices → get_or a.slices index [] ≡ get_or b.slices index []
    one_slice index lt =
        let size = size_of fields in
        let per : ℕ = slices_per_picture size fields.log2 in
        let again : index < length b.slices = subst (λ (k : ℕ). index < k) (a.coded.counted ∙ sym b.coded.counted) lt in
        let found = slice_of_number size fields.log2 index (subst (λ (k : ℕ). index < k) a.coded.counted lt) in
        let few = few_macroblocks size fields.log2 (index / per) (index % per) found.0 is.ranges.log2 found.1 in
        let first = a.coded.each index found.0 lt found.1 in
        let second = b.coded.each index found.0 again found.1 in
        let same = cuts_have_same_blocks source found.0 first.samples second.samples few first.whole second.whole first.cut second.cut in
        let a_held = coded_frame_holds written fields source one is.ranges a in
        let b_held = coded_frame_holds written fields source two is.ranges b in
        coded_slices_are_one fields found.0.count second.samples (get_or a.slices index []) (get_or b.slices index [])
        (slice_of_bytes one (head_of fields a.setup.luma a.setup.chroma) fields.log2 a.slices a_held one_bytes index lt)
        (slice_of_bytes two (head_of fields b.setup.luma b.setup.chroma) fields.log2 b.slices b_held two_bytes index again)
        (coded_slice_over fields found.0.count first.samples second.samples (get_or a.slices index []) same first.coded) second.coded

    slices : a.slices ≡ b.slices
    slices = ext_get_or [] a.slices b.slices (a.coded.counted ∙ sym b.coded.counted) one_slice

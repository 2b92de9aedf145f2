-- The frame of a picture means the picture that it gives back.
use Rattle.std.proofs.Common.{◌≡◌, ◌<◌, ◌+◌, ◌==◌, ℕ, zero, suc, List, [], Bool, true, false, Option, Some, None, IfSome}
use Rattle.std.proofs.Common.{get_or, refl, sym, ap, subst, ◌∙◌, arith, if◌then◌else◌}
use Rattle.rec_bytes.specs.Configuration.{Fields}
use Rattle.picture_plane.specs.Pictures.{Planes}
use Rattle.picture_plane.specs.Sizes.{size_of}
use Rattle.picture_plane.specs.Slices.{Size, picture_count, slices_per_picture, IsSlice}
use Rattle.picture_plane.specs.declared.slice_names.SliceName.{SliceName}
use Rattle.slice_codec.specs.Setups.{Setup, IsSetup}
use Rattle.slice_codec.specs.Slices.{MeansSlice}
use Rattle.slice_codec.specs.laws.CutLaws.{slice_samples_are, cuts_have_same_blocks, rebuilt_slice_over}
use Rattle.slice_codec.specs.laws.RoundLaws.{coded_slices_mean}
use Rattle.frame_syntax.specs.Headers.{size_of as head_size_of}
use Rattle.frame_syntax.specs.Pictures.{picture_of}
use Rattle.frame_syntax.specs.Rules.{picture_behind}
use Rattle.frame_syntax.specs.Frames.{IsFrame}
use Rattle.frame_syntax.specs.Written.{head_of, Holds}
use Rattle.frame_syntax.specs.declared.frame.FrameParts.{FrameParts}
use Rattle.frame_syntax.specs.declared.frame_head.FrameHead.{FrameHead}
use Rattle.frame_syntax.specs.declared.picture_head.PictureHead.{PictureHead}
use Rattle.frame_codec.specs.Coded.{IsCodedFrame, IsRebuilt}
use Rattle.frame_codec.specs.Frames.{setup_of, log2_in, log2_of, number_of, slice_at, IsNamed, IsShown, MeansFrame}
use Rattle.frame_codec.specs.Laws.{IsSource}
use Rattle.frame_codec.proofs.FrameSliceLemmas.{frame_number, slice_is_numbered, few_macroblocks, cut_of}
use Rattle.frame_codec.proofs.HeldLemmas.{WrittenFrames, coded_frame_holds, slice_held}

-- the first coded picture has as many slices as its size asks for
pub first_slices : (bytes : List ℕ) (parts : FrameParts) → IsFrame bytes parts
    → parts.first.slices ≡ slices_per_picture (head_size_of parts.head) parts.first.log2
unfolding picture_of
first_slices bytes parts is = subst (λ (p : FrameParts). p.first.slices ≡ slices_per_picture (head_size_of p.head) p.first.log2) is.stand refl

second_is : (bytes : List ℕ) (parts : FrameParts) → IsFrame bytes parts
    → parts.second ≡ (if parts.head.interlace == 0 then None else Some (picture_behind bytes parts.head parts.first))
second_is bytes parts is =
    subst (λ (p : FrameParts). p.second ≡ (if p.head.interlace == 0 then None else Some (picture_behind bytes p.head p.first))) is.stand refl

second_log2 : (one : Bool) (picture : PictureHead) (second : Option PictureHead) (log2 : ℕ) → 1 < (if one then 1 else 2)
    → second ≡ (if one then None else Some picture) → IfSome second (λ p. p.log2 ≡ log2) → log2_in second ≡ log2
second_log2 true picture second log2 two e is = absurd (omega (arith, two))
second_log2 false picture second log2 two e is =
    subst (λ (o : Option PictureHead). IfSome o (λ p. p.log2 ≡ log2) → log2_in o ≡ log2) (sym e) (λ h. h) is

no_third : (one : Bool) (p : ℕ) → suc (suc p) < (if one then 1 else 2) → ⊥
no_third true p h = omega (arith, h)
no_third false p h = omega (arith, h)

-- the coded pictures of a frame are cut alike
record IsCutAlike (parts : FrameParts) (log2 picture n : ℕ) : Type 0 where
  log2_is : log2_of parts picture ≡ log2
  number_is : number_of parts picture n ≡ frame_number (head_size_of parts.head) log2 picture n

cut_alike : (bytes : List ℕ) (head : FrameHead) (log2 : ℕ) (slices : List (List ℕ)) (held : Holds bytes head log2 slices) (picture n : ℕ)
    → picture < picture_count (head_size_of held.parts.head) → IsCutAlike held.parts log2 picture n
cut_alike bytes head log2 slices held zero n there = record { log2_is = held.first_is; number_is = omega arith }
cut_alike bytes head log2 slices held (suc zero) n there =
    let parts = held.parts in
    let size : Size = head_size_of parts.head in
    let first : parts.first.slices ≡ slices_per_picture size log2 = first_slices bytes parts held.frame ∙ ap (slices_per_picture size) held.first_is in
    record {
      log2_is = second_log2 (parts.head.interlace == 0) (picture_behind bytes parts.head parts.first) parts.second log2 there
          (second_is bytes parts held.frame) held.second_is;
      number_is = ap (λ (k : ℕ). k + n) (first ∙ omega arith);
    }
cut_alike bytes head log2 slices held (suc (suc p)) n there = absurd (no_third (held.parts.head.interlace == 0) p there)

-- the setup of a configuration is that of its frames
setup_is_heads : (fields : Fields) (setup : Setup) → IsSetup fields setup → IsSetup fields (setup_of (head_of fields setup.luma setup.chroma))
setup_is_heads fields setup is = record { scan = refl; luma_long = is.luma_long; luma = is.luma; chroma_long = is.chroma_long; chroma = is.chroma }

-- the frame of a picture means the picture that it gives back
pub coded_frames_mean : WrittenFrames → (fields : Fields) (source rebuilt : Planes) (bytes : List ℕ) → IsSource fields source
    → IsCodedFrame fields source bytes → IsRebuilt fields source rebuilt → MeansFrame bytes rebuilt
coded_frames_mean written fields source rebuilt bytes is coded back = record {
  parts = parts;
  frame = held.frame;
  matrices = ap (λ (h : FrameHead). h.load_luma) held.head_is ∙ sym (ap (λ (h : FrameHead). h.load_chroma) held.head_is);
  size = back.size ∙ sym (ap head_size_of held.head_is);
  whole = back.whole;
  slices = shown;
}
  where
    head : FrameHead
    head = head_of fields coded.setup.luma coded.setup.chroma

    held : Holds bytes head fields.log2 coded.slices
    held = coded_frame_holds written fields source bytes is.ranges coded

    parts : FrameParts
    parts = held.parts

    named_in : (picture n : ℕ) (name : SliceName) → IsNamed parts picture n name → IsSlice (size_of fields) fields.log2 picture n name
    named_in picture n name named =
        let alike = cut_alike bytes head fields.log2 coded.slices held picture n named.there in
        subst (λ (k : ℕ). IsSlice (size_of fields) k picture n name) alike.log2_is
        (subst (λ (h : FrameHead). IsSlice (head_size_of h) (log2_of parts picture) picture n name) held.head_is named.named)

    there_in : (picture n : ℕ) (name : SliceName) → IsNamed parts picture n name → picture < picture_count (size_of fields)
    there_in picture n name named = subst (λ (h : FrameHead). picture < picture_count (head_size_of h)) held.head_is named.there

    bytes_in : (picture n : ℕ) (name : SliceName) → IsNamed parts picture n name
        → slice_at bytes parts (number_of parts picture n) ≡ get_or coded.slices (frame_number (size_of fields) fields.log2 picture n) []
    bytes_in picture n name named =
        let size : Size = size_of fields in
        let alike = cut_alike bytes head fields.log2 coded.slices held picture n named.there in
        let number : number_of parts picture n ≡ frame_number size fields.log2 picture n =
        alike.number_is ∙ ap (λ (h : FrameHead). frame_number (head_size_of h) fields.log2 picture n) held.head_is in
        let at = slice_is_numbered size fields.log2 picture n name (there_in picture n name named) (named_in picture n name named) in
        ap (slice_at bytes parts) number
        ∙ slice_held bytes head fields.log2 coded.slices held (frame_number size fields.log2 picture n)
        (subst (λ (k : ℕ). frame_number size fields.log2 picture n < k) (sym coded.coded.counted) at.within)

    shown : (picture n : ℕ) (name : SliceName) → IsNamed parts picture n name → IsShown bytes parts rebuilt picture n name
    shown picture n name named =
        let there = there_in picture n name named in
        let slice = named_in picture n name named in
        let few = few_macroblocks (size_of fields) fields.log2 picture n name is.ranges.log2 slice in
        let cut = cut_of fields source coded.slices picture n name coded.coded there slice in
        let given = back.slices picture n name there slice in
        let same = cuts_have_same_blocks source name given.samples cut.samples few given.whole cut.whole given.cut cut.cut in
        let means = coded_slices_mean fields (setup_of head) name.count cut.samples given.given
        (get_or coded.slices (frame_number (size_of fields) fields.log2 picture n) []) (setup_is_heads fields coded.setup coded.of_configuration)
        is.ranges.qmin.least is.ranges.qmax.most (slice_samples_are cut.samples name.count few cut.whole) cut.coded
        (rebuilt_slice_over fields name.count given.samples cut.samples given.given same given.rebuilt_are) in
        let Means : FrameHead → List ℕ → Type 0 = λ h slice. MeansSlice (setup_of h) name.count slice given.given in
        let stands = subst (Means head) (sym (bytes_in picture n name named)) means in
        record {
          meaning = record {
            samples = given.given;
            means = subst (λ (h : FrameHead). Means h (slice_at bytes parts (number_of parts picture n))) (sym held.head_is) stands;
          };
          shown = given.shown;
        }

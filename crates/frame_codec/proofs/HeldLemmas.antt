-- A coded frame holds its slices.
use Rattle.std.proofs.Common.{◌≡◌, ◌<◌, ◌≤◌, ◌^◌, ◌==◌, ℕ, zero, suc, List, [], Bool, true, false, length, get_or, replicate, sym, ap, subst, ◌∙◌, arith}
use Rattle.std.proofs.lemmas.List.{ext_get_or, get_or-map, get_or-replicate, length-map, length-replicate}
use Rattle.std.proofs.lemmas.List.Elements.{All-weaker}
use Rattle.rec_bytes.specs.Configuration.{Fields}
use Rattle.rec_bytes.specs.Ranges.{IsInRange}
use Rattle.prores_scan.specs.WeightsAndScales.{AreWeights}
use Rattle.picture_plane.specs.Pictures.{Planes}
use Rattle.picture_plane.specs.Sizes.{size_of}
use Rattle.slice_codec.specs.Setups.{Setup, IsSetup}
use Rattle.frame_syntax.specs.Pictures.{Span}
use Rattle.frame_syntax.specs.Frames.{slices_of}
use Rattle.frame_syntax.specs.Written.{head_of, frame_bytes, IsMatrix, IsWritable, AreSlices, Holds, slice_bytes}
use Rattle.frame_syntax.specs.declared.frame_head.FrameHead.{FrameHead}
use Rattle.frame_codec.specs.Frames.{slice_at}
use Rattle.frame_codec.specs.Coded.{AreCodedSlices, IsCodedFrame}
use Rattle.frame_codec.proofs.FrameLenLemmas.{slices_are_short, slices_are_few, frame_most}

-- what frame_syntax says of frames that are written
pub record WrittenFrames : Type 0 where
  pub hold : (head : FrameHead) (log2 : ℕ) (slices : List (List ℕ)) → IsWritable head → AreSlices head log2 slices
      → Holds (frame_bytes head log2 slices) head log2 slices
  pub writable : (config : Fields) (luma chroma : List ℕ) → IsInRange config → IsMatrix (config.weights == 1) luma → IsMatrix (config.weights == 1) chroma
      → IsWritable (head_of config luma chroma)

-- the weights of a kind are a matrix of a frame
kind_is_matrix : (kind : ℕ) (chroma : Bool) (matrix : List ℕ) → kind ≤ 1 → length matrix ≡ 64 → AreWeights kind chroma matrix → IsMatrix (kind == 1) matrix
kind_is_matrix zero chroma matrix few long are =
    ext_get_or 0 matrix (replicate 64 4) (long ∙ sym (length-replicate {A = ℕ} 64 4)) (λ p lt.
    let within : p < 64 = omega (arith, lt, long) in
    are p within ∙ sym (get_or-replicate {A = ℕ} 64 p 4 0 within))
kind_is_matrix (suc zero) chroma matrix few long are = long
kind_is_matrix (suc (suc kind)) chroma matrix few long are = absurd (omega (arith, few))

-- the slices of a picture may be written
coded_are_slices : (fields : Fields) (setup : Setup) (source : Planes) (slices : List (List ℕ)) → IsInRange fields → IsSetup fields setup
    → AreCodedSlices fields source slices → AreSlices (head_of fields setup.luma setup.chroma) fields.log2 slices
coded_are_slices fields setup source slices ranges is coded =
    let head : FrameHead = head_of fields setup.luma setup.chroma in
    let short = slices_are_short fields source slices ranges coded in
    let few = slices_are_few (size_of fields) fields.log2 ranges.width.most ranges.height.most in
    let most = frame_most head fields.log2 slices ranges.encoder is.luma_long is.chroma_long short in
    record {
      desired = ranges.log2;
      count = coded.counted;
      short = All-weaker (λ (s : List ℕ). length s ≤ 32776) (λ (s : List ℕ). length s < 256 ^ 2) (λ s le. omega (arith, le)) slices short;
      fit = omega (arith, most, few, coded.counted);
    }

-- a coded frame holds its slices
pub coded_frame_holds : WrittenFrames → (fields : Fields) (source : Planes) (bytes : List ℕ) → IsInRange fields → (coded : IsCodedFrame fields source bytes)
    → Holds bytes (head_of fields coded.setup.luma coded.setup.chroma) fields.log2 coded.slices
coded_frame_holds written fields source bytes ranges coded =
    let setup = coded.setup in
    let is = coded.of_configuration in
    let head : FrameHead = head_of fields setup.luma setup.chroma in
    let writable = written.writable fields setup.luma setup.chroma ranges
    (kind_is_matrix fields.weights false setup.luma ranges.weights is.luma_long is.luma)
    (kind_is_matrix fields.weights true setup.chroma ranges.weights is.chroma_long is.chroma) in
    let holds = written.hold head fields.log2 coded.slices writable (coded_are_slices fields setup source coded.slices ranges is coded.coded) in
    subst (λ (all : List ℕ). Holds all head fields.log2 coded.slices) (sym coded.joined) holds

-- and its table finds each
pub slice_held : (bytes : List ℕ) (head : FrameHead) (log2 : ℕ) (slices : List (List ℕ)) (held : Holds bytes head log2 slices) (index : ℕ)
    → index < length slices → slice_at bytes held.parts index ≡ get_or slices index []
slice_held bytes head log2 slices held index lt =
    let spans : List Span = slices_of bytes held.parts in
    let within : index < length spans = subst (λ (k : ℕ). index < k) (sym (ap length held.slices_are) ∙ length-map spans (slice_bytes bytes)) lt in
    sym (get_or-map (slice_bytes bytes) spans index (0, 0) [] within) ∙ ap (λ (ss : List (List ℕ)). get_or ss index []) held.slices_are

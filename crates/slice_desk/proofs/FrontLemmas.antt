-- What stands before the coded pictures of a frame.
use Rattle.std.proofs.Common.{◌≡◌, ℕ, ◌+◌, ◌==◌, List, ◌++◌, Bool, true, false, length, refl, ap, ◌∙◌, arith}
use Rattle.std.proofs.lemmas.List.{length-append}
use Rattle.rec_bytes.specs.Configuration.{Fields}
use Rattle.frame_syntax.specs.Headers.{size_of, least_head}
use Rattle.frame_syntax.specs.Written.{head_of, format_bytes, matrix_bytes, loaded_bytes, frame_front, frame_bytes, pictures_bytes}
use Rattle.frame_syntax.specs.declared.frame_head.FrameHead.{FrameHead}

-- the matrices have the bytes that the header's size counts
matrices_len : (loaded : Bool) (luma chroma : List ℕ) → length luma ≡ 64 → length chroma ≡ 64
    → 20 + length (loaded_bytes loaded luma ++ loaded_bytes loaded chroma) ≡ least_head loaded loaded
matrices_len true luma chroma a b = omega (arith, length-append luma chroma, a, b)
matrices_len false luma chroma a b = refl

-- the header of a configuration is as long as it says
pub front_len : (config : Fields) (luma chroma : List ℕ) (n : ℕ) → length config.encoder ≡ 4 → length luma ≡ 64 → length chroma ≡ 64
    → length (frame_front (head_of config luma chroma) n) ≡ 8 + (head_of config luma chroma).head_size
front_len config luma chroma n sized a b =
    let head : FrameHead = head_of config luma chroma in
    omega (
      arith,
      sized,
      length-append (head.encoder ++ format_bytes head) (matrix_bytes head),
      length-append head.encoder (format_bytes head),
      matrices_len (config.weights == 1) luma chroma a b,
    )

-- a frame is its front and its coded pictures
pub frame_is : (head : FrameHead) (log2 n : ℕ) (slices : List (List ℕ)) → n ≡ length (frame_front head 0) + length (pictures_bytes (size_of head) log2 slices)
    → frame_front head n ++ pictures_bytes (size_of head) log2 slices ≡ frame_bytes head log2 slices
unfolding frame_bytes
frame_is head log2 n slices e = ap (λ (k : ℕ). frame_front head k ++ pictures_bytes (size_of head) log2 slices) (e ∙ omega arith)

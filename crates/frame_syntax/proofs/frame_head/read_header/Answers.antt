use Rattle.std.proofs.Common.{◌≡◌, ◌+◌, ◌/◌, ◌%◌, Bool, slice_index, ap, ◌∙◌}
use Rattle.frame_syntax.specs.Headers.{header_of, matrix_of, loads_luma, loads_chroma, loaded_len}
use Rattle.frame_syntax.specs.declared.frame_head.TheConstants.{MATRICES_AT}
use Rattle.frame_syntax.proofs.frame_head.read_header.Goals as goal

pub returns : goal.returns
unfolding header_of
returns c =
    let bytes = c.args.bytes.now in
    let is_luma = c.loads_luma-load_luma.ensures in
    let is_chroma = c.loads_chroma-load_chroma.ensures in
    let luma : c.read_matrix-luma.result ≡ matrix_of bytes MATRICES_AT (loads_luma bytes) =
    c.read_matrix-luma.ensures ∙ ap (λ (b : Bool). matrix_of bytes MATRICES_AT b) is_luma in
    let len : c.loaded_len.result ≡ loaded_len (loads_luma bytes) = c.loaded_len.ensures ∙ ap loaded_len is_luma in
    let chroma : c.read_matrix-chroma.result ≡ matrix_of bytes (MATRICES_AT + loaded_len (loads_luma bytes)) (loads_chroma bytes) =
    c.read_matrix-chroma.ensures
    ∙ ap (λ (b : Bool). matrix_of bytes (MATRICES_AT + c.loaded_len.result) b) is_chroma
    ∙ ap (λ n. matrix_of bytes (MATRICES_AT + n) (loads_chroma bytes)) len in
    λ i. record {
      head_size = c.u16_at.ensures i;
      version = slice_index bytes 11;
      encoder = c.array_at-encoder.ensures i;
      width = c.u16_at-2.ensures i;
      height = c.u16_at-3.ensures i;
      chroma_format = slice_index bytes 20 / 64;
      interlace = slice_index bytes 20 / 4 % 4;
      aspect = slice_index bytes 21 / 16;
      rate = slice_index bytes 21 % 16;
      primaries = slice_index bytes 22;
      transfer = slice_index bytes 23;
      matrix = slice_index bytes 24;
      alpha = slice_index bytes 25 % 16;
      load_luma = is_luma i;
      load_chroma = is_chroma i;
      luma = luma i;
      chroma = chroma i;
    }

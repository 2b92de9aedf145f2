use Rattle.std.proofs.Common.{refl, arith}
use Rattle.frame_syntax.proofs.WrittenFrameLemmas.{written_holds}
use Rattle.frame_syntax.proofs.front.written_frames_are_frames.Goals as goal

pub returns-clause-frame : goal.returns-clause-frame
returns-clause-frame c = written_holds

pub returns-clause-header : goal.returns-clause-header
returns-clause-header c = λ config luma chroma r is_luma is_chroma.
    let rate = r.rate in
    let aspect = r.aspect in
    let interlace = r.interlace in
    record {
      head_size = refl;
      version = omega arith;
      encoder = r.encoder;
      width = r.width;
      width_even = r.width_even;
      height = r.height;
      height_even = r.height_even;
      chroma_format = refl;
      interlace = omega arith;
      aspect = omega arith;
      rate = (let most = rate.most in omega arith);
      alpha = refl;
      luma = is_luma;
      chroma = is_chroma;
    }

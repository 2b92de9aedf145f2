use Rattle.std.proofs.Common.{length-append, arith}
use Rattle.rec_bytes.specs.laws.Places.{with_bytes-more}
use Rattle.frame_syntax.specs.Written.{loaded_bytes}
use Rattle.frame_syntax.proofs.front.put_matrices.Goals as goal

pub returns-clause-behind : goal.returns-clause-behind
returns-clause-behind c =
    let head = c.args.head.now in
    omega (arith, c.put_matrix-chroma_at.ensures.behind, c.put_matrix.ensures.behind, length-append (loaded_bytes head.load_luma head.luma) (loaded_bytes head.load_chroma head.chroma))

pub returns-clause-written : goal.returns-clause-written
returns-clause-written c =
    let head = c.args.head.now in
    let both = length-append (loaded_bytes head.load_luma head.luma) (loaded_bytes head.load_chroma head.chroma) in
    with_bytes-more c.args.out.now c.args.at c.put_matrix-chroma_at.result (loaded_bytes head.load_luma head.luma) (loaded_bytes head.load_chroma head.chroma) _ _
    c.put_matrix-chroma_at.ensures.written c.put_matrix-chroma_at.ensures.behind (omega (arith, c.requires, c.put_matrix-chroma_at.ensures.behind, both)) c.put_matrix.ensures.written

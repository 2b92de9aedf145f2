use Rattle.std.proofs.Common.{◌≡◌, ℕ, length, sym, ap, ◌∙◌, arith}
use Rattle.picture_plane.specs.Slices.{slice_widths}
use Rattle.frame_syntax.proofs.RowLemmas.{row_least, row_more}
use Rattle.frame_syntax.proofs.picture_head.slices_in_row.Goals as goal

pub returns-in-0-clause-count : goal.returns-in-0-clause-count
returns-in-0-clause-count c =
    let at : c.args.log2 ≡ 0 = omega arith in
    sym (ap (λ n. length (slice_widths n c.args.macroblocks)) at ∙ row_least c.args.macroblocks)

pub returns-in_default-clause-count : goal.returns-in_default-clause-count
returns-in_default-clause-count c =
    let at : c.args.log2 ≡ 3 = omega arith in
    let there = ap (λ (n : ℕ). length (slice_widths n c.args.macroblocks)) at in
    omega (arith, there, row_more 2 c.args.macroblocks, c.cut_by_four-in_default.ensures.count)

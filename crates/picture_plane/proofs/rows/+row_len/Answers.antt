use Rattle.std.proofs.Common.{◌≡◌, ◌/◌, ◌+◌, ◌-◌, ℕ, suc, ap, ◌∙◌, arith}
use Rattle.picture_plane.proofs.RowLemmas.{length_last, length_more}
use Rattle.picture_plane.proofs.rows.+row_len.Goals as goal

pub returns-then-log2-eq0-clause-slices : goal.returns-then-log2-eq0-clause-slices
returns-then-log2-eq0-clause-slices t c =
    length_last c.args.macroblocks c.args.log2 c.greatest_width-width.result c.greatest_width-width.ensures.value c.if-log2-eq0.true

pub returns-clause-slices : goal.returns-clause-slices
returns-clause-slices t c =
    let a = c.args in
    let lower : suc (a.log2 - 1) ≡ a.log2 = omega arith in
    ap (λ (k : ℕ). a.macroblocks / c.greatest_width-width.result + k) c.row_len.ensures.slices ∙ length_more a.macroblocks a.log2 (a.log2 - 1) c.greatest_width-width.result c.greatest_width-width.ensures.value lower

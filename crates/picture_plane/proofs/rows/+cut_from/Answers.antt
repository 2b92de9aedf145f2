use Rattle.std.proofs.Common.{◌≡◌, ◌-◌, suc, ◌∙◌, arith}
use Rattle.picture_plane.proofs.RowLemmas.{found_at_once, found_none, found_behind}
use Rattle.picture_plane.proofs.rows.+cut_from.Goals as goal

pub returns-then-n-whole : goal.returns-then-n-whole
returns-then-n-whole t c =
    let a = c.args in
    found_at_once a.first a.macroblocks a.log2 c.greatest_width-width.result a.n c.greatest_width-width.ensures.value c.if-n-whole.true

pub returns-then-log2-eq0 : goal.returns-then-log2-eq0
returns-then-log2-eq0 t c =
    let a = c.args in
    found_none a.first a.macroblocks a.log2 c.greatest_width-width.result a.n c.greatest_width-width.ensures.value c.if-log2-eq0.true c.if-n-whole.false

pub returns : goal.returns
returns t c =
    let a = c.args in
    let lower : suc (a.log2 - 1) ≡ a.log2 = omega arith in
    c.cut_from.ensures ∙ found_behind a.first a.macroblocks a.log2 (a.log2 - 1) c.greatest_width-width.result a.n c.greatest_width-width.ensures.value lower c.if-n-whole.false

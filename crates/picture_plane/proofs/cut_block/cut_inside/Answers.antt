use Rattle.std.proofs.Common.{◌≡◌, ◌+◌, ◌*◌, ◌/◌, ◌%◌, ◌∙◌, ap, ap₂, arith, ℕ, List, length, get_or}
use Rattle.picture_plane.specs.Blocks.{frame_row}
use Rattle.picture_plane.specs.Pictures.{columns, row_start}
use Rattle.picture_plane.specs.Slices.{Size}
use Rattle.picture_plane.specs.inner.Lines.{lines_step}
use Rattle.picture_plane.proofs.InsideSteps.{inside_is, inside_room}
use Rattle.picture_plane.proofs.cut_block.cut_inside.Goals as goal

pub put_rows-requires : goal.put_rows-requires
put_rows-requires c =
    let a = c.args in let planes = a.picture.now in
    let start : c.row_start.result ≡ row_start planes.size a.plane (frame_row a.field a.line) =
    c.row_start.ensures.value ∙ ap₂ (λ (s : Size) (r : ℕ). row_start s a.plane r) c.size-size.ensures c.row_at.ensures in
    let wide = c.columns.ensures.value ∙ ap (λ (s : Size). columns s a.plane) c.size-size.ensures in
    let step : c.row_step.result * c.columns.result ≡ lines_step a.field * columns planes.size a.plane = ap₂ ◌*◌ c.row_step.ensures.value wide in
    record {
      room = omega (arith, start, step, ap length c.samples.ensures, inside_room planes a.field a.plane a.line a.column c.ranges-2.ensures c.requires.field c.requires.lines c.requires.columns);
    }

pub returns-clause-samples : goal.returns-clause-samples
returns-clause-samples c = λ k h.
    let a = c.args in let planes = a.picture.now in
    let start : c.row_start.result ≡ row_start planes.size a.plane (frame_row a.field a.line) =
    c.row_start.ensures.value ∙ ap₂ (λ (s : Size) (r : ℕ). row_start s a.plane r) c.size-size.ensures c.row_at.ensures in
    let wide = c.columns.ensures.value ∙ ap (λ (s : Size). columns s a.plane) c.size-size.ensures in
    let step : c.row_step.result * c.columns.result ≡ lines_step a.field * columns planes.size a.plane = ap₂ ◌*◌ c.row_step.ensures.value wide in
    let place : c.row_start.result + a.column + k / 8 * (c.row_step.result * c.columns.result) + k % 8
    ≡ row_start planes.size a.plane (frame_row a.field a.line) + a.column + k / 8 * (lines_step a.field * columns planes.size a.plane) + k % 8 =
    ap₂ (λ (s n : ℕ). s + a.column + k / 8 * n + k % 8) start step in
    c.put_rows.ensures.rows k h
    ∙ (ap₂ (λ (xs : List ℕ) (i : ℕ). get_or xs i 0) c.samples.ensures place
    ∙ inside_is planes a.field a.plane a.line a.column k c.requires.lines c.requires.columns h)

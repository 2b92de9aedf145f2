use Rattle.std.proofs.Common.{◌≡◌, ◌+◌, ◌*◌, ◌∙◌, ap, ap₂, arith, ℕ, subst}
use Rattle.picture_plane.specs.Blocks.{frame_row}
use Rattle.picture_plane.specs.Pictures.{columns, row_start}
use Rattle.picture_plane.specs.Views.{as_size}
use Rattle.picture_plane.specs.inner.Lines.{lines_step}
use Rattle.picture_plane.specs.inner.Placing.{AreRowsPlaced}
use Rattle.picture_plane.proofs.InsideSteps.{rows_room, rows_step}
use Rattle.picture_plane.proofs.PlaceRowSteps.{inside_is_placed}
use Rattle.picture_plane.proofs.place.place_inside.Goals as goal

pub place_rows-requires : goal.place_rows-requires
place_rows-requires c =
    let a = c.args in let size = as_size a.size in
    let start : c.row_start.result ≡ row_start size a.plane (frame_row a.field a.line) = c.row_start.ensures.value ∙ ap (row_start size a.plane) c.row_at.ensures in
    let step : c.row_step.result * c.columns.result ≡ lines_step a.field * columns size a.plane = ap₂ ◌*◌ c.row_step.ensures.value c.columns.ensures.value in
    record {
      room = omega (arith, start, step, c.requires.all, rows_room size a.field a.plane a.line a.column c.requires.field c.requires.lines c.requires.columns);
      apart = omega (arith, step, rows_step size a.field a.plane (omega (arith, c.requires.columns)));
      small = c.requires.small;
      block_small = c.requires.block_small;
    }

pub returns : goal.returns
returns c =
    let a = c.args in let size = as_size a.size in
    let start : c.row_start.result + a.column ≡ row_start size a.plane (frame_row a.field a.line) + a.column =
    ap (λ (s : ℕ). s + a.column) (c.row_start.ensures.value ∙ ap (row_start size a.plane) c.row_at.ensures) in
    let step : c.row_step.result * c.columns.result ≡ lines_step a.field * columns size a.plane = ap₂ ◌*◌ c.row_step.ensures.value c.columns.ensures.value in
    let Starts : ℕ → Type 0 = λ n. AreRowsPlaced 8 n (c.row_step.result * c.columns.result) a.block.now a.out.now c.place_rows.new.out in
    let Steps : ℕ → Type 0 = λ n. AreRowsPlaced 8 (row_start size a.plane (frame_row a.field a.line) + a.column) n a.block.now a.out.now c.place_rows.new.out in
    inside_is_placed size a.field a.plane a.line a.column a.block.now a.out.now c.place_rows.new.out c.requires.lines c.requires.columns
    (subst Steps step (subst Starts start c.place_rows.ensures))

use Rattle.std.proofs.Common.{arith, ◌≡◌, ◌+◌, ◌*◌, sym, subst, List, ℕ, ap, ◌∙◌}
use Rattle.picture_plane.specs.Blocks.{frame_row}
use Rattle.picture_plane.specs.Pictures.{row_start}
use Rattle.picture_plane.specs.Slices.{line_count}
use Rattle.picture_plane.specs.Views.{as_size}
use Rattle.picture_plane.specs.inner.Placing.{IsBlockPlaced, IsRowPlaced}
use Rattle.picture_plane.proofs.PlaceSteps.{row_more, row_past}
use Rattle.picture_plane.proofs.place.place_edge.Goals as goal
use Rattle.picture_plane.proofs.place.place_edge.Goals.{then-line-r, else-line-r}

pub loop-r-preserved : goal.loop-r-preserved
loop-r-preserved c =
    let a = c.args in let size = as_size a.size in let r : ℕ = c.loop-r.r in
    let lines : c.from-lines.result ≡ line_count size = c.from-lines.ensures ∙ c.line_count.ensures.value in
    let P : List ℕ → Type 0 = λ out. IsBlockPlaced (8 * (r + 1)) size a.field a.plane a.line a.column a.block.now a.out.now out in
    elim c.if-line-r.branch [
      | then-line-r w ↦
          let out : List ℕ = w.place_row.new.out in
          let start = w.row_start.ensures.value ∙ ap (row_start size a.plane) w.row_at.ensures in
          let Starts : ℕ → Type 0 = λ n. IsRowPlaced n w.columns.result a.column a.block.now r c.loop-r.out out in
          let Wide : ℕ → Type 0 = λ n. IsRowPlaced (row_start size a.plane (frame_row a.field (a.line + r))) n a.column a.block.now r c.loop-r.out out in
          let row = subst Wide w.columns.ensures.value (subst Starts start w.place_row.ensures) in
          subst P (sym w.out-is) (row_more size a.field a.plane a.line a.column r a.block.now a.out.now c.loop-r.out out (omega (arith, lines, w.if-line-r.true)) c.loop-r.invariant row)
      | else-line-r w ↦
          subst P (sym w.out-is) (row_past size a.field a.plane a.line a.column r a.block.now a.out.now c.loop-r.out (omega (arith, lines, w.if-line-r.false)) c.loop-r.invariant)
    ]

pub returns : goal.returns
returns c =
    let a = c.args in
    let all : 8 * c.loop-r.r ≡ 64 = omega arith in
    let P : ℕ → Type 0 = λ places. IsBlockPlaced places (as_size a.size) a.field a.plane a.line a.column a.block.now a.out.now c.loop-r.out in
    subst P all c.loop-r.invariant

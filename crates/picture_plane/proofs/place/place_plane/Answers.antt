use Rattle.std.proofs.Common.{arith, ◌≡◌, ◌+◌, ◌*◌, subst, List, ℕ, ap₂}
use Rattle.picture_plane.specs.Blocks.{block_of, columns_before, lines_above, macroblock_columns}
use Rattle.picture_plane.specs.Views.{as_size}
use Rattle.picture_plane.specs.inner.Placing.{IsBlockPlaced}
use Rattle.picture_plane.proofs.PlaceSteps.{block_more}
use Rattle.picture_plane.proofs.place.place_plane.Goals as goal

pub loop-b-preserved : goal.loop-b-preserved
loop-b-preserved c =
    let a = c.args in let name = a.name in let size = as_size a.size in let b : ℕ = c.loop-b.b in
    let mid : List ℕ = c.loop-b.out in let out : List ℕ = c.place_block.new.out in
    let block : List ℕ = block_of a.samples.now a.plane b in
    let left : c.macroblock_width.result * c.from.result ≡ macroblock_columns a.plane * name.first = ap₂ ◌*◌ c.macroblock_width.ensures.value c.from.ensures in
    let line : 16 * c.from-line.result + c.lines_to.result ≡ 16 * name.row + lines_above a.plane b = omega (arith, c.from-line.ensures, c.lines_to.ensures.value) in
    let column : c.macroblock_width.result * c.from.result + c.columns_to.result ≡ macroblock_columns a.plane * name.first + columns_before a.plane b =
    omega (arith, left, c.columns_to.ensures.value) in
    let Lines : ℕ → Type 0 = λ n. IsBlockPlaced 64 size name.field a.plane n (c.macroblock_width.result * c.from.result + c.columns_to.result) c.block.result.now mid out in
    let Columns : ℕ → Type 0 = λ n. IsBlockPlaced 64 size name.field a.plane (16 * name.row + lines_above a.plane b) n c.block.result.now mid out in
    let Block : List ℕ → Type 0 = λ xs.
    IsBlockPlaced 64 size name.field a.plane (16 * name.row + lines_above a.plane b) (macroblock_columns a.plane * name.first + columns_before a.plane b) xs mid out in
    block_more size name a.plane b a.samples.now a.out.now mid out c.requires.fits.field c.loop-b.invariant
    (subst Block c.block.ensures.value (subst Columns column (subst Lines line c.place_block.ensures)))

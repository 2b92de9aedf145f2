use Rattle.std.proofs.Common.{arith, ◌+◌, ◌<◌, ◌≡◌, ap, ap₂, ◌∙◌, ℕ, ◌*◌, List, slice_set}
use Rattle.picture_plane.specs.Blocks.{repeated_at, blocks_of, macroblock_columns}
use Rattle.picture_plane.specs.laws.SampleLaws.{block_within}
use Rattle.picture_plane.proofs.CutSteps.{blocks_more}
use Rattle.picture_plane.proofs.cut.cut_plane.Goals as goal

pub loop-b-preserved : goal.loop-b-preserved
loop-b-preserved c =
    let a = c.args in let name = a.name in let b : ℕ = c.loop-b.b in
    let block : List ℕ = c.cut_block.new.block in
    let now : List (List ℕ) = slice_set c.loop-b.blocks (c.first_of-first.result + b) block in
    let there : b < blocks_of a.plane name.count = omega (arith, c.block_count-b-end.ensures, c.loop-b-test.true) in
    let within = block_within a.plane name.count b c.requires.fits.most there in
    let set_there = ap (λ (n : ℕ). slice_set c.loop-b.blocks (n + b) block) c.first_of-first.ensures.value in
    let left : c.macroblock_width.result * c.from.result ≡ macroblock_columns a.plane * name.first = ap₂ ◌*◌ c.macroblock_width.ensures.value c.from.ensures in
    blocks_more a.picture.now name a.plane b c.loop-b.blocks now a.blocks.now block c.loop-b.invariant within set_there c.cut_block.ensures.long c.cut_block.ensures.small
    (λ k h. c.cut_block.ensures.samples k h
    ∙ ap₂ (λ (line column : ℕ). repeated_at a.picture.now name.field a.plane line column)
    (omega (arith, c.from-line.ensures, c.lines_to.ensures.value)) (omega (arith, left, c.columns_to.ensures.value)))

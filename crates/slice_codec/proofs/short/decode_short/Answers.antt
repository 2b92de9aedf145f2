use Rattle.std.proofs.Common.{rules, ◌≡◌, ◌*◌, ℕ, ℤ, List, length, take, arith}
use borrow.Rule.Slice.PartMut.{put_mid}
use Rattle.picture_plane.specs.Blocks.{blocks_in}
use Rattle.slice_codec.specs.Views.{as_setup}
use Rattle.slice_codec.proofs.DecodedLemmas.{front_is, decoded_part}
use Rattle.slice_codec.proofs.short.decode_short.Goals as goal

pub returns-clause-means : goal.returns-clause-means
returns-clause-means c = λ yes.
    let a = c.args in
    let n : ℕ = c.block_count-blocks.result in
    let levels : List ℤ = c.read_levels.new.levels in
    let coded = c.read_levels.ensures.coded (search rules) in
    let long : length levels ≡ 64 * n = omega (arith, coded.levels_are.long, c.block_count-blocks.ensures.value) in
    decoded_part (as_setup a.setup.now) a.count n c.scale_at-scale.result a.bytes.now a.plane c.weights_of-weights.result.now
    (take (64 * n) (put_mid 0 (64 * n) a.room.now.short levels)) levels (blocks_in c.put_blocks.new.self a.plane a.count) (take n c.rebuild_blocks.new.out)
    c.weights_of-weights.ensures c.scale_at-scale.ensures.scale c.block_count-blocks.ensures.value (front_is (64 * n) a.room.now.short levels long)
    c.put_blocks.ensures.put (search rules) coded (c.rebuild_blocks.ensures.in_range (search rules)) (c.rebuild_blocks.ensures.rebuilt (search rules))

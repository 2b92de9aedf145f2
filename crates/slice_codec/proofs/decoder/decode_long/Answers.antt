use Rattle.std.proofs.Common.{rules, ◌≡◌, ◌*◌, ℕ, ℤ, List, length, take, arith}
use borrow.Rule.Slice.PartMut.{put_mid}
use Rattle.std.proofs.lemmas.Result.{err_from_is_err_and}
use Rattle.picture_plane.specs.Blocks.{blocks_in}
use Rattle.slice_codec.specs.Views.{as_setup}
use Rattle.slice_codec.proofs.DecodedLemmas.{front_is, decoded_part, passing_part}
use Rattle.slice_codec.proofs.decoder.decode_long.Goals as goal

pub returns-in_err-read_levels-clause-refused : goal.returns-in_err-read_levels-clause-refused
returns-in_err-read_levels-clause-refused c =
    let p = err_from_is_err_and c.from_residual.result c.from_residual.ensures.1 in
    rw (p.1, p.2) (c.in_err-read_levels.ensures.refused (as_setup c.args.setup.now) c.requires.reached)

pub returns-in-Ok-clause-means : goal.returns-in-Ok-clause-means
returns-in-Ok-clause-means c =
    let a = c.args in
    let n : ℕ = c.block_count-blocks.result in
    let levels : List ℤ = c.read_levels.new.levels in
    let coded = c.in_ok-read_levels.ensures.coded in
    let long : length levels ≡ 64 * n = omega (arith, coded.levels_are.long, c.block_count-blocks.ensures.value) in
    decoded_part (as_setup a.setup.now) a.count n c.scale_at.result a.bytes.now a.plane c.weights_of.result.now
    (take (64 * n) (put_mid 0 (64 * n) a.room.now.levels levels)) levels (blocks_in c.put_blocks.new.self a.plane a.count) (take n c.rebuild_blocks.new.out)
    c.weights_of.ensures c.scale_at.ensures.scale c.block_count-blocks.ensures.value (front_is (64 * n) a.room.now.levels levels long)
    c.put_blocks.ensures.put (search rules) coded c.in-Ok.ensures.in_range c.in-Ok.ensures.rebuilt

pub returns-in-Err-clause-refused : goal.returns-in-Err-clause-refused
returns-in-Err-clause-refused c =
    let a = c.args in
    let n : ℕ = c.block_count-blocks.result in
    let levels : List ℤ = c.read_levels.new.levels in
    let coded = c.in_ok-read_levels.ensures.coded in
    let long : length levels ≡ 64 * n = omega (arith, coded.levels_are.long, c.block_count-blocks.ensures.value) in
    rw c.range_fault.ensures (passing_part (as_setup a.setup.now) a.count n c.scale_at.result a.bytes.now a.plane c.weights_of.result.now
    (take (64 * n) (put_mid 0 (64 * n) a.room.now.levels levels)) levels c.in-Err.fault
    c.weights_of.ensures c.scale_at.ensures.scale c.block_count-blocks.ensures.value (front_is (64 * n) a.room.now.levels levels long)
    coded c.requires.reached c.in-Err.ensures.refused)

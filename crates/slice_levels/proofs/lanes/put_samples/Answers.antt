use Rattle.std.proofs.Common.{rules, ◌≡◌, ◌≤◌, ◌-◌, ◌+◌, ◌*◌, ◌<◌, ℕ, List, length, take, drop, arith, slice_index}
use borrow.Rule.Slice.PartMut.{put_mid, mid_of}
use lib.Lanes.{put_chunk}
use Rattle.std.proofs.lemmas.List.{places, length-take-le, length-drop}
use Rattle.std.proofs.lemmas.Simd.{put_chunk_whole}
use Rattle.slice_levels.proofs.lanes.put_samples.Goals as goal

put_at : (a k x : ℕ) (xs row : List ℕ) → x < k → length row ≡ k → a + k ≤ length xs → slice_index (put_mid a k xs row) (a + x) ≡ slice_index row x
put_at a k x xs row lt long room = search (rules, places)

pub returns-clause-put : goal.returns-clause-put
returns-clause-put c = λ x lt.
    let a : ℕ = 8 * c.args.r in
    let k : ℕ = 8 * c.args.r + 8 - 8 * c.args.r in
    let eight : k ≡ 8 = omega arith in
    let middle : List ℕ = mid_of a k c.args.out.now in
    let part : length (take k (drop a c.args.out.now)) ≡ k = length-take-le k (drop a c.args.out.now) (omega (arith, length-drop a c.args.out.now, c.told-out, c.requires)) in
    let whole : put_chunk 0 (mid_of a k c.args.out.now) c.args.row ≡ c.args.row = put_chunk_whole (mid_of a k c.args.out.now) c.args.row (omega (arith, part, c.fits-row.0)) in
    rw whole (put_at a k x c.args.out.now c.args.row (omega arith) (omega (arith, c.fits-row.0)) (omega (arith, c.told-out, c.requires)))

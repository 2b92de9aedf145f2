use Rattle.std.proofs.Common.{◌≡◌, ◌+◌, ◌-◌, ℕ, List, ◌++◌, take, drop, length, append_assoc, arith, ap}
use Rattle.std.proofs.lemmas.List.{drop-drop}
use Rattle.rec_bytes.specs.Places.{with_bytes}
use Rattle.picture_plane.proofs.runs.put_run.Goals as goal
use borrow.Rule.Slice.PartMut.{put_mid}

-- a part that was written is a run at its place
put_is : (at : ℕ) (xs ys run : List ℕ) → ys ≡ run → put_mid at (at + length run - at) xs ys ≡ with_bytes xs at run
put_is at xs ys run e =
    rw (e, drop-drop, append_assoc (take at xs) run (drop (at + length run) xs))
    (ap (λ (n : ℕ). take at xs ++ (run ++ drop n xs)) (omega arith))

pub returns : goal.returns
returns c = put_is c.args.at c.args.out.now c.copy_from_slice.new.self c.args.run.now c.copy_from_slice.ensures.after

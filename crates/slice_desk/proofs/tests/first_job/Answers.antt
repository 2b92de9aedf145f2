use Rattle.std.proofs.Common.{◌≡◌, ℕ, List, Option, None, subst}
use Rattle.rec_bytes.specs.Configuration.{Fields}
use Rattle.picture_plane.specs.Pictures.{Planes}
use Rattle.slice_desk.specs.Told.{IsTold}
use Rattle.slice_desk.proofs.tests.first_job.Goals as goal

-- where nothing is told, no picture is
none_told : (told : Option (List ℕ)) (config : Fields) (frame : ℕ) (picture : Planes) → told ≡ None → IsTold told config frame picture → ⊥
none_told told config frame picture none is_told = subst (λ (t : Option (List ℕ)). IsTold t config frame picture) none is_told

pub invariant_of-result : goal.invariant_of-result
invariant_of-result g c = record {
  within = c.requires.some;
  own = λ picture name is_told. absurd (none_told g.N.Feed.bytes g.P.DeskName.config c.args.frame picture c.requires.untold is_told);
}

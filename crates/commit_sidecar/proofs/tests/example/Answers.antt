use Rattle.std.proofs.Common.{refl}
use Rattle.rec_bytes.specs.Configuration.{is_config, field_rules, picture_rules, coding_rules, take_rules}
use Rattle.commit_sidecar.proofs.tests.example.Goals as goal

-- the fields of the example keep every rule
pub invariant_of-result : goal.invariant_of-result
unfolding is_config field_rules picture_rules coding_rules take_rules
invariant_of-result c = record { in_range = refl }

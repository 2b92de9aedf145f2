use Rattle.std.proofs.Common.{refl}
use Rattle.rec_bytes.specs.Configuration.{is_config, field_rules, picture_rules, coding_rules, take_rules}
use Rattle.frame_syntax.proofs.tests.the_first_difference_from_a_configuration_is_named.Goals as goal

-- the fields keep every rule
pub invariant_of-cfg : goal.invariant_of-cfg
unfolding is_config field_rules picture_rules coding_rules take_rules
invariant_of-cfg g c = record { in_range = refl }

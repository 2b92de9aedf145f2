use Rattle.std.proofs.Common.{refl}
use Rattle.rec_bytes.specs.Configuration.{is_config, field_rules, picture_rules, coding_rules, take_rules}
use Rattle.rec_bytes.proofs.tests.the_example_is_written_and_read.Goals as goal

-- the fields of the example keep every rule
pub invariant_of-cfg : goal.invariant_of-cfg
unfolding is_config field_rules picture_rules coding_rules take_rules
invariant_of-cfg g c = record { in_range = refl }

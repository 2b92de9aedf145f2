use Rattle.slice_desk.proofs.tests.+count_slots.Given as goal

-- fewer slots are taken
abbrev pub decreases-count_slots : goal.decreases-count_slots
decreases-count_slots g l = l.most

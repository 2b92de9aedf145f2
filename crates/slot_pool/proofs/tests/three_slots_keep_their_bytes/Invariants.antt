use Rattle.slot_pool.proofs.tests.three_slots_keep_their_bytes.Given as goal

abbrev pub ghosts-use_three : goal.ghosts-use_three
ghosts-use_three g a = record { block = a.block }

use Rattle.slot_pool.proofs.tests.a_pool_closes_once_its_slot_is_back.Given as goal

abbrev pub ghosts-use_one : goal.ghosts-use_one
ghosts-use_one g a = record { block = a.block }

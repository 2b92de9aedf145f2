use Rattle.slot_pool.proofs.tests.a_pool_gives_out_all_its_slots_and_no_more.Given as goal

abbrev pub ghosts-use_all : goal.ghosts-use_all
ghosts-use_all g a = record { block = a.block }

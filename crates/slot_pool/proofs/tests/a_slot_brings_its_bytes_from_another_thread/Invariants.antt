use Rattle.slot_pool.proofs.tests.a_slot_brings_its_bytes_from_another_thread.Given as goal

abbrev pub ghosts-use_elsewhere : goal.ghosts-use_elsewhere
ghosts-use_elsewhere g a = record { block = a.block }

use Rattle.slot_pool.proofs.tests.+take_all.Given as goal

-- how many slots it may take
abbrev pub decreases-take_all : goal.decreases-take_all
decreases-take_all g a = a.most

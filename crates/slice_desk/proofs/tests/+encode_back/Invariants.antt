use Rattle.slice_desk.proofs.tests.+encode_back.Given as goal

-- fewer slices are taken
abbrev pub decreases-encode_back : goal.decreases-encode_back
decreases-encode_back g l = l.most

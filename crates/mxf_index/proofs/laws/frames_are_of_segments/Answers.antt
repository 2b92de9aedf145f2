use Rattle.mxf_index.proofs.ReadBackLemmas.{says_back}
use Rattle.mxf_index.proofs.SaidLemmas.{longest, said, sized}
use Rattle.mxf_index.proofs.laws.frames_are_of_segments.Goals as goal

pub returns-clause-back : goal.returns-clause-back
returns-clause-back c = says_back

pub returns-clause-segment : goal.returns-clause-segment
returns-clause-segment c = said

pub returns-clause-sized : goal.returns-clause-sized
returns-clause-sized c = sized

pub returns-clause-longest : goal.returns-clause-longest
returns-clause-longest c = longest

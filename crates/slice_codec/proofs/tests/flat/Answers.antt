use Rattle.slice_codec.proofs.FlatLemmas.{alike}
use Rattle.slice_codec.proofs.tests.flat.Goals as goal

pub set_block-requires-clause-small : goal.set_block-requires-clause-small
set_block-requires-clause-small c = λ k. alike 64 c.args.value 1024 k c.requires

pub set_block-requires-in-loop-b-2-clause-small : goal.set_block-requires-in-loop-b-2-clause-small
set_block-requires-in-loop-b-2-clause-small c = λ k. alike 64 c.args.value 1024 k c.requires

pub set_block-requires-in-loop-b-2-2-clause-small : goal.set_block-requires-in-loop-b-2-2-clause-small
set_block-requires-in-loop-b-2-2-clause-small c = λ k. alike 64 c.args.value 1024 k c.requires

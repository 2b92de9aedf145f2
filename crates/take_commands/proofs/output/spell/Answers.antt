use Rattle.std.proofs.Common.{arith}
use Rattle.take_commands.proofs.SampleLemmas.{put_more, put_whole}
use Rattle.take_commands.proofs.output.spell.Goals as goal

pub loop-k-preserved : goal.loop-k-preserved
loop-k-preserved c = record {
  long = (let same = c.put_u16.auto.out in let before = c.loop-k.invariant.long in omega arith);
  front = put_more c.args.bytes.now c.loop-k.bytes c.put_u16.new.out c.args.samples.now c.loop-k.k (omega arith) c.requires c.loop-k.invariant.front c.put_u16.ensures;
}

pub returns : goal.returns
returns c = put_whole c.args.bytes.now c.loop-k.bytes c.args.samples.now c.loop-k.k (omega arith) c.requires c.loop-k.invariant.front

use Rattle.std.proofs.Common.{refl}
use Rattle.mxf_reader.proofs.InsideLemmas.{inside_none}
use Rattle.mxf_reader.proofs.KeptLemmas.{kept_none}
use Rattle.mxf_reader.proofs.seen.nothing.Goals as goal

pub returns-clause-none : goal.returns-clause-none
returns-clause-none c = kept_none _ c.new.ensures.items refl refl c.new-2.ensures.items c.new-3.ensures.items refl

pub returns-clause-inside : goal.returns-clause-inside
returns-clause-inside c = inside_none _ c.new.ensures.items refl c.new-2.ensures.items c.new-3.ensures.items refl

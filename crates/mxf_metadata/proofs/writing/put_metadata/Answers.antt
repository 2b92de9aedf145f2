use Rattle.std.proofs.Common.{ℕ, List, arith}
use Rattle.std.specs.List.{flat_map}
use Rattle.rec_bytes.specs.Views.{view}
use Rattle.rec_bytes.specs.laws.Places.{with_bytes-more}
use Rattle.mxf_metadata.specs.Metadata.{set_bytes, sets, metadata}
use Rattle.mxf_metadata.specs.Primer.{primer}
use Rattle.mxf_metadata.specs.laws.Lengths.{length_primer}
use Rattle.mxf_metadata.proofs.writing.put_metadata.Goals as goal

pub returns-clause-written : goal.returns-clause-written
unfolding metadata
returns-clause-written c =
    let list : List ℕ = flat_map set_bytes (sets (view c.args.cfg.now) c.args.ids.now c.args.frames) in
    let room = c.requires.room in
    with_bytes-more c.args.out.now 0 928 primer list c.put_primer.new.out c.put_sets.new.out c.put_primer.ensures (omega (arith, length_primer)) (omega arith) c.put_sets.ensures.written.bytes

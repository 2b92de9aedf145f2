use Rattle.std.proofs.Common.{ℕ, ◌+◌, List, ◌++◌, arith, refl}
use Rattle.byteorder.specs.Endian.{big_bytes}
use Rattle.rec_bytes.specs.laws.Places.{with_bytes-more}
use Rattle.mxf_metadata.specs.declared.labels.TheConstants.{TAG_LABEL_HEAD}
use Rattle.mxf_metadata.proofs.primer.put_entry.Goals as goal

pub returns-clause-written : goal.returns-clause-written
returns-clause-written c =
    let tag : List ℕ = big_bytes 2 c.args.tag.now.tag in
    let old : List ℕ = c.args.out.now in
    let room = c.requires in
    let front = with_bytes-more old c.args.at (c.args.at + 2) tag TAG_LABEL_HEAD c.put_u16.new.out c.put_bytes.new.out c.put_u16.ensures refl (omega arith) c.put_bytes.ensures in
    with_bytes-more old c.args.at (c.args.at + 16) (tag ++ TAG_LABEL_HEAD) tag c.put_bytes.new.out c.put_u16-2.new.out front refl (omega arith) c.put_u16-2.ensures

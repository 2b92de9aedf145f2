use Rattle.std.proofs.Common.{◌+◌, [], ◌∷◌, refl, arith}
use Rattle.byteorder.specs.Endian.{big_bytes}
use Rattle.rec_bytes.specs.laws.Places.{with_bytes-three}
use Rattle.frame_syntax.proofs.front.put_identity.Goals as goal

pub returns-clause-written : goal.returns-clause-written
returns-clause-written c =
    let head = c.args.head.now in
    with_bytes-three c.args.out.now c.args.at (c.args.at + 2) (c.args.at + 4) (big_bytes 2 head.head_size) (0 ∷ head.version ∷ []) head.encoder
    c.put_u16.new.out c.put_bytes.new.out c.put_bytes-2.new.out refl refl (omega (arith, c.requires)) (omega (arith, c.requires))
    c.put_u16.ensures c.put_bytes.ensures c.put_bytes-2.ensures

use Rattle.std.proofs.Common.{rules, ◌≡◌, ℕ, List, ◌+◌, ◌++◌, length, refl, sym, ap, ◌∙◌, arith, append-nil}
use Rattle.byteorder.specs.Endian.{big_bytes}
use Rattle.rec_bytes.specs.Places.{with_bytes}
use Rattle.rec_bytes.specs.laws.Places.{with_bytes-three}
use Rattle.mxf_partitions.specs.declared.partition.TheConstants.{LABEL_LEN}
use Rattle.mxf_partitions.proofs.partition.put_labels.Goals as goal

pub returns-clause-written : goal.returns-clause-written
returns-clause-written c =
    let old : List ℕ = c.args.out.now in
    let at : ℕ = c.args.at in
    let label : List ℕ = c.args.p.now.label in
    let long : length label ≡ LABEL_LEN = search rules in
    with_bytes-three old at (at + 4) (at + 8) (big_bytes 4 1) (big_bytes 4 LABEL_LEN) label _ _ c.put_bytes.new.out refl refl
    (omega (arith, c.requires)) (omega (arith, c.requires, long)) c.put_u32.ensures c.put_u32-2.ensures c.put_bytes.ensures
    ∙ ap (λ (bytes : List ℕ). with_bytes old at (big_bytes 4 1 ++ big_bytes 4 LABEL_LEN ++ bytes)) (sym (append-nil label))

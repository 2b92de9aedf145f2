use Rattle.std.proofs.Common.{◌≡◌, ℕ, List, length, refl, sym, ap, ◌∙◌, arith}
use Rattle.rec_bytes.specs.Configuration.{Fields}
use Rattle.rec_bytes.specs.Places.{with_bytes}
use Rattle.rec_bytes.specs.laws.Places.{with_bytes-more, with_bytes-whole}
use Rattle.rec_bytes.specs.Views.{view}
use Rattle.mxf_partitions.specs.Partitions.{partition_pack}
use Rattle.mxf_partitions.specs.declared.partition.Partition.{Partition}
use Rattle.mxf_partitions.specs.laws.Lengths.{length-partition_pack}
use Rattle.mxf_names.specs.Identifiers.{ids_of}
use Rattle.mxf_metadata.specs.Metadata.{metadata}
use Rattle.std.proofs.Common.{None}
use Rattle.mxf_take_file.specs.Layout.{head}
use Rattle.mxf_take_file.specs.Packs.{header_pack}
use Rattle.mxf_take_file.specs.laws.Parts.{head_len_is}
use Rattle.mxf_take_file.proofs.lead.put_head.Goals as goal

pub put_pack-at-requires-clause-room : goal.put_pack-at-requires-clause-room
put_pack-at-requires-clause-room c = omega (arith, head_len_is (view c.args.cfg.now) c.requires.range, c.requires.room)

pub put_sets-requires-clause-room : goal.put_sets-requires-clause-room
put_sets-requires-clause-room c = omega (arith, head_len_is (view c.args.cfg.now) c.requires.range, c.requires.room, c.put_pack-at.ensures.behind)

pub returns : goal.returns
unfolding head
returns c =
    let cfg : Fields = view c.args.cfg.now in
    let old : List ℕ = c.args.out.now in
    let long : length (head cfg) ≡ 3289 = head_len_is cfg c.requires.range in
    let room : length old ≡ length (head cfg) = c.requires.room in
    let pack : c.put_pack-at.new.out ≡ with_bytes old 0 (partition_pack header_pack) = c.put_pack-at.ensures.written ∙ ap (λ (p : Partition). with_bytes old 0 (partition_pack p)) c.header_pack.ensures in
    let both = with_bytes-more old 0 c.put_pack-at.result (partition_pack header_pack) (metadata cfg (ids_of cfg) None) c.put_pack-at.new.out c.put_sets.new.out
    pack (omega (arith, c.put_pack-at.ensures.behind, length-partition_pack header_pack refl refl)) (omega (arith, long, room, c.put_pack-at.ensures.behind)) c.put_sets.ensures.written in
    both ∙ with_bytes-whole old (head cfg) (sym room)

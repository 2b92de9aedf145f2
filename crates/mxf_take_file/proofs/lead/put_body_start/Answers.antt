use Rattle.std.proofs.Common.{◌≡◌, ℕ, ◌+◌, List, length, refl, ap, ◌∙◌, arith}
use Rattle.rec_bytes.specs.Configuration.{Fields}
use Rattle.rec_bytes.specs.Places.{with_bytes}
use Rattle.rec_bytes.specs.laws.Places.{with_bytes-more}
use Rattle.rec_bytes.specs.Views.{view}
use Rattle.mxf_partitions.specs.Partitions.{partition_pack}
use Rattle.mxf_partitions.specs.declared.partition.Partition.{Partition}
use Rattle.mxf_take_file.specs.Extents.{Extents}
use Rattle.mxf_take_file.specs.inner.Kept.{extents_kept}
use Rattle.mxf_take_file.specs.Layout.{body_start}
use Rattle.mxf_take_file.specs.Packs.{body_pack}
use Rattle.mxf_take_file.specs.Segments.{segment_from, whole_first}
use Rattle.mxf_take_file.specs.laws.Parts.{body_pack_len, body_pack_labels, body_start_parts}
use Rattle.mxf_take_file.proofs.lead.put_body_start.Goals as goal

pub put_pack-at-requires-clause-label : goal.put_pack-at-requires-clause-label
put_pack-at-requires-clause-label c = ap (λ (p : Partition). p.label_count) c.body_pack.ensures ∙ body_pack_labels (view c.args.cfg.now) (extents_kept c.args.places.now)

pub put_pack-at-requires-clause-room : goal.put_pack-at-requires-clause-room
put_pack-at-requires-clause-room c =
    omega (arith, body_start_parts (view c.args.cfg.now) (extents_kept c.args.places.now) (whole_first (view c.args.cfg.now) (extents_kept c.args.places.now)) refl, c.requires.room)

pub put_segment_from-requires-clause-room : goal.put_segment_from-requires-clause-room
put_segment_from-requires-clause-room c =
    omega (arith, body_start_parts (view c.args.cfg.now) (extents_kept c.args.places.now) c.whole_first.result c.whole_first.ensures.first, c.requires.room, c.put_pack-at.ensures.behind)

pub returns-clause-behind : goal.returns-clause-behind
returns-clause-behind c =
    omega (arith, body_start_parts (view c.args.cfg.now) (extents_kept c.args.places.now) c.whole_first.result c.whole_first.ensures.first, c.put_segment_from.ensures.behind, c.put_pack-at.ensures.behind)

pub returns-clause-written : goal.returns-clause-written
unfolding body_start
returns-clause-written c =
    let cfg : Fields = view c.args.cfg.now in
    let e : Extents = extents_kept c.args.places.now in
    let old : List ℕ = c.args.out.now in
    let mid : List ℕ = c.put_pack-at.new.out in
    let at : ℕ = c.put_pack-at.result in
    let pack : mid ≡ with_bytes old 0 (partition_pack (body_pack cfg e)) = c.put_pack-at.ensures.written ∙ ap (λ (p : Partition). with_bytes old 0 (partition_pack p)) c.body_pack.ensures in
    let segment = c.put_segment_from.ensures.written ∙ ap (λ (n : ℕ). with_bytes mid at (segment_from cfg e n)) c.whole_first.ensures.first in
    let parts : 124 + length (segment_from cfg e (whole_first cfg e)) ≡ length (body_start cfg e) = body_start_parts cfg e (whole_first cfg e) refl in
    with_bytes-more old 0 at (partition_pack (body_pack cfg e)) (segment_from cfg e (whole_first cfg e)) mid c.put_segment_from.new.out pack
    (omega (arith, c.put_pack-at.ensures.behind, body_pack_len cfg e)) (omega (arith, c.put_pack-at.ensures.behind, parts, c.requires.room)) segment

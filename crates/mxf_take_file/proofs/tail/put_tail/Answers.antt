use Rattle.std.proofs.Common.{◌≡◌, ℕ, ◌+◌, List, ◌++◌, length, sym, ap, ◌∙◌, arith, Some}
use Rattle.std.proofs.lemmas.List.{length-append}
use Rattle.rec_bytes.specs.Configuration.{Fields}
use Rattle.rec_bytes.specs.Places.{with_bytes}
use Rattle.rec_bytes.specs.laws.Places.{with_bytes-more, with_bytes-whole}
use Rattle.rec_bytes.specs.Views.{view}
use Rattle.mxf_partitions.specs.Partitions.{partition_pack}
use Rattle.mxf_partitions.specs.RandomIndex.{random_index_pack}
use Rattle.mxf_partitions.specs.declared.partition.Partition.{Partition}
use Rattle.mxf_names.specs.Identifiers.{ids_of}
use Rattle.mxf_metadata.specs.Metadata.{metadata}
use Rattle.mxf_take_file.specs.Extents.{Extents}
use Rattle.mxf_take_file.specs.inner.Kept.{extents_kept}
use Rattle.mxf_take_file.specs.Layout.{tail_of}
use Rattle.mxf_take_file.specs.Packs.{pack_entries, footer_pack}
use Rattle.mxf_take_file.specs.Segments.{segment_from, last_first}
use Rattle.mxf_take_file.specs.laws.Counts.{last_few}
use Rattle.mxf_take_file.specs.laws.Parts.{metadata_len}
use Rattle.mxf_take_file.proofs.TailLemmas.{footer_pack_len, footer_pack_labels, tail_parts}
use Rattle.mxf_take_file.proofs.tail.put_tail.Goals as goal

pub put_pack-sets_at-requires-clause-label : goal.put_pack-sets_at-requires-clause-label
put_pack-sets_at-requires-clause-label c = ap (λ (p : Partition). p.label_count) c.footer_pack.ensures ∙ footer_pack_labels (view c.args.cfg.now) (extents_kept c.args.places.now)

pub put_pack-sets_at-requires-clause-room : goal.put_pack-sets_at-requires-clause-room
put_pack-sets_at-requires-clause-room c = omega (arith, tail_parts (view c.args.cfg.now) (extents_kept c.args.places.now) c.requires.range, c.requires.room)

pub put_sets-segment_at-requires-clause-room : goal.put_sets-segment_at-requires-clause-room
put_sets-segment_at-requires-clause-room c = omega (arith, tail_parts (view c.args.cfg.now) (extents_kept c.args.places.now) c.requires.range, c.requires.room, c.put_pack-sets_at.ensures.behind)

pub put_segment_from-packs_at-requires-clause-few : goal.put_segment_from-packs_at-requires-clause-few
put_segment_from-packs_at-requires-clause-few c = omega (arith, last_few c.args.cfg.now.part (length c.args.places.now) c.requires.range.part.least, c.last_first.ensures.first, c.requires.range.part.most)

pub put_segment_from-packs_at-requires-clause-room : goal.put_segment_from-packs_at-requires-clause-room
put_segment_from-packs_at-requires-clause-room c =
    let cfg : Fields = view c.args.cfg.now in
    let e : Extents = extents_kept c.args.places.now in
    let segment : length (segment_from cfg e c.last_first.result) ≡ length (segment_from cfg e (last_first cfg e)) = ap (λ (n : ℕ). length (segment_from cfg e n)) c.last_first.ensures.first in
    omega (arith, tail_parts (view c.args.cfg.now) (extents_kept c.args.places.now) c.requires.range, c.requires.room, c.put_pack-sets_at.ensures.behind, c.put_sets-segment_at.ensures.behind)

pub put_packs-requires-clause-room : goal.put_packs-requires-clause-room
put_packs-requires-clause-room c =
    let cfg : Fields = view c.args.cfg.now in
    let e : Extents = extents_kept c.args.places.now in
    let segment : length (segment_from cfg e c.last_first.result) ≡ length (segment_from cfg e (last_first cfg e)) = ap (λ (n : ℕ). length (segment_from cfg e n)) c.last_first.ensures.first in
    omega (arith, tail_parts (view c.args.cfg.now) (extents_kept c.args.places.now) c.requires.range, c.requires.room, c.put_pack-sets_at.ensures.behind, c.put_sets-segment_at.ensures.behind, c.put_segment_from-packs_at.ensures.behind)

pub returns : goal.returns
unfolding tail_of
returns c =
    let cfg : Fields = view c.args.cfg.now in
    let e : Extents = extents_kept c.args.places.now in
    let old : List ℕ = c.args.out.now in
    let p : List ℕ = partition_pack (footer_pack cfg e) in
    let m : List ℕ = metadata cfg (ids_of cfg) (Some e.count) in
    let s : List ℕ = segment_from cfg e (last_first cfg e) in
    let r : List ℕ = random_index_pack (pack_entries cfg e) in
    let parts : length (tail_of cfg e) ≡ 124 + 3165 + length s + length r = tail_parts cfg e c.requires.range in
    let room : length old ≡ length (tail_of cfg e) = c.requires.room in
    let long_p : length p ≡ 124 = footer_pack_len cfg e in
    let long_m : length m ≡ 3165 = metadata_len cfg (Some e.count) c.requires.range in
    let long_pm : length (p ++ m) ≡ length p + length m = length-append p m in
    let long_pms : length ((p ++ m) ++ s) ≡ length (p ++ m) + length s = length-append (p ++ m) s in
    let segment : length (segment_from cfg e c.last_first.result) ≡ length s = ap (λ (n : ℕ). length (segment_from cfg e n)) c.last_first.ensures.first in
    let at_1 = c.put_pack-sets_at.ensures.behind in
    let at_2 = c.put_sets-segment_at.ensures.behind in
    let at_3 = c.put_segment_from-packs_at.ensures.behind in
    let to_p : c.put_pack-sets_at.new.out ≡ with_bytes old 0 p = c.put_pack-sets_at.ensures.written ∙ ap (λ (q : Partition). with_bytes old 0 (partition_pack q)) c.footer_pack.ensures in
    let to_m : c.put_sets-segment_at.new.out ≡ with_bytes old 0 (p ++ m) = with_bytes-more old 0 c.put_pack-sets_at.result p m c.put_pack-sets_at.new.out c.put_sets-segment_at.new.out
    to_p (omega (arith, at_1, long_p)) (omega (arith, at_1, parts, room)) c.put_sets-segment_at.ensures.written in
    let third : c.put_segment_from-packs_at.new.out ≡ with_bytes c.put_sets-segment_at.new.out c.put_sets-segment_at.result s =
    c.put_segment_from-packs_at.ensures.written ∙ ap (λ (n : ℕ). with_bytes c.put_sets-segment_at.new.out c.put_sets-segment_at.result (segment_from cfg e n)) c.last_first.ensures.first in
    let to_s : c.put_segment_from-packs_at.new.out ≡ with_bytes old 0 ((p ++ m) ++ s) = with_bytes-more old 0 c.put_sets-segment_at.result (p ++ m) s c.put_sets-segment_at.new.out c.put_segment_from-packs_at.new.out
    to_m (omega (arith, at_1, at_2, long_p, long_m, long_pm)) (omega (arith, at_1, at_2, parts, room)) third in
    let all = with_bytes-more old 0 c.put_segment_from-packs_at.result ((p ++ m) ++ s) r c.put_segment_from-packs_at.new.out c.put_packs.new.out
    to_s (omega (arith, at_1, at_2, at_3, segment, long_p, long_m, long_pm, long_pms)) (omega (arith, at_1, at_2, at_3, segment, parts, room)) c.put_packs.ensures in
    all ∙ with_bytes-whole old (tail_of cfg e) (sym room)

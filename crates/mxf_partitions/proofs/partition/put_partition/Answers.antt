use Rattle.std.proofs.Common.{◌≡◌, ℕ, List, [], ◌∷◌, ◌++◌, length, sym, ap, ◌∙◌, arith, length-append}
use Rattle.byteorder.specs.Endian.{big_bytes}
use Rattle.klv.specs.Items.{klv_head, length_bytes}
use Rattle.mxf_names.specs.Keys.{partition_key}
use Rattle.mxf_partitions.specs.Partitions.{pack_value, label_batch, partition_pack}
use Rattle.rec_bytes.specs.Places.{with_bytes}
use Rattle.rec_bytes.specs.laws.Places.{with_bytes-more, with_bytes-whole}
use Rattle.mxf_partitions.specs.laws.Lengths.{length-pack_value, length-partition_pack}
use Rattle.mxf_partitions.specs.declared.partition.TheConstants.{PACK_LEN, PACK_VALUE_LEN}
use Rattle.mxf_partitions.proofs.partition.put_partition.Goals as goal

pub returns : goal.returns
unfolding length_bytes
returns c =
    let p = c.args.p.now in
    let old : List ℕ = c.args.out.now in
    let long : length old ≡ PACK_LEN = c.told-out in
    let pattern_long = c.put_pattern-labels_at.ensures.sized in
    let label_long = c.put_labels.ensures.sized in
    let key : List ℕ = klv_head (partition_key p.kind p.status) 3 PACK_VALUE_LEN in
    let version : List ℕ = big_bytes 2 p.major ++ big_bytes 2 p.minor ++ big_bytes 4 p.kag in
    let places : List ℕ = big_bytes 8 p.this ++ big_bytes 8 p.previous ++ big_bytes 8 p.footer in
    let sizes : List ℕ = big_bytes 8 p.header_bytes ++ big_bytes 8 p.index_bytes ++ big_bytes 4 p.index_sid in
    let body : List ℕ = big_bytes 8 p.body_offset ++ big_bytes 4 p.body_sid in
    let head = c.put_klv_head_at-version_at in
    let at_28 = c.put_version-places_at.ensures.behind in
    let at_52 = c.put_places-sizes_at.ensures.behind in
    let at_72 = c.put_sizes-body_at.ensures.behind in
    let at_84 = c.put_body-pattern_at.ensures.behind in
    let at_100 = c.put_pattern-labels_at.ensures.behind in
    let at_20 = head.ensures.behind in
    let first = head.ensures.written ∙ ap (λ (name : List ℕ). with_bytes old 0 (klv_head name 3 PACK_VALUE_LEN)) c.partition_key-key.ensures in
    let to_28 = with_bytes-more old 0 head.result key version _ _ first at_20 (omega (arith, long, at_20)) c.put_version-places_at.ensures.written in
    let to_52 =
    with_bytes-more old 0 c.put_version-places_at.result (key ++ version) places _ _ to_28 (omega (arith, at_20, at_28))
    (omega (arith, long, at_20, at_28)) c.put_places-sizes_at.ensures.written in
    let to_72 =
    with_bytes-more old 0 c.put_places-sizes_at.result ((key ++ version) ++ places) sizes _ _ to_52 (omega (arith, at_20, at_28, at_52))
    (omega (arith, long, at_20, at_28, at_52)) c.put_sizes-body_at.ensures.written in
    let to_84 =
    with_bytes-more old 0 c.put_sizes-body_at.result (((key ++ version) ++ places) ++ sizes) body _ _ to_72
    (omega (arith, at_20, at_28, at_52, at_72)) (omega (arith, long, at_20, at_28, at_52, at_72)) c.put_body-pattern_at.ensures.written in
    let front : List ℕ = (((key ++ version) ++ places) ++ sizes) ++ body in
    let to_100 =
    with_bytes-more old 0 c.put_body-pattern_at.result front p.pattern _ _ to_84 (omega (arith, at_20, at_28, at_52, at_72, at_84))
    (omega (arith, long, at_20, at_28, at_52, at_72, at_84, pattern_long)) c.put_pattern-labels_at.ensures.written in
    let to_124 =
    with_bytes-more old 0 c.put_pattern-labels_at.result (front ++ p.pattern) (label_batch (p.label ∷ [])) _ _ to_100
    (omega (arith, at_20, at_28, at_52, at_72, at_84, at_100, length-append front p.pattern, pattern_long))
    (omega (arith, long, at_20, at_28, at_52, at_72, at_84, at_100, length-append p.label [], label_long)) c.put_labels.ensures.written in
    let size : length (pack_value p (p.label ∷ [])) ≡ PACK_VALUE_LEN = length-pack_value p pattern_long label_long in
    let pack : length (partition_pack p) ≡ PACK_LEN = length-partition_pack p pattern_long label_long in
    to_124
    ∙ ap (λ (n : ℕ). with_bytes old 0 (klv_head (partition_key p.kind p.status) 3 n ++ pack_value p (p.label ∷ []))) (sym size)
    ∙ with_bytes-whole old (partition_pack p) (pack ∙ sym long)

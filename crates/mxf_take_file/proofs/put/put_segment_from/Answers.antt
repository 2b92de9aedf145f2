use Rattle.std.proofs.Common.{ℕ, ◌-◌, ◌<◌, List, length, take, drop, sym, ap, ◌∙◌, arith}
use Rattle.std.proofs.lemmas.List.{take_rest, length-drop}
use Rattle.rec_bytes.specs.Configuration.{Fields}
use Rattle.rec_bytes.specs.Places.{with_bytes}
use Rattle.rec_bytes.specs.laws.Places.{with_bytes-part}
use Rattle.rec_bytes.specs.Views.{view}
use Rattle.mxf_names.specs.declared.ids.Ids.{Ids}
use Rattle.mxf_index.specs.Segments.{index_segment}
use Rattle.mxf_take_file.specs.inner.Kept.{extents_kept}
use Rattle.mxf_take_file.specs.Segments.{segment_from}
use Rattle.mxf_take_file.specs.laws.Parts.{kept_whole}
use Rattle.mxf_take_file.proofs.SegmentLemmas.{none_from, with_nothing, some_from, some_len}
use Rattle.mxf_take_file.proofs.put.put_segment_from.Goals as goal

pub returns-then-first-places-clause-behind : goal.returns-then-first-places-clause-behind
returns-then-first-places-clause-behind c =
    let none = none_from (view c.args.cfg.now) (extents_kept c.args.places.now) c.args.first (kept_whole c.args.places.now) c.if-first-places.true in
    rw none (omega arith)

pub returns-then-first-places-clause-written : goal.returns-then-first-places-clause-written
returns-then-first-places-clause-written c =
    let none = none_from (view c.args.cfg.now) (extents_kept c.args.places.now) c.args.first (kept_whole c.args.places.now) c.if-first-places.true in
    rw none (with_nothing c.args.out.now c.args.at)

pub put_segment-requires-clause-room : goal.put_segment-requires-clause-room
put_segment-requires-clause-room c =
    let some : c.args.first < length c.args.places.now = omega arith in
    let long = some_len (view c.args.cfg.now) c.args.places.now c.args.first (take c.gather-count.result c.gather-count.new.streams) some c.gather-count.ensures.gathered in
    omega (arith, long, c.requires.room, ap length (take_rest c.args.out.now c.args.at), length-drop c.args.at c.args.out.now)

pub returns-clause-behind : goal.returns-clause-behind
returns-clause-behind c =
    let some : c.args.first < length c.args.places.now = omega arith in
    let long = some_len (view c.args.cfg.now) c.args.places.now c.args.first (take c.gather-count.result c.gather-count.new.streams) some c.gather-count.ensures.gathered in
    omega (arith, long, c.put_segment.ensures.count)

pub returns-clause-written : goal.returns-clause-written
returns-clause-written c =
    let cfg : Fields = view c.args.cfg.now in
    let out : List ℕ = c.args.out.now in
    let at : ℕ = c.args.at in
    let some : c.args.first < length c.args.places.now = omega arith in
    let streams : List ℕ = take c.gather-count.result c.gather-count.new.streams in
    let segment = some_from cfg c.args.places.now c.args.first streams some c.gather-count.ensures.gathered in
    let written = c.put_segment.ensures.written
    ∙ ap (λ (ids : Ids). with_bytes (take (length out - at) (drop at out)) 0 (index_segment cfg ids c.args.first streams)) c.new-ids.ensures
    ∙ ap (λ (bytes : List ℕ). with_bytes (take (length out - at) (drop at out)) 0 bytes) (sym segment)
    ∙ ap (λ (rest : List ℕ). with_bytes rest 0 (segment_from cfg (extents_kept c.args.places.now) c.args.first)) (take_rest out at) in
    with_bytes-part out at c.put_segment.new.out (segment_from cfg (extents_kept c.args.places.now) c.args.first) (omega (arith, c.requires.room)) written

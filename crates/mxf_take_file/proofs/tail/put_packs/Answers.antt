use Rattle.std.proofs.Common.{◌≡◌, ℕ, ◌+◌, ◌*◌, List, ◌++◌, length, ap, ◌∙◌, arith}
use Rattle.std.specs.List.{flat_map}
use Rattle.std.proofs.lemmas.List.{length-append}
use Rattle.rec_bytes.specs.Configuration.{Fields}
use Rattle.rec_bytes.specs.Places.{with_bytes}
use Rattle.rec_bytes.specs.laws.Places.{with_bytes-more}
use Rattle.rec_bytes.specs.Views.{view}
use Rattle.mxf_partitions.specs.RandomIndex.{entry_bytes, random_index_head, random_index_end}
use Rattle.mxf_take_file.specs.Extents.{Extents, body_count}
use Rattle.mxf_take_file.specs.inner.Kept.{extents_kept}
use Rattle.mxf_take_file.specs.Packs.{body_entries, entry}
use Rattle.mxf_take_file.proofs.TailLemmas.{bodies_len, packs_joined, packs_len, packs_head_len}
use Rattle.mxf_take_file.proofs.tail.put_packs.Goals as goal

pub put_pack_entry-bodies_at-requires : goal.put_pack_entry-bodies_at-requires
put_pack_entry-bodies_at-requires c = omega (arith, packs_len (view c.args.cfg.now) (extents_kept c.args.places.now), c.requires.room, c.body_count-bodies.ensures.count, c.put_random_index_head-first_at.ensures.behind)

pub put_bodies-footer_at-requires-clause-room : goal.put_bodies-footer_at-requires-clause-room
put_bodies-footer_at-requires-clause-room c = omega (arith, packs_len (view c.args.cfg.now) (extents_kept c.args.places.now), c.requires.room, c.body_count-bodies.ensures.count, c.put_random_index_head-first_at.ensures.behind, c.put_pack_entry-bodies_at.ensures.behind)

pub put_pack_entry-end_at-requires : goal.put_pack_entry-end_at-requires
put_pack_entry-end_at-requires c = omega (arith, packs_len (view c.args.cfg.now) (extents_kept c.args.places.now), c.requires.room, c.body_count-bodies.ensures.count, c.put_random_index_head-first_at.ensures.behind, c.put_pack_entry-bodies_at.ensures.behind, c.put_bodies-footer_at.ensures.behind)

pub put_random_index_end-requires-clause-room : goal.put_random_index_end-requires-clause-room
put_random_index_end-requires-clause-room c = omega (arith, packs_len (view c.args.cfg.now) (extents_kept c.args.places.now), c.requires.room, c.body_count-bodies.ensures.count, c.put_random_index_head-first_at.ensures.behind, c.put_pack_entry-bodies_at.ensures.behind, c.put_bodies-footer_at.ensures.behind, c.put_pack_entry-end_at.ensures.behind)

pub returns : goal.returns
returns c =
    let cfg : Fields = view c.args.cfg.now in
    let e : Extents = extents_kept c.args.places.now in
    let old : List ℕ = c.args.out.now in
    let at : ℕ = c.args.at in
    let n : ℕ = c.body_count-bodies.result + 2 in
    let count : n ≡ body_count cfg.part e.count + 2 = ap (λ (k : ℕ). k + 2) c.body_count-bodies.ensures.count in
    let h : List ℕ = random_index_head n in
    let a : List ℕ = entry_bytes (entry 0 0) in
    let x : List ℕ = flat_map entry_bytes (body_entries cfg.part e (body_count cfg.part e.count)) in
    let y : List ℕ = entry_bytes (entry 0 (e.end_of e.count)) in
    let long : length x ≡ 12 * body_count cfg.part e.count = bodies_len cfg.part e (body_count cfg.part e.count) in
    let room = packs_len cfg e in
    let long_h : length h ≡ 20 = packs_head_len n in
    let to_a : c.put_pack_entry-bodies_at.new.out ≡ with_bytes old at (h ++ a) = with_bytes-more old at c.put_random_index_head-first_at.result h a c.put_random_index_head-first_at.new.out c.put_pack_entry-bodies_at.new.out
    c.put_random_index_head-first_at.ensures.written (omega (arith, c.put_random_index_head-first_at.ensures.behind)) (omega (arith, packs_len (view c.args.cfg.now) (extents_kept c.args.places.now), c.requires.room, c.body_count-bodies.ensures.count, c.put_random_index_head-first_at.ensures.behind)) c.put_pack_entry-bodies_at.ensures.written in
    let bodies : c.put_bodies-footer_at.new.out ≡ with_bytes c.put_pack_entry-bodies_at.new.out c.put_pack_entry-bodies_at.result x =
    c.put_bodies-footer_at.ensures.written ∙ ap (λ (k : ℕ). with_bytes c.put_pack_entry-bodies_at.new.out c.put_pack_entry-bodies_at.result (flat_map entry_bytes (body_entries cfg.part e k))) c.body_count-bodies.ensures.count in
    let to_x : c.put_bodies-footer_at.new.out ≡ with_bytes old at ((h ++ a) ++ x) = with_bytes-more old at c.put_pack_entry-bodies_at.result (h ++ a) x c.put_pack_entry-bodies_at.new.out c.put_bodies-footer_at.new.out
    to_a (omega (arith, c.put_random_index_head-first_at.ensures.behind, c.put_pack_entry-bodies_at.ensures.behind, length-append h a)) (omega (arith, packs_len (view c.args.cfg.now) (extents_kept c.args.places.now), c.requires.room, c.body_count-bodies.ensures.count, c.put_random_index_head-first_at.ensures.behind, c.put_pack_entry-bodies_at.ensures.behind)) bodies in
    let footer : c.put_pack_entry-end_at.new.out ≡ with_bytes c.put_bodies-footer_at.new.out c.put_bodies-footer_at.result y =
    c.put_pack_entry-end_at.ensures.written ∙ ap (λ (k : ℕ). with_bytes c.put_bodies-footer_at.new.out c.put_bodies-footer_at.result (entry_bytes (entry 0 k))) c.end_of.ensures in
    let to_y : c.put_pack_entry-end_at.new.out ≡ with_bytes old at (((h ++ a) ++ x) ++ y) = with_bytes-more old at c.put_bodies-footer_at.result ((h ++ a) ++ x) y c.put_bodies-footer_at.new.out c.put_pack_entry-end_at.new.out
    to_x (omega (arith, c.put_random_index_head-first_at.ensures.behind, c.put_pack_entry-bodies_at.ensures.behind, c.put_bodies-footer_at.ensures.behind, c.body_count-bodies.ensures.count, length-append (h ++ a) x, length-append h a, long))
    (omega (arith, packs_len (view c.args.cfg.now) (extents_kept c.args.places.now), c.requires.room, c.body_count-bodies.ensures.count, c.put_random_index_head-first_at.ensures.behind, c.put_pack_entry-bodies_at.ensures.behind, c.put_bodies-footer_at.ensures.behind)) footer in
    let all = with_bytes-more old at c.put_pack_entry-end_at.result (((h ++ a) ++ x) ++ y) (random_index_end n) c.put_pack_entry-end_at.new.out c.put_random_index_end.new.out
    to_y (omega (arith, c.put_random_index_head-first_at.ensures.behind, c.put_pack_entry-bodies_at.ensures.behind, c.put_bodies-footer_at.ensures.behind, c.put_pack_entry-end_at.ensures.behind, c.body_count-bodies.ensures.count, length-append ((h ++ a) ++ x) y, length-append (h ++ a) x, length-append h a, long))
    (omega (arith, packs_len (view c.args.cfg.now) (extents_kept c.args.places.now), c.requires.room, c.body_count-bodies.ensures.count, c.put_random_index_head-first_at.ensures.behind, c.put_pack_entry-bodies_at.ensures.behind, c.put_bodies-footer_at.ensures.behind, c.put_pack_entry-end_at.ensures.behind)) c.put_random_index_end.ensures.written in
    all ∙ ap (λ (bytes : List ℕ). with_bytes old at bytes) (packs_joined cfg e n count)

use Rattle.std.proofs.Common.{◌≡◌, ℕ, ◌*◌, ◌<◌, List, length, ap, ◌∙◌, arith}
use Rattle.std.specs.List.{flat_map}
use Rattle.rec_bytes.specs.Places.{with_bytes}
use Rattle.rec_bytes.specs.laws.Places.{with_bytes-more}
use Rattle.mxf_partitions.specs.RandomIndex.{entry_bytes}
use Rattle.mxf_take_file.specs.Extents.{Extents, body_count}
use Rattle.mxf_take_file.specs.inner.Kept.{extents_kept}
use Rattle.mxf_take_file.specs.Packs.{body_entries, entry}
use Rattle.mxf_names.specs.declared.streams.TheConstants.{ESSENCE_STREAM}
use Rattle.mxf_take_file.proofs.TailLemmas.{bodies_len, bodies_more, body_within}
use Rattle.mxf_take_file.proofs.tail.put_bodies.Goals as goal

pub overflow_mul-k : goal.overflow_mul-k
overflow_mul-k c =
    let below : c.bodies.k < body_count c.args.part (length c.args.places.now) = omega (arith, c.bodies-test.true, c.requires.all) in
    let times : c.bodies.k * c.from.result ≡ c.bodies.k * c.args.part = ap (λ (n : ℕ). c.bodies.k * n) c.from.ensures in
    let within = body_within c.args.part c.bodies.k (length c.args.places.now) c.requires.some below in
    let few = c.requires.small.few in
    omega arith

pub end_of-at-requires-clause-within : goal.end_of-at-requires-clause-within
end_of-at-requires-clause-within c =
    let below : c.bodies.k < body_count c.args.part (length c.args.places.now) = omega (arith, c.bodies-test.true, c.requires.all) in
    let times : c.bodies.k * c.from.result ≡ c.bodies.k * c.args.part = ap (λ (n : ℕ). c.bodies.k * n) c.from.ensures in
    let within = body_within c.args.part c.bodies.k (length c.args.places.now) c.requires.some below in
    omega arith

pub bodies-preserved : goal.bodies-preserved
bodies-preserved c =
    let e : Extents = extents_kept c.args.places.now in
    let k : ℕ = c.bodies.k in
    let part : ℕ = c.args.part in
    let old : List ℕ = c.args.out.now in
    let times : k * c.from.result ≡ k * part = ap (λ (n : ℕ). k * n) c.from.ensures in
    let place : c.end_of-at.result ≡ e.end_of (k * part) = c.end_of-at.ensures ∙ ap e.end_of times in
    let second = c.put_pack_entry-end.ensures.written ∙ ap (λ (n : ℕ). with_bytes c.bodies.out c.bodies.end (entry_bytes (entry ESSENCE_STREAM n))) place in
    let both = with_bytes-more old c.args.at c.bodies.end (flat_map entry_bytes (body_entries part e k)) (entry_bytes (entry ESSENCE_STREAM (e.end_of (k * part)))) c.bodies.out c.put_pack_entry-end.new.out
    c.bodies.invariant.written (omega (arith, c.bodies.invariant.behind, bodies_len part e k)) (omega (arith, c.bodies.invariant.behind, c.requires.room, c.bodies-test.true)) second in
    record {
      behind = omega (arith, c.put_pack_entry-end.ensures.behind, c.bodies.invariant.behind);
      written = both ∙ ap (λ (bytes : List ℕ). with_bytes old c.args.at bytes) (bodies_more part e k);
    }

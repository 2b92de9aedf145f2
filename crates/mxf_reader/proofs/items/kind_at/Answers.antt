use Rattle.std.proofs.Common.{◌≡◌, false, List, ℕ, sym, ap, ◌∙◌}
use Rattle.mxf_op1a.specs.Contents.{content_by_key}
use Rattle.mxf_reader.specs.inner.Marks.{has_pack_start, kind_of}
use Rattle.mxf_reader.proofs.MarkLemmas.{other_start}
use Rattle.mxf_reader.proofs.StandLemmas.{pack_front}
use Rattle.mxf_reader.proofs.items.kind_at.Goals as goal

pub returns-then-not-has_pack_start-clause-kind : goal.returns-then-not-has_pack_start-clause-kind
returns-then-not-has_pack_start-clause-kind g c =
    λ told at is item stands key value_at value_len.
    let other : has_pack_start c.args.key.now ≡ false = sym c.has_pack_start.ensures ∙ c.if-not-has_pack_start.true in
    c.kind_of_key.ensures
    ∙ ap (λ (k : List ℕ). kind_of (content_by_key k)) (sym key)
    ∙ sym (ap kind_of (other_start item (ap has_pack_start key ∙ other)))

pub returns-clause-kind : goal.returns-clause-kind
returns-clause-kind g c =
    λ told at is item stands key value_at value_len.
    c.kind_by.ensures item (record {
      key_is = key;
      value_len_is = sym value_len;
      front_is = pack_front told.essence.reads c.read_fields.new.front at c.args.value_at c.args.value_len c.in_ok-count.count item stands value_at value_len
          c.in_ok-count.ensures.count (c.in_ok-count.ensures.read told is);
    })

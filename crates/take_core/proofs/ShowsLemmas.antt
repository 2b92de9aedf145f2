-- The numbers of a history in memory, one entry more.
use Rattle.std.proofs.Common.{◌≡◌, ℕ, ◌+◌, List, [], ◌∷◌, ◌++◌, unwrap_or, sym, ap, ◌∙◌, arith}
use Rattle.take_core.specs.History.{published_in, acked_in, phase_in, acked_by, ended_by}
use Rattle.take_core.specs.declared.entry.Entry.{Entry}
use Rattle.take_core.specs.declared.snapshot.Phase.{Phase}
use Rattle.take_core.specs.inner.Shows.{Shows}
use Rattle.take_core.proofs.HistoryLemmas.{published-append, acked-push, phase-push}

-- one entry more, and the numbers that go with it
pub shows-more : (old : List Entry) (p a : ℕ) (f : Phase) (e : Entry) (items : List Entry) (more_p more_a : ℕ) (more_f : Phase) → Shows old p a f
    → items ≡ old ++ e ∷ [] → more_p ≡ p + published_in (e ∷ []) → more_a ≡ unwrap_or (acked_by e) a → more_f ≡ unwrap_or (ended_by e) f
    → Shows items more_p more_a more_f
shows-more old p a f e items more_p more_a more_f shows is count durable going = record {
  frames =
      let one : published_in items ≡ published_in old + published_in (e ∷ []) = ap published_in is ∙ published-append old (e ∷ []) in
      let had = shows.frames in
      omega arith;
  durable = durable ∙ ap (λ (n : ℕ). unwrap_or (acked_by e) n) shows.durable ∙ sym (ap acked_in is ∙ acked-push old e);
  going = going ∙ ap (λ (g : Phase). unwrap_or (ended_by e) g) shows.going ∙ sym (ap phase_in is ∙ phase-push old e);
}

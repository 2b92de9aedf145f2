use Rattle.std.proofs.Common.{◌≡◌, ◌∙◌, ◌-◌, ◌/◌, true, false, ℕ, ap, rules}
use Rattle.mxf_partitions.specs.inner.Fronts.{holds_count}
use Rattle.mxf_partitions.proofs.IndexLemmas.{index_says, index_says_none}
use Rattle.mxf_partitions.proofs.PieceLemmas.{end_told}
use Rattle.mxf_partitions.proofs.index_pieces.count_pack_entries.Goals as goal

pub returns-clause-some : goal.returns-clause-some
returns-clause-some c = λ item e.
    let a = c.args in
    let test : holds_count a.key.now a.value_len a.size a.last ≡ true = search rules in
    (index_says item (end_told item a.key.now a.value_len a.size a.last e ∙ test), ap (λ (n : ℕ). (n - 4) / 12) e.value_len_is)

pub returns-then-not-holds_count-clause-none : goal.returns-then-not-holds_count-clause-none
returns-then-not-holds_count-clause-none c = λ item e.
    let a = c.args in
    let test : holds_count a.key.now a.value_len a.size a.last ≡ false = search rules in
    index_says_none item (end_told item a.key.now a.value_len a.size a.last e ∙ test)

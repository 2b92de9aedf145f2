-- Entries of a random index pack, one after the other.
use Rattle.std.proofs.Common.{◌≡◌, ℕ, List, [], ◌∷◌, ◌+◌, ◌<◌, ◌++◌, length, take, get_or, ap, ◌∙◌}
use Rattle.std.proofs.lemmas.List.{take_more, append-nil}
use Rattle.std.proofs.lemmas.Grind.{flat_map-append}
use Rattle.std.specs.List.{flat_map}
use Rattle.mxf_partitions.specs.declared.random_index.PackEntry.{PackEntry}
use Rattle.mxf_partitions.specs.RandomIndex.{entry_bytes}

-- the entries up to one are those before it, and it
pub one_more : (entries : List PackEntry) (k : ℕ) (none : PackEntry) → k < length entries
    → flat_map entry_bytes (take (k + 1) entries) ≡ flat_map entry_bytes (take k entries) ++ entry_bytes (get_or entries k none)
one_more entries k none below =
    ap (flat_map entry_bytes) (take_more entries k none below)
    ∙ flat_map-append entry_bytes (take k entries) (get_or entries k none ∷ [])
    ∙ ap (λ (bytes : List ℕ). flat_map entry_bytes (take k entries) ++ bytes) (append-nil (entry_bytes (get_or entries k none)))

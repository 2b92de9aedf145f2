-- The bytes of a slice table.
use Rattle.std.proofs.Common.{◌≡◌, ℕ, List, [], ◌∷◌, ◌+◌, ◌<◌, ◌++◌, length, take, get_or, ap, ◌∙◌}
use Rattle.std.proofs.lemmas.List.{take_more, append-nil}
use Rattle.std.proofs.lemmas.Grind.{flat_map-append}
use Rattle.byteorder.specs.Endian.{big_bytes}
use Rattle.frame_syntax.specs.Written.{table_of}

-- the entries up to one are those before it, and it
pub entry_more : (sizes : List ℕ) (k : ℕ) → k < length sizes → table_of (take (k + 1) sizes) ≡ table_of (take k sizes) ++ big_bytes 2 (get_or sizes k 0)
entry_more sizes k below =
    ap table_of (take_more sizes k 0 below)
    ∙ flat_map-append (λ (size : ℕ). big_bytes 2 size) (take k sizes) (get_or sizes k 0 ∷ [])
    ∙ ap (λ (bytes : List ℕ). table_of (take k sizes) ++ bytes) (append-nil (big_bytes 2 (get_or sizes k 0)))

-- The entries of a segment one after the other.
use Rattle.std.proofs.Common.{◌≡◌, ℕ, List, [], ◌∷◌, ◌+◌, ◌<◌, ◌++◌, length, take, slice_index, ap, ◌∙◌}
use Rattle.std.proofs.lemmas.List.{take_more, append-nil}
use Rattle.std.proofs.lemmas.Grind.{flat_map-append}
use Rattle.std.specs.List.{flat_map}
use Rattle.mxf_index.specs.Segments.{frame_bytes}

-- the entries up to one are those before it, and it
pub one_more : (streams : List ℕ) (k : ℕ) → k < length streams → flat_map frame_bytes (take (k + 1) streams) ≡ flat_map frame_bytes (take k streams) ++ frame_bytes (slice_index streams k)
one_more streams k below =
    ap (flat_map frame_bytes) (take_more streams k 0 below)
    ∙ flat_map-append frame_bytes (take k streams) (slice_index streams k ∷ [])
    ∙ ap (λ (bytes : List ℕ). flat_map frame_bytes (take k streams) ++ bytes) (append-nil (frame_bytes (slice_index streams k)))

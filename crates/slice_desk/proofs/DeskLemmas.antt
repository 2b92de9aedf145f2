-- A desk, after its lowest frame has left.
use Rattle.std.proofs.Common.{◌≡◌, ℕ, ◌+◌, ◌*◌, List, Option, length, ◌∙◌, arith}
use Rattle.rec_bytes.specs.Configuration.{Fields}
use Rattle.picture_plane.specs.Pictures.{Planes}
use Rattle.slice_desk.specs.Desks.{Leaves}
use Rattle.slice_desk.specs.inner.Keeping.{IsSpan, IsDesk}
use Rattle.slice_desk.proofs.ShelfLemmas.{placed_after}

pub frame_left : (told : Option (List ℕ)) (named config : Fields) (slices lowest offered frame index to_frame to_index : ℕ) (pictures : List Planes)
    (kept new : List (Option (ℕ × ℕ))) (sizes now : ℕ) → IsDesk told named config slices lowest offered frame index pictures kept sizes
    → IsSpan slices (lowest + 1) offered to_frame to_index → length new ≡ length kept → Leaves kept new lowest slices → now ≡ sizes
    → IsDesk told named config slices (lowest + 1) offered to_frame to_index pictures new now
frame_left told named config slices lowest offered frame index to_frame to_index pictures kept new sizes now is span long left same =
    let all : length new ≡ 4 * slices = long ∙ is.places in
    record {
      configured = is.configured;
      counted = is.counted;
      span = span;
      pictured = is.pictured;
      told_are = λ n picture low high is_told. is.told_are n picture (omega (arith, low)) high is_told;
      places = all;
      placed = placed_after kept new slices lowest offered all is.placed left;
      sized = same ∙ is.sized;
    }

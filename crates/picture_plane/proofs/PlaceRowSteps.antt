-- How a block inside a picture is put.
use Rattle.std.proofs.Common.{◌≡◌, ℕ, ◌+◌, ◌*◌, ◌/◌, ◌%◌, ◌<◌, ◌≤◌, List, sym, ap, ◌∙◌, arith, get_or, inl, inr}
use Rattle.std.proofs.lemmas.Bool.{cases_lt}
use Rattle.std.proofs.lemmas.Nat.{mul-le}
use Rattle.picture_plane.specs.declared.planes.Plane.{Plane}
use Rattle.picture_plane.specs.declared.slice_names.Field.{Field}
use Rattle.picture_plane.specs.Blocks.{frame_row}
use Rattle.picture_plane.specs.Pictures.{columns, row_start}
use Rattle.picture_plane.specs.Slices.{Size, line_count}
use Rattle.picture_plane.specs.inner.Lines.{lines_step}
use Rattle.picture_plane.specs.inner.Placing.{place_of, AreRowsPlaced, IsBlockPlaced, IsRowPlaced}
use Rattle.picture_plane.proofs.InsideSteps.{line_stands}

-- one more row
pub rows_more : (rows start step : ℕ) (block old mid new : List ℕ) → 8 ≤ step → AreRowsPlaced rows start step block old mid
    → IsRowPlaced (start + rows * step) 8 0 block rows mid new → AreRowsPlaced (rows + 1) start step block old new
rows_more rows start step block old mid new apart so_far row =
    let row_is : (x : ℕ) → x < 8 → (8 * rows + x) / 8 ≡ rows = λ x h. omega arith in
    let column_is : (x : ℕ) → x < 8 → (8 * rows + x) % 8 ≡ x = λ x h. omega arith in
    record {
      shown = λ k h. elim (cases_lt k (8 * rows)) [
        | inl before ↦
            let next = mul-le (k / 8 + 1) step rows step (omega arith) (omega arith) in
            row.others (start + k / 8 * step + k % 8) (λ x x_small within e. omega (arith, next)) ∙ so_far.shown k before
        | inr from ↦
            let here : k / 8 ≡ rows = omega arith in
            let place : start + k / 8 * step + k % 8 ≡ start + rows * step + (0 + k % 8) = ap (λ (i : ℕ). start + i * step + k % 8) here ∙ omega arith in
            ap (λ (i : ℕ). get_or new i 0) place
            ∙ (row.shown (k % 8) (omega arith) (omega arith) ∙ ap (λ (i : ℕ). get_or block i 0) (omega arith))
      ];
      others = λ j away.
          row.others j (λ x x_small within e.
          let place : start + (8 * rows + x) / 8 * step + (8 * rows + x) % 8 ≡ start + rows * step + (0 + x) =
          ap (λ (i : ℕ). start + i * step + (8 * rows + x) % 8) (row_is x x_small) ∙ (ap (λ (i : ℕ). start + rows * step + i) (column_is x x_small) ∙ omega arith) in
          away (8 * rows + x) (omega arith) (e ∙ sym place))
          ∙ so_far.others j (λ k h. away k (omega arith));
      small = row.small;
    }

-- the rows of a block inside are the block
pub inside_is_placed : (size : Size) (field : Field) (plane : Plane) (line column : ℕ) (block old new : List ℕ)
    → line + 8 ≤ line_count size → column + 8 ≤ columns size plane
    → AreRowsPlaced 8 (row_start size plane (frame_row field line) + column) (lines_step field * columns size plane) block old new
    → IsBlockPlaced 64 size field plane line column block old new
inside_is_placed size field plane line column block old new lines wide rows =
    let start = row_start size plane (frame_row field line) + column in
    let step = lines_step field * columns size plane in
    let place : (k : ℕ) → place_of size field plane (line + k / 8) (column + k % 8) ≡ start + k / 8 * step + k % 8 =
    λ k. omega (arith, line_stands size field plane line (k / 8)) in
    record {
      shown = λ k h in_lines in_columns. ap (λ (i : ℕ). get_or new i 0) (place k) ∙ rows.shown k h;
      others = λ j apart. rows.others j (λ k h e. apart k h (omega arith) (omega arith) (e ∙ sym (place k)));
      small = rows.small;
    }

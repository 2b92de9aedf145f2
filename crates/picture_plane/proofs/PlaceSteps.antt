-- How a slice is put into a picture step by step.
use Rattle.std.proofs.Common.{◌≡◌, ℕ, ◌+◌, ◌-◌, ◌*◌, ◌/◌, ◌%◌, ◌<◌, ◌≤◌, ◌⊎◌, List, length, take, drop, refl, sym, ap, ◌∙◌, arith, get_or, inl, inr, subst, ap₂}
use Rattle.std.proofs.lemmas.Bool.{cases_lt, cases_eq}
use Rattle.std.proofs.lemmas.List.{get_or-take, get_or-drop, length-take-le, length-drop, get_or_past}
use Rattle.rec_bytes.specs.Places.{with_bytes}
use Rattle.picture_plane.specs.declared.planes.Plane.{Plane}
use Rattle.picture_plane.specs.declared.planes.Plane.TheVariants.{Y, Cb, Cr}
use Rattle.picture_plane.specs.declared.slice_names.Field.{Field}
use Rattle.picture_plane.specs.declared.slice_names.SliceName.{SliceName}
use Rattle.picture_plane.specs.Blocks.{blocks_of, block_of, column_of, columns_before, frame_row, line_of, lines_above, macroblock_columns, sample_of, Shows, IsInside, StandsAt, IsPlaced}
use Rattle.picture_plane.specs.laws.PlaceLaws.{IsSamePlace, same_place, rows_apart, frame_row_rises, frame_row_one, frame_row_below, one_block_place}
use Rattle.picture_plane.specs.Pictures.{columns, row_start}
use Rattle.picture_plane.specs.Slices.{Size, line_count, HasField}
use Rattle.picture_plane.specs.laws.RunLaws.{run_before, run_within, run_behind, run_is_small}
use Rattle.picture_plane.specs.inner.Placing.{place_of, IsRowPlaced, IsBlockPlaced, AreBlocksPlaced}

-- the first n samples of a row of a block are put at a column
pub row_is_placed : (start wide column n r : ℕ) (block old new : List ℕ) → length block ≡ 64 → r < 8 → column + n ≤ wide → n ≤ 8 → ((n ≡ 8) ⊎ (column + n ≡ wide))
    → start + wide ≤ length old → ((k : ℕ) → get_or old k 0 < 1024) → ((k : ℕ) → get_or block k 0 < 1024)
    → new ≡ with_bytes old (start + column) (take n (drop (8 * r) block)) → IsRowPlaced start wide column block r old new
row_is_placed start wide column n r block old new whole r_small fits short ends room small_old small_block is_new =
    let run : List ℕ = take n (drop (8 * r) block) in
    let at = start + column in
    let long : length run ≡ n = length-take-le n (drop (8 * r) block) (omega (arith, length-drop (8 * r) block)) in
    let inside : at + length run ≤ length old = omega arith in
    let run_small : (k : ℕ) → get_or run k 0 < 1024 = λ k. elim (cases_lt k n) [
      | inl lt ↦ subst (λ (v : ℕ). v < 1024) (sym (get_or-take n (drop (8 * r) block) k 0 lt ∙ get_or-drop (8 * r) block k 0)) (small_block (8 * r + k))
      | inr ge ↦ subst (λ (v : ℕ). v < 1024) (sym (get_or_past run k 0 (omega arith))) (omega arith)
    ] in
    record {
      shown = λ x x_small within.
          let x_there : x < n = elim ends [ inl eight ↦ omega arith | inr all ↦ omega arith ] in
          ap (λ (xs : List ℕ). get_or xs (start + (column + x)) 0) is_new
          ∙ (run_within old run at (start + (column + x)) inside (omega arith) (omega arith)
          ∙ (ap (λ (i : ℕ). get_or run i 0) (omega arith) ∙ (get_or-take n (drop (8 * r) block) x 0 x_there ∙ get_or-drop (8 * r) block x 0)));
      others = λ j apart.
          ap (λ (xs : List ℕ). get_or xs j 0) is_new
          ∙ elim (cases_lt j at) [
            | inl before ↦ run_before old run at j inside before
            | inr from ↦ elim (cases_lt j (at + n)) [
              | inl to ↦ absurd (apart (j - at) (omega arith) (omega arith) (omega arith))
              | inr behind ↦ run_behind old run at j inside (omega arith)
            ]
          ];
      small = λ j. subst (λ (xs : List ℕ). get_or xs j 0 < 1024) (sym is_new) (run_is_small old run at 1024 inside small_old run_small j);
    }

-- no sample is put
pub row_is_left : (start wide column r : ℕ) (block old : List ℕ) → wide ≤ column → ((k : ℕ) → get_or old k 0 < 1024) → IsRowPlaced start wide column block r old old
row_is_left start wide column r block old past small = record {
  shown = λ x x_small within. absurd (omega arith);
  others = λ j apart. refl;
  small = small;
}

-- one more row of a block
pub row_more : (size : Size) (field : Field) (plane : Plane) (line column r : ℕ) (block old mid new : List ℕ) → line + r < line_count size
    → IsBlockPlaced (8 * r) size field plane line column block old mid
    → IsRowPlaced (row_start size plane (frame_row field (line + r))) (columns size plane) column block r mid new
    → IsBlockPlaced (8 * (r + 1)) size field plane line column block old new
row_more size field plane line column r block old mid new below so_far row =
    let start = row_start size plane (frame_row field (line + r)) in
    let row_is : (x : ℕ) → x < 8 → (8 * r + x) / 8 ≡ r = λ x h. omega arith in
    let column_is : (x : ℕ) → x < 8 → (8 * r + x) % 8 ≡ x = λ x h. omega arith in
    record {
      shown = λ k h in_lines in_columns. elim (cases_lt k (8 * r)) [
        | inl before ↦
            row.others (place_of size field plane (line + k / 8) (column + k % 8))
            (λ x x_small within. rows_apart size plane (frame_row field (line + k / 8)) (frame_row field (line + r)) (column + k % 8) (column + x)
            (frame_row_rises field (line + k / 8) (line + r) (omega arith)) in_columns)
            ∙ so_far.shown k before in_lines in_columns
        | inr from ↦
            let here : k / 8 ≡ r = omega arith in
            ap (λ (i : ℕ). get_or new (place_of size field plane (line + i) (column + k % 8)) 0) here
            ∙ (row.shown (k % 8) (omega arith) in_columns ∙ ap (λ (i : ℕ). get_or block i 0) (omega arith))
      ];
      others = λ j apart.
          row.others j (λ x x_small within e.
          apart (8 * r + x) (omega arith) (omega (arith, row_is x x_small)) (omega (arith, column_is x x_small))
          (e ∙ ap₂ (λ (i c : ℕ). place_of size field plane (line + i) (column + c)) (sym (row_is x x_small)) (sym (column_is x x_small))))
          ∙ so_far.others j (λ k h. apart k (omega arith));
      small = row.small;
    }

-- a row of a block past the last line
pub row_past : (size : Size) (field : Field) (plane : Plane) (line column r : ℕ) (block old mid : List ℕ) → line_count size ≤ line + r
    → IsBlockPlaced (8 * r) size field plane line column block old mid
    → IsBlockPlaced (8 * (r + 1)) size field plane line column block old mid
row_past size field plane line column r block old mid past so_far = record {
  shown = λ k h in_lines in_columns. so_far.shown k (omega arith) in_lines in_columns;
  others = λ j apart. so_far.others j (λ k h. apart k (omega arith));
  small = so_far.small;
}

-- two samples of coded pictures that stand at one place are one
pub same_line : (size : Size) (field : Field) (p q : Plane) (l m c d : ℕ) → HasField size.interlace field → l < line_count size → m < line_count size
    → c < columns size p → d < columns size q → place_of size field p l c ≡ place_of size field q m d → IsSamePlace p q l m c d
same_line size field p q l m c d f hl hm hc hd e =
    let same = same_place size p q (frame_row field l) (frame_row field m) c d (frame_row_below size field l f hl) (frame_row_below size field m f hm) hc hd e in
    record { planes = same.planes; rows = frame_row_one field l m same.rows; columns = same.columns }

-- one more block of a plane
pub block_more : (size : Size) (name : SliceName) (plane : Plane) (b : ℕ) (samples : List (List ℕ)) (old mid new : List ℕ) → HasField size.interlace name.field
    → AreBlocksPlaced b size name plane samples old mid
    → IsBlockPlaced 64 size name.field plane (16 * name.row + lines_above plane b) (macroblock_columns plane * name.first + columns_before plane b) (block_of samples plane b) mid new
    → AreBlocksPlaced (b + 1) size name plane samples old new
block_more size name plane b samples old mid new field so_far block = record {
  shown = λ i k h k_small in_lines in_columns. elim (cases_eq i b) [
    | inl same ↦
        let P : ℕ → Type 0 = λ n. line_of name plane n k < line_count size → column_of name plane n k < columns size plane
        → get_or new (place_of size name.field plane (line_of name plane n k) (column_of name plane n k)) 0 ≡ sample_of samples plane n k in
        subst P (sym same) (block.shown k k_small) in_lines in_columns
    | inr other ↦
        block.others (place_of size name.field plane (line_of name plane i k) (column_of name plane i k))
        (λ m m_small m_lines m_columns e.
        let found = same_line size name.field plane plane (line_of name plane i k) (line_of name plane b m) (column_of name plane i k) (column_of name plane b m) field in_lines m_lines in_columns m_columns e in
        other (one_block_place name plane i b k m k_small m_small found.rows found.columns).0)
        ∙ so_far.shown i k (omega arith) k_small in_lines in_columns
  ];
  others = λ j apart.
      block.others j (λ m m_small. apart b m (omega arith) m_small) ∙ so_far.others j (λ i k h. apart i k (omega arith));
  small = block.small;
}

-- a sample of the picture at the place of a block's is that sample
stands : (size : Size) (name : SliceName) (p q : Plane) (row column b k : ℕ) → HasField size.interlace name.field → row < size.height → column < columns size p
    → b < blocks_of q name.count → k < 64 → line_of name q b k < line_count size → column_of name q b k < columns size q
    → row_start size p row + column ≡ place_of size name.field q (line_of name q b k) (column_of name q b k) → StandsAt name p b k row column
stands size name p q row column b k field hr hc in_slice in_block in_lines in_columns e =
    let found = same_place size p q row (frame_row name.field (line_of name q b k)) column (column_of name q b k) hr (frame_row_below size name.field (line_of name q b k) field in_lines) hc in_columns e in
    let here : StandsAt name q b k row column = record { in_slice = in_slice; in_block = in_block; on_row = sym found.rows; on_column = sym found.columns } in
    subst (λ (plane : Plane). StandsAt name plane b k row column) (sym found.planes) here

-- what a plane's blocks leave, where no block of the slice stands
plane_leaves : (size : Size) (name : SliceName) (p q : Plane) (samples : List (List ℕ)) (row column : ℕ) (old new : List ℕ) → HasField size.interlace name.field
    → row < size.height → column < columns size p → ((b k : ℕ) → StandsAt name p b k row column → ⊥)
    → AreBlocksPlaced (blocks_of q name.count) size name q samples old new
    → get_or new (row_start size p row + column) 0 ≡ get_or old (row_start size p row + column) 0
plane_leaves size name p q samples row column old new field hr hc apart placed =
    placed.others (row_start size p row + column)
    (λ b k in_slice in_block in_lines in_columns e. apart b k (stands size name p q row column b k field hr hc in_slice in_block in_lines in_columns e))

-- what a plane's blocks leave of another plane's
other_plane : (size : Size) (name : SliceName) (p q : Plane) (samples : List (List ℕ)) (b k : ℕ) (old new : List ℕ) → HasField size.interlace name.field → (p ≡ q → ⊥)
    → IsInside size name p b k → AreBlocksPlaced (blocks_of q name.count) size name q samples old new
    → get_or new (place_of size name.field p (line_of name p b k) (column_of name p b k)) 0 ≡ get_or old (place_of size name.field p (line_of name p b k) (column_of name p b k)) 0
other_plane size name p q samples b k old new field differ inside placed =
    placed.others (place_of size name.field p (line_of name p b k) (column_of name p b k))
    (λ i m in_slice in_block in_lines in_columns e.
    differ (same_line size name.field p q (line_of name p b k) (line_of name q i m) (column_of name p b k) (column_of name q i m) field inside.line in_lines inside.column in_columns e).planes)

-- three planes are a slice
pub slice_is_placed : (size : Size) (name : SliceName) (samples : List (List ℕ)) (old y cb new : List ℕ) → HasField size.interlace name.field
    → AreBlocksPlaced (blocks_of Y name.count) size name Y samples old y → AreBlocksPlaced (blocks_of Cb name.count) size name Cb samples y cb
    → AreBlocksPlaced (blocks_of Cr name.count) size name Cr samples cb new
    → IsPlaced (record { size = size; samples = old }) (record { size = size; samples = new }) name samples
slice_is_placed size name samples old y cb new field put_y put_cb put_cr = record {
  size = refl;
  shown = shown_each;
  others = λ plane row column hr hc apart.
      plane_leaves size name plane Cr samples row column cb new field hr hc apart put_cr
      ∙ (plane_leaves size name plane Cb samples row column y cb field hr hc apart put_cb
      ∙ plane_leaves size name plane Y samples row column old y field hr hc apart put_y);
}
  where
    shown_each : Shows (record { size = size; samples = new }) name samples
    shown_each Y b k inside =
        other_plane size name Y Cr samples b k cb new field (λ e. cc) inside put_cr
        ∙ (other_plane size name Y Cb samples b k y cb field (λ e. cc) inside put_cb
        ∙ put_y.shown b k inside.in_slice inside.in_block inside.line inside.column)
    shown_each Cb b k inside =
        other_plane size name Cb Cr samples b k cb new field (λ e. cc) inside put_cr
        ∙ put_cb.shown b k inside.in_slice inside.in_block inside.line inside.column
    shown_each Cr b k inside = put_cr.shown b k inside.in_slice inside.in_block inside.line inside.column

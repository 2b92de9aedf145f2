-- How a block, and a slice, is cut step by step.
use Rattle.std.proofs.Common.{◌≡◌, ◌≢◌, ℕ, ◌+◌, ◌-◌, ◌*◌, ◌/◌, ◌%◌, ◌<◌, ◌≤◌, List, [], length, sym, ap, ◌∙◌, arith, get_or, inl, inr, subst}
use Rattle.std.specs.Prelude.{min, slice_set}
use Rattle.std.proofs.lemmas.Bool.{cases_lt, cases_eq}
use Rattle.std.proofs.lemmas.List.{get_or-set_same, get_or-set_other, length-set}
use Rattle.picture_plane.specs.Blocks.{AreSamples, first_block, sample_of, repeated_at, frame_row, line_of, column_of}
use Rattle.picture_plane.specs.inner.Lines.{IsRow}
use Rattle.picture_plane.specs.Pictures.{Planes, columns, row_of}
use Rattle.picture_plane.specs.Sizes.{IsSize}
use Rattle.picture_plane.specs.Slices.{line_count}
use Rattle.picture_plane.specs.declared.slice_names.Field.{Field}
use Rattle.picture_plane.specs.laws.PictureLaws.{row_of_is, some_columns}
use Rattle.picture_plane.specs.declared.planes.Plane.{Plane}
use Rattle.picture_plane.specs.declared.slice_names.SliceName.{SliceName}

-- so many samples of a row of a block are put
pub record HasRowTo (x : ℕ) (block before : List ℕ) (r : ℕ) (line : List ℕ) (column : ℕ) : Type 0 where
  pub long : length block ≡ 64
  pub done : (i : ℕ) → i < x → get_or block (8 * r + i) 0 ≡ get_or line (min (column + i) (length line - 1)) 0
  pub others : (k : ℕ) → k / 8 ≢ r → get_or block k 0 ≡ get_or before k 0

-- so many rows of a block are put, of which this is each sample
pub record HasRowsTo (rows : ℕ) (block : List ℕ) (sample : ℕ → ℕ) : Type 0 where
  pub long : length block ≡ 64
  pub done : (k : ℕ) → k < 8 * rows → get_or block k 0 ≡ sample k

-- so many blocks of a plane are cut
pub record HasBlocksTo (blocks : ℕ) (now before : List (List ℕ)) (planes : Planes) (name : SliceName) (plane : Plane) : Type 0 where
  pub samples : AreSamples now
  pub done : (b k : ℕ) → b < blocks → k < 64 → sample_of now plane b k ≡ repeated_at planes name.field plane (line_of name plane b k) (column_of name plane b k)
  pub in_front : (n : ℕ) → n < first_block plane → get_or now n [] ≡ get_or before n []
  pub behind : (n : ℕ) → first_block plane + blocks ≤ n → get_or now n [] ≡ get_or before n []

-- one more row
pub rows_more : (planes : Planes) (field : Field) (plane : Plane) (at column rows : ℕ) (old new line : List ℕ) → IsSize planes.size
    → HasRowsTo rows old (λ k. repeated_at planes field plane (at + k / 8) (column + k % 8)) → length new ≡ 64
    → line ≡ row_of planes plane (frame_row field (min (at + rows) (line_count planes.size - 1))) → length line ≡ columns planes.size plane
    → IsRow new rows line column → ((k : ℕ) → k / 8 ≢ rows → get_or new k 0 ≡ get_or old k 0)
    → HasRowsTo (rows + 1) new (λ k. repeated_at planes field plane (at + k / 8) (column + k % 8))
rows_more planes field plane at column rows old new line size so_far long is_line wide is_row others =
    let some = some_columns planes.size plane size in
    let last = columns planes.size plane - 1 in
    let there : (x : ℕ) → x < 8 → get_or new (8 * rows + x) 0 ≡ repeated_at planes field plane (at + rows) (column + x) = λ x h.
    is_row x h
    ∙ (ap (λ (n : ℕ). get_or line (min (column + x) (n - 1)) 0) wide
    ∙ (ap (λ (xs : List ℕ). get_or xs (min (column + x) last) 0) is_line
    ∙ row_of_is planes plane (frame_row field (min (at + rows) (line_count planes.size - 1))) (min (column + x) last) (omega arith))) in
    record {
      long = long;
      done = λ k h. elim (cases_lt k (8 * rows)) [
        | inl before ↦ others k (omega arith) ∙ so_far.done k before
        | inr from ↦
            let x_small : k % 8 < 8 = omega arith in
            let place : k ≡ 8 * rows + k % 8 = omega arith in
            let row : rows ≡ k / 8 = omega arith in
            ap (λ (i : ℕ). get_or new i 0) place ∙ (there (k % 8) x_small ∙ ap (λ (r : ℕ). repeated_at planes field plane (at + r) (column + k % 8)) row)
      ];
    }

-- one more block
pub blocks_more : (planes : Planes) (name : SliceName) (plane : Plane) (blocks : ℕ) (old now before : List (List ℕ)) (block : List ℕ)
    → HasBlocksTo blocks old before planes name plane → first_block plane + blocks < 64 → now ≡ slice_set old (first_block plane + blocks) block
    → length block ≡ 64 → ((k : ℕ) → get_or block k 0 < 1024)
    → ((k : ℕ) → k < 64 → get_or block k 0 ≡ repeated_at planes name.field plane (line_of name plane blocks k) (column_of name plane blocks k))
    → HasBlocksTo (blocks + 1) now before planes name plane
blocks_more planes name plane blocks old now before block so_far within is_set long small cut =
    let at = first_block plane + blocks in
    let there : at < length old = omega (arith, so_far.samples.blocks) in
    let here : get_or now at [] ≡ block = ap (λ (xs : List (List ℕ)). get_or xs at []) is_set ∙ get_or-set_same old at block [] there in
    let else_where : (n : ℕ) → n ≢ at → get_or now n [] ≡ get_or old n [] = λ n ne.
    ap (λ (xs : List (List ℕ)). get_or xs n []) is_set ∙ get_or-set_other old at n block [] ne in
    record {
      samples = record {
        blocks = ap length is_set ∙ (length-set old at block ∙ so_far.samples.blocks);
        whole = λ n h. elim (cases_eq n at) [
          | inl same ↦ ap (λ (i : ℕ). length (get_or now i [])) same ∙ (ap length here ∙ long)
          | inr other ↦ ap length (else_where n other) ∙ so_far.samples.whole n h
        ];
        small = λ n k. elim (cases_eq n at) [
          | inl same ↦ subst (λ (xs : List ℕ). get_or xs k 0 < 1024) (sym (ap (λ (i : ℕ). get_or now i []) same ∙ here)) (small k)
          | inr other ↦ subst (λ (xs : List ℕ). get_or xs k 0 < 1024) (sym (else_where n other)) (so_far.samples.small n k)
        ];
      };
      done = λ b k h k_small. elim (cases_eq b blocks) [
        | inl same ↦
            subst (λ (i : ℕ). sample_of now plane i k ≡ repeated_at planes name.field plane (line_of name plane i k) (column_of name plane i k)) (sym same)
            (ap (λ (xs : List ℕ). get_or xs k 0) here ∙ cut k k_small)
        | inr other ↦
            ap (λ (xs : List ℕ). get_or xs k 0) (else_where (first_block plane + b) (omega arith)) ∙ so_far.done b k (omega arith) k_small
      ];
      in_front = λ n h. else_where n (omega arith) ∙ so_far.in_front n h;
      behind = λ n h. else_where n (omega arith) ∙ so_far.behind n (omega arith);
    }

use Rattle.std.proofs.Common.{arith, inl, inr, refl, ◌≡◌, ◌+◌, ◌-◌, ◌*◌, ℕ, ap, ◌∙◌, take, drop}
use Rattle.rec_bytes.specs.Places.{with_bytes}
use Rattle.picture_plane.proofs.PlaceSteps.{row_is_placed}
use Rattle.picture_plane.proofs.place.place_row.Goals as goal

pub returns-then-column-wide : goal.returns-then-column-wide
returns-then-column-wide c =
    let a = c.args in
    let n : 8 * a.r + 8 - 8 * a.r ≡ 8 = omega arith in
    row_is_placed a.start a.wide a.column 8 a.r a.block.now a.out.now c.put_eight.new.out c.told-block c.requires.r c.if-column-wide.true (omega arith) (inl refl)
    c.requires.room c.requires.small c.requires.block_small
    (c.put_eight.ensures ∙ ap (λ (k : ℕ). with_bytes a.out.now (a.start + a.column) (take k (drop (8 * a.r) a.block.now))) n)

pub returns-then-column-wide-2 : goal.returns-then-column-wide-2
returns-then-column-wide-2 c =
    let a = c.args in
    let count : ℕ = a.wide - a.column in
    let n : 8 * a.r + count - 8 * a.r ≡ count = omega arith in
    row_is_placed a.start a.wide a.column count a.r a.block.now a.out.now c.put_run.new.out c.told-block c.requires.r (omega arith) (omega arith)
    (inr (omega arith)) c.requires.room c.requires.small c.requires.block_small
    (c.put_run.ensures ∙ ap (λ (k : ℕ). with_bytes a.out.now (a.start + a.column) (take k (drop (8 * a.r) a.block.now))) n)

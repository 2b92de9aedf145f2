use Rattle.std.proofs.Common.{◌≡◌, ℕ, List, ◌*◌, drop, take, sum, refl, sym, ap, ◌∙◌, arith}
use Rattle.std.proofs.lemmas.List.{drop-drop, take_all}
use Rattle.byteorder.specs.Endian.{big_number}
use Rattle.frame_syntax.specs.Pictures.{table_at, sizes_of}
use Rattle.frame_syntax.proofs.TableLemmas.{sum_next, length-slice_sizes}
use Rattle.frame_syntax.proofs.picture_head.table_fault.Goals as goal

pub returns-then-size-left-clause-passed : goal.returns-then-size-left-clause-passed
returns-then-size-left-clause-passed c =
    let bytes = c.args.bytes.now in
    let p = c.args.picture.now in
    let rest = drop (table_at p) bytes in
    let size : c.u16_at-size.result ≡ big_number 2 (drop (2 * c.slices.n) rest) =
    c.u16_at-size.ensures ∙ ap (big_number 2) (sym (drop-drop (2 * c.slices.n) (table_at p) bytes ∙ ap (λ j. drop j bytes) (omega arith))) in
    let next = sum_next p.slices rest c.slices.n (omega arith) in
    record {
      n = c.slices.n;
      passes = record { there = omega arith; before = omega (arith, c.slices.invariant); past = omega (arith, c.slices.invariant, next, size, c.if-size-left.true) };
      named = refl;
    }

pub slices-preserved : goal.slices-preserved
slices-preserved c =
    let bytes = c.args.bytes.now in
    let p = c.args.picture.now in
    let rest = drop (table_at p) bytes in
    let size : c.u16_at-size.result ≡ big_number 2 (drop (2 * c.slices.n) rest) =
    c.u16_at-size.ensures ∙ ap (big_number 2) (sym (drop-drop (2 * c.slices.n) (table_at p) bytes ∙ ap (λ j. drop j bytes) (omega arith))) in
    let next = sum_next p.slices rest c.slices.n (omega arith) in
    omega (arith, c.slices.invariant, next, size, c.if-size-left.false)

pub returns-clause-fit : goal.returns-clause-fit
returns-clause-fit c =
    let p = c.args.picture.now in
    let sizes : List ℕ = sizes_of c.args.bytes.now p in
    let all : take c.slices.n sizes ≡ sizes = take_all c.slices.n sizes (omega (arith, length-slice_sizes p.slices (drop (table_at p) c.args.bytes.now))) in
    let whole : sum (take c.slices.n sizes) ≡ sum sizes = ap sum all in
    omega (arith, c.slices.invariant, whole)

use Rattle.std.proofs.Common.{List, drop, sym, ap, ◌∙◌, arith}
use Rattle.std.proofs.lemmas.List.{drop-drop}
use Rattle.frame_syntax.specs.Pictures.{Span}
use Rattle.frame_syntax.specs.Frames.{slices_of}
use Rattle.frame_syntax.proofs.SpanLemmas.{slices_count, some_left}
use Rattle.frame_syntax.proofs.frame.FrameParts.slice.Goals as goal

pub returns-in-None-clause-slice : goal.returns-in-None-clause-slice
returns-in-None-clause-slice c =
    let all = slices_count c.args.bytes.now c.args.self.now c.requires.frame in
    absurd (some_left c.passed.n (slices_of c.args.bytes.now c.args.self.now) (omega (arith, all, c.requires.there, c.passed-test.true)) (sym c.passed.invariant.left ∙ c.in-None.ensures.ended))

pub passed-preserved : goal.passed-preserved
passed-preserved c =
    let next = c.in-Some.ensures.next in
    record {
      bytes = c.in-Some.ensures.bytes ∙ c.passed.invariant.bytes;
      left = sym (ap (λ (xs : List Span). drop 1 xs) next) ∙ ap (λ (xs : List Span). drop 1 xs) c.passed.invariant.left
          ∙ drop-drop 1 c.passed.n (slices_of c.args.bytes.now c.args.self.now);
    }

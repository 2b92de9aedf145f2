use Rattle.std.proofs.Common.{List, ◌∷◌, ◌++◌, ap, ap₂, sym, ◌∙◌}
use Rattle.frame_syntax.specs.Pictures.{Span}
use Rattle.frame_syntax.specs.SlicesLeft.{SlicesLeft}
use Rattle.frame_syntax.specs.inner.Runs.{spans_in_run}
use Rattle.frame_syntax.proofs.SpanLemmas.{spans_none}
use Rattle.frame_syntax.proofs.frame_slices.FrameSlices.next.Goals as goal

pub returns-then-self-ne0-2-clause-next : goal.returns-then-self-ne0-2-clause-next
returns-then-self-ne0-2-clause-next c =
    let bytes = c.self.inside.bytes.now in
    let none = spans_none bytes c.self.inside.run c.if-self-ne0.false in
    let behind = c.step-then-self-ne0-2.ensures.next in
    sym (ap (λ (s : SlicesLeft). s.left) c.self.view_is)
    ∙ ap₂ (λ (xs ys : List Span). xs ++ ys) none behind
    ∙ sym (ap (λ (xs : List Span). c.step-then-self-ne0-2.result ∷ (xs ++ spans_in_run bytes c.step-then-self-ne0-2.new.run)) none)

pub returns-clause-ended : goal.returns-clause-ended
returns-clause-ended c =
    let bytes = c.self.inside.bytes.now in
    sym (ap (λ (s : SlicesLeft). s.left) c.self.view_is)
    ∙ ap₂ (λ (xs ys : List Span). xs ++ ys) (spans_none bytes c.self.inside.run c.if-self-ne0.false) (spans_none bytes c.self.inside.behind c.if-self-ne0-2.false)

use Rattle.std.proofs.Common.{◌≡◌, [], ◌∷◌, ◌++◌, ap, ap₂, ◌∙◌, arith}
use Rattle.take_core.specs.declared.entry.Entry.{Entry}
use Rattle.take_core.specs.declared.entry.Entry.TheVariants as entry
use Rattle.take_core.specs.declared.history.History.TheInside.{Inside}
use Rattle.take_core.proofs.ShowsLemmas.{shows-more}
use Rattle.take_core.proofs.history.History.add.Goals as goal
use Rattle.take_core.proofs.history.History.add.Goals.{in-Published, in-Acked, in-Closed, in-Stopped}

pub invariant_of-self : goal.invariant_of-self
invariant_of-self c =
    let old = c.self.inside in
    elim c.match-entry.branch [
      | in-Published w ↦
          let is = w.self-inside-is in
          let frames = ap (λ (i : Inside). i.published) is in
          let entry_is : c.match-entry.entry ≡ (entry.Published w.in-Published.len) = w.entry-is ∙ w.in-Published.is in
          shows-more old.entries.items old.published old.acked old.phase (entry.Published w.in-Published.len) c.push_reserved.new.self.items _ _ _ c.self.invariant
          (c.push_reserved.ensures.items ∙ ap₂ (λ (i : Inside) (e : Entry). i.entries.items ++ e ∷ []) is entry_is)
          (omega (arith, frames)) (ap (λ (i : Inside). i.acked) is) (ap (λ (i : Inside). i.phase) is)
      | in-Acked w ↦
          let is = w.self-inside-is in
          let frames = ap (λ (i : Inside). i.published) is in
          let entry_is : c.match-entry.entry ≡ (entry.Acked w.in-Acked.count) = w.entry-is in
          shows-more old.entries.items old.published old.acked old.phase (entry.Acked w.in-Acked.count) c.push_reserved.new.self.items _ _ _ c.self.invariant
          (c.push_reserved.ensures.items ∙ ap₂ (λ (i : Inside) (e : Entry). i.entries.items ++ e ∷ []) is entry_is)
          (omega (arith, frames)) (ap (λ (i : Inside). i.acked) is) (ap (λ (i : Inside). i.phase) is)
      | in-Closed w ↦
          let is = w.self-inside-is in
          let frames = ap (λ (i : Inside). i.published) is in
          let entry_is : c.match-entry.entry ≡ entry.Closed = w.entry-is ∙ w.in-Closed.is in
          shows-more old.entries.items old.published old.acked old.phase entry.Closed c.push_reserved.new.self.items _ _ _ c.self.invariant
          (c.push_reserved.ensures.items ∙ ap₂ (λ (i : Inside) (e : Entry). i.entries.items ++ e ∷ []) is entry_is)
          (omega (arith, frames)) (ap (λ (i : Inside). i.acked) is) (ap (λ (i : Inside). i.phase) is)
      | in-Stopped w ↦
          let is = w.self-inside-is in
          let frames = ap (λ (i : Inside). i.published) is in
          let entry_is : c.match-entry.entry ≡ (entry.Stopped w.in-Stopped.faults) = w.entry-is ∙ w.in-Stopped.is in
          shows-more old.entries.items old.published old.acked old.phase (entry.Stopped w.in-Stopped.faults) c.push_reserved.new.self.items _ _ _ c.self.invariant
          (c.push_reserved.ensures.items ∙ ap₂ (λ (i : Inside) (e : Entry). i.entries.items ++ e ∷ []) is entry_is)
          (omega (arith, frames)) (ap (λ (i : Inside). i.acked) is) (ap (λ (i : Inside). i.phase) is)
    ]

use Rattle.std.proofs.Common.{ℕ, List, sym, ◌∙◌, subst}
use Rattle.std.proofs.lemmas.Result.{IfOk-weaker}
use Rattle.take_disk.specs.Picks.{IsPicked}
use Rattle.take_disk.specs.Entered.{log_of}
use Rattle.take_disk.proofs.PickLemmas.{picked_image}
use Rattle.take_disk.proofs.memory_disk.MemoryDisk.image.Goals as goal

pub returns-clause-left : goal.returns-clause-left
returns-clause-left c =
    let s = c.args.self.now in
    IfOk-weaker c.new.result _ _ (λ disk h. record {
      essence = picked_image (log_of s.essence) s.essence.sound c.args.pick disk.essence.bytes.items
          (subst (λ (l : List ℕ). IsPicked c.args.pick (log_of s.essence) l) (sym (h.0 ∙ c.deref.ensures.value)) c.in_ok-essence.ensures.picked);
      commits = picked_image (log_of s.commits) s.commits.sound c.args.pick disk.commits.bytes.items
          (subst (λ (l : List ℕ). IsPicked c.args.pick (log_of s.commits) l) (sym (h.1 ∙ c.deref-2.ensures.value)) c.in_ok-commits.ensures.picked);
    }) c.new.ensures.areas

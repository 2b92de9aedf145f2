use Rattle.std.proofs.Common.{◌≡◌, ℕ, List, ◌∙◌, ap, rules}
use Rattle.take_disk.specs.declared.entry.Entry.{Entry}
use Rattle.take_disk.specs.Logs.{fresh}
use Rattle.take_disk.specs.inner.Redone.{redone_to}
use Rattle.take_disk.proofs.RedoneLemmas.{redone_reads}
use Rattle.take_disk.proofs.memory_area.MemoryArea.lost.Goals as goal

pub returns : goal.returns
returns c =
    let s = c.args.self.now in
    let b : c.in_ok-image.image.items ≡ s.start.items = search rules in
    record {
      lost = c.in_ok-redo_to.ensures
          ∙ (ap (λ (x : List ℕ). redone_to s.synced x c.deref-2.result.now c.in_ok-image.image.items) c.deref-3.ensures.value
          ∙ (ap (λ (y : List Entry). redone_to s.synced s.pieces.items y c.in_ok-image.image.items) c.deref-2.ensures.value
          ∙ (ap (λ (z : List ℕ). redone_to s.synced s.pieces.items s.entries.items z) b
          ∙ redone_reads s.synced s.pieces.items s.entries.items (fresh s.start.items))));
    }

use Rattle.std.proofs.Common.{ℕ, List, length, ◌∙◌, ap, arith}
use Rattle.take_disk.proofs.memory_calls.MemoryDiskTakeDisk.read.Goals as goal

pub copy_part-requires : goal.copy_part-requires
copy_part-requires c =
    let same = ap (λ (l : List ℕ). length l) (c.bytes.ensures.shown ∙ c.note_call.ensures.bytes c.args.area) in
    record { inside = omega (arith, same, c.requires.inside) }

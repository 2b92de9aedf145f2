use Rattle.std.proofs.Common.{◌*◌, pos, replicate, sym, ap, ℕ}
use Rattle.std.proofs.lemmas.List.{length-replicate}
use Rattle.slice_parts.proofs.PartLemmas.{zero_front}
use Rattle.slice_parts.proofs.part.tests.reads.Goals as goal

pub read_part-requires-clause-zeros : goal.read_part-requires-clause-zeros
read_part-requires-clause-zeros c =
    zero_front (64 * c.args.blocks) (replicate 2048 (pos 0)) (sym (ap (λ (n : ℕ). replicate n (pos 0)) (length-replicate 2048 (pos 0))))

pub read_part_with-requires-clause-zeros : goal.read_part_with-requires-clause-zeros
read_part_with-requires-clause-zeros c =
    zero_front (64 * c.args.blocks) (replicate 2048 (pos 0)) (sym (ap (λ (n : ℕ). replicate n (pos 0)) (length-replicate 2048 (pos 0))))

use Rattle.std.proofs.Common.{rules, ◌≡◌, ◌≤◌, ◌-◌, ◌*◌, ◌/◌, ◌++◌, ℕ, ℤ, List, length, take, drop, subst, arith}
use Rattle.std.proofs.lemmas.List.{length-take-le}
use Rattle.bit_io.specs.Bits.{bytes_for}
use Rattle.prores_scan.specs.WeightsAndScales.{scale_of}
use Rattle.slice_parts.specs.Bound.{AreLeft}
use Rattle.slice_codec.specs.inner.Weighed.{IsWritten}
use Rattle.slice_codec.proofs.WeighedLemmas.{written_part, spelling_of, short_spelling}
use Rattle.slice_codec.proofs.LeastLemmas.{levels_same, written_front}
use Rattle.std.proofs.lemmas.Option.{IfSome_then}
use Rattle.slice_codec.proofs.parts.write_plane.Goals as goal

pub write_part_with-requires-clause-left : goal.write_part_with-requires-clause-left
write_part_with-requires-clause-left c =
    let scale : ℕ = c.args.double.divisor / 2 in
    let twice : c.args.double.divisor ≡ 2 * scale = omega (arith, c.requires.even) in
    subst (λ (levels : List ℤ). AreLeft levels c.args.left.now)
    (levels_same scale c.args.half_steps.now c.levels_at.new.out (search rules) (c.levels_at.ensures.levels scale twice)) (c.requires.left scale twice)

pub returns-clause-written : goal.returns-clause-written
returns-clause-written c =
    λ setup index plane blocks e weighed.
    let out = c.args.out.now in
    let room : ℕ = c.saturating_sub-room.result in
    let whole : length (take room out) ≡ room = length-take-le room out (omega (arith, c.saturating_sub-room.ensures)) in
    let is : length (take room out) ≡ length out - c.args.reserve = omega (arith, whole, c.saturating_sub-room.ensures) in
    subst (λ (n : ℕ). IsWritten setup index plane blocks n c.write_part_with.result (c.write_part_with.new.out ++ drop room out)) is
    (written_front setup index plane blocks (length (take room out)) c.write_part_with.result c.write_part_with.new.out (drop room out) c.write_part_with.ensures.within
    (written_part setup index plane blocks c.args.half_steps.now c.levels_at.new.out (length (take room out)) c.write_part_with.result c.write_part_with.new.out
    weighed (search rules) (c.levels_at.ensures.levels (scale_of index) e) c.levels_at.ensures.small
    c.write_part_with.ensures.accepted c.write_part_with.ensures.written))

pub returns-clause-few : goal.returns-clause-few
returns-clause-few c =
    let blocks = length c.args.half_steps.now / 64 in
    let numbers = c.levels_at.new.out in
    let found = spelling_of blocks numbers (omega (arith, c.requires.halves.most)) (search rules) c.levels_at.ensures.small in
    let short = short_spelling blocks numbers found.0 (omega (arith, c.requires.halves.most)) c.levels_at.ensures.small found.1 in
    IfSome_then c.write_part_with.result (c.write_part_with.ensures.used found.0 found.1) (λ used e. omega (arith, e, short))

pub returns-clause-roomy : goal.returns-clause-roomy
returns-clause-roomy c = λ wide.
    let out = c.args.out.now in
    let room : ℕ = c.saturating_sub-room.result in
    let whole : length (take room out) ≡ room = length-take-le room out (omega (arith, c.saturating_sub-room.ensures)) in
    let blocks = length c.args.half_steps.now / 64 in
    let numbers = c.levels_at.new.out in
    let found = spelling_of blocks numbers (omega (arith, c.requires.halves.most)) (search rules) c.levels_at.ensures.small in
    let short = short_spelling blocks numbers found.0 (omega (arith, c.requires.halves.most)) c.levels_at.ensures.small found.1 in
    let fits : bytes_for (length found.0) ≤ length (take room out) = omega (arith, wide, short, whole, c.saturating_sub-room.ensures) in
    (c.write_part_with.ensures.accepted found.0 found.1).1 fits

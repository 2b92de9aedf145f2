use Rattle.std.proofs.Common.{◌≡◌, ◌+◌, ◌-◌, ℕ, length, arith, ap, refl, ◌∙◌, List}
use Rattle.picture_plane.specs.Blocks.{blocks_of, blocks_in}
use Rattle.picture_plane.proofs.PutSteps.{samples_put, others_stay, blocks_most}
use Rattle.picture_plane.proofs.samples.SliceSamples.put_blocks.Goals as goal

pub invariant_of-self : goal.invariant_of-self
invariant_of-self c =
    let a = c.args in
    let first : ℕ = c.first_of-first.result in
    let count : first + length a.blocks.now - first ≡ length a.blocks.now = omega arith in
    rw (count, c.copy_from_slice.ensures.after) (samples_put first (length a.blocks.now) c.self.inside.blocks a.blocks.now c.self.invariant refl (omega (arith, c.first_of-first.ensures.room, c.requires.long, blocks_most a.plane a.count c.requires.count)) c.told-blocks c.requires.small)

pub returns-clause-others : goal.returns-clause-others
returns-clause-others c = λ other apart.
    let a = c.args in
    let first : ℕ = c.first_of-first.result in
    let count : first + length a.blocks.now - first ≡ blocks_of a.plane a.count = omega (arith, c.requires.long) in
    rw (count, c.copy_from_slice.ensures.after, c.first_of-first.ensures.value) (others_stay a.plane other a.count c.self.inside.blocks a.blocks.now apart c.requires.count c.self.invariant.blocks c.requires.long ∙ ap (λ (samples : List (List ℕ)). blocks_in samples other a.count) c.self.view_is)

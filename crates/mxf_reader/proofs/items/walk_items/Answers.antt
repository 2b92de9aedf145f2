use Rattle.std.proofs.Common.{◌+◌, ℕ, List, Some, refl, sym, subst, ◌∙◌, arith}
use Rattle.take_disk.specs.declared.area.Area.TheVariants.{Essence}
use Rattle.mxf_reader.specs.inner.Inside.{IsSeenInside}
use Rattle.mxf_reader.specs.inner.Parts.{IsWithin}
use Rattle.mxf_reader.specs.inner.Walks.{IsFound}
use Rattle.take_disk.specs.laws.TimeLaws.{elapsed_more, elapsed_none}
use Rattle.mxf_reader.proofs.WalkLemmas.{passed_more, passed_none, walked_all, walked_part, within_later}
use Rattle.mxf_reader.proofs.items.walk_items.Goals as goal

pub loop-at-init : goal.loop-at-init
loop-at-init g c = record {
  place = omega arith;
  within = subst (IsWithin 0) (sym c.nothing-seen.ensures.going) tt;
  inside = c.nothing-seen.ensures.inside;
  passed = λ told is. passed_none told.essence.reads c.nothing-seen.result c.nothing-seen.ensures.none;
  count = refl;
  stays = record { same = refl; lengths = λ area. refl };
  time = elapsed_none _ _ _;
}

pub loop-at-preserved : goal.loop-at-preserved
loop-at-preserved g c =
    let before = c.loop-at.invariant in
    let step = rw c.in-Some.is at c.in-Ok.ensures.step in
    let same = before.stays.lengths Essence in
    let end : ℕ = c.in-Some.m.value_at + c.in-Some.m.value_len in
    let mark = c.mark_at.ensures in
    record {
      place = omega (arith, step.3, same);
      within = within_later c.in-Some.m.at end c.keep.new.seen.going c.in-Ok-keep.ensures.within (omega (arith, step.0, step.2));
      inside =
          c.in-Ok-keep.ensures.inside (subst (λ (n : ℕ). IsSeenInside n c.loop-at.seen) (sym step.0) before.inside) (omega (arith, step.0, step.1));
      passed = λ told is.
          let bytes : List ℕ = told.essence.reads in
          let found : IsFound bytes c.loop-at.at (Some c.in-Some.m) =
          subst (IsFound bytes c.loop-at.at) c.in-Some.is (c.in-Ok.ensures.found told (before.stays.same ∙ is)) in
          passed_more bytes c.loop-at.at end c.loop-at.seen c.keep.new.seen c.in-Some.m (before.passed told is) found refl c.in-Ok-keep.ensures.kept;
      count = c.in-Ok.ensures.cause.kept ∙ before.count;
      stays = record { same = mark.stays.same ∙ before.stays.same; lengths = λ area. mark.stays.lengths area ∙ before.stays.lengths area };
      time = elapsed_more _ _ _ _ _ _ _ _ _ before.time mark.time;
    }

pub returns-in-None-clause-walked : goal.returns-in-None-clause-walked
returns-in-None-clause-walked g c =
    λ told is.
    let bytes : List ℕ = told.essence.reads in
    let before = c.loop-at.invariant in
    walked_part bytes c.loop-at.at c.loop-at.seen (before.passed told is)
    (subst (IsFound bytes c.loop-at.at) c.in-None.is (c.in-Ok.ensures.found told (before.stays.same ∙ is)))

pub returns-clause-walked : goal.returns-clause-walked
returns-clause-walked g c =
    λ told is.
    let before = c.loop-at.invariant in
    let same = before.stays.lengths Essence in
    let size = g.met.D.TakeDisk.long c.args.disk.now told Essence is in
    let past = c.loop-at-test.false in
    walked_all told.essence.reads c.loop-at.at c.loop-at.seen (before.passed told is) (omega (arith, size, same, c.len.ensures))

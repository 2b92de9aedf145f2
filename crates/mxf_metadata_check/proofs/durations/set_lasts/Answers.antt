use Rattle.std.proofs.Common.{◌||◌, not, List, ℕ, Bool, sym, ◌∙◌}
use Rattle.std.specs.Str.{bytes_eq}
use Rattle.local_sets.specs.Sets.{RawItem}
use Rattle.mxf_metadata.specs.Durations.{is_duration}
use Rattle.mxf_metadata_check.proofs.Items.{all_fails, all_next, all_none, all_past}
use Rattle.mxf_metadata_check.proofs.durations.set_lasts.Goals as goal

abbrev test : List ℕ → RawItem → Bool
test duration item = not (is_duration item.tag) || bytes_eq item.value duration

pub returns-in-None : goal.returns-in-None
returns-in-None c =
    sym (sym c.loop-at.invariant.same ∙ all_none (test c.args.duration.now) c.args.value.now c.loop-at.at c.in-None.ensures)

pub returns-then-not-item_lasts : goal.returns-then-not-item_lasts
returns-then-not-item_lasts c =
    let item = c.in-Some.ensures in
    sym (sym c.loop-at.invariant.same
    ∙ all_fails (test c.args.duration.now) c.args.value.now c.loop-at.at c.in-Some.item item.0 item.1 item.2 (sym c.item_lasts.ensures ∙ c.if-not-item_lasts.true))

pub loop-at-preserved : goal.loop-at-preserved
loop-at-preserved c =
    let item = c.in-Some.ensures in
    record {
      place = item.2;
      same = sym (all_next (test c.args.duration.now) c.args.value.now c.loop-at.at c.in-Some.item item.0 item.1 item.2 (sym c.item_lasts.ensures ∙ c.if-not-item_lasts.false))
          ∙ c.loop-at.invariant.same;
    }

pub returns : goal.returns
returns c = sym (sym c.loop-at.invariant.same ∙ all_past (test c.args.duration.now) c.args.value.now c.loop-at.at c.loop-at-test.false)

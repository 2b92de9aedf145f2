use Rattle.std.proofs.Common.{◌≤◌, ◌<◌, ◌-◌, ℕ, List, Option, Some, IfSome, ap, subst, length, drop, arith}
use Rattle.std.proofs.lemmas.List.{length-drop}
use Rattle.rec_bytes.specs.Configuration.{Fields}
use Rattle.rec_bytes.specs.Views.{view}
use Rattle.take_disk.specs.declared.area.Area.TheVariants.{Essence}
use Rattle.essence_walk.specs.inner.Looks.{FindsNext, FitsIn, HoldsLead, NoNext}
use Rattle.essence_walk.proofs.LookLemmas.{next_none, next_begins, next_stands}
use Rattle.essence_walk.proofs.look.find_next.Goals as goal

pub returns-then-not-holds-clause-none : goal.returns-then-not-holds-clause-none
returns-then-not-holds-clause-none g c = λ more told is units lie.
    let layout = g.L.TakeLayout in
    let cfg : Fields = c.args.file.now.config in
    let at : ℕ = c.found_len-at.result in
    let lead_len : ℕ = c.in-Some.lead_len in
    let left : ℕ = c.args.limit - at in
    let held : List ℕ = c.find_lead.new.buffer in
    let bytes : List ℕ = drop at told.essence.reads in
    let found = c.in_ok-unit_len in
    let finds : FindsNext layout cfg bytes lead_len left (Some c.in-Some-2.unit_len) =
    subst (λ (o : Option ℕ). FindsNext layout cfg bytes lead_len left o) c.in-Some-2.is
    (subst (λ (f : Fields). FindsNext layout f bytes lead_len left found.field-0) c.config.ensures (found.ensures.finds told is)) in
    let holds : HoldsLead (layout.is_unit cfg) bytes at lead_len held c.in-Some-2.unit_len =
    subst (λ (o : Option ℕ). IfSome o (HoldsLead (layout.is_unit cfg) bytes at lead_len held)) c.in-Some-2.is
    (subst (λ (f : Fields). IfSome found.field-0 (HoldsLead (layout.is_unit f) bytes at lead_len held)) c.config.ensures (found.ensures.holds told is)) in
    subst (λ (n : ℕ). NoNext layout cfg units (drop n told.essence.reads) (c.args.limit - n)) (c.found_len-at.ensures.ends units lie)
    (next_none layout cfg bytes held c.put_next_lead.new.out at lead_len left c.in-Some-2.unit_len units finds holds
    (λ n. c.in-Some.ensures.long units n lie) (c.put_next_lead.ensures units lie) (c.holds.ensures.other c.if-not-holds.true))

pub returns-clause-begins : goal.returns-clause-begins
returns-clause-begins g c = λ more told is b.
    let layout = g.L.TakeLayout in
    let cfg : Fields = c.args.file.now.config in
    let at : ℕ = c.found_len-at.result in
    let lead_len : ℕ = c.in-Some.lead_len in
    let left : ℕ = c.args.limit - at in
    let held : List ℕ = c.find_lead.new.buffer in
    let bytes : List ℕ = drop at told.essence.reads in
    let found = c.in_ok-unit_len in
    let holds : HoldsLead (layout.is_unit cfg) bytes at lead_len held c.in-Some-2.unit_len =
    subst (λ (o : Option ℕ). IfSome o (HoldsLead (layout.is_unit cfg) bytes at lead_len held)) c.in-Some-2.is
    (subst (λ (f : Fields). IfSome found.field-0 (HoldsLead (layout.is_unit f) bytes at lead_len held)) c.config.ensures (found.ensures.holds told is)) in
    let fits : FitsIn (layout.is_unit (view c.config.result.now)) lead_len left c.in-Some-2.unit_len =
    subst (λ (o : Option ℕ). IfSome o (FitsIn (layout.is_unit (view c.config.result.now)) lead_len left)) c.in-Some-2.is found.ensures.fits in
    let size = g.met.D.TakeDisk.long c.args.disk.now told Essence is in
    let inside : c.args.limit ≤ length told.essence.reads = let inside = c.requires.inside in omega (arith, size, inside) in
    let few : length b.units < cfg.max_frames =
    let few = c.requires.few in omega (arith, few, ap length b.lie, c.units_lie.ensures.counted cfg b.units) in
    let there = next_stands layout cfg (λ units bytes have from n. c.looks_decide.ensures.found cfg units bytes have from n)
    b.units bytes held c.put_next_lead.new.out at lead_len c.in-Some-2.unit_len holds
    (c.in-Some.ensures.long b.units c.in-Some-2.unit_len b.lie) (c.put_next_lead.ensures b.units b.lie) (c.holds.ensures.same c.if-not-holds.false)
    (let within = fits.within in omega (arith, within, inside, length-drop at told.essence.reads)) in
    next_begins layout cfg (λ units unit rest. c.growing_begins.ensures.next cfg units unit rest) told.essence.reads at c.in-Some-2.unit_len
    c.args.file.now.places c.add.new.file.places b (c.found_len-at.ensures.ends b.units b.lie) there few
    (λ unit long. c.add.ensures.placed b.units unit b.lie long)

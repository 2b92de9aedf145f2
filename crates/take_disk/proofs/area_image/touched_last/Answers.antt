use Rattle.std.proofs.Common.{◌≡◌, ◌+◌, suc, ℕ, List, [], ◌∷◌, drop, get_or, sym, ◌∙◌, ap, arith}
use Rattle.std.proofs.Math.Seq.{drop-cons}
use Rattle.std.proofs.lemmas.List.{drop_all}
use Rattle.take_disk.specs.declared.entry.Entry.{Entry}
use Rattle.take_disk.specs.declared.entry.Deed.TheVariants.{Write}
use Rattle.take_disk.specs.inner.Redone.{last_touch}
use Rattle.take_disk.proofs.RedoneLemmas.{touch_step, touch_end}
use Rattle.take_disk.proofs.area_image.touched_last.Goals as goal

pub loop-k-preserved : goal.loop-k-preserved
loop-k-preserved c =
    let k = c.loop-k.k in
    let es : List Entry = c.args.entries.now in
    let entry : Entry = get_or es k (record { moment = 0; deed = Write 0 0 0 }) in
    let next : suc k ≡ k + 1 = omega arith in
    let step : drop k es ≡ entry ∷ drop (k + 1) es =
    drop-cons es k (record { moment = 0; deed = Write 0 0 0 }) c.loop-k-test.true ∙ ap (λ (n : ℕ). entry ∷ drop n es) next in
    ap (λ (n : ℕ). last_touch c.args.place n (drop (k + 1) es)) c.touched_by-latest.ensures
    ∙ (sym (touch_step c.args.place c.loop-k.latest entry (drop (k + 1) es))
    ∙ (ap (λ (l : List Entry). last_touch c.args.place c.loop-k.latest l) (sym step) ∙ c.loop-k.invariant))

pub returns : goal.returns
returns c =
    let none : drop c.loop-k.k c.args.entries.now ≡ [] = drop_all c.loop-k.k c.args.entries.now c.loop-k-test.false in
    sym (touch_end c.args.place c.loop-k.latest (drop c.loop-k.k c.args.entries.now) none) ∙ c.loop-k.invariant

use Rattle.std.proofs.Common.{◌≡◌, ◌+◌, suc, ℕ, List, [], ◌∷◌, drop, get_or, sym, ◌∙◌, ap, arith}
use Rattle.std.proofs.Math.Seq.{drop-cons}
use Rattle.std.proofs.lemmas.List.{drop_all}
use Rattle.take_disk.specs.declared.entry.Entry.{Entry}
use Rattle.take_disk.specs.declared.entry.Deed.TheVariants.{Write}
use Rattle.take_disk.specs.inner.Redone.{redone_to}
use Rattle.take_disk.proofs.RedoneLemmas.{redone_step, redone_stop, redone_end}
use Rattle.take_disk.proofs.area_image.redo_to.Goals as goal

pub returns-then-entry-upto : goal.returns-then-entry-upto
returns-then-entry-upto c =
    let k = c.loop-k.k in
    let es : List Entry = c.args.entries.now in
    let entry : Entry = get_or es k (record { moment = 0; deed = Write 0 0 0 }) in
    let next : suc k ≡ k + 1 = omega arith in
    let step : drop k es ≡ entry ∷ drop (k + 1) es =
    drop-cons es k (record { moment = 0; deed = Write 0 0 0 }) c.loop-k-test.true ∙ ap (λ (n : ℕ). entry ∷ drop n es) next in
    sym (redone_stop c.args.upto c.args.pieces.now entry (drop (k + 1) es) c.loop-k.image.items c.if-entry-upto.true)
    ∙ (ap (λ (l : List Entry). redone_to c.args.upto c.args.pieces.now l c.loop-k.image.items) (sym step) ∙ c.loop-k.invariant)

pub loop-k-preserved : goal.loop-k-preserved
loop-k-preserved c =
    let k = c.loop-k.k in
    let es : List Entry = c.args.entries.now in
    let entry : Entry = get_or es k (record { moment = 0; deed = Write 0 0 0 }) in
    let next : suc k ≡ k + 1 = omega arith in
    let step : drop k es ≡ entry ∷ drop (k + 1) es =
    drop-cons es k (record { moment = 0; deed = Write 0 0 0 }) c.loop-k-test.true ∙ ap (λ (n : ℕ). entry ∷ drop n es) next in
    ap (λ (b : List ℕ). redone_to c.args.upto c.args.pieces.now (drop (k + 1) es) b) c.in_ok-redo.ensures
    ∙ (sym (redone_step c.args.upto c.args.pieces.now entry (drop (k + 1) es) c.loop-k.image.items c.if-entry-upto.false)
    ∙ (ap (λ (l : List Entry). redone_to c.args.upto c.args.pieces.now l c.loop-k.image.items) (sym step) ∙ c.loop-k.invariant))

pub returns : goal.returns
returns c =
    let none : drop c.loop-k.k c.args.entries.now ≡ [] = drop_all c.loop-k.k c.args.entries.now c.loop-k-test.false in
    sym (redone_end c.args.upto c.args.pieces.now (drop c.loop-k.k c.args.entries.now) c.loop-k.image.items none) ∙ c.loop-k.invariant

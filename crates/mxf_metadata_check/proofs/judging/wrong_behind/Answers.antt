use Rattle.std.proofs.Common.{◌≡◌, ℕ, ◌+◌, List, Option, drop, sym, ap, ◌∙◌}
use Rattle.std.proofs.lemmas.Result.{IfOk-weaker}
use Rattle.klv.specs.Items.{AreItems, Item}
use Rattle.mxf_metadata_reader.specs.inner.Places.{IsTable}
use Rattle.mxf_metadata_check.specs.declared.outline.Held.{Held}
use Rattle.mxf_metadata_check.specs.inner.Held.{sets_among, sets_held}
use Rattle.mxf_op1a.specs.Metadata.{SetAt, least, wrong_sets}
use Rattle.mxf_metadata_check.proofs.judging.wrong_behind.Goals as goal

pub returns : goal.returns
returns c =
    let bytes : List ℕ = c.args.bytes.now in
    IfOk-weaker c.least_wrong.result
    (λ (place : Option ℕ). (tags : List ℕ) → IsTable c.args.listed.now tags → place ≡ least (wrong_sets tags (sets_held bytes c.deref.result.now)))
    (λ (place : Option ℕ). (tags : List ℕ) (items : List Item) → IsTable c.args.listed.now tags → AreItems (drop c.args.start bytes) items
    → least (wrong_sets tags (sets_among (c.args.at + c.args.start) items)) ≡ place)
    (λ place so tags items table are.
    sym (so tags table
    ∙ ap (λ (helds : List Held). least (wrong_sets tags (sets_held bytes helds))) c.deref.ensures.value
    ∙ ap (λ (sets : List SetAt). least (wrong_sets tags sets)) (c.in_ok-sets.ensures.sets items are)))
    c.least_wrong.ensures

use Rattle.std.proofs.Common.{take}
use Rattle.rec_bytes.specs.Views.{view}
use Rattle.slice_codec.specs.Codings.{setup_of}
use Rattle.slice_codec.proofs.ChoiceLemmas.{coded_slice}
use Rattle.slice_codec.proofs.encoder.code_slice.Goals as goal

pub returns-clause-coded : goal.returns-clause-coded
returns-clause-coded c =
    let coding = c.args.coding.now in
    let rule = c.rule_of-rule in
    let count = c.args.count in
    let samples = c.args.samples.now in
    let weighed = c.weigh_slice.ensures.weighed in
    coded_slice (view coding.config) (setup_of coding) count samples rule.result.room rule.result.first rule.result.last
    (take c.write_chosen-used.result c.write_chosen-used.new.out) coding.setup rule.ensures.room rule.ensures.first rule.ensures.last
    (c.write_chosen-used.ensures.chosen (setup_of coding) count samples (rw (c.entry_count-luma.ensures, c.entry_count-chroma.ensures) weighed))

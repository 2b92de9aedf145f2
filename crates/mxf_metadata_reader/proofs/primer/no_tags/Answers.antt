use Rattle.mxf_metadata_reader.proofs.PrimerLemmas.{empty_table}
use Rattle.mxf_metadata_reader.proofs.primer.no_tags.Goals as goal

pub returns : goal.returns
returns c = empty_table c.args.places c.in_ok-listed.listed.items c.requires (c.in_ok-listed.ensures.items_if_clones_equal (λ y same. same))

use Rattle.std.proofs.Common.{◌≡◌, drop}
use Rattle.mxf_metadata_reader.specs.Sizes.{size_among}
use Rattle.mxf_metadata_reader.proofs.forms.size_among.Given as goal

abbrev pub invariant-rows : goal.invariant-rows
invariant-rows l = size_among l.rows l.tag ≡ size_among (drop l.row-index l.rows) l.tag

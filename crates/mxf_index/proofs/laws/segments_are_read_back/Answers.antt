use Rattle.std.proofs.Common.{refl, arith}
use Rattle.klv.specs.Items.{length_limit}
use Rattle.mxf_names.specs.EditRates.{edit_rate}
use Rattle.mxf_index.specs.Segments.{index_segment, segment_id, segment_item, segment_of}
use Rattle.mxf_index.specs.laws.Lengths.{length-id, length-items}
use Rattle.mxf_index.proofs.ReadBackLemmas.{says_back}
use Rattle.mxf_index.proofs.laws.segments_are_read_back.Goals as goal

pub returns-clause-stands : goal.returns-clause-stands
unfolding index_segment length_limit
returns-clause-stands c = λ cfg ids first streams rest long few.
    record {
      is_item = record { key = refl; form = omega arith; fits = omega (arith, few, length-items cfg ids first streams long) };
      rest = rest;
      bytes_are = refl;
    }

pub returns-clause-says : goal.returns-clause-says
returns-clause-says c = λ cfg ids first streams long f.
    says_back (segment_item (segment_of cfg ids first streams)) (segment_id ids first) (edit_rate cfg.rate) (record { first = first; streams = streams })
    (length-id ids first long) f (record { key = refl; value = refl })

use Rattle.mxf_take_op1a.proofs.ClosedLemmas.{closed_is_op1a, items_stand, units_stand}
use Rattle.mxf_take_op1a.proofs.ReadBack.{ReadBack, primer_no_pack, set_no_pack, segment_no_pack, random_index_no_pack, element_no_pack}
use Rattle.mxf_take_op1a.proofs.laws.closed_files_are_op1a.Goals as goal

pub returns : goal.returns
returns c =
    let back : ReadBack = record {
      pack = c.packs_read_back.ensures.pack;
      index = c.packs_read_back.ensures.index;
      segment = c.segments_are_read_back.ensures.says;
      primer = primer_no_pack;
      set = set_no_pack;
      index_segment = segment_no_pack;
      random_index = random_index_no_pack;
      element = element_no_pack;
    } in
    record {
      file = closed_is_op1a c.metadata_holds.ensures.lasting back;
      items = items_stand;
      units = units_stand back;
    }

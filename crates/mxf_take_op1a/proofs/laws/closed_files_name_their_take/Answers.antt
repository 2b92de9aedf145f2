use Rattle.std.proofs.Common.{None}
use Rattle.mxf_names.specs.Identifiers.{ids_of}
use Rattle.mxf_take_op1a.proofs.TakeNames.{are_linked, are_streams_named, says_durations, is_unknown, names_take}
use Rattle.mxf_take_op1a.proofs.ReadBack.{ReadBack, primer_no_pack, set_no_pack, segment_no_pack, random_index_no_pack, element_no_pack}
use Rattle.mxf_take_op1a.proofs.laws.closed_files_name_their_take.Goals as goal

pub returns : goal.returns
returns c =
    let back : ReadBack = record {
      pack = c.packs_read_back.ensures.pack;
      index = c.packs_read_back.ensures.index;
      segment = c.segments_are_read_back.ensures.says;
      primer = primer_no_pack;
      set = set_no_pack;
      index_segment = segment_no_pack;
      random_index = random_index_no_pack;
      element = element_no_pack;
    } in
    record {
      take = names_take back;
      unknown = λ cfg units h are. is_unknown back cfg units (c.metadata_holds.ensures.lasting cfg (ids_of cfg) None) h are;
      lasting = λ cfg units h are. says_durations back cfg units (λ frames. c.metadata_holds.ensures.lasting cfg (ids_of cfg) frames) h are;
      streams = are_streams_named back;
      linked = are_linked back;
    }

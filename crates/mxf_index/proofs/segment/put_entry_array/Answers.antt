use Rattle.std.proofs.Common.{ℕ, List, ◌+◌, ◌*◌, ◌++◌, length, sym, ap, ◌∙◌, arith}
use Rattle.std.specs.List.{flat_map}
use Rattle.byteorder.specs.Endian.{big_bytes}
use Rattle.rec_bytes.specs.Places.{with_bytes}
use Rattle.local_sets.specs.declared.value.TheConstants.{BATCH_HEAD_LEN}
use Rattle.mxf_index.specs.Segments.{frame_bytes}
use Rattle.mxf_index.specs.laws.Lengths.{array_is}
use Rattle.mxf_index.specs.declared.tags.TheConstants.{INDEX_ENTRIES, ENTRY_SIZE}
use Rattle.rec_bytes.specs.laws.Places.{with_bytes-more}
use Rattle.mxf_index.proofs.segment.put_entry_array.Goals as goal

pub returns-clause-written : goal.returns-clause-written
returns-clause-written c =
    let streams : List ℕ = c.args.streams.now in
    let at : ℕ = c.args.at in
    let first = c.put_array_head-first_at in
    let head : List ℕ = big_bytes 2 INDEX_ENTRIES ++ big_bytes 2 (BATCH_HEAD_LEN + ENTRY_SIZE * length streams) ++ big_bytes 4 (length streams) ++ big_bytes 4 ENTRY_SIZE in
    with_bytes-more c.args.out.now at first.result head (flat_map frame_bytes streams) first.new.out c.put_entries.new.out first.ensures.written first.ensures.behind (omega (arith, first.ensures.behind, c.requires.room)) c.put_entries.ensures.written
    ∙ ap (with_bytes c.args.out.now at) (sym (array_is streams))

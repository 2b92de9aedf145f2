use Rattle.local_sets.specs.laws.Writes.{room_for, one_more}
use Rattle.mxf_metadata.specs.inner.Entries.{tag_bytes}
use Rattle.mxf_metadata.specs.declared.tags.Tag.{Tag}
use Rattle.mxf_metadata.specs.declared.tags.Size.TheVariants.{Fixed}
use Rattle.mxf_metadata.proofs.primer.put_entries.Goals as goal

none : Tag
none = record { tag = 0; size = Fixed 0 }

pub put_entry-end-requires : goal.put_entry-end-requires
unfolding none
put_entry-end-requires c =
    room_for tag_bytes none c.tags.tag-index c.args.tags.now c.args.out.now c.tags.out c.args.at c.tags.end c.tags-test.true c.requires c.tags.invariant.end c.tags.auto.out

pub tags-preserved : goal.tags-preserved
unfolding none
tags-preserved c =
    let more = one_more tag_bytes none c.tags.tag-index c.args.tags.now c.args.out.now c.tags.out c.put_entry-end.new.out c.args.at c.tags.end c.put_entry-end.result c.tags-test.true c.requires c.tags.invariant.end c.tags.invariant.written c.put_entry-end.ensures.end c.put_entry-end.ensures.written in
    record { end = more.0; written = more.1 }

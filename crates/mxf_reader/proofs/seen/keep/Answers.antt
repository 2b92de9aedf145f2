use Rattle.std.proofs.Common.{ap, ◌∙◌}
use Rattle.mxf_reader.specs.inner.Parts.{first_of}
use Rattle.mxf_reader.proofs.InsideLemmas.{inside_more}
use Rattle.mxf_reader.proofs.KeptLemmas.{kept_more}
use Rattle.mxf_reader.proofs.seen.keep.Goals as goal

pub returns-clause-kept : goal.returns-clause-kept
returns-clause-kept c =
    λ ms h. kept_more c.args.seen.now _ c.args.m.now ms h (record {
      closed = c.in_ok-keep_closed.ensures;
      going = c.going_next-seen.ensures.next;
      front = c.first_of-seen.ensures ∙ ap (first_of c.args.seen.now.front) c.front_place.ensures;
      elements = c.in_ok-keep_element.ensures;
      segments = c.in_ok-keep_segment.ensures;
      last = c.last_next-seen.ensures;
    })

pub returns-clause-inside : goal.returns-clause-inside
returns-clause-inside c =
    λ h le. inside_more c.args.seen.now _ c.args.m.now (record {
      closed = c.in_ok-keep_closed.ensures;
      going = c.going_next-seen.ensures.next;
      front = c.first_of-seen.ensures ∙ ap (first_of c.args.seen.now.front) c.front_place.ensures;
      elements = c.in_ok-keep_element.ensures;
      segments = c.in_ok-keep_segment.ensures;
      last = c.last_next-seen.ensures;
    }) h le

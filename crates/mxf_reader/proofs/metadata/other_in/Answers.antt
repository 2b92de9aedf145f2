use Rattle.std.proofs.Common.{ℕ, List, sym, ap, subst, ◌∙◌}
use Rattle.byteorder.specs.Endian.{big_bytes}
use Rattle.mxf_metadata_check.specs.Metadata.{AreMetadata}
use Rattle.mxf_op1a.specs.Clauses.{first_place}
use Rattle.mxf_op1a.specs.Metadata.{SetAt, lasts, places_but}
use Rattle.mxf_reader.proofs.metadata.other_in.Goals as goal

pub returns-in_ok-bytes-in-Some-clause-other : goal.returns-in_ok-bytes-in-Some-clause-other
returns-in_ok-bytes-in-Some-clause-other g c = λ told is whole part.
    let held = c.in_ok-bytes-in-Some.ensures.held told is whole part in
    sym (ap (λ (sets : List SetAt). first_place (places_but (lasts (big_bytes 8 c.args.count)) sets)) held.sets
    ∙ c.first_other_duration.ensures held.primer held.items
    (subst (λ (bytes : List ℕ). AreMetadata bytes held.primer held.items) (sym c.deref.ensures.value) held.are))

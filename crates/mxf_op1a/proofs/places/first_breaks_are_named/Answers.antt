use Rattle.mxf_op1a.proofs.BreakLemmas.{durations_break, lengths_break, places_break, stream_breaks}
use Rattle.mxf_op1a.proofs.places.first_breaks_are_named.Goals as goal

pub returns : goal.returns
returns c = record { places = places_break; stream = stream_breaks; lasting = durations_break; lengths = lengths_break }

use Rattle.std.proofs.Common.{◌≡◌, take}
use Rattle.mxf_reader.specs.inner.Index.{streams_of}
use Rattle.mxf_reader.proofs.index.begin_with.Given as goal

-- as many are the same as were compared
abbrev pub invariant-streams : goal.invariant-streams
invariant-streams l = take l.k (streams_of l.elements) ≡ take l.k l.streams

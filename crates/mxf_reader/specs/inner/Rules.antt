-- The clauses of OP1a, over what is kept of a file (own). Private functions alone cite this.
use Rattle.std.specs.Prelude.{ℕ, ◌-◌, ◌==◌, ◌&&◌, ◌||◌, nat_lt, Bool, false, if◌then◌else◌, List, [], ◌∷◌, length, take, Option, Some, None, is_none}
use Rattle.mxf_op1a.specs.Clauses.{is_body, is_closed, is_footer, is_header, is_open}
use Rattle.mxf_reader.specs.declared.clauses.Rule.{Rule}
use Rattle.mxf_reader.specs.declared.clauses.Rule.TheVariants.{Places, Offset, Lengths}
use Rattle.mxf_reader.specs.declared.mark.Kind.{Kind}
use Rattle.mxf_reader.specs.declared.mark.Kind.TheVariants.{Filler, PartitionPack, PrimerPack, MetadataSet, IndexSegment, RandomIndexPack, EssenceElement, Unknown}
use Rattle.mxf_reader.specs.declared.mark.Mark.{Mark}
use Rattle.mxf_reader.specs.declared.part.SeenPart.{SeenPart}
use Rattle.mxf_reader.specs.inner.Parts.{first_of, place_or}

-- the bytes of a run, by where it begins, what ends it and where the partition ends
abbrev pub run_len : Option ℕ → Option ℕ → ℕ → ℕ
run_len None until end = 0
run_len (Some at) until end = place_or end until - at

-- a partition keeps a rule, where the pack before stands here
abbrev pub keeps : Rule → ℕ → SeenPart → Bool
keeps Places before p = p.pack.this == p.at && p.pack.previous == before
keeps Offset before p = p.pack.body_offset == p.due
keeps Lengths before p =
    p.pack.header_bytes == run_len p.primer p.primer_end p.end && p.pack.index_bytes == run_len p.segment p.segment_end p.end

-- the place of the first partition that doesn't keep it
unfoldable pub first_bad : Rule → ℕ → List SeenPart → Option ℕ
first_bad rule before [] = None
first_bad rule before (p ∷ ps) = if keeps rule before p then first_bad rule p.at ps else Some p.at

-- the file's length, where the last item is no random index pack
abbrev pub end_by : ℕ → Kind → Option ℕ
end_by len RandomIndexPack = None
end_by len Filler = Some len
end_by len (PartitionPack pack) = Some len
end_by len PrimerPack = Some len
end_by len MetadataSet = Some len
end_by len IndexSegment = Some len
end_by len EssenceElement = Some len
end_by len Unknown = Some len

abbrev pub end_seen : ℕ → Option Mark → Option ℕ
end_seen len None = Some len
end_seen len (Some m) = end_by len m.kind

-- where the file isn't items with a random index pack at their end
abbrev pub seen_1 : ℕ → ℕ → Option Mark → Option ℕ
seen_1 stop len last = if nat_lt stop len then Some stop else end_seen len last

-- an open header, a closed footer that names itself
abbrev pub is_first_kept : SeenPart → Bool
is_first_kept p = is_header p.pack.kind && is_open p.pack.status

abbrev pub is_last_kept : SeenPart → Bool
is_last_kept p = is_footer p.pack.kind && is_closed p.pack.status && p.pack.footer == p.at

-- the first behind the header that is no body, or the last where it is no such footer
unfoldable pub bad_behind : List SeenPart → Option ℕ
bad_behind [] = None
bad_behind (p ∷ []) = if is_last_kept p then None else Some p.at
bad_behind (p ∷ q ∷ ps) = if is_body p.pack.kind then bad_behind (q ∷ ps) else Some p.at

-- the first partition that is of another kind than it should be
abbrev pub seen_4 : ℕ → List SeenPart → Option ℕ
seen_4 len [] = Some len
seen_4 len (p ∷ []) = Some p.at
seen_4 len (p ∷ q ∷ ps) = if is_first_kept p then bad_behind (q ∷ ps) else Some p.at

-- the first element of bodies whose key isn't the picture element's
unfoldable pub first_other : List SeenPart → Option ℕ
first_other [] = None
first_other (p ∷ ps) = first_of p.other (first_other ps)

-- a body has no element
unfoldable pub lacks_element : List SeenPart → Bool
lacks_element [] = false
lacks_element (p ∷ ps) = is_none p.element || lacks_element ps

-- the file's length, where a body has none
abbrev pub lack_seen : ℕ → List SeenPart → Option ℕ
lack_seen len bodies = if lacks_element bodies then Some len else None

-- the first element of the last partition
unfoldable pub last_element : List SeenPart → Option ℕ
last_element [] = None
last_element (p ∷ []) = p.element
last_element (p ∷ q ∷ ps) = last_element (q ∷ ps)

-- behind the header: the first element of bodies with another key than the picture element's, or of the footer, or the
-- file's length where a body has none
abbrev pub misplaced_behind : ℕ → List SeenPart → Option ℕ
misplaced_behind len ps =
    first_of (first_other (take (length ps - 1) ps)) (first_of (last_element ps) (lack_seen len (take (length ps - 1) ps)))

-- the first element that stands elsewhere than it should, in any partition
abbrev pub seen_6 : ℕ → List SeenPart → Option ℕ
seen_6 len [] = None
seen_6 len (p ∷ ps) = first_of p.element (misplaced_behind len ps)

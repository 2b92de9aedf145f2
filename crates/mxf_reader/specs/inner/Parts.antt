-- What is kept of a partition, as its items go by (own). Private functions alone cite this.
use Rattle.std.specs.Prelude.{ℕ, ◌+◌, ◌-◌, ◌≤◌, Bool, true, false, List, [], ◌∷◌, Option, Some, None}
use Rattle.mxf_partitions.specs.declared.partition.Partition.{Partition}
use Rattle.mxf_reader.specs.declared.mark.Kind.{Kind}
use Rattle.mxf_reader.specs.declared.mark.Kind.TheVariants.{Filler, PartitionPack, PrimerPack, MetadataSet, IndexSegment, RandomIndexPack, EssenceElement, Unknown}
use Rattle.mxf_reader.specs.declared.mark.Mark.{Mark}
use Rattle.mxf_reader.specs.declared.part.SeenPart.{SeenPart}

-- the place of an element
abbrev pub element_place : Kind → ℕ → Option ℕ
element_place EssenceElement at = Some at
element_place Filler at = None
element_place (PartitionPack pack) at = None
element_place PrimerPack at = None
element_place MetadataSet at = None
element_place IndexSegment at = None
element_place RandomIndexPack at = None
element_place Unknown at = None

-- that of an element whose key isn't the picture element's
abbrev pub other_place : Bool → Kind → ℕ → Option ℕ
other_place true kind at = None
other_place false kind at = element_place kind at

-- the place of a primer
abbrev pub primer_place : Kind → ℕ → Option ℕ
primer_place PrimerPack at = Some at
primer_place Filler at = None
primer_place (PartitionPack pack) at = None
primer_place MetadataSet at = None
primer_place IndexSegment at = None
primer_place RandomIndexPack at = None
primer_place EssenceElement at = None
primer_place Unknown at = None

-- the place of a segment
abbrev pub segment_place : Kind → ℕ → Option ℕ
segment_place IndexSegment at = Some at
segment_place Filler at = None
segment_place (PartitionPack pack) at = None
segment_place PrimerPack at = None
segment_place MetadataSet at = None
segment_place RandomIndexPack at = None
segment_place EssenceElement at = None
segment_place Unknown at = None

-- the place of what is neither a set nor fill
abbrev pub sets_end : Kind → ℕ → Option ℕ
sets_end MetadataSet at = None
sets_end Filler at = None
sets_end (PartitionPack pack) at = Some at
sets_end PrimerPack at = Some at
sets_end IndexSegment at = Some at
sets_end RandomIndexPack at = Some at
sets_end EssenceElement at = Some at
sets_end Unknown at = Some at

-- the place of what is neither a segment nor fill
abbrev pub segments_end : Kind → ℕ → Option ℕ
segments_end IndexSegment at = None
segments_end Filler at = None
segments_end (PartitionPack pack) at = Some at
segments_end PrimerPack at = Some at
segments_end MetadataSet at = Some at
segments_end RandomIndexPack at = Some at
segments_end EssenceElement at = Some at
segments_end Unknown at = Some at

-- the first of two places
abbrev pub first_of : Option ℕ → Option ℕ → Option ℕ
first_of (Some at) next = Some at
first_of None next = next

-- where a run ends that has begun, and may have ended
abbrev pub end_next : Option ℕ → Option ℕ → Option ℕ → Option ℕ
end_next None end next = None
end_next (Some at) (Some end) next = Some end
end_next (Some at) None next = next

-- a partition that begins
abbrev pub fresh : Bool → ℕ → ℕ → Partition → SeenPart
fresh is_first due at pack = record {
  at = at;
  pack = pack;
  is_first = is_first;
  due = due;
  element = None;
  other = None;
  primer = None;
  primer_end = None;
  segment = None;
  segment_end = None;
  end = at;
}

-- one more item in it
abbrev pub with_item : SeenPart → Mark → SeenPart
with_item p m = record {
  at = p.at;
  pack = p.pack;
  is_first = p.is_first;
  due = p.due;
  element = first_of p.element (element_place m.kind m.at);
  other = first_of p.other (other_place m.is_picture m.kind m.at);
  primer = first_of p.primer (primer_place m.kind m.at);
  primer_end = end_next p.primer p.primer_end (sets_end m.kind m.at);
  segment = first_of p.segment (segment_place m.kind m.at);
  segment_end = end_next p.segment p.segment_end (segments_end m.kind m.at);
  end = p.end;
}

-- it ends
abbrev pub ended : ℕ → SeenPart → SeenPart
ended end p = record {
  at = p.at;
  pack = p.pack;
  is_first = p.is_first;
  due = p.due;
  element = p.element;
  other = p.other;
  primer = p.primer;
  primer_end = p.primer_end;
  segment = p.segment;
  segment_end = p.segment_end;
  end = end;
}

-- a place that may be, or else another
abbrev pub place_or : ℕ → Option ℕ → ℕ
place_or at None = at
place_or at (Some place) = place

-- the bytes of the essence stream before a place behind the partition's first element; the first partition has none of it
abbrev pub offset_at : SeenPart → ℕ → ℕ
offset_at p at = p.due + (at - place_or at p.element)

abbrev pub due_by : Bool → SeenPart → ℕ → ℕ
due_by true p end = 0
due_by false p end = offset_at p end

abbrev pub due_behind : Option SeenPart → ℕ → ℕ
due_behind None end = 0
due_behind (Some p) end = due_by p.is_first p end

abbrev pub is_first : Option SeenPart → Bool
is_first None = true
is_first (Some p) = false

abbrev pub item_next : Option SeenPart → Mark → Option SeenPart
item_next None m = None
item_next (Some p) m = Some (with_item p m)

-- the partition that goes on behind an item
abbrev pub pack_next : Kind → Option SeenPart → Mark → Option SeenPart
pack_next (PartitionPack pack) so m = Some (fresh (is_first so) (due_behind so m.at) m.at pack)
pack_next Filler so m = item_next so m
pack_next PrimerPack so m = item_next so m
pack_next MetadataSet so m = item_next so m
pack_next IndexSegment so m = item_next so m
pack_next RandomIndexPack so m = item_next so m
pack_next EssenceElement so m = item_next so m
pack_next Unknown so m = item_next so m

abbrev pub going_next : Option SeenPart → Mark → Option SeenPart
going_next so m = pack_next m.kind so m

-- the partition that ends at a place
abbrev pub closed_at : ℕ → Option SeenPart → List SeenPart
closed_at end None = []
closed_at end (Some p) = ended end p ∷ []

abbrev pub pack_closes : Kind → Option SeenPart → ℕ → List SeenPart
pack_closes (PartitionPack pack) so at = closed_at at so
pack_closes Filler so at = []
pack_closes PrimerPack so at = []
pack_closes MetadataSet so at = []
pack_closes IndexSegment so at = []
pack_closes RandomIndexPack so at = []
pack_closes EssenceElement so at = []
pack_closes Unknown so at = []

abbrev pub closed_one : Option SeenPart → Mark → List SeenPart
closed_one so m = pack_closes m.kind so m.at

-- what is added to the essence stream before it stands before it, and its first element before the place that was reached
abbrev pub IsWithin : ℕ → Option SeenPart → Type 0
IsWithin at None = Unit {0}
IsWithin at (Some p) = (p.due ≤ place_or p.at p.element) × (place_or p.at p.element ≤ at)

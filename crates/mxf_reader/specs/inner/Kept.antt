-- What is kept of items (own). Private functions alone cite this.
use Rattle.std.specs.Prelude.{◌≡◌, ℕ, List, [], ◌∷◌, ◌++◌, Option, Some, None}
use Rattle.std.specs.List.{flat_map}
use Rattle.mxf_reader.specs.declared.mark.Kind.{Kind}
use Rattle.mxf_reader.specs.declared.mark.Kind.TheVariants.{Filler, PartitionPack, PrimerPack, MetadataSet, IndexSegment, RandomIndexPack, EssenceElement, Unknown}
use Rattle.mxf_reader.specs.declared.mark.Mark.{Mark}
use Rattle.mxf_reader.specs.declared.part.SeenPart.{SeenPart}
use Rattle.mxf_reader.specs.declared.seen.Seen.{Seen}
use Rattle.take_layout.specs.declared.place.Place.{Place}
use Rattle.mxf_reader.specs.inner.Parts.{closed_one, element_place, first_of, going_next, offset_at}

-- the partition that goes on behind items, and those that ended
unfoldable pub going : Option SeenPart → List Mark → Option SeenPart
going so [] = so
going so (m ∷ ms) = going (going_next so m) ms

unfoldable pub closed : Option SeenPart → List Mark → List SeenPart
closed so [] = []
closed so (m ∷ ms) = closed_one so m ++ closed (going_next so m) ms

-- the first element before all packs
abbrev pub front_place : Option SeenPart → Mark → Option ℕ
front_place None m = element_place m.kind m.at
front_place (Some p) m = None

unfoldable pub front : Option SeenPart → List Mark → Option ℕ
front so [] = None
front so (m ∷ ms) = first_of (front_place so m) (front (going_next so m) ms)

-- an element's place in the essence stream
abbrev pub offset_in : Option SeenPart → ℕ → ℕ
offset_in None at = 0
offset_in (Some p) at = offset_at p at

-- what is kept of an element
abbrev pub seen_element : Option SeenPart → Mark → Place
seen_element so m = record { at = m.value_at; stream = offset_in so m.at; len = m.value_len }

abbrev pub element_by : Kind → Option SeenPart → Mark → List Place
element_by EssenceElement so m = seen_element so m ∷ []
element_by Filler so m = []
element_by (PartitionPack pack) so m = []
element_by PrimerPack so m = []
element_by MetadataSet so m = []
element_by IndexSegment so m = []
element_by RandomIndexPack so m = []
element_by Unknown so m = []

abbrev pub element_of : Option SeenPart → Mark → List Place
element_of so m = element_by m.kind so m

unfoldable pub elements_from : Option SeenPart → List Mark → List Place
elements_from so [] = []
elements_from so (m ∷ ms) = element_of so m ++ elements_from (going_next so m) ms

-- the segments
abbrev pub segment_by : Kind → Mark → List Mark
segment_by IndexSegment m = m ∷ []
segment_by Filler m = []
segment_by (PartitionPack pack) m = []
segment_by PrimerPack m = []
segment_by MetadataSet m = []
segment_by RandomIndexPack m = []
segment_by EssenceElement m = []
segment_by Unknown m = []

abbrev pub segment_of : Mark → List Mark
segment_of m = segment_by m.kind m

-- the last item that isn't fill
abbrev pub last_by : Kind → Option Mark → Mark → Option Mark
last_by Filler so m = so
last_by (PartitionPack pack) so m = Some m
last_by PrimerPack so m = Some m
last_by MetadataSet so m = Some m
last_by IndexSegment so m = Some m
last_by RandomIndexPack so m = Some m
last_by EssenceElement so m = Some m
last_by Unknown so m = Some m

abbrev pub last_next : Option Mark → Mark → Option Mark
last_next so m = last_by m.kind so m

unfoldable pub last : Option Mark → List Mark → Option Mark
last so [] = so
last so (m ∷ ms) = last (last_next so m) ms

-- this is kept of items
pub record IsKept (seen : Seen) (ms : List Mark) : Type 0 where
  pub closed : seen.closed.items ≡ closed None ms
  pub going : seen.going ≡ going None ms
  pub front : seen.front ≡ front None ms
  pub elements : seen.elements.items ≡ elements_from None ms
  pub segments : seen.segments.items ≡ flat_map segment_of ms
  pub last : seen.last ≡ last None ms

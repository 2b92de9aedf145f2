-- What a random index pack names, over what is kept of partitions (own). Private functions alone cite this.
use Rattle.std.specs.Prelude.{◌≡◌, ℕ, ◌+◌, ◌==◌, ◌&&◌, Bool, true, false, List, [], ◌∷◌}
use Rattle.klv.specs.Items.{Item}
use Rattle.mxf_op1a.specs.Clauses.{entries_match}
use Rattle.mxf_op1a.specs.Partitions.{Part}
use Rattle.mxf_partitions.specs.Reads.{entries_of, entry_at}
use Rattle.mxf_partitions.specs.declared.random_index.PackEntry.{PackEntry}
use Rattle.mxf_reader.specs.declared.mark.Kind.{Kind}
use Rattle.mxf_reader.specs.declared.mark.Kind.TheVariants.{Filler, PartitionPack, PrimerPack, MetadataSet, IndexSegment}
use Rattle.mxf_reader.specs.declared.mark.Kind.TheVariants.{RandomIndexPack, EssenceElement, Unknown}
use Rattle.mxf_reader.specs.declared.part.SeenPart.{SeenPart}
use Rattle.mxf_reader.specs.inner.Seen.{seen_parts}

-- an item is a random index pack by its key
abbrev pub is_index : Kind → Bool
is_index RandomIndexPack = true
is_index Filler = false
is_index (PartitionPack pack) = false
is_index PrimerPack = false
is_index MetadataSet = false
is_index IndexSegment = false
is_index EssenceElement = false
is_index Unknown = false

-- an entry is that of a partition
abbrev pub is_entry_of : PackEntry → SeenPart → Bool
is_entry_of entry p = entry.body_sid == p.pack.body_sid && entry.at == p.at

-- the entries of a value from a number on are those of partitions, in order
unfoldable pub names_from : List ℕ → ℕ → List SeenPart → Bool
names_from value k [] = true
names_from value k (p ∷ ps) = is_entry_of (entry_at value k) p && names_from value (k + 1) ps

-- it is said whether an item names the partitions of which this is kept
abbrev pub IsNaming : Item → List SeenPart → Bool → Type 0
IsNaming item seen names = (all : List Part) → seen ≡ seen_parts true 0 all → names ≡ entries_match (entries_of item) all

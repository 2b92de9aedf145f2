-- A primer pack by its entries (SMPTE ST 377-1). docs/FORMATS.md, "Metadata".
use Rattle.std.specs.Prelude.{◌≡◌, ℕ, List, map}
use Rattle.klv.specs.Items.{Item}
use Rattle.mxf_metadata.specs.Primer.{PrimerEntry, primer_value}
use Rattle.mxf_names.specs.declared.keys.TheConstants.{PRIMER_KEY}

-- an item is a primer pack whose entries have these tags
pub record IsPrimerOf (item : Item) (tags : List ℕ) : Type 0 where
  pub entries : List PrimerEntry
  pub keyed : item.key ≡ PRIMER_KEY
  pub value : item.value ≡ primer_value entries
  pub tags_are : tags ≡ map (λ (entry : PrimerEntry). entry.tag) entries

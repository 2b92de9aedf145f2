-- Laws of the metadata: proved here, for proofs to cite.
use Rattle.std.proofs.Common.{◌≡◌, ℕ, length, Option, arith, length-append}
use Rattle.std.specs.List.{flat_map}
use Rattle.rec_bytes.specs.Configuration.{Fields}
use Rattle.mxf_names.specs.Identifiers.{AreIds}
use Rattle.mxf_metadata.specs.Metadata.{set_bytes, sets, metadata}
use Rattle.mxf_metadata.specs.Primer.{primer}
use Rattle.mxf_names.specs.declared.ids.Ids.{Ids}
use Rattle.mxf_metadata.specs.declared.lengths.TheConstants.{METADATA}
use Rattle.mxf_metadata.specs.laws.Lengths.{length_primer, length_sets}

-- the metadata has always as many bytes
pub length-metadata : (cfg : Fields) (ids : Ids) (frames : Option ℕ) → AreIds ids → length (metadata cfg ids frames) ≡ METADATA
unfolding metadata
length-metadata cfg ids frames h =
    omega (arith, length-append primer (flat_map set_bytes (sets cfg ids frames)), length_primer, length_sets cfg ids frames h)

-- Identifiers of a take (RFC 9562, SMPTE ST 330, and own choices). docs/FORMATS.md, "Identifiers of the metadata".
use Rattle.std.specs.Prelude.{◌≡◌, ℕ, List, ◌++◌, length, take, codes}
use Rattle.byteorder.specs.Endian.{big_bytes}
use Rattle.sha1.specs.Sha1.{sha1}
use Rattle.uuid.specs.Parts.{with_version, with_variant}
use Rattle.uuid.specs.declared.Version.TheVariants.{Sha1}
use Rattle.uuid.specs.declared.Variant.TheVariants.{RFC4122}
use Rattle.rec_bytes.specs.Configuration.{Fields}
use Rattle.mxf_names.specs.declared.ids.Ids.{Ids}
use Rattle.mxf_names.specs.declared.labels.TheConstants.{UMID_HEAD}

-- identifiers have the sizes of their types
pub record AreIds (ids : Ids) : Type 0 where
  pub take : length ids.take ≡ 16
  pub file : length ids.file ≡ 16
  pub sets : length ids.sets ≡ 8
  pub index : length ids.index ≡ 8

-- the version 5 identifier of a namespace and a name
unfoldable pub named_id : List ℕ → List ℕ → List ℕ
named_id namespace name = with_version (with_variant (take 16 (sha1 (namespace ++ name))) RFC4122) Sha1

-- the identifiers of a configuration's take
unfoldable pub ids_of : Fields → Ids
ids_of cfg = record {
  take = cfg.take_id;
  file = named_id cfg.take_id (codes "file");
  sets = take 8 (named_id cfg.take_id (codes "sets"));
  index = take 8 (named_id cfg.take_id (codes "index"));
}

-- the identifier of the set with a number
abbrev pub set_id : Ids → ℕ → List ℕ
set_id ids number = ids.sets ++ big_bytes 8 number

-- the unique material identifier that ends with an identifier
abbrev pub umid : List ℕ → List ℕ
umid identifier = UMID_HEAD ++ identifier

-- What the metadata of a take says of it, where it is read (own). docs/FORMATS.md, "Metadata".
use Rattle.std.specs.Prelude.{ℕ, Option}
use Rattle.rec_bytes.specs.Configuration.{Fields}
use Rattle.mxf_names.specs.EditRates.{edit_rate}
use Rattle.mxf_names.specs.declared.ids.Ids.{Ids}
use Rattle.mxf_metadata.specs.Pictures.{stored_height}
use Rattle.mxf_metadata_reader.specs.declared.fields.Sets.{Sets}

-- the number of frames, the take's identifier, the width, the rows that are stored together, and the edit rate
abbrev pub said : Fields → Ids → Option ℕ → Sets
said cfg ids frames = record {
  frames = frames;
  take_id = ids.take;
  width = cfg.width;
  height = stored_height cfg;
  rate = edit_rate cfg.rate;
}

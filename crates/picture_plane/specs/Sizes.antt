-- The sizes that a frame may have (own). docs/formats/configuration.md, "Configuration".
use Rattle.std.specs.Prelude.{◌≡◌, ◌≢◌, ◌≤◌, ◌%◌}
use Rattle.rec_bytes.specs.Configuration.{Fields}
use Rattle.rec_bytes.specs.declared.config_fields.TheConstants.{MAX_WIDTH, MAX_HEIGHT, MAX_INTERLACE}
use Rattle.picture_plane.specs.Slices.{Size}

-- an even width, a height of at least one row, and an even one where there are two fields
pub record IsSize (size : Size) : Type 0 where
  pub some_columns : 2 ≤ size.width
  pub most_columns : size.width ≤ MAX_WIDTH
  pub even_columns : size.width % 2 ≡ 0
  pub some_rows : 1 ≤ size.height
  pub most_rows : size.height ≤ MAX_HEIGHT
  pub mode : size.interlace ≤ MAX_INTERLACE
  pub even_rows : size.interlace ≢ 0 → size.height % 2 ≡ 0

-- the size that a configuration gives
abbrev pub size_of : Fields → Size
size_of fields = record { width = fields.width; height = fields.height; interlace = fields.interlace }

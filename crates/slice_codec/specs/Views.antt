-- A slice setup as numbers.
use Rattle.slice_codec.specs.Setups.{Setup}
use Rattle.slice_codec.specs.declared.setup.SliceSetup.{SliceSetup}

-- the setup that a value holds
abbrev pub as_setup : SliceSetup → Setup
as_setup setup = record { scan = setup.scan; luma = setup.luma; chroma = setup.chroma }

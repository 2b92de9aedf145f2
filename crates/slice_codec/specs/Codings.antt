-- What an encoder holds as numbers.
use Rattle.slice_codec.specs.Setups.{Setup}
use Rattle.slice_codec.specs.declared.coding.Coding.{Coding}

-- the setup of the slices that it writes
abbrev pub setup_of : Coding → Setup
setup_of coding = record { scan = coding.luma.scan; luma = coding.luma.weights; chroma = coding.chroma.weights }

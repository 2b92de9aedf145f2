-- What the metadata says of pictures (SMPTE ST 377-1, SMPTE RDD 36, and own choices). docs/FORMATS.md, "Metadata".
use Rattle.std.specs.Prelude.{ℕ, ◌+◌, ◌/◌, ◌==◌, List, [], ◌∷◌, if◌then◌else◌}
use Rattle.rec_bytes.specs.Configuration.{Fields}
use Rattle.mxf_names.specs.EditRates.{edit_rate}

-- frames per second, rounded to the nearest whole number
abbrev pub timecode_base : ℕ → ℕ
timecode_base rate = ((edit_rate rate).0 + (edit_rate rate).1 / 2) / (edit_rate rate).1

-- how the rows of a frame are stored: 0 together, 1 in two fields
abbrev pub frame_layout : Fields → ℕ
frame_layout cfg = if cfg.interlace == 0 then 0 else 1

-- the rows that are stored together: of a frame, or of a field
abbrev pub stored_height : Fields → ℕ
stored_height cfg = if cfg.interlace == 0 then cfg.height else cfg.height / 2

-- width to height of the picture as it is shown
abbrev pub aspect_ratio : Fields → ℕ × ℕ
aspect_ratio cfg = if cfg.aspect == 2 then (4, 3) else if cfg.aspect == 3 then (16, 9) else (cfg.width, cfg.height)

-- the label of the picture coding
abbrev pub coding_label : ℕ → List ℕ
coding_label coding =
    0x06 ∷ 0x0e ∷ 0x2b ∷ 0x34 ∷ 0x04 ∷ 0x01 ∷ 0x01 ∷ 0x0d ∷ 0x04 ∷ 0x01 ∷ 0x02 ∷ 0x02 ∷ 0x03 ∷ 0x06 ∷ (coding + 1) ∷ 0x00 ∷ []

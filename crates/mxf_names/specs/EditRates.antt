-- The edit rate of a frame rate code (SMPTE RDD 36). docs/FORMATS.md, "Metadata".
use Rattle.std.specs.Prelude.{ℕ, ◌==◌, if◌then◌else◌}

-- frames per second by frame rate code, as numerator and denominator
abbrev pub edit_rate : ℕ → ℕ × ℕ
edit_rate rate =
    if rate == 1 then (24000, 1001)
    else if rate == 2 then (24, 1)
    else if rate == 3 then (25, 1)
    else if rate == 4 then (30000, 1001)
    else if rate == 5 then (30, 1)
    else if rate == 6 then (50, 1)
    else if rate == 7 then (60000, 1001)
    else (60, 1)

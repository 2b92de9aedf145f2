-- The laws that the trait asks of the layout.
use Rattle.std.proofs.Common.{◌≡◌, ◌≤◌, ◌^◌, ℕ, List, [], ◌∷◌, ◌++◌, length, arith}
use Rattle.rec_bytes.specs.Configuration.{Fields}
use Rattle.rec_bytes.specs.Ranges.{IsInRange}
use Rattle.take_layout.specs.Takes.{AreUnits, place_behind}
use Rattle.mxf_take_file.specs.Layout.{is_unit, head, lead, tail, growing, places_of, stream_of, lead_most, tail_most}
use Rattle.mxf_take_file.specs.laws.Bounds as bounds
use Rattle.take_layout.specs.laws.Grown.{grown_none, grown_more, lying_none, lying_more}

pub starts : (cfg : Fields) → growing cfg [] ≡ head cfg
starts cfg = grown_none (head cfg) (lead cfg)

pub grows : (cfg : Fields) (units : List (List ℕ)) (unit : List ℕ)
    → growing cfg (units ++ unit ∷ []) ≡ growing cfg units ++ (lead cfg units (length unit) ++ unit)
grows cfg units unit = grown_more (head cfg) (lead cfg) units unit

pub no_places : (cfg : Fields) → places_of cfg [] ≡ []
no_places cfg = lying_none (stream_of cfg) (head cfg) (lead cfg)

pub more_places : (cfg : Fields) (units : List (List ℕ)) (unit : List ℕ)
    → places_of cfg (units ++ unit ∷ []) ≡ places_of cfg units
    ++ place_behind (growing cfg units ++ lead cfg units (length unit)) (stream_of cfg units) unit ∷ []
more_places cfg units unit = lying_more (stream_of cfg) (head cfg) (lead cfg) units unit

pub head_fits : (cfg : Fields) → IsInRange cfg → (1 ≤ length (head cfg)) × (length (head cfg) ≤ 2 ^ 32)
head_fits cfg h = bounds.head_fits cfg h

pub rooms_fit : (cfg : Fields) → IsInRange cfg → (lead_most cfg ≤ 2 ^ 32) × (tail_most cfg ≤ 2 ^ 32)
rooms_fit cfg h = bounds.rooms_fit cfg h

pub lead_fits : (cfg : Fields) (units : List (List ℕ)) (unit : List ℕ) → IsInRange cfg → length (lead cfg units (length unit)) ≤ lead_most cfg
lead_fits cfg units unit h = bounds.lead_fits cfg units (length unit) h

pub tail_fits : (cfg : Fields) (units : List (List ℕ)) → IsInRange cfg → AreUnits (is_unit cfg) cfg.max_frames units → length (tail cfg units) ≤ tail_most cfg
tail_fits cfg units h are = bounds.tail_fits cfg units h are.few

pub unit_fits : (cfg : Fields) (unit : List ℕ) → is_unit cfg unit → length unit ≤ 2 ^ 32
unit_fits cfg unit h = omega (arith, h)

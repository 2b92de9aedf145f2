-- The extents of units by the places that are kept of them (own). Private functions alone cite these: no definition of the
-- format rests on them.
use Rattle.klv.specs.declared.head.TheConstants.{ELEMENT_HEAD_LEN}
use Rattle.std.specs.Prelude.{ℕ, ◌+◌, ◌<◌, ◌≤◌, ◌^◌, List, [], ◌∷◌, length, take, map, All}
use Rattle.rec_bytes.specs.declared.config_fields.TheConstants.{MAX_FRAMES}
use Rattle.take_layout.specs.declared.place.Place.{Place}
use Rattle.mxf_take_file.specs.Extents.{Extents}
use Rattle.mxf_take_file.specs.declared.lead.TheConstants.{HEADER_LEN}

-- where the last of the units ends, or what stands before them where there are none
unfoldable pub end_behind : ℕ → List Place → ℕ
end_behind end [] = end
end_behind end (place ∷ places) = end_behind (place.at + place.len) places

-- the same in the stream of elements, of which each has 24 bytes before its unit
unfoldable pub total_behind : ℕ → List Place → ℕ
total_behind total [] = total
total_behind total (place ∷ places) = total_behind (place.stream + (ELEMENT_HEAD_LEN + place.len)) places

-- the extents of the units that lie at the places
abbrev pub extents_kept : List Place → Extents
extents_kept places = record {
  count = length places;
  end_of = λ n. end_behind HEADER_LEN (take n places);
  offsets = map (λ (place : Place). place.stream) places;
  total = total_behind 0 places;
}

-- a place whose numbers have room for more
pub record IsSmall (place : Place) : Type 0 where
  pub file : place.at + place.len < 2 ^ 60
  pub stream : place.stream + (ELEMENT_HEAD_LEN + place.len) < 2 ^ 60

-- places of which each is so, no more than a take may have
pub record AreSmall (places : List Place) : Type 0 where
  pub each : All IsSmall places
  pub few : length places ≤ MAX_FRAMES

-- What a desk keeps. Private functions alone cite these.
use Rattle.std.specs.Prelude.{◌≡◌, ◌≤◌, ◌<◌, ℕ, ◌*◌, ◌+◌, ◌%◌, ◌^◌, List, length, map, get_or, Option, Some, None}
use Rattle.rec_bytes.specs.Configuration.{Fields}
use Rattle.picture_plane.specs.Pictures.{Planes, zeros}
use Rattle.picture_plane.specs.Sizes.{size_of}
use Rattle.slice_desk.specs.Desks.{place_of}
use Rattle.slice_desk.specs.Slices.{DoneSeen, slices_of, slices_in_picture}
use Rattle.slice_desk.specs.Told.{IsTold}

-- which slice it is
abbrev pub key : Option DoneSeen → Option (ℕ × ℕ)
key (Some done) = Some (done.frame, done.index)
key None = None

abbrev pub keys : List (Option DoneSeen) → List (Option (ℕ × ℕ))
keys kept = map key kept

-- the slices that are in lie at their places, and are of frames in flight
abbrev pub ArePlaced : ℕ → ℕ → ℕ → List (Option (ℕ × ℕ)) → Type 0
ArePlaced slices lowest offered kept = (place frame index : ℕ) → get_or kept place None ≡ Some (frame, index)
    → (place ≡ place_of frame index) × (lowest ≤ frame) × (frame < offered) × (index < slices)

-- four pictures of the configured size
pub record ArePictures (config : Fields) (pictures : List Planes) : Type 0 where
  pub four : length pictures ≡ 4
  pub sized : (k : ℕ) → k < 4 → (get_or pictures k (zeros (size_of config))).size ≡ size_of config

-- the pictures in flight are those of the feed
abbrev pub AreTold : Option (List ℕ) → Fields → ℕ → ℕ → List Planes → Type 0
AreTold told config lowest offered pictures = (frame : ℕ) (picture : Planes) → lowest ≤ frame → frame < offered → IsTold told config frame picture
    → get_or pictures (frame % 4) (zeros (size_of config)) ≡ picture

-- the frames in flight, and the slice that is handed out next
pub record IsSpan (slices lowest offered next_frame next_index : ℕ) : Type 0 where
  pub some : 0 < slices
  pub order : lowest ≤ offered
  pub most : offered ≤ lowest + 4
  pub small : offered < 2 ^ 64
  pub from : lowest ≤ next_frame
  pub to : next_frame ≤ offered
  pub within : next_index < slices
  pub begins : next_frame ≡ offered → next_index ≡ 0

pub record IsDesk (told : Option (List ℕ)) (named config : Fields) (slices lowest offered next_frame next_index : ℕ) (pictures : List Planes)
    (kept : List (Option (ℕ × ℕ))) (sizes : ℕ) : Type 0 where
  pub configured : config ≡ named
  pub counted : slices ≡ slices_of named
  pub span : IsSpan slices lowest offered next_frame next_index
  pub pictured : ArePictures named pictures
  pub told_are : AreTold told named lowest offered pictures
  pub places : length kept ≡ 4 * slices
  pub placed : ArePlaced slices lowest offered kept
  pub sized : sizes ≡ slices_in_picture named

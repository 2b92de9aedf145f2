-- A desk as callers see it, and what its calls change (own).
use Rattle.std.specs.Prelude.{◌≡◌, ◌≤◌, ◌<◌, ℕ, ◌+◌, ◌*◌, ◌%◌, Bool, true, false, nat_lt, if◌then◌else◌, List, [], ◌∷◌, replicate, get_or, slice_set, Option, Some, None}
use Rattle.slot_pool.specs.Pools.{free_count, live_count, Takes}

-- the lowest frame in flight, and the number of the next that is offered; the frame and index of the slice that is handed
-- out next; for each place the slice that is in; and for each slot whether it is free
pub record DeskSeen : Type 0 where
  pub lowest : ℕ
  pub offered : ℕ
  pub next : ℕ × ℕ
  pub kept : List (Option (ℕ × ℕ))
  pub free : List Bool

-- the place of a slice: of four frames in a row no two share one
abbrev pub place_of : ℕ → ℕ → ℕ
place_of frame index = 4 * index + frame % 4

-- the place isn't empty
abbrev pub is_there : {X : Type 0} → Option X → Bool
is_there (Some x) = true
is_there None = false

-- the slice is in
abbrev pub is_in : List (Option (ℕ × ℕ)) → ℕ → ℕ → Bool
is_in kept frame index = is_there (get_or kept (place_of frame index) None)

-- how many places aren't empty
unfoldable pub in_count : {X : Type 0} → List (Option X) → ℕ
in_count [] = 0
in_count (Some x ∷ kept) = in_count kept + 1
in_count (None ∷ kept) = in_count kept

-- so many slices of the frame are in, from the first on
abbrev pub AreIn : List (Option (ℕ × ℕ)) → ℕ → ℕ → Type 0
AreIn kept frame slices = (index : ℕ) → index < slices → is_in kept frame index ≡ true

-- the frame is in flight, and has such a slice
pub record IsInDesk (slices : ℕ) (desk : DeskSeen) (frame index : ℕ) : Type 0 where
  pub from : desk.lowest ≤ frame
  pub to : frame < desk.offered
  pub within : index < slices

-- the slice is one of the desk's, and isn't in
pub record MayComeIn (slices : ℕ) (desk : DeskSeen) (frame index : ℕ) : Type 0 where
  pub in_desk : IsInDesk slices desk frame index
  pub lacks : is_in desk.kept frame index ≡ false

-- the slice behind this one
abbrev pub behind : ℕ → ℕ × ℕ → ℕ × ℕ
behind slices at = if nat_lt (at.1 + 1) slices then (at.0, at.1 + 1) else (at.0 + 1, 0)

-- a desk of frames of so many slices, before the first is offered
abbrev pub new_desk : ℕ → DeskSeen
new_desk slices = record { lowest = 0; offered = 0; next = (0, 0); kept = replicate (4 * slices) None; free = replicate (4 * slices) true }

-- a frame more is in flight
abbrev pub with_offer : DeskSeen → DeskSeen
with_offer desk = record desk { offered = desk.offered + 1 }

-- a slice more is in
abbrev pub with_slice : DeskSeen → ℕ → ℕ → DeskSeen
with_slice desk frame index = record desk { kept = slice_set desk.kept (place_of frame index) (Some (frame, index)) }

-- other slots are free
abbrev pub with_free : DeskSeen → List Bool → DeskSeen
with_free desk free = record desk { free = free }

-- the next slice is handed out, in a slot that was free
pub record HandsOut (slices : ℕ) (old new : DeskSeen) (frame index place : ℕ) : Type 0 where
  pub is_next : (frame, index) ≡ old.next
  pub in_desk : IsInDesk slices old frame index
  pub slot : Takes old.free place new.free
  pub after : new ≡ record old { next = behind slices old.next; free = new.free }

-- the slices of a frame leave: none of them is in, and all others are as they were
pub record Leaves (old new : List (Option (ℕ × ℕ))) (frame slices : ℕ) : Type 0 where
  pub gone : (index : ℕ) → index < slices → is_in new frame index ≡ false
  pub others : (place : ℕ) → (place % 4 ≡ frame % 4 → ⊥) → get_or new place None ≡ get_or old place None

-- so many slots more are free
pub record Frees (old new : List Bool) (count : ℕ) : Type 0 where
  pub more_free : free_count new ≡ free_count old + count
  pub fewer_live : live_count new + count ≡ live_count old

-- the first slice, from this one on, that isn't of a frame below
abbrev pub not_below : ℕ → ℕ × ℕ → ℕ × ℕ
not_below frame at = if nat_lt at.0 frame then (frame, 0) else at

-- the lowest frame leaves, and its slots are free
pub record TakesFrame (slices : ℕ) (old new : DeskSeen) : Type 0 where
  pub lowest : new.lowest ≡ old.lowest + 1
  pub offered : new.offered ≡ old.offered
  pub next : new.next ≡ not_below new.lowest old.next
  pub slices_leave : Leaves old.kept new.kept old.lowest slices
  pub slots : Frees old.free new.free slices

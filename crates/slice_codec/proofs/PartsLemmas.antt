-- Parts that stand one behind the other.
use Rattle.std.proofs.Common.{◌≡◌, ◌≤◌, ◌-◌, ℕ, List, ◌++◌, length, take, drop, arith, ap, ◌∙◌, append-nil, Some, None}
use Rattle.std.proofs.lemmas.List.{length-take-le, length-drop, drop_all, drop_at}
use Rattle.std.proofs.lemmas.Slice.{take-put_mid_below}
use borrow.Rule.Slice.PartMut.{put_mid}
use Rattle.picture_plane.specs.declared.planes.Plane.TheVariants.{Y, Cb, Cr}
use Rattle.picture_plane.specs.Blocks.{blocks_in}
use Rattle.slice_codec.specs.Setups.{Setup}
use Rattle.slice_codec.specs.inner.Weighed.{IsWritten}
use Rattle.slice_codec.specs.inner.Written.{AreChroma, AreParts, ChromaPasses, PartsPass}
use Rattle.slice_codec.proofs.WeighedLemmas.{part_passes, part_length}

-- what stands behind a place, where all of it was written anew
pub drop_mid : (a : ℕ) (xs ys : List ℕ) → a ≤ length xs → drop a (put_mid a (length xs - a) xs ys) ≡ ys
drop_mid a xs ys within =
    let k = length xs - a in
    drop_at (take a xs) (ys ++ drop k (drop a xs)) a (length-take-le a xs within)
    ∙ ap (λ (zs : List ℕ). ys ++ zs) (drop_all k (drop a xs) (omega (arith, length-drop a xs)))
    ∙ append-nil ys

pub take_mid : (a : ℕ) (xs ys : List ℕ) → a ≤ length xs → take a (put_mid a (length xs - a) xs ys) ≡ take a xs
take_mid a xs ys within = take-put_mid_below a (length xs - a) xs ys a (omega arith) within

-- two parts
pub are_chroma : (setup : Setup) (index : ℕ) (cb_blocks cr_blocks : List (List ℕ)) (a b : ℕ) (xs ys : List ℕ) (room rest : ℕ)
    → a ≤ length xs → IsWritten setup index Cb cb_blocks room (Some a) xs → IsWritten setup index Cr cr_blocks rest (Some b) ys
    → AreChroma setup index cb_blocks cr_blocks a b (put_mid a (length xs - a) xs ys)
are_chroma setup index cb_blocks cr_blocks a b xs ys room rest within cb cr = record {
  cb = cb.bits;
  cr = cr.bits;
  cb_part = cb.part;
  cr_part = cr.part;
  cb_padded = rw (take_mid a xs ys within) cb.written;
  cr_padded = rw (drop_mid a xs ys within) cr.written;
}

-- the second has no room behind the first
pub second_passes : (setup : Setup) (index : ℕ) (cb_blocks cr_blocks : List (List ℕ)) (room front rest a : ℕ) (xs ys : List ℕ)
    → length xs ≡ room → rest ≡ room - a → a ≤ length xs
    → IsWritten setup index Cb cb_blocks front (Some a) xs → IsWritten setup index Cr cr_blocks rest None ys
    → ChromaPasses setup index cb_blocks cr_blocks room
second_passes setup index cb_blocks cr_blocks room front rest a xs ys long left within first none cb cr cb_part cr_part =
    let used = part_length setup index Cb cb_blocks front a xs cb first within cb_part in
    omega (arith, used, part_passes setup index Cr cr_blocks rest ys cr none cr_part)

-- three parts
pub are_parts : (setup : Setup) (index count : ℕ) (samples : List (List ℕ)) (a b c : ℕ) (xs ys : List ℕ) (room : ℕ)
    → a ≤ length xs → IsWritten setup index Y (blocks_in samples Y count) room (Some a) xs
    → AreChroma setup index (blocks_in samples Cb count) (blocks_in samples Cr count) b c ys
    → AreParts setup index count samples a b c (put_mid a (length xs - a) xs ys)
are_parts setup index count samples a b c xs ys room within y chroma = record {
  y = y.bits;
  y_part = y.part;
  y_padded = rw (take_mid a xs ys within) y.written;
  chroma = rw (drop_mid a xs ys within) chroma;
}

-- the last two have no room behind the first
pub chroma_passes : (setup : Setup) (index count : ℕ) (samples : List (List ℕ)) (room front rest a : ℕ) (xs : List ℕ)
    → length xs ≡ room → rest ≡ room - a → a ≤ length xs
    → IsWritten setup index Y (blocks_in samples Y count) front (Some a) xs
    → ChromaPasses setup index (blocks_in samples Cb count) (blocks_in samples Cr count) rest
    → PartsPass setup index count samples room
chroma_passes setup index count samples room front rest a xs long left within first none y cb cr y_part cb_part cr_part =
    let used = part_length setup index Y (blocks_in samples Y count) front a xs y first within y_part in
    omega (arith, used, none cb cr cb_part cr_part)

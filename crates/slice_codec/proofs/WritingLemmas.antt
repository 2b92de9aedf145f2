-- A header in front of parts.
use Rattle.std.proofs.Common.{◌≡◌, ◌≤◌, ◌+◌, ◌-◌, ◌/◌, ◌%◌, ℕ, suc, List, ◌∷◌, ◌++◌, length, take, drop, arith, sym, ap, ◌∙◌, refl, take-add}
use Rattle.std.proofs.lemmas.List.{length-take-le, length-drop, drop-drop}
use borrow.Rule.Slice.PartMut.{put_mid}
use Rattle.slice_codec.specs.Setups.{Setup}
use Rattle.slice_codec.specs.Coded.{IsSliceAt}
use Rattle.slice_codec.specs.inner.Written.{AreParts, PartsPass, SlicePasses}
use Rattle.slice_codec.specs.laws.CodedLaws.{slice_len}
use Rattle.slice_codec.proofs.PartsLemmas.{drop_mid}

-- what has no room behind the header has none
pub slice_passes : (setup : Setup) (index count : ℕ) (samples : List (List ℕ)) (room rest : ℕ)
    → rest ≡ room - 6 → PartsPass setup index count samples rest → SlicePasses setup count samples index room
slice_passes setup index count samples room rest left pass bytes slice =
    omega (arith, left, pass slice.y slice.cb slice.cr slice.y_spelled slice.cb_spelled slice.cr_spelled, slice_len index slice.y slice.cb slice.cr bytes slice.joined)

-- the first bytes of three parts
take_three : (a b c : ℕ) (xs : List ℕ) → take (a + b + c) xs ≡ take a xs ++ take b (drop a xs) ++ take c (drop b (drop a xs))
take_three a b c xs =
    take-add (a + b) c xs
    ∙ ap (λ (zs : List ℕ). zs ++ take c (drop (a + b) xs)) (take-add a b xs)
    ∙ ap (λ (zs : List ℕ). take a xs ++ take b (drop a xs) ++ take c zs) (sym (drop-drop b a xs))

-- six bytes and those behind them
take_head : (n m a b c d e f : ℕ) (xs : List ℕ) → n ≡ 6 + m → take n (a ∷ b ∷ c ∷ d ∷ e ∷ f ∷ xs) ≡ a ∷ b ∷ c ∷ d ∷ e ∷ f ∷ take m xs
take_head n m a b c d e f xs is =
    let six : n ≡ suc (suc (suc (suc (suc (suc m))))) = omega (arith, is) in
    ap (λ (k : ℕ). take k (a ∷ b ∷ c ∷ d ∷ e ∷ f ∷ xs)) six

-- a header's bytes and parts are a slice's
joined_bytes : (n index y cb cr : ℕ) (bytes parts : List ℕ) → n ≡ 6 + (y + cb + cr)
    → bytes ≡ 48 ∷ index ∷ y / 256 ∷ y % 256 ∷ cb / 256 ∷ cb % 256 ∷ parts
    → take n bytes ≡ 48 ∷ index ∷ y / 256 ∷ y % 256 ∷ cb / 256 ∷ cb % 256 ∷ take y parts ++ take cb (drop y parts) ++ take cr (drop cb (drop y parts))
joined_bytes n index y cb cr bytes parts long is =
    ap (take n) is
    ∙ take_head n (y + cb + cr) 48 index (y / 256) (y % 256) (cb / 256) (cb % 256) parts long
    ∙ ap (λ (zs : List ℕ). 48 ∷ index ∷ y / 256 ∷ y % 256 ∷ cb / 256 ∷ cb % 256 ∷ zs) (take_three y cb cr parts)

pub slice_is : (setup : Setup) (count : ℕ) (samples : List (List ℕ)) (n index y cb cr : ℕ) (bytes parts : List ℕ)
    → n ≡ 6 + (y + cb + cr) → y + cb + cr ≤ length parts
    → bytes ≡ 48 ∷ index ∷ y / 256 ∷ y % 256 ∷ cb / 256 ∷ cb % 256 ∷ parts
    → AreParts setup index count samples y cb cr parts
    → IsSliceAt setup count samples index (take n bytes)
slice_is setup count samples n index y cb cr bytes parts long within is are =
    let y_long : length (take y parts) ≡ y = length-take-le y parts (omega (arith, within)) in
    let cb_long : length (take cb (drop y parts)) ≡ cb = length-take-le cb (drop y parts) (omega (arith, within, length-drop y parts)) in
    record {
      y = are.y;
      cb = are.chroma.cb;
      cr = are.chroma.cr;
      y_spelled = are.y_part;
      cb_spelled = are.chroma.cb_part;
      cr_spelled = are.chroma.cr_part;
      joined = record {
        y_bytes = take y parts;
        cb_bytes = take cb (drop y parts);
        cr_bytes = take cr (drop cb (drop y parts));
        y_padded = are.y_padded;
        cb_padded = are.chroma.cb_padded;
        cr_padded = are.chroma.cr_padded;
        joined = rw (y_long, cb_long) (joined_bytes n index y cb cr bytes parts long is);
      };
    }

-- the same behind the header of a slice that was lent
pub lent_slice_is : (setup : Setup) (count : ℕ) (samples : List (List ℕ)) (n index y cb cr : ℕ) (bytes out parts : List ℕ)
    → n ≡ 6 + (y + cb + cr) → y + cb + cr ≤ length parts → 6 ≤ length out
    → bytes ≡ 48 ∷ index ∷ y / 256 ∷ y % 256 ∷ cb / 256 ∷ cb % 256 ∷ drop 6 (put_mid 6 (length out - 6) out parts)
    → AreParts setup index count samples y cb cr parts
    → IsSliceAt setup count samples index (take n bytes)
lent_slice_is setup count samples n index y cb cr bytes out parts long within six is are =
    slice_is setup count samples n index y cb cr bytes parts long within (is ∙ rw (drop_mid 6 out parts six) refl) are

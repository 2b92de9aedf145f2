-- Samples have one slice: proved here, for proofs to cite.
use Rattle.std.proofs.Common.{◌≡◌, ◌<◌, ◌-◌, ◌*◌, ◌/◌, ◌%◌, ℕ, List, [], ◌∷◌, ◌++◌, length, get_or, sym, ap, subst, refl, ◌∙◌}
use Rattle.bit_io.specs.Bits.{bits_of, zeros}
use Rattle.bit_io.specs.laws.BitLaws.{bits_of-append, bits_of_one}
use Rattle.rec_bytes.specs.Configuration.{Fields}
use Rattle.slice_parts.specs.Component.{IsPadded}
use Rattle.picture_plane.specs.declared.planes.Plane.TheVariants.{Y, Cb, Cr}
use Rattle.picture_plane.specs.Blocks.{blocks_in}
use Rattle.slice_codec.specs.Setups.{Setup}
use Rattle.slice_codec.specs.Slices.{IsSliceOf}
use Rattle.slice_codec.specs.Coded.{IsSliceAt, IsCodedSlice, IsChosenIndex, Fits}
use Rattle.slice_codec.specs.laws.CodedLaws.{spelled_part_is_one}
use Rattle.slice_codec.specs.laws.SetupLaws.{setups_are_one, chosen_is_one}

-- all are bytes
abbrev pub AreBytes : List ℕ → Type 0
AreBytes bytes = (i : ℕ) → get_or bytes i 0 < 256

same_long : (bits a b : List ℕ) → IsPadded bits a → IsPadded bits b → length a ≡ length b
same_long bits a b one two = one.long ∙ sym two.long

same_bits : (bits a b : List ℕ) → IsPadded bits a → IsPadded bits b → bits_of a ≡ bits_of b
same_bits bits a b one two =
    one.bits ∙ ap (λ (n : ℕ). bits ++ zeros (8 * n - length bits)) (same_long bits a b one two) ∙ sym two.bits

-- bits of bytes that have the same bits in front and behind
bits_join : (a b xs ys : List ℕ) → bits_of a ≡ bits_of b → bits_of xs ≡ bits_of ys → bits_of (a ++ xs) ≡ bits_of (b ++ ys)
bits_join a b xs ys front behind =
    bits_of-append a xs
    ∙ ap (λ (zs : List ℕ). zs ++ bits_of xs) front
    ∙ ap (λ (zs : List ℕ). bits_of b ++ zs) behind
    ∙ sym (bits_of-append b ys)

-- the six bytes of a header
abbrev head_of : ℕ → ℕ → ℕ → List ℕ
head_of index y cb = 48 ∷ index ∷ y / 256 ∷ y % 256 ∷ cb / 256 ∷ cb % 256 ∷ []

slice_bits : (index : ℕ) (y cb cr a b : List ℕ) → IsSliceOf index y cb cr a → IsSliceOf index y cb cr b → bits_of a ≡ bits_of b
slice_bits index y cb cr a b one two =
    let luma = same_bits y one.y_bytes two.y_bytes one.y_padded two.y_padded in
    let blue = same_bits cb one.cb_bytes two.cb_bytes one.cb_padded two.cb_padded in
    let red = same_bits cr one.cr_bytes two.cr_bytes one.cr_padded two.cr_padded in
    let head : head_of index (length one.y_bytes) (length one.cb_bytes) ≡ head_of index (length two.y_bytes) (length two.cb_bytes) =
    rw (same_long y one.y_bytes two.y_bytes one.y_padded two.y_padded, same_long cb one.cb_bytes two.cb_bytes one.cb_padded two.cb_padded) refl in
    ap bits_of one.joined
    ∙ bits_join (head_of index (length one.y_bytes) (length one.cb_bytes)) (head_of index (length two.y_bytes) (length two.cb_bytes))
    (one.y_bytes ++ one.cb_bytes ++ one.cr_bytes) (two.y_bytes ++ two.cb_bytes ++ two.cr_bytes)
    (ap bits_of head)
    (bits_join (one.y_bytes ++ one.cb_bytes) (two.y_bytes ++ two.cb_bytes) one.cr_bytes two.cr_bytes
    (bits_join one.y_bytes two.y_bytes one.cb_bytes two.cb_bytes luma blue) red)
    ∙ sym (ap bits_of two.joined)

-- samples have one slice at an index
pub slice_at_is_one : (setup : Setup) (count : ℕ) (samples : List (List ℕ)) (index : ℕ) (a b : List ℕ) → AreBytes a → AreBytes b
    → IsSliceAt setup count samples index a → IsSliceAt setup count samples index b → a ≡ b
slice_at_is_one setup count samples index a b a_bytes b_bytes one two =
    let y = spelled_part_is_one setup index Y (blocks_in samples Y count) one.y two.y one.y_spelled two.y_spelled in
    let cb = spelled_part_is_one setup index Cb (blocks_in samples Cb count) one.cb two.cb one.cb_spelled two.cb_spelled in
    let cr = spelled_part_is_one setup index Cr (blocks_in samples Cr count) one.cr two.cr one.cr_spelled two.cr_spelled in
    let slice : IsSliceOf index two.y two.cb two.cr a = rw (← y, ← cb, ← cr) one.joined in
    bits_of_one a b a_bytes b_bytes (slice_bits index two.y two.cb two.cr a b slice two.joined)

-- samples have one slice by a configuration
pub coded_slices_are_one : (fields : Fields) (count : ℕ) (samples : List (List ℕ)) (a b : List ℕ) → AreBytes a → AreBytes b
    → IsCodedSlice fields count samples a → IsCodedSlice fields count samples b → a ≡ b
coded_slices_are_one fields count samples a b a_bytes b_bytes one two =
    let setup = setups_are_one fields one.setup two.setup one.of_configuration two.of_configuration in
    let chosen : IsChosenIndex fields two.setup count samples one.index = subst (λ (s : Setup). IsChosenIndex fields s count samples one.index) setup one.chosen in
    let index = chosen_is_one (Fits two.setup count samples (fields.budget * count)) fields.qmin fields.qmax one.index two.index chosen two.chosen in
    let there : IsSliceAt two.setup count samples one.index a = subst (λ (s : Setup). IsSliceAt s count samples one.index a) setup one.coded in
    let slice : IsSliceAt two.setup count samples two.index a = subst (λ (n : ℕ). IsSliceAt two.setup count samples n a) index there in
    slice_at_is_one two.setup count samples two.index a b a_bytes b_bytes slice two.coded

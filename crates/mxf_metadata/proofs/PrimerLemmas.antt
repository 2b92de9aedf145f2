-- The parts of the primer pack.
use Rattle.std.proofs.Common.{◌≡◌, ℕ, ◌+◌, ◌≤◌, List, ◌++◌, length, refl, ap, ◌∙◌, arith, append_assoc, length-append}
use Rattle.std.specs.List.{flat_map}
use Rattle.byteorder.specs.Endian.{big_bytes}
use Rattle.klv.specs.Items.{klv_head}
use Rattle.rec_bytes.specs.Places.{with_bytes}
use Rattle.rec_bytes.specs.laws.Places.{with_bytes-more}
use Rattle.mxf_metadata.specs.inner.Entries.{tag_bytes}
use Rattle.mxf_metadata.specs.Primer.{primer, primer_value}
use Rattle.mxf_metadata.specs.declared.tags.TheConstants.{TAGS}
use Rattle.mxf_names.specs.declared.keys.TheConstants.{PRIMER_KEY}

-- four writes one behind the other, from the front on
pub four : (old first second third fourth a b c d : List ℕ) → length a ≡ 20 → length b ≡ 4 → length c ≡ 4 → 28 + length d ≤ length old → first ≡ with_bytes old 0 a → second ≡ with_bytes first 20 b → third ≡ with_bytes second 24 c → fourth ≡ with_bytes third 28 d → fourth ≡ with_bytes old 0 (a ++ ((b ++ c) ++ d))
four old first second third fourth a b c d la lb lc room p q r s =
    let to_24 = with_bytes-more old 0 20 a b first second p (omega arith) (omega arith) q in
    let to_28 = with_bytes-more old 0 24 (a ++ b) c second third to_24 (omega (arith, length-append a b)) (omega arith) r in
    let size : length ((a ++ b) ++ c) ≡ 28 = omega (arith, length-append (a ++ b) c, length-append a b) in
    let whole = with_bytes-more old 0 28 ((a ++ b) ++ c) d third fourth to_28 (omega arith) (omega arith) s in
    let same : ((a ++ b) ++ c) ++ d ≡ a ++ ((b ++ c) ++ d) = simp append_assoc in
    whole ∙ ap (λ (bytes : List ℕ). with_bytes old 0 bytes) same

-- the parts are the primer
pub parts : klv_head PRIMER_KEY 3 908 ++ ((big_bytes 4 50 ++ big_bytes 4 18) ++ flat_map tag_bytes TAGS) ≡ primer
unfolding primer primer_value
parts = refl

-- the entries have 900 bytes
pub length_entries : length (flat_map tag_bytes TAGS) ≡ 900
length_entries = refl

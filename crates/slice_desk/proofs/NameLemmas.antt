-- A slice of a frame has one name, and so what is cut and coded by it is that of the frame.
use Rattle.std.proofs.Common.{◌≡◌, ℕ, ◌/◌, ◌%◌, ◌^◌, ◌≤◌, ◌<◌, List, [], ◌++◌, Option, length, take, drop, get_or, sym, ap, subst, ◌∙◌, arith}
use Rattle.std.specs.List.{refill}
use Rattle.std.proofs.Math.Pow.{pow_mono}
use Rattle.std.proofs.lemmas.List.{append-nil, drop_all, take_all}
use Rattle.std.proofs.lemmas.Nat.{mod_below}
use Rattle.rec_bytes.specs.Configuration.{Fields}
use Rattle.picture_plane.specs.Pictures.{Planes, zeros}
use Rattle.picture_plane.specs.Sizes.{size_of}
use Rattle.picture_plane.specs.Slices.{Size, IsSlice, IsFrameSlice, macroblocks, row_count, row_widths, slices_per_picture}
use Rattle.picture_plane.specs.Blocks.{AreSamples, AreCut}
use Rattle.picture_plane.specs.laws.WidthLaws.{widths_are_powers}
use Rattle.picture_plane.specs.declared.slice_names.SliceName.{SliceName}
use Rattle.slice_codec.specs.Coded.{IsCodedSlice}
use Rattle.slice_desk.specs.Slices.{HasSamples, IsCodedFor}
use Rattle.slice_desk.specs.inner.Keeping.{AreTold}
use Rattle.slice_desk.proofs.RoomLemmas.{some_in_row}

-- a slice of a number has one name
one_slice : (size : Size) (log2 picture n : ℕ) (a b : SliceName) → IsSlice size log2 picture n a → IsSlice size log2 picture n b → a ≡ b
one_slice size log2 picture n a b p q = same (p.field ∙ sym q.field) (p.row ∙ sym q.row) (p.first ∙ sym q.first) (p.count ∙ sym q.count)
  where
    same : a.field ≡ b.field → a.row ≡ b.row → a.first ≡ b.first → a.count ≡ b.count → a ≡ b
    same field row first count = λ i. record { field = field i; row = row i; first = first i; count = count i }

pub one_name : (size : Size) (log2 index : ℕ) (a b : SliceName) → IsFrameSlice size log2 index a → IsFrameSlice size log2 index b → a ≡ b
one_name size log2 index a b p q = one_slice size log2 (index / slices_per_picture size log2) (index % slices_per_picture size log2) a b p q

-- what is coded of a slice's samples is coded for its frame
pub coded_for : (told : Option (List ℕ)) (config fields : Fields) (frame index : ℕ) (name : SliceName) (samples : List (List ℕ)) (bytes : List ℕ) → fields ≡ config
    → AreSamples samples → HasSamples told config frame index samples → IsFrameSlice (size_of fields) fields.log2 index name
    → IsCodedSlice fields name.count samples bytes → IsCodedFor told config frame index bytes
coded_for told config fields frame index name samples bytes same whole own named coded picture other is_told also =
    let Named : Fields → Type 0 = λ f. IsFrameSlice (size_of f) f.log2 index name in
    let here : Named config = subst Named same named in
    let one : name ≡ other = one_name (size_of config) config.log2 index name other here also in
    let by_config : IsCodedSlice config name.count samples bytes = subst (λ (f : Fields). IsCodedSlice f name.count samples bytes) same coded in
    record {
      samples = samples;
      whole = whole;
      cut = own picture other is_told also;
      coded = subst (λ (n : SliceName). IsCodedSlice config n.count samples bytes) one by_config;
    }

-- what is cut of the picture in flight are the samples of its slice
pub samples_for : (told : Option (List ℕ)) (config : Fields) (lowest offered frame index : ℕ) (pictures : List Planes) (found : Planes) (name : SliceName)
    (samples : List (List ℕ)) → AreTold told config lowest offered pictures → lowest ≤ frame → frame < offered
    → found ≡ get_or pictures (frame % 4) (zeros (size_of config)) → IsFrameSlice (size_of config) config.log2 index name → AreCut found name samples
    → HasSamples told config frame index samples
samples_for told config lowest offered frame index pictures found name samples are low high at named cut picture other is_told also =
    let is : found ≡ picture = at ∙ are frame picture low high is_told in
    let one : name ≡ other = one_name (size_of config) config.log2 index name other named also in
    let of_picture : AreCut picture name samples = subst (λ (p : Planes). AreCut p name samples) is cut in
    subst (λ (n : SliceName). AreCut picture n samples) one of_picture

-- a slice has at most as many macroblocks as are wanted
pub count_most : (size : Size) (log2 index : ℕ) (name : SliceName) → IsFrameSlice size log2 index name → name.count ≤ 2 ^ log2
count_most size log2 index name named =
    let ws : List ℕ = row_widths size log2 in
    let n : ℕ = index % slices_per_picture size log2 in
    let some : 0 < length ws = some_in_row (row_count size) (length ws) n named.within in
    let width = widths_are_powers log2 (macroblocks size.width) (n % length ws) (mod_below n (length ws) some) in
    omega (arith, named.count, width.value, pow_mono width.most)

-- all bytes that were lent were written anew
pub all_new : (old new : List ℕ) → length new ≡ length old → refill (length old) old new ≡ new
all_new old new same =
    let past : drop (length new) old ≡ [] = drop_all (length new) old (omega (arith, same)) in
    ap (λ (xs : List ℕ). take (length old) (new ++ xs)) past ∙ (ap (take (length old)) (append-nil new) ∙ take_all (length old) new (omega (arith, same)))

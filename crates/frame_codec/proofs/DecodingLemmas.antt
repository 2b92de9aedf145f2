-- Slices that are decoded and put into a picture one by one.
use Rattle.std.proofs.Common.{◌≡◌, ◌≢◌, ◌<◌, ◌≤◌, ◌+◌, ℕ, List, [], length, drop, get_or, inl, inr, sym, ap, subst, ap₂, ◌∙◌, arith}
use Rattle.std.proofs.lemmas.Bool.{cases_lt}
use Rattle.std.proofs.lemmas.List.{drop-drop, get_or-drop, length-drop}
use Rattle.picture_plane.specs.Pictures.{Planes, IsPicture}
use Rattle.picture_plane.specs.Blocks.{IsPlaced}
use Rattle.picture_plane.specs.Slices.{Size, FitsSize}
use Rattle.picture_plane.specs.declared.slice_names.SliceName.{SliceName}
use Rattle.picture_plane.specs.laws.ApartLaws.{frame_slices_apart, shows_stay}
use Rattle.picture_plane.specs.laws.CoverLaws.{one_name}
use Rattle.slice_codec.specs.Slices.{MeansSlice}
use Rattle.slice_codec.specs.Faults.{Refuses as RefusesSlice}
use Rattle.slice_codec.specs.declared.fault.SliceFault.{SliceFault}
use Rattle.frame_syntax.specs.Headers.{size_of}
use Rattle.frame_syntax.specs.Pictures.{Span}
use Rattle.frame_syntax.specs.Written.{slice_bytes}
use Rattle.frame_syntax.specs.Frames.{IsFrame, slices_of}
use Rattle.frame_syntax.specs.declared.frame.FrameParts.{FrameParts}
use Rattle.frame_codec.specs.Frames.{IsNamed, IsShown, MeansFrame, log2_of, number_of, setup_of, slice_at, IsWhole}
use Rattle.frame_codec.specs.Faults.{IsFirstRefused}
use Rattle.frame_codec.specs.inner.Decoding.{AreShown}
use Rattle.frame_codec.proofs.CodedPictureLemmas.{one_number, next_number, named_fits}

-- some slices are left behind fewer than all
pub some_left : (number count : ℕ) (left spans : List Span) → left ≡ drop number spans → count ≤ length spans → number < count → left ≢ []
some_left number count left spans e all h none =
    let nothing : length (drop number spans) ≡ 0 = ap (length {A = Span}) (sym e ∙ none) in
    omega (arith, length-drop number spans, nothing)

-- the slices that are left behind the next one
pub left_next : (parts : FrameParts) (picture n : ℕ) (left spans : List Span) → left ≡ drop (number_of parts picture n) spans
    → drop 1 left ≡ drop (number_of parts picture (n + 1)) spans
left_next parts picture n left spans e =
    ap (drop 1) e ∙ drop-drop 1 (number_of parts picture n) spans ∙ ap (λ (k : ℕ). drop k spans) (sym (next_number parts picture n))

-- the bytes of the next slice
pub next_bytes : (bytes : List ℕ) (parts : FrameParts) (number : ℕ) (left : List Span) → left ≡ drop number (slices_of bytes parts)
    → slice_bytes bytes (get_or left 0 (0, 0)) ≡ slice_at bytes parts number
next_bytes bytes parts number left e =
    let spans = slices_of bytes parts in
    let here : number + 0 ≡ number = omega arith in
    ap (slice_bytes bytes) (ap (λ (xs : List Span). get_or xs 0 (0, 0)) e ∙ (get_or-drop number spans 0 (0, 0) ∙ ap (λ (k : ℕ). get_or spans k (0, 0)) here))

-- a slice, decoded and put into a picture
pub record IsDecoded (bytes : List ℕ) (parts : FrameParts) (old new : Planes) (picture n : ℕ) (name : SliceName) (samples : List (List ℕ)) : Type 0 where
  pub named : IsNamed parts picture n name
  pub means : MeansSlice (setup_of parts.head) name.count (slice_at bytes parts (number_of parts picture n)) samples
  pub placed : IsPlaced old new name samples

-- what a picture shows of a slice stays where another one is put
still_shown : (bytes : List ℕ) (parts : FrameParts) (old new : Planes) (p q m n : ℕ) (a b : SliceName) (samples : List (List ℕ)) → IsFrame bytes parts
    → old.size ≡ size_of parts.head → IsDecoded bytes parts old new p m a samples → IsNamed parts q n b → number_of parts q n < number_of parts p m
    → IsShown bytes parts old q n b → IsShown bytes parts new q n b
still_shown bytes parts old new p q m n a b samples frame size decoded is_b less before =
    let fits_a : FitsSize old.size a = subst (λ (s : Size). FitsSize s a) (sym size) (named_fits bytes parts p m a frame decoded.named) in
    let fits_b : FitsSize old.size b = subst (λ (s : Size). FitsSize s b) (sym size) (named_fits bytes parts q n b frame is_b) in
    let differ : (p ≡ q) × (m ≡ n) → ⊥ = λ same.
    let numbers : number_of parts p m ≡ number_of parts q n = ap₂ (number_of parts) same.0 same.1 in absurd (omega (arith, numbers, less)) in
    let apart = frame_slices_apart (size_of parts.head) (log2_of parts) p q m n a b decoded.named.there is_b.there decoded.named.named is_b.named differ in
    record {
      meaning = before.meaning;
      shown = shows_stay old new a b samples before.meaning.samples fits_a fits_b apart decoded.placed before.shown;
    }

-- the slice that is put is shown
now_shown : (bytes : List ℕ) (parts : FrameParts) (old new : Planes) (p q m n : ℕ) (a b : SliceName) (samples : List (List ℕ)) → IsFrame bytes parts
    → IsDecoded bytes parts old new p m a samples → IsNamed parts q n b → number_of parts p m ≡ number_of parts q n → IsShown bytes parts new q n b
now_shown bytes parts old new p q m n a b samples frame decoded is_b e =
    let same = one_number bytes parts frame p q m n a b decoded.named is_b e in
    let here : IsShown bytes parts new p m a = record { meaning = record { samples = samples; means = decoded.means }; shown = decoded.placed.shown } in
    let there : IsShown bytes parts new q n a = subst (λ (k : ℕ). IsShown bytes parts new q k a) same.slices (subst (λ (k : ℕ). IsShown bytes parts new k m a) same.pictures here) in
    let named : IsNamed parts q n a = subst (λ (k : ℕ). IsNamed parts q k a) same.slices (subst (λ (k : ℕ). IsNamed parts k m a) same.pictures decoded.named) in
    let names : a ≡ b = one_name (size_of parts.head) (log2_of parts q) q n a b named.named is_b.named in
    subst (IsShown bytes parts new q n) names there

-- with a slice put, one more is shown
pub shown_next : (bytes : List ℕ) (parts : FrameParts) (old new : Planes) (picture n : ℕ) (name : SliceName) (samples : List (List ℕ)) → IsFrame bytes parts
    → IsDecoded bytes parts old new picture n name samples → AreShown bytes parts old (number_of parts picture n)
    → AreShown bytes parts new (number_of parts picture (n + 1))
shown_next bytes parts old new picture n name samples frame decoded before = record {
  size = decoded.placed.size ∙ before.size;
  shown = λ q k other named less. elim (cases_lt (number_of parts q k) (number_of parts picture n)) [
    | inl lt ↦ still_shown bytes parts old new picture q n k name other samples frame before.size decoded named lt (before.shown q k other named lt)
    | inr ge ↦ now_shown bytes parts old new picture q n k name other samples frame decoded named (omega (arith, less, ge, next_number parts picture n))
  ];
}

-- what all slices mean is what the frame means
pub all_shown : (bytes : List ℕ) (parts : FrameParts) (planes : Planes) (index : ℕ) → IsWhole bytes parts → IsPicture planes → AreShown bytes parts planes index
    → ((picture n : ℕ) (name : SliceName) → IsNamed parts picture n name → number_of parts picture n < index) → MeansFrame bytes planes
all_shown bytes parts planes index whole is_picture are all = record {
  parts = parts;
  frame = whole.frame;
  matrices = whole.matrices;
  size = are.size;
  whole = is_picture;
  slices = λ picture n name named. are.shown picture n name named (all picture n name named);
}

-- a slice that is refused behind others that are shown is the first
pub first_refused : (bytes : List ℕ) (parts : FrameParts) (planes : Planes) (picture n index : ℕ) (name : SliceName) (fault : SliceFault) → IsWhole bytes parts
    → IsNamed parts picture n name → AreShown bytes parts planes (number_of parts picture n) → index ≡ number_of parts picture n
    → RefusesSlice (setup_of parts.head) name.count (slice_at bytes parts (number_of parts picture n)) fault → IsFirstRefused bytes index fault
first_refused bytes parts planes picture n index name fault whole named are e refused = record {
  parts = parts;
  frame = whole.frame;
  matrices = whole.matrices;
  picture = picture;
  n = n;
  name = name;
  named = named;
  numbered = e;
  refused = subst (λ (k : ℕ). RefusesSlice (setup_of parts.head) name.count (slice_at bytes parts k) fault) (sym e) refused;
  before = λ p m other is less. (are.shown p m other is (omega (arith, e, less))).meaning;
}

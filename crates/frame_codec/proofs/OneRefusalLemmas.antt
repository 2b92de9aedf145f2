-- Bytes that are no frame with a meaning are refused by one fault.
use Rattle.std.proofs.Common.{◌≡◌, ◌≢◌, ◌<◌, ◌%◌, ℕ, zero, suc, List, length, get_or, refl, sym, ap, ap₂, subst, ◌∙◌, arith, inl, inr}
use Rattle.std.proofs.lemmas.Bool.{cases_order}
use Rattle.picture_plane.specs.Slices.{Size, row_widths, IsSlice}
use Rattle.picture_plane.specs.declared.slice_names.SliceName.{SliceName}
use Rattle.slice_codec.specs.Faults.{Refuses as RefusesSlice}
use Rattle.slice_codec.specs.declared.fault.SliceFault.{SliceFault}
use Rattle.slice_codec.specs.laws.SliceLaws.{refused_slices_mean_nothing}
use Rattle.slice_codec.specs.laws.OneRefusalLaws.{slice_refusals_are_one}
use Rattle.frame_syntax.specs.Headers.{size_of}
use Rattle.frame_syntax.specs.Frames.{IsFrame, Refuses as RefusesFrame}
use Rattle.frame_syntax.specs.declared.fault.FrameFault.{FrameFault}
use Rattle.frame_syntax.specs.declared.frame.FrameParts.{FrameParts}
use Rattle.frame_codec.specs.Frames.{setup_of, log2_of, number_of, slice_at, IsNamed, HasMeaning}
use Rattle.frame_codec.specs.Faults.{LoadsOne, IsFirstRefused, Refuses}
use Rattle.frame_codec.specs.declared.fault.DecodeFault.{DecodeFault}
use Rattle.frame_codec.specs.declared.fault.DecodeFault.TheVariants.{Memory, Frame, OneMatrix, Slice}
use Rattle.frame_codec.proofs.CodedFrameLaws.{first_slices}

-- what frame_syntax says of bytes that are no frames
pub record FrameRefusals : Type 0 where
  pub none : (bytes : List ℕ) (parts : FrameParts) (fault : FrameFault) → IsFrame bytes parts → RefusesFrame bytes fault → ⊥
  pub one : (bytes : List ℕ) (a b : FrameFault) → RefusesFrame bytes a → RefusesFrame bytes b → a ≡ b
  pub frame : (bytes : List ℕ) (a b : FrameParts) → IsFrame bytes a → IsFrame bytes b → a ≡ b

-- slices at one place of a coded picture have as many macroblocks
count_at : (size : Size) (log2 p q m n : ℕ) (a b : SliceName) → IsSlice size log2 p m a → IsSlice size log2 q n b → m ≡ n → a.count ≡ b.count
count_at size log2 p q m n a b one two e =
    let widths = row_widths size log2 in
    one.count ∙ ap (λ (k : ℕ). get_or widths (k % length widths) 0) e ∙ sym two.count

-- and so have slices of one number
count_one : (bytes : List ℕ) (parts : FrameParts) → IsFrame bytes parts → (p q m n : ℕ) (a b : SliceName) → IsNamed parts p m a → IsNamed parts q n b
    → number_of parts p m ≡ number_of parts q n → a.count ≡ b.count
count_one bytes parts is zero zero m n a b one two e =
    count_at (size_of parts.head) (log2_of parts zero) zero zero m n a b one.named two.named e
count_one bytes parts is zero (suc q) m n a b one two e = absurd (omega (arith, e, one.named.within, first_slices bytes parts is))
count_one bytes parts is (suc p) zero m n a b one two e = absurd (omega (arith, e, two.named.within, first_slices bytes parts is))
count_one bytes parts is (suc p) (suc q) m n a b one two e =
    count_at (size_of parts.head) (log2_of parts (suc zero)) (suc p) (suc q) m n a b one.named two.named (omega (arith, e))

-- the slice of this number is the first of a frame of these parts that means nothing
record IsRefusedIn (bytes : List ℕ) (parts : FrameParts) (index : ℕ) (fault : SliceFault) : Type 0 where
  picture : ℕ
  n : ℕ
  name : SliceName
  named : IsNamed parts picture n name
  numbered : index ≡ number_of parts picture n
  refused : RefusesSlice (setup_of parts.head) name.count (slice_at bytes parts index) fault
  before : (p m : ℕ) (other : SliceName) → IsNamed parts p m other → number_of parts p m < index → HasMeaning bytes parts p m other

refused_in : (bytes : List ℕ) (index : ℕ) (fault : SliceFault) (first : IsFirstRefused bytes index fault) → IsRefusedIn bytes first.parts index fault
refused_in bytes index fault first = record {
  picture = first.picture;
  n = first.n;
  name = first.name;
  named = first.named;
  numbered = first.numbered;
  refused = first.refused;
  before = first.before;
}

-- no slice before it is refused
none_earlier : (bytes : List ℕ) (parts : FrameParts) (i j : ℕ) (a b : SliceFault) → IsRefusedIn bytes parts i a → IsRefusedIn bytes parts j b → i < j → ⊥
none_earlier bytes parts i j a b one two lt =
    let setup = setup_of parts.head in
    let meaning = two.before one.picture one.n one.name one.named (omega (arith, lt, one.numbered)) in
    let refused = subst (λ (k : ℕ). RefusesSlice setup one.name.count (slice_at bytes parts k) a) one.numbered one.refused in
    let slice = slice_at bytes parts (number_of parts one.picture one.n) in
    refused_slices_mean_nothing setup one.name.count slice a meaning.samples refused meaning.means

-- a slice has one fault
slice_one : (bytes : List ℕ) (parts : FrameParts) (i j : ℕ) (a b : SliceFault) → IsFrame bytes parts → IsRefusedIn bytes parts i a → IsRefusedIn bytes parts j b
    → i ≡ j → a ≡ b
slice_one bytes parts i j a b is one two e =
    let setup = setup_of parts.head in
    let number : number_of parts one.picture one.n ≡ number_of parts two.picture two.n = sym one.numbered ∙ e ∙ two.numbered in
    let count = count_one bytes parts is one.picture two.picture one.n two.n one.name two.name one.named two.named number in
    let there = subst (λ (k : ℕ). RefusesSlice setup one.name.count (slice_at bytes parts k) a) e one.refused in
    let refused = subst (λ (k : ℕ). RefusesSlice setup k (slice_at bytes parts j) a) count there in
    slice_refusals_are_one setup two.name.count (slice_at bytes parts j) a b refused two.refused

-- one slice is the first that means nothing, and has one fault
first_one : FrameRefusals → (bytes : List ℕ) (i j : ℕ) (a b : SliceFault) → IsFirstRefused bytes i a → IsFirstRefused bytes j b → Slice i a ≡ Slice j b
first_one law bytes i j a b one two =
    let same = law.frame bytes one.parts two.parts one.frame two.frame in
    let first = subst (λ (parts : FrameParts). IsRefusedIn bytes parts i a) same (refused_in bytes i a one) in
    let second = refused_in bytes j b two in
    elim (cases_order i j) [
      | inl e ↦ ap₂ (λ (k : ℕ) (fault : SliceFault). Slice k fault) e (slice_one bytes two.parts i j a b two.frame first second e)
      | inr (inl lt) ↦ absurd (none_earlier bytes two.parts i j a b first second lt)
      | inr (inr gt) ↦ absurd (none_earlier bytes two.parts j i b a second first gt)
    ]

-- a frame loads one matrix alone, or its slices are read
one_or_slices : FrameRefusals → (bytes : List ℕ) (index : ℕ) (fault : SliceFault) → LoadsOne bytes → IsFirstRefused bytes index fault → ⊥
one_or_slices law bytes index fault loads first =
    let same = law.frame bytes first.parts loads.parts first.frame loads.frame in
    loads.one (subst (λ (parts : FrameParts). parts.head.load_luma ≡ parts.head.load_chroma) same first.matrices)

-- bytes are refused by one fault, want of memory aside
pub frame_refusals_are_one : FrameRefusals → (bytes : List ℕ) (a b : DecodeFault) → a ≢ Memory → b ≢ Memory → Refuses bytes a → Refuses bytes b → a ≡ b
frame_refusals_are_one law bytes Memory b some other one two = absurd (some refl)
frame_refusals_are_one law bytes (Frame f) Memory some other one two = absurd (other refl)
frame_refusals_are_one law bytes (Frame f) (Frame g) some other one two = ap Frame (law.one bytes f g one two)
frame_refusals_are_one law bytes (Frame f) (OneMatrix at) some other one two = absurd (law.none bytes two.1.parts f two.1.frame one)
frame_refusals_are_one law bytes (Frame f) (Slice index g) some other one two = absurd (law.none bytes two.parts f two.frame one)
frame_refusals_are_one law bytes (OneMatrix at) Memory some other one two = absurd (other refl)
frame_refusals_are_one law bytes (OneMatrix at) (Frame g) some other one two = absurd (law.none bytes one.1.parts g one.1.frame two)
frame_refusals_are_one law bytes (OneMatrix at) (OneMatrix place) some other one two = ap OneMatrix (one.0 ∙ sym two.0)
frame_refusals_are_one law bytes (OneMatrix at) (Slice index g) some other one two = absurd (one_or_slices law bytes index g one.1 two)
frame_refusals_are_one law bytes (Slice index f) Memory some other one two = absurd (other refl)
frame_refusals_are_one law bytes (Slice index f) (Frame g) some other one two = absurd (law.none bytes one.parts g one.frame two)
frame_refusals_are_one law bytes (Slice index f) (OneMatrix at) some other one two = absurd (one_or_slices law bytes index f two.1 one)
frame_refusals_are_one law bytes (Slice i f) (Slice j g) some other one two = first_one law bytes i j f g one two

-- The coded pictures of a frame, and the numbers of their slices.
use Rattle.std.proofs.Common.{◌≡◌, ◌≢◌, ◌<◌, ◌≤◌, ◌+◌, ◌==◌, ℕ, Bool, true, false, zero, suc, List, length, Option, Some, None, if◌then◌else◌, inl, inr, refl, sym, ap, subst, eq-eqb, arith}
use Rattle.std.proofs.lemmas.Bool.{cases_eq, eqb-true, ne_eqb}
use Rattle.picture_plane.specs.Slices.{Size, FitsSize, IsSlice, picture_count, slices_per_picture}
use Rattle.picture_plane.specs.declared.slice_names.SliceName.{SliceName}
use Rattle.picture_plane.specs.laws.SliceLaws.{slice_fits}
use Rattle.frame_syntax.specs.Headers.{header_of, size_of}
use Rattle.frame_syntax.specs.Pictures.{picture_of}
use Rattle.frame_syntax.specs.Rules.{first_picture, picture_behind}
use Rattle.frame_syntax.specs.Frames.{IsFrame, slices_of, slices_in}
use Rattle.frame_syntax.specs.declared.frame.FrameParts.{FrameParts}
use Rattle.frame_syntax.specs.declared.frame_head.FrameHead.{FrameHead}
use Rattle.frame_syntax.specs.declared.picture_head.PictureHead.{PictureHead}
use Rattle.frame_syntax.specs.declared.frame_head.TheConstants.{HEAD_AT}
use Rattle.frame_codec.specs.Frames.{IsNamed, log2_in, log2_of, number_of}
use Rattle.frame_codec.specs.inner.Decoding.{IsCodedPicture}

-- a coded picture by its header: one log2 of two bits, and the slices that this asks for
record IsCut (size : Size) (coded : PictureHead) : Type 0 where
  small : coded.log2 ≤ 3
  slices : coded.slices ≡ slices_per_picture size coded.log2

picture_cut : (bytes : List ℕ) (size : Size) (at : ℕ) → IsCut size (picture_of bytes size at)
unfolding picture_of
picture_cut bytes size at = record { small = omega arith; slices = refl }

-- a second coded picture, if there is one
abbrev IsCutSecond : Size → Option PictureHead → Type 0
IsCutSecond size None = size.interlace ≡ 0
IsCutSecond size (Some second) = (size.interlace ≢ 0) × IsCut size second

-- the coded pictures of a frame
record AreCut (parts : FrameParts) : Type 0 where
  first : IsCut (size_of parts.head) parts.first
  second : IsCutSecond (size_of parts.head) parts.second
  counted : parts.slices ≡ slices_in parts.first parts.second

second_by : (bytes : List ℕ) (head : FrameHead) (first : PictureHead) (whole : Bool) → (head.interlace == 0) ≡ whole
    → IsCutSecond (size_of head) (if whole then None else Some (picture_behind bytes head first))
second_by bytes head first true e = eqb-true head.interlace 0 e
second_by bytes head first false e = (
  λ same. let whole : (head.interlace == 0) ≡ true = eq-eqb head.interlace 0 same in cc,
  picture_cut bytes (size_of head) (first.at + first.size),
)

are_cut : (bytes : List ℕ) (parts : FrameParts) → IsFrame bytes parts → AreCut parts
are_cut bytes parts frame =
    let head = header_of bytes in
    let first = first_picture bytes head in
    subst AreCut frame.stand (record {
      first = picture_cut bytes (size_of head) (HEAD_AT + head.head_size);
      second = second_by bytes head first (head.interlace == 0) refl;
      counted = refl;
    })

-- a frame has one coded picture or two
one_count : (size : Size) → size.interlace ≡ 0 → picture_count size ≡ 1
one_count size whole = rw whole refl

two_count : (size : Size) → size.interlace ≢ 0 → picture_count size ≡ 2
two_count size fields = rw (ne_eqb size.interlace 0 fields) refl

some_pictures : (size : Size) → 0 < picture_count size
some_pictures size = elim (cases_eq size.interlace 0) [
  | inl whole ↦ omega (arith, one_count size whole)
  | inr fields ↦ omega (arith, two_count size fields)
]

most_pictures : (size : Size) → picture_count size ≤ 2
most_pictures size = elim (cases_eq size.interlace 0) [
  | inl whole ↦ omega (arith, one_count size whole)
  | inr fields ↦ omega (arith, two_count size fields)
]

first_within : (first : PictureHead) (second : Option PictureHead) → first.slices ≤ slices_in first second
first_within first None = omega arith
first_within first (Some second) = omega arith

-- the first coded picture of a frame
pub first_coded : (bytes : List ℕ) (parts : FrameParts) → IsFrame bytes parts → length (slices_of bytes parts) ≡ parts.slices
    → IsCodedPicture bytes parts 0 parts.first
first_coded bytes parts frame counted =
    let cut = are_cut bytes parts frame in record {
      there = some_pictures (size_of parts.head);
      log2 = refl;
      small = cut.first.small;
      slices = cut.first.slices;
      counted = omega (arith, counted, cut.counted, first_within parts.first parts.second);
    }

-- the second coded picture of a frame
pub second_coded : (bytes : List ℕ) (parts : FrameParts) (second : PictureHead) → IsFrame bytes parts → length (slices_of bytes parts) ≡ parts.slices
    → parts.second ≡ Some second → IsCodedPicture bytes parts 1 second
second_coded bytes parts second frame counted e =
    let cut = are_cut bytes parts frame in
    let here : IsCutSecond (size_of parts.head) (Some second) = subst (IsCutSecond (size_of parts.head)) e cut.second in
    let all : slices_in parts.first parts.second ≡ parts.first.slices + second.slices = ap (slices_in parts.first) e in
    record {
      there = omega (arith, two_count (size_of parts.head) here.0);
      log2 = sym (ap log2_in e);
      small = here.1.small;
      slices = here.1.slices;
      counted = omega (arith, counted, cut.counted, all);
    }

-- the slices of a frame of one coded picture are numbered below its count
pub all_of_one : (bytes : List ℕ) (parts : FrameParts) → IsFrame bytes parts → parts.second ≡ None
    → (picture n : ℕ) (name : SliceName) → IsNamed parts picture n name → number_of parts picture n < number_of parts 0 parts.first.slices
all_of_one bytes parts frame e zero n name named = omega (arith, named.named.within, (are_cut bytes parts frame).first.slices)
all_of_one bytes parts frame e (suc picture) n name named =
    let one = one_count (size_of parts.head) (subst (IsCutSecond (size_of parts.head)) e (are_cut bytes parts frame).second) in
    absurd (omega (arith, named.there, one))

-- those of two coded pictures below both counts
pub all_of_two : (bytes : List ℕ) (parts : FrameParts) (second : PictureHead) → IsFrame bytes parts → parts.second ≡ Some second
    → (picture n : ℕ) (name : SliceName) → IsNamed parts picture n name → number_of parts picture n < number_of parts 1 second.slices
all_of_two bytes parts second frame e zero n name named = omega (arith, named.named.within, (are_cut bytes parts frame).first.slices)
all_of_two bytes parts second frame e (suc picture) n name named =
    let size = size_of parts.head in
    let here : IsCutSecond size (Some second) = subst (IsCutSecond size) e (are_cut bytes parts frame).second in
    let log2 : slices_per_picture size (log2_in parts.second) ≡ slices_per_picture size second.log2 = ap (λ (p : Option PictureHead). slices_per_picture size (log2_in p)) e in
    omega (arith, named.named.within, log2, here.1.slices)

-- a number names one slice
pub record IsOneSlice (p q m n : ℕ) : Type 0 where
  pub pictures : p ≡ q
  pub slices : m ≡ n

pub one_number : (bytes : List ℕ) (parts : FrameParts) → IsFrame bytes parts → (p q m n : ℕ) (a b : SliceName) → IsNamed parts p m a → IsNamed parts q n b
    → number_of parts p m ≡ number_of parts q n → IsOneSlice p q m n
one_number bytes parts frame zero zero m n a b is_a is_b e = record { pictures = refl; slices = e }
one_number bytes parts frame zero (suc q) m n a b is_a is_b e = absurd (omega (arith, e, is_a.named.within, (are_cut bytes parts frame).first.slices))
one_number bytes parts frame (suc p) zero m n a b is_a is_b e = absurd (omega (arith, e, is_b.named.within, (are_cut bytes parts frame).first.slices))
one_number bytes parts frame (suc p) (suc q) m n a b is_a is_b e =
    record { pictures = omega (arith, is_a.there, is_b.there, most_pictures (size_of parts.head)); slices = omega (arith, e) }

-- the number behind that of a slice
pub next_number : (parts : FrameParts) (picture n : ℕ) → number_of parts picture (n + 1) ≡ number_of parts picture n + 1
next_number parts zero n = refl
next_number parts (suc picture) n = omega arith

log2_in_small : (size : Size) (second : Option PictureHead) → IsCutSecond size second → log2_in second ≤ 3
log2_in_small size None cut = omega arith
log2_in_small size (Some second) cut = cut.1.small

log2_small : (parts : FrameParts) → AreCut parts → (picture : ℕ) → log2_of parts picture ≤ 3
log2_small parts cut zero = cut.first.small
log2_small parts cut (suc picture) = log2_in_small (size_of parts.head) parts.second cut.second

-- a slice of a frame is one that the frame's size has room for
pub named_fits : (bytes : List ℕ) (parts : FrameParts) (picture n : ℕ) (name : SliceName) → IsFrame bytes parts → IsNamed parts picture n name
    → FitsSize (size_of parts.head) name
named_fits bytes parts picture n name frame named =
    slice_fits (size_of parts.head) (log2_of parts picture) picture n name (log2_small parts (are_cut bytes parts frame) picture) named.named

-- the slice that was named is one of the frame
pub named_by : (parts : FrameParts) (size : Size) (log2 picture n : ℕ) (name : SliceName) → size ≡ size_of parts.head → log2 ≡ log2_of parts picture
    → picture < picture_count (size_of parts.head) → IsSlice size log2 picture n name → IsNamed parts picture n name
named_by parts size log2 picture n name sizes logs there named = record {
  there = there;
  named = subst (λ (k : ℕ). IsSlice (size_of parts.head) k picture n name) logs (subst (λ (s : Size). IsSlice s log2 picture n name) sizes named);
}

-- the numbers of a coded picture's slices rise
pub number_rises : (parts : FrameParts) (picture m n : ℕ) → m < n → number_of parts picture m < number_of parts picture n
number_rises parts zero m n h = h
number_rises parts (suc picture) m n h = omega arith

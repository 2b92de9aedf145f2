-- The bytes of a note tell its mark.
use Rattle.std.proofs.Common.{◌≡◌, ◌==◌, ℕ, zero, suc, ◌<◌, ◌≤◌, ◌^◌, Bool, true, false, List, [], ◌∷◌, ◌++◌, length, take, drop, get_or, slice_index}
use Rattle.std.proofs.Common.{refl, sym, ap, ◌∙◌, arith, append_assoc}
use Rattle.std.proofs.lemmas.List.{get_or-take, length-drop, length-take-le, drop_at, drop-drop, drop_more, take-append-drop}
use Rattle.std.proofs.lemmas.Nat.{be_bytes_8}
use Rattle.std.specs.Int.{from_be_bytes, w64}
use Rattle.byteorder.specs.Endian.{big_number, big_bytes}
use Rattle.byteorder.specs.Numbers.{big_from-lt, big_number-reads_back, length-bytes_high_first}
use Rattle.rec_bytes.specs.laws.Bytes.{AreBytes, taken_bytes, left_bytes}
use Rattle.take_core.specs.declared.mark.Mark.{Mark}
use Rattle.commit_sidecar.specs.Notes.{note_of, closed_byte, Fits}
use Rattle.commit_sidecar.specs.inner.Begins.{BeginsNote}

-- the number of eight bytes, in std's word
number_8 : (xs : List ℕ) → big_number 8 xs ≡ from_be_bytes w64 (take 8 xs)
number_8 xs =
    rw (
      get_or-take 8 xs 0 0 (omega arith),
      get_or-take 8 xs 1 0 (omega arith),
      get_or-take 8 xs 2 0 (omega arith),
      get_or-take 8 xs 3 0 (omega arith),
      get_or-take 8 xs 4 0 (omega arith),
      get_or-take 8 xs 5 0 (omega arith),
      get_or-take 8 xs 6 0 (omega arith),
      get_or-take 8 xs 7 0 (omega arith),
    ) (omega arith)

-- the bytes of the number that stands in the first eight bytes are these
bytes_of_8 : (xs : List ℕ) → AreBytes xs → 8 ≤ length xs → take 8 xs ≡ big_bytes 8 (big_number 8 xs)
bytes_of_8 xs are room =
    let long : length (take 8 xs) ≡ 8 = length-take-le 8 xs room in
    sym (be_bytes_8 (take 8 xs) (big_number 8 xs) long (taken_bytes 8 xs are) (number_8 xs))

-- so bytes begin with those of the number that stands there
number_first : (xs : List ℕ) → AreBytes xs → 8 ≤ length xs → xs ≡ big_bytes 8 (big_number 8 xs) ++ drop 8 xs
number_first xs are room = sym (take-append-drop 8 xs) ∙ ap (λ (front : List ℕ). front ++ drop 8 xs) (bytes_of_8 xs are room)

-- bytes behind a note, part by part
pub parts : (mark : Mark) (rest : List ℕ)
    → note_of mark ++ rest ≡ big_bytes 8 mark.count ++ (big_bytes 8 mark.length ++ (closed_byte mark.closed ∷ rest))
parts mark rest =
    append_assoc (big_bytes 8 mark.count) (big_bytes 8 mark.length ++ (closed_byte mark.closed ∷ [])) rest
    ∙ ap (λ (xs : List ℕ). big_bytes 8 mark.count ++ xs) (append_assoc (big_bytes 8 mark.length) (closed_byte mark.closed ∷ []) rest)

-- a byte that is 0 or 1 is that of the test whether it is 1
flag_is : (n : ℕ) → n ≤ 1 → n ≡ closed_byte (n == 1)
flag_is zero h = refl
flag_is (suc zero) h = refl
flag_is (suc (suc n)) h = absurd (omega arith)

-- 17 bytes of which the last is 0 or 1 are a note
pub begins_note : (bytes : List ℕ) (mark : Mark) → AreBytes bytes → 17 ≤ length bytes → slice_index bytes 16 ≤ 1
    → mark.count ≡ big_number 8 bytes → mark.length ≡ big_number 8 (drop 8 bytes) → mark.closed ≡ (slice_index bytes 16 == 1) → BeginsNote bytes mark
begins_note bytes mark are room small count long closed =
    let behind : List ℕ = drop 8 bytes in
    let enough : 8 ≤ length behind = omega (arith, length-drop 8 bytes) in
    let second : behind ≡ big_bytes 8 mark.length ++ drop 8 behind =
    number_first behind (left_bytes 8 bytes are) enough ∙ ap (λ (n : ℕ). big_bytes 8 n ++ drop 8 behind) (sym long) in
    let last : slice_index bytes 16 ≡ closed_byte mark.closed = flag_is (slice_index bytes 16) small ∙ ap closed_byte (sym closed) in
    let third : drop 8 behind ≡ closed_byte mark.closed ∷ drop 17 bytes =
    drop-drop 8 8 bytes ∙ drop_more bytes 16 0 (omega (arith, room)) ∙ ap (λ (n : ℕ). n ∷ drop 17 bytes) last in
    record {
      fits = record {
        count = omega (arith, count, big_from-lt 0 8 bytes are);
        length = omega (arith, long, big_from-lt 0 8 behind (left_bytes 8 bytes are));
      };
      rest = drop 17 bytes;
      is = number_first bytes are (omega (arith, room))
          ∙ ap (λ (n : ℕ). big_bytes 8 n ++ behind) (sym count)
          ∙ ap (λ (xs : List ℕ). big_bytes 8 mark.count ++ xs) (second ∙ ap (λ (xs : List ℕ). big_bytes 8 mark.length ++ xs) third)
          ∙ sym (parts mark (drop 17 bytes));
    }

-- a number that begins bytes is one, and so is what stands behind it
one_number : (x y : ℕ) (xs ys : List ℕ) → x < 2 ^ 64 → y < 2 ^ 64 → big_bytes 8 x ++ xs ≡ big_bytes 8 y ++ ys → (x ≡ y) × (xs ≡ ys)
one_number x y xs ys small less e = (
  sym (big_number-reads_back 8 x xs small) ∙ ap (big_number 8) e ∙ big_number-reads_back 8 y ys less,
  sym (drop_at (big_bytes 8 x) xs 8 (length-bytes_high_first 8 x))
      ∙ ap (λ (zs : List ℕ). drop 8 zs) e
      ∙ drop_at (big_bytes 8 y) ys 8 (length-bytes_high_first 8 y),
)

-- the byte tells whether the mark is closed
one_flag : (a b : Bool) → closed_byte a ≡ closed_byte b → a ≡ b
one_flag true true e = refl
one_flag false false e = refl
one_flag true false e = absurd (omega (arith, e))
one_flag false true e = absurd (omega (arith, e))

-- a note that begins bytes is that of one mark, and what stands behind it is one
pub one_note : (mark next : Mark) (xs ys : List ℕ) → Fits mark → Fits next → note_of mark ++ xs ≡ note_of next ++ ys → (mark ≡ next) × (xs ≡ ys)
one_note mark next xs ys fits others e =
    let same = sym (parts mark xs) ∙ e ∙ parts next ys in
    let count = one_number mark.count next.count _ _ fits.count others.count same in
    let long = one_number mark.length next.length _ _ fits.length others.length count.1 in
    let closed = one_flag mark.closed next.closed (ap (λ (zs : List ℕ). get_or zs 0 0) long.1) in (
      λ i. record { count = count.0 i; length = long.0 i; closed = closed i },
      ap (λ (zs : List ℕ). drop 1 zs) long.1,
    )

-- A frame that is written is read back.
use Rattle.std.proofs.Common.{◌≡◌, ◌==◌, ℕ, ◌+◌, ◌*◌, ◌^◌, ◌<◌, List, [], ◌++◌, Bool, true, false, Some, None, length, take, drop, map, sum, refl, sym, ap, ap₂, subst, ◌∙◌, arith, if◌then◌else◌}
use Rattle.std.proofs.lemmas.List.{drop_at, drop-drop, append-nil, take-append-drop, length-append, length-take-le, length-drop, map-append}
use Rattle.std.proofs.lemmas.List.Elements.{All-take, All-drop}
use Rattle.picture_plane.specs.Slices.{Size, slices_per_picture}
use Rattle.frame_syntax.specs.Headers.{header_of, size_of, loaded_len}
use Rattle.frame_syntax.specs.Pictures.{spans_of}
use Rattle.frame_syntax.specs.Rules.{first_broken, frame_rules, opening_rules, head_rules, rules_from, picture_rules, picture_behind, is_sized}
use Rattle.frame_syntax.specs.Frames.{parts_with, parts_behind, second_picture}
use Rattle.frame_syntax.specs.Written.{lengths, picture_bytes, pictures_bytes, loaded_bytes, format_bytes, head_bytes, matrix_bytes, IsMatrix, frame_front, frame_bytes, IsWritable, AreSlices, Holds, slice_bytes}
use Rattle.frame_syntax.specs.declared.frame_head.FrameHead.{FrameHead}
use Rattle.frame_syntax.specs.declared.picture_head.PictureHead.{PictureHead}
use Rattle.frame_syntax.specs.laws.LengthLaws.{length-picture}
use Rattle.frame_syntax.proofs.RuleLemmas.{only_sized, both_sized, pictures_are}
use Rattle.frame_syntax.proofs.WrittenHeadLemmas.{FourOf, four_of, frame_with, with_encoder, head_reads, opening_kept, head_kept}
use Rattle.frame_syntax.proofs.WrittenPictureLemmas.{Stands, written_picture, picture_reads}

-- what the bytes of a frame are behind its header
pub record Behind (bytes : List ℕ) (head : FrameHead) (log2 : ℕ) (slices : List (List ℕ)) : Type 0 where
  pub header : header_of bytes ≡ head
  pub opening : first_broken (opening_rules bytes) ≡ None
  pub there : drop (8 + head.head_size) bytes ≡ pictures_bytes (size_of head) log2 slices

matrix_len : (loaded : Bool) (matrix : List ℕ) → IsMatrix loaded matrix → length (loaded_bytes loaded matrix) ≡ loaded_len loaded
matrix_len true matrix is = is
matrix_len false matrix is = refl

-- the header is as long as it says
head_len : (head : FrameHead) → IsWritable head → length (head_bytes head) ≡ head.head_size
head_len head w =
    let is = w.head_size in
    let sized = w.encoder in
    omega (
      arith,
      is,
      sized,
      length-append (head.encoder ++ format_bytes head) (matrix_bytes head),
      length-append head.encoder (format_bytes head),
      length-append (loaded_bytes head.load_luma head.luma) (loaded_bytes head.load_chroma head.chroma),
      matrix_len head.load_luma head.luma w.luma,
      matrix_len head.load_chroma head.chroma w.chroma,
    )

frame_behind : (head : FrameHead) (log2 : ℕ) (slices : List (List ℕ)) → IsWritable head → length (frame_bytes head log2 slices) < 256 ^ 4 → Behind (frame_bytes head log2 slices) head log2 slices
unfolding frame_bytes
frame_behind head log2 slices w small =
    let pictures : List ℕ = pictures_bytes (size_of head) log2 slices in
    let len : ℕ = 8 + length (head_bytes head) + length pictures in
    let bytes : List ℕ = frame_front head len ++ pictures in
    let f : FourOf head.encoder = four_of head.encoder w.encoder in
    let same : bytes ≡ frame_with head len f.a f.b f.c f.d pictures = with_encoder head len pictures f in
    let headed = head_len head w in
    let front : length (frame_front head len) ≡ 8 + head.head_size = omega (arith, headed) in
    let long : length bytes ≡ len = omega (arith, length-append (frame_front head len) pictures, front, headed) in
    let opened = opening_kept head len f.a f.b f.c f.d pictures w (ap (length {A = ℕ}) (sym same) ∙ long) (omega (arith, long, small)) (omega (arith, headed)) in
    record {
      header = ap header_of same ∙ head_reads head len f.a f.b f.c f.d pictures f.are w;
      opening = ap (λ (xs : List ℕ). first_broken (opening_rules xs)) same ∙ opened;
      there = drop_at (frame_front head len) pictures (8 + head.head_size) front;
    }

-- the rules are kept where those on the coded pictures are
rules_kept : (bytes : List ℕ) (head : FrameHead) → header_of bytes ≡ head → IsWritable head → first_broken (opening_rules bytes) ≡ None
    → first_broken (picture_rules bytes head) ≡ None → first_broken (frame_rules bytes) ≡ None
rules_kept bytes head header w opening pictures =
    pictures_are bytes opening (ap (λ (h : FrameHead). first_broken (head_rules h)) header ∙ head_kept head w)
    ∙ (ap (λ (h : FrameHead). first_broken (picture_rules bytes h)) header ∙ pictures)

-- a progressive frame
one_picture : (bytes : List ℕ) (head : FrameHead) (log2 : ℕ) (slices : List (List ℕ)) → (head.interlace == 0) ≡ true → IsWritable head → header_of bytes ≡ head
    → first_broken (opening_rules bytes) ≡ None → Stands bytes (size_of head) (8 + head.head_size) log2 slices → Holds bytes head log2 slices
one_picture bytes head log2 slices one w header opening s =
    let size : Size = size_of head in
    let p : PictureHead = written_picture size (8 + head.head_size) log2 slices in
    let rules = ap (λ (q : PictureHead). first_broken (rules_from bytes head q)) s.picture ∙ only_sized bytes head p one s.sized in
    let second : second_picture bytes head p ≡ None = ap (λ (b : Bool). if b then None else Some (picture_behind bytes head p)) one in
    record {
      parts = parts_with head p None;
      frame = record {
        kept = rules_kept bytes head header w opening rules;
        stand = ap (parts_behind bytes) header ∙ (ap (λ (q : PictureHead). parts_with head q (second_picture bytes head q)) s.picture ∙ ap (parts_with head p) second);
        first_fits = s.fit;
        second_fits = tt;
      };
      head_is = refl;
      first_is = refl;
      second_is = tt;
      slices_are = ap (map (slice_bytes bytes)) (append-nil (spans_of bytes p)) ∙ s.spans;
    }

-- a frame of two fields
two_pictures : (bytes : List ℕ) (head : FrameHead) (log2 : ℕ) (first second : List (List ℕ)) → (head.interlace == 0) ≡ false → IsWritable head → header_of bytes ≡ head
    → first_broken (opening_rules bytes) ≡ None → Stands bytes (size_of head) (8 + head.head_size) log2 first
    → Stands bytes (size_of head) (8 + head.head_size + (8 + 2 * length (lengths first) + sum (lengths first))) log2 second → Holds bytes head log2 (first ++ second)
two_pictures bytes head log2 first second two w header opening s t =
    let size : Size = size_of head in
    let p : PictureHead = written_picture size (8 + head.head_size) log2 first in
    let q : PictureHead = written_picture size (p.at + p.size) log2 second in
    let sized : is_sized (length bytes) (picture_behind bytes head p) ≡ true = ap (λ (x : PictureHead). is_sized (length bytes) x) t.picture ∙ t.sized in
    let rules = ap (λ (x : PictureHead). first_broken (rules_from bytes head x)) s.picture ∙ both_sized bytes head p two s.sized sized in
    let behind : second_picture bytes head p ≡ Some q = ap (λ (b : Bool). if b then None else Some (picture_behind bytes head p)) two ∙ ap Some t.picture in
    record {
      parts = parts_with head p (Some q);
      frame = record {
        kept = rules_kept bytes head header w opening rules;
        stand = ap (parts_behind bytes) header ∙ (ap (λ (x : PictureHead). parts_with head x (second_picture bytes head x)) s.picture ∙ ap (parts_with head p) behind);
        first_fits = s.fit;
        second_fits = t.fit;
      };
      head_is = refl;
      first_is = refl;
      second_is = refl;
      slices_are = map-append (slice_bytes bytes) (spans_of bytes p) (spans_of bytes q) ∙ ap₂ (λ (xs ys : List (List ℕ)). xs ++ ys) s.spans t.spans;
    }

-- a frame that is written is a frame of just these slices
pub written_holds : (head : FrameHead) (log2 : ℕ) (slices : List (List ℕ)) → IsWritable head → AreSlices head log2 slices → Holds (frame_bytes head log2 slices) head log2 slices
written_holds head log2 slices w are = by (head.interlace == 0) refl
  where
    size : Size
    size = size_of head

    n : ℕ
    n = slices_per_picture size log2

    at : ℕ
    at = 8 + head.head_size

    bytes : List ℕ
    bytes = frame_bytes head log2 slices

    b : Behind bytes head log2 slices
    b = frame_behind head log2 slices w are.fit

    by : (k : Bool) → (head.interlace == 0) ≡ k → Holds bytes head log2 slices
    by true one =
        let pictures : List ℕ = picture_bytes log2 slices in
        let there : drop at bytes ≡ pictures ++ [] = b.there ∙ (ap (λ (k : Bool). if k then pictures else picture_bytes log2 (take n slices) ++ picture_bytes log2 (drop n slices)) one ∙ sym (append-nil pictures)) in
        let count : length slices ≡ n = are.count ∙ (ap (λ (k : Bool). (if k then 1 else 2) * n) one ∙ omega arith) in
        let long = ap (length {A = ℕ}) there in
        let small = are.fit in
        one_picture bytes head log2 slices one w b.header b.opening
        (picture_reads bytes [] size at log2 slices there are.desired count are.short
        (omega (arith, long, small, length-drop at bytes, length-append pictures [], length-picture log2 slices)))
    by false two =
        let first : List (List ℕ) = take n slices in
        let second : List (List ℕ) = drop n slices in
        let a : List ℕ = picture_bytes log2 first in
        let z : List ℕ = picture_bytes log2 second in
        let there : drop at bytes ≡ a ++ z = b.there ∙ ap (λ (k : Bool). if k then picture_bytes log2 slices else a ++ z) two in
        let count : length slices ≡ 2 * n = are.count ∙ ap (λ (k : Bool). (if k then 1 else 2) * n) two in
        let long = ap (length {A = ℕ}) there in
        let small = are.fit in
        let len : ℕ = 8 + 2 * length (lengths first) + sum (lengths first) in
        let behind : drop (at + len) bytes ≡ z ++ [] =
        sym (drop-drop len at bytes) ∙ (ap (drop len) there ∙ (drop_at a z len (length-picture log2 first) ∙ sym (append-nil z))) in
        let s = picture_reads bytes z size at log2 first there are.desired (length-take-le n slices (omega (arith, count))) (All-take (λ (x : List ℕ). length x < 256 ^ 2) n slices are.short)
        (omega (arith, long, small, length-drop at bytes, length-append a z, length-picture log2 first)) in
        let t = picture_reads bytes [] size (at + len) log2 second behind are.desired (length-drop n slices ∙ omega (arith, count)) (All-drop (λ (x : List ℕ). length x < 256 ^ 2) n slices are.short)
        (omega (arith, long, small, length-drop at bytes, length-append a z, length-picture log2 second)) in
        subst (λ (xs : List (List ℕ)). Holds bytes head log2 xs) (take-append-drop n slices) (two_pictures bytes head log2 first second two w b.header b.opening s t)

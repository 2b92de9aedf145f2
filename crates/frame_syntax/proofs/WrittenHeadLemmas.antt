-- A frame header that is written is read back.
use Rattle.std.proofs.Common.{◌≡◌, ◌≢◌, ◌==◌, ◌&&◌, ◌||◌, ℕ, ◌+◌, ◌*◌, ◌/◌, ◌%◌, ◌^◌, ◌<◌, ◌≤◌, List, [], ◌∷◌, ◌++◌, Bool, true, false, not, None, length, take, drop, replicate, nat_le, refl, sym, ap, ap₂, ◌∙◌, arith, append_assoc, if◌then◌else◌, inl, inr}
use Rattle.std.proofs.lemmas.Bool.{le-leb, eq-eqb, ne_eqb, cases_eq}
use Rattle.std.proofs.lemmas.List.{take_at, drop_at, drop-drop}
use Rattle.byteorder.specs.Endian.{big_number, big_bytes}
use Rattle.byteorder.specs.Numbers.{big_number-reads_back}
use Rattle.frame_syntax.specs.Headers.{header_of, matrix_of, loads_luma, loads_chroma, loaded_len, least_head}
use Rattle.frame_syntax.specs.Rules.{Rule, first_broken, opening_rules, head_rules}
use Rattle.frame_syntax.specs.Written.{IsMatrix, IsWritable, loaded_bytes, flag_of, format_bytes, matrix_bytes, frame_front}
use Rattle.frame_syntax.specs.declared.fault.FrameFault.{FrameFault}
use Rattle.frame_syntax.specs.declared.frame_head.FrameHead.{FrameHead}
use Rattle.frame_syntax.specs.declared.frame_head.TheConstants.{FRAME_NAME, MATRIX_LEN}

-- the bytes of a frame whose encoder is these four
abbrev pub frame_with : FrameHead → ℕ → ℕ → ℕ → ℕ → ℕ → List ℕ → List ℕ
frame_with head len a b c d rest =
    big_bytes 4 len ++ (FRAME_NAME ++ (big_bytes 2 head.head_size ++ (0 ∷ head.version ∷ a ∷ b ∷ c ∷ d ∷ (format_bytes head ++ (matrix_bytes head ++ rest)))))

-- four bytes
pub record FourOf (xs : List ℕ) : Type 0 where
  pub a : ℕ
  pub b : ℕ
  pub c : ℕ
  pub d : ℕ
  pub are : xs ≡ a ∷ b ∷ c ∷ d ∷ []

pub four_of : (xs : List ℕ) → length xs ≡ 4 → FourOf xs
four_of [] e = absurd (omega (arith, e))
four_of (a ∷ []) e = absurd (omega (arith, e))
four_of (a ∷ b ∷ []) e = absurd (omega (arith, e))
four_of (a ∷ b ∷ c ∷ []) e = absurd (omega (arith, e))
four_of (a ∷ b ∷ c ∷ d ∷ []) e = record { a = a; b = b; c = c; d = d; are = refl }
four_of (a ∷ b ∷ c ∷ d ∷ x ∷ xs) e = absurd (omega (arith, e))

-- the bytes of a frame are those
pub with_encoder : (head : FrameHead) (len : ℕ) (rest : List ℕ) (f : FourOf head.encoder) → frame_front head len ++ rest ≡ frame_with head len f.a f.b f.c f.d rest
with_encoder head len rest f =
    let front : List ℕ = (big_bytes 4 len ++ FRAME_NAME) ++ (big_bytes 2 head.head_size ++ (0 ∷ head.version ∷ [])) in
    let join = λ (xs : List ℕ). append_assoc (xs ++ format_bytes head) (matrix_bytes head) rest ∙ append_assoc xs (format_bytes head) (matrix_bytes head ++ rest) in
    ap (λ (xs : List ℕ). front ++ xs) (join head.encoder ∙ ap (λ (xs : List ℕ). xs ++ (format_bytes head ++ (matrix_bytes head ++ rest))) f.are)

-- a matrix that is loaded stands at its place
matrix_reads : (loaded : Bool) (matrix rest : List ℕ) → IsMatrix loaded matrix → (if loaded then take MATRIX_LEN (loaded_bytes loaded matrix ++ rest) else replicate MATRIX_LEN 4) ≡ matrix
matrix_reads true matrix rest is = take_at matrix rest 64 is
matrix_reads false matrix rest is = sym is

-- behind it stands the rest
behind_matrix : (loaded : Bool) (matrix rest : List ℕ) → IsMatrix loaded matrix → drop (loaded_len loaded) (loaded_bytes loaded matrix ++ rest) ≡ rest
behind_matrix true matrix rest is = drop_at matrix rest 64 is
behind_matrix false matrix rest is = refl

-- the flags of the matrices
luma_flag : (luma chroma : Bool) → ((2 * flag_of luma + flag_of chroma) / 2 % 2 == 1) ≡ luma
luma_flag true true = refl
luma_flag true false = refl
luma_flag false true = refl
luma_flag false false = refl

chroma_flag : (luma chroma : Bool) → ((2 * flag_of luma + flag_of chroma) % 2 == 1) ≡ chroma
chroma_flag true true = refl
chroma_flag true false = refl
chroma_flag false true = refl
chroma_flag false false = refl

-- a header has at most 148 bytes
least_small : (luma chroma : Bool) → least_head luma chroma ≤ 148
least_small true true = omega arith
least_small true false = omega arith
least_small false true = omega arith
least_small false false = omega arith

head_small : (head : FrameHead) → IsWritable head → head.head_size ≤ 148
head_small head w = let is = w.head_size in omega (arith, is, least_small head.load_luma head.load_chroma)

-- the frame header that stands in them
pub head_reads : (head : FrameHead) (len a b c d : ℕ) (rest : List ℕ) → head.encoder ≡ a ∷ b ∷ c ∷ d ∷ [] → IsWritable head → header_of (frame_with head len a b c d rest) ≡ head
unfolding header_of
head_reads head len a b c d rest encoder w =
    let bytes : List ℕ = frame_with head len a b c d rest in
    let ll : List ℕ = loaded_bytes head.load_luma head.luma in
    let lc : List ℕ = loaded_bytes head.load_chroma head.chroma in
    let width = w.width in
    let height = w.height in
    let interlace = w.interlace in
    let format = w.chroma_format in
    let alpha = w.alpha in
    let aspect = w.aspect in
    let rate = w.rate in
    let size = head_small head w in
    let fl : loads_luma bytes ≡ head.load_luma = luma_flag head.load_luma head.load_chroma in
    let fc : loads_chroma bytes ≡ head.load_chroma = chroma_flag head.load_luma head.load_chroma in
    let there : drop 28 bytes ≡ ll ++ (lc ++ rest) = append_assoc ll lc rest in
    let luma : matrix_of bytes 28 (loads_luma bytes) ≡ head.luma =
    ap (λ (f : Bool). matrix_of bytes 28 f) fl
    ∙ (ap (λ (xs : List ℕ). if head.load_luma then take MATRIX_LEN xs else replicate MATRIX_LEN 4) there ∙ matrix_reads head.load_luma head.luma (lc ++ rest) w.luma) in
    let n : ℕ = loaded_len head.load_luma in
    let behind : drop (28 + n) bytes ≡ lc ++ rest =
    sym (drop-drop n 28 bytes) ∙ (ap (drop n) there ∙ behind_matrix head.load_luma head.luma (lc ++ rest) w.luma) in
    let chroma : matrix_of bytes (28 + loaded_len (loads_luma bytes)) (loads_chroma bytes) ≡ head.chroma =
    ap₂ (λ (f g : Bool). matrix_of bytes (28 + loaded_len f) g) fl fc
    ∙ (ap (λ (xs : List ℕ). if head.load_chroma then take MATRIX_LEN xs else replicate MATRIX_LEN 4) behind ∙ matrix_reads head.load_chroma head.chroma rest w.chroma) in
    let head_size : big_number 2 (drop 8 bytes) ≡ head.head_size = big_number-reads_back 2 head.head_size (drop 10 bytes) (omega (arith, size)) in
    let width_is : big_number 2 (drop 16 bytes) ≡ head.width = big_number-reads_back 2 head.width (drop 18 bytes) (omega (arith, width.most)) in
    let height_is : big_number 2 (drop 18 bytes) ≡ head.height = big_number-reads_back 2 head.height (drop 20 bytes) (omega (arith, height.most)) in
    let cf : (64 * head.chroma_format + 4 * head.interlace) / 64 ≡ head.chroma_format = omega arith in
    let il : (64 * head.chroma_format + 4 * head.interlace) / 4 % 4 ≡ head.interlace = omega arith in
    let asp : (16 * head.aspect + head.rate) / 16 ≡ head.aspect = omega arith in
    let rat : (16 * head.aspect + head.rate) % 16 ≡ head.rate = omega arith in
    let alp : head.alpha % 16 ≡ head.alpha = omega arith in
    λ i. record {
      head_size = head_size i;
      version = head.version;
      encoder = sym encoder i;
      width = width_is i;
      height = height_is i;
      chroma_format = cf i;
      interlace = il i;
      aspect = asp i;
      rate = rat i;
      primaries = head.primaries;
      transfer = head.transfer;
      matrix = head.matrix;
      alpha = alp i;
      load_luma = fl i;
      load_chroma = fc i;
      luma = luma i;
      chroma = chroma i;
    }

-- a rule that is kept before rules that are
pub kept_cons : (fault : FrameFault) (kept : Bool) (rules : List Rule) → kept ≡ true → first_broken rules ≡ None → first_broken ((fault, kept) ∷ rules) ≡ None
unfolding first_broken
kept_cons fault true rules e g = g
kept_cons fault false rules e g = absurd (cc)

-- no rules are kept
kept_nil : first_broken [] ≡ None
unfolding first_broken
kept_nil = refl

-- and lists of such
pub kept_both : (rules more : List Rule) → first_broken rules ≡ None → first_broken more ≡ None → first_broken (rules ++ more) ≡ None
unfolding first_broken
kept_both [] more e g = g
kept_both ((fault, true) ∷ rules) more e g = kept_both rules more e g
kept_both ((fault, false) ∷ rules) more e g = absurd (cc)

-- the opening keeps its rules
pub opening_kept : (head : FrameHead) (len a b c d : ℕ) (rest : List ℕ) → IsWritable head → length (frame_with head len a b c d rest) ≡ len → len < 256 ^ 4
    → 8 + head.head_size ≤ len → first_broken (opening_rules (frame_with head len a b c d rest)) ≡ None
unfolding opening_rules
opening_kept head len a b c d rest w long small room =
    let bytes : List ℕ = frame_with head len a b c d rest in
    let ll : Bool = head.load_luma in
    let lc : Bool = head.load_chroma in
    let fl : loads_luma bytes ≡ ll = luma_flag ll lc in
    let fc : loads_chroma bytes ≡ lc = chroma_flag ll lc in
    let size = head_small head w in
    let head_size : big_number 2 (drop 8 bytes) ≡ head.head_size = big_number-reads_back 2 head.head_size (drop 10 bytes) (omega (arith, size)) in
    let word : big_number 4 bytes ≡ length bytes = big_number-reads_back 4 len (drop 4 bytes) small ∙ sym long in
    let least : least_head (loads_luma bytes) (loads_chroma bytes) ≡ least_head ll lc = ap₂ least_head fl fc in
    let is = w.head_size in
    let enough : nat_le (least_head (loads_luma bytes) (loads_chroma bytes)) (big_number 2 (drop 8 bytes)) ≡ true =
    le-leb (least_head (loads_luma bytes) (loads_chroma bytes)) (big_number 2 (drop 8 bytes)) (omega (arith, least, head_size, is)) in
    let within : nat_le (8 + big_number 2 (drop 8 bytes)) (length bytes) ≡ true =
    le-leb (8 + big_number 2 (drop 8 bytes)) (length bytes) (omega (arith, head_size, long, room)) in
    kept_cons _ _ _ (le-leb 28 (length bytes) (omega (arith, long, room, is)))
    (kept_cons _ _ _ refl
    (kept_cons _ _ _ (eq-eqb (big_number 4 bytes) (length bytes) word)
    (kept_cons _ _ _ (ap₂ (λ (x y : Bool). x && y) enough within) kept_nil)))

-- a height is even where the frame is interlaced
height_kept : (interlace height : ℕ) → (interlace ≢ 0 → height % 2 ≡ 0) → (interlace == 0 || height % 2 == 0) ≡ true
height_kept interlace height even = elim (cases_eq interlace 0) [
  | inl none ↦ let e : (interlace == 0) ≡ true = eq-eqb interlace 0 none in rw e refl
  | inr other ↦ let e : (interlace == 0) ≡ false = ne_eqb interlace 0 other in let g : (height % 2 == 0) ≡ true = eq-eqb (height % 2) 0 (even other) in rw (e, g) refl
]

-- and so do its fields
pub head_kept : (head : FrameHead) → IsWritable head → first_broken (head_rules head) ≡ None
unfolding head_rules
head_kept head w =
    let width = w.width in
    let height = w.height in
    let inside : (nat_le 2 head.width && nat_le head.width 4096) ≡ true = ap₂ (λ (x y : Bool). x && y) (le-leb 2 head.width width.least) (le-leb head.width 4096 width.most) in
    let tall : (nat_le 1 head.height && nat_le head.height 2304) ≡ true = ap₂ (λ (x y : Bool). x && y) (le-leb 1 head.height height.least) (le-leb head.height 2304 height.most) in
    let interlace : (head.interlace == 3) ≡ false = ne_eqb head.interlace 3 (λ (e : head.interlace ≡ 3). let less = w.interlace in omega arith) in
    kept_cons _ _ _ (le-leb head.version 1 w.version)
    (kept_cons _ _ _ (eq-eqb head.chroma_format 2 w.chroma_format)
    (kept_cons _ _ _ (ap not interlace)
    (kept_cons _ _ _ (ap₂ (λ (x y : Bool). x && y) inside (eq-eqb (head.width % 2) 0 w.width_even))
    (kept_cons _ _ _ (ap₂ (λ (x y : Bool). x && y) tall (height_kept head.interlace head.height w.height_even))
    (kept_cons _ _ _ (eq-eqb head.alpha 0 w.alpha) kept_nil)))))

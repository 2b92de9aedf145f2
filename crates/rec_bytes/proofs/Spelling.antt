-- The spelling of a configuration and its fields.
use Rattle.std.proofs.Common.{◌≡◌, None, subst, ap₂, ℕ, ◌+◌, ◌^◌, ◌<◌, List, [], ◌++◌, length, take, drop, refl, sym, ap, ◌∙◌}
use Rattle.std.proofs.Common.{append_assoc, replicate, true}
use Rattle.std.proofs.lemmas.List.{length-append}
use Rattle.std.proofs.Math.Seq.{take-append_seam, drop-append_seam}
use Rattle.byteorder.specs.Numbers.{big_number-reads_back}
use Rattle.rec_bytes.specs.Configuration.{Fields, fields_of, spelling, field_rules, zero_rules, first_broken, first_fault, is_config, Spells}
use Rattle.rec_bytes.proofs.Rules.{broken_later, config_keeps}

-- bytes that a write added behind the first
pub more : (front old new both : List ℕ) → old ≡ front → both ≡ old ++ new → both ≡ front ++ new
more front old new both e g = g ∙ ap (λ (bytes : List ℕ). bytes ++ new) e

-- the first of three parts
first_part : (n : ℕ) (xs ys zs : List ℕ) → length xs ≡ n → take n ((xs ++ ys) ++ zs) ≡ xs
first_part n xs ys zs l = rw (append_assoc xs ys zs) (subst (λ (k : ℕ). take k (xs ++ (ys ++ zs)) ≡ xs) l (take-append_seam xs (ys ++ zs)))

-- what stands behind the first part
behind : (n : ℕ) (xs ys : List ℕ) → length xs ≡ n → drop n (xs ++ ys) ≡ ys
behind n xs ys l = subst (λ (k : ℕ). drop k (xs ++ ys) ≡ ys) l (drop-append_seam xs ys)

-- the second of three parts
second_part : (n m : ℕ) (xs ys zs : List ℕ) → length xs ≡ n → length ys ≡ m → take m (drop n ((xs ++ ys) ++ zs)) ≡ ys
second_part n m xs ys zs l k =
    rw (append_assoc xs ys zs, behind n xs (ys ++ zs) l) (subst (λ (j : ℕ). take j (ys ++ zs) ≡ ys) k (take-append_seam ys zs))

-- the last of three parts
last_part : (n m : ℕ) (xs ys zs : List ℕ) → length xs ≡ n → length ys ≡ m → drop (n + m) ((xs ++ ys) ++ zs) ≡ zs
last_part n m xs ys zs l k = behind (n + m) (xs ++ ys) zs (length-append xs ys ∙ ap₂ (λ (a b : ℕ). a + b) l k)

-- the numbers fit their bytes
pub record Fits (f : Fields) : Type 0 where
  pub width : f.width < 256 ^ 2
  pub height : f.height < 256 ^ 2
  pub budget : f.budget < 256 ^ 2
  pub part : f.part < 256 ^ 2
  pub max_frames : f.max_frames < 256 ^ 4
  pub lag : f.lag < 256 ^ 2
  pub start : f.start < 256 ^ 4
  pub take_id : length f.take_id ≡ 16
  pub encoder : length f.encoder ≡ 4

-- the fields that were spelled stand in the spelling
pub fields_back : (f : Fields) → Fits f → fields_of (spelling f) ≡ f
unfolding fields_of spelling
fields_back f fits = λ i. record {
  width = big_number-reads_back 2 f.width [] fits.width i;
  height = big_number-reads_back 2 f.height [] fits.height i;
  interlace = f.interlace;
  rate = f.rate;
  aspect = f.aspect;
  primaries = f.primaries;
  transfer = f.transfer;
  matrix = f.matrix;
  log2 = f.log2;
  qmin = f.qmin;
  qmax = f.qmax;
  weights = f.weights;
  coding = f.coding;
  drop = f.drop;
  budget = big_number-reads_back 2 f.budget [] fits.budget i;
  part = big_number-reads_back 2 f.part [] fits.part i;
  max_frames = big_number-reads_back 4 f.max_frames [] fits.max_frames i;
  lag = big_number-reads_back 2 f.lag [] fits.lag i;
  start = big_number-reads_back 4 f.start [] fits.start i;
  take_id = first_part 16 f.take_id f.encoder (replicate 12 0) fits.take_id i;
  encoder = second_part 16 4 f.take_id f.encoder (replicate 12 0) fits.take_id fits.encoder i;
}

-- a spelling has zeros between its fields
zeros_kept : (f : Fields) → Fits f → first_broken (zero_rules (spelling f)) ≡ None
unfolding zero_rules first_broken spelling
zeros_kept f fits = rw (last_part 16 4 f.take_id f.encoder (replicate 12 0) fits.take_id fits.encoder) refl

-- the spelling of a configuration is read back
pub read_back : (f : Fields) → Fits f → is_config f ≡ true → Spells (spelling f) f
unfolding first_fault
read_back f fits h =
    let back : fields_of (spelling f) ≡ f = fields_back f fits in
    let kept : first_broken (field_rules (fields_of (spelling f))) ≡ None =
    subst (λ (g : Fields). first_broken (field_rules g) ≡ None) (sym back) (config_keeps f h) in
    record {
      kept = broken_later (field_rules (fields_of (spelling f))) (zero_rules (spelling f)) kept ∙ zeros_kept f fits;
      stand = back;
      spelled = refl;
    }

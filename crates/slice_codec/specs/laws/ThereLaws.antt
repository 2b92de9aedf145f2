-- A coded slice gives samples back: proved here, for proofs to cite.
use Rattle.std.proofs.Common.{◌≡◌, ◌≤◌, ◌<◌, ◌+◌, ◌-◌, ◌*◌, ◌/◌, ◌%◌, ℕ, zero, suc, ℤ, pos, negsuc, true, eqb, if◌then◌else◌, ◌==◌, List, [], ◌∷◌, ◌++◌, map, length, take, drop, get_or}
use Rattle.std.proofs.Common.{slice_index, replicate, arith, sym, ap, subst, refl, ◌∙◌, append_assoc, inl, inr}
use Rattle.std.specs.List.{range_with_len}
use Rattle.std.proofs.lemmas.Bool.{agree_below, agree_below_at, cases_lt, eqb-true}
use Rattle.std.proofs.lemmas.List.{take_at, drop_at, drop-drop, get_or_past, length-append, length-replicate, length-take-le, length-drop}
use Rattle.std.proofs.lemmas.List.FromFn.{length-map-range_with_len, get_or-map-range_with_len}
use Rattle.std.proofs.lemmas.Nat.{div-mul-add, mod-mul-add}
use Rattle.rec_bytes.specs.Configuration.{Fields}
use Rattle.prores_scan.specs.declared.scans.Scan.{Scan}
use Rattle.prores_scan.specs.declared.scans.Scan.TheVariants.{Progressive, Field}
use Rattle.prores_scan.specs.Scans.{progressive_places, field_places, places, place_of}
use Rattle.prores_scan.specs.WeightsAndScales.{scale_of}
use Rattle.slice_levels.specs.Interleaved.{entry_of, IsBlockOf}
use Rattle.slice_levels.specs.Products.{AreProductsOf, product_at}
use Rattle.slice_levels.specs.Rebuilt.{AreRebuilt}
use Rattle.slice_levels.specs.laws.EntryLaws.{entry_within}
use Rattle.slice_levels.specs.laws.PlaceLaws.{place_below}
use Rattle.whole_transform.specs.Sums.{at}
use Rattle.whole_transform.specs.Transform.{IsInverse, clamped, inverse_sum, cell, sample}
use Rattle.picture_plane.specs.declared.planes.Plane.{Plane}
use Rattle.picture_plane.specs.declared.planes.Plane.TheVariants.{Y, Cb, Cr}
use Rattle.picture_plane.specs.Blocks.{blocks_in, blocks_of}
use Rattle.slice_codec.specs.Setups.{Setup, weights_of}
use Rattle.slice_codec.specs.Coded.{IsSpelledPart, IsCodedSlice, IsRebuiltSlice}

-- the values of a function from 0 on
abbrev table : {X : Type 0} → ℕ → (ℕ → X) → List X
table n f = map f (range_with_len 0 n)

table_at : {X : Type 0} (n : ℕ) (f : ℕ → X) (i : ℕ) (d : X) → i < n → get_or (table n f) i d ≡ f i
table_at n f i d lt = get_or-map-range_with_len f 0 n i i d lt (omega arith)

-- where a number stands in a list
unfoldable find_in : List ℕ → ℕ → ℕ
find_in [] p = 0
find_in (x ∷ xs) p = if x == p then 0 else suc (find_in xs p)

found_all : (scan : Scan) → agree_below (λ k. eqb (find_in (places scan) (get_or (places scan) k 0)) k) (λ n. true) 64 ≡ true
unfolding progressive_places field_places find_in
found_all Progressive = refl
found_all Field = refl

-- a place of a scan stands where it stands
found : (scan : Scan) (k : ℕ) → k < 64 → find_in (places scan) (place_of scan k) ≡ k
found scan k lt = eqb-true _ _ (agree_below_at (λ n. eqb (find_in (places scan) (get_or (places scan) n 0)) n) (λ n. true) 64 k (found_all scan) lt)

-- the products of levels, interleaved
unfoldable products_of : Scan → List ℕ → ℕ → ℕ → List ℤ → List ℤ
products_of scan weights scale count levels = table (64 * count) (λ n. product_at scan weights scale count levels (n / count) (n % count))

are_products : (scan : Scan) (weights : List ℕ) (scale count : ℕ) (levels : List ℤ)
    → AreProductsOf scan weights scale count levels (products_of scan weights scale count levels)
unfolding products_of
are_products scan weights scale count levels b k b_lt k_lt =
    table_at (64 * count) (λ n. product_at scan weights scale count levels (n / count) (n % count)) (entry_of count k b) (pos 0) (entry_within count b k b_lt k_lt)
    ∙ rw (div-mul-add k count b b_lt, mod-mul-add k count b b_lt) refl

-- a block of them in raster order
unfoldable raster_of : Scan → ℕ → List ℤ → ℕ → List ℤ
raster_of scan count products b = table 64 (λ p. at products (entry_of count (find_in (places scan) p) b))

is_raster : (scan : Scan) (count : ℕ) (products : List ℤ) (b : ℕ) → IsBlockOf scan count products b (raster_of scan count products b)
unfolding raster_of
is_raster scan count products b k lt =
    table_at 64 (λ p. at products (entry_of count (find_in (places scan) p) b)) (place_of scan k) (pos 0) (place_below scan k lt)
    ∙ ap (λ (n : ℕ). at products (entry_of count n b)) (found scan k lt)

-- its samples
unfoldable block_from : List ℤ → List ℕ
block_from raster = table 64 (λ p. sample (inverse_sum (cell raster) (p / 8) (p % 8)))

is_inverse : (raster : List ℤ) → IsInverse raster (block_from raster)
unfolding block_from
is_inverse raster y x y_lt x_lt =
    let row : (8 * y + x) / 8 ≡ y = omega (arith, x_lt) in
    let column : (8 * y + x) % 8 ≡ x = omega (arith, x_lt) in
    table_at 64 (λ p. sample (inverse_sum (cell raster) (p / 8) (p % 8))) (8 * y + x) 0 (omega (arith, y_lt, x_lt))
    ∙ rw (row, column) refl

-- the blocks of levels
unfoldable blocks_from : Scan → List ℕ → ℕ → ℕ → List ℤ → List (List ℕ)
blocks_from scan weights scale count levels =
    table count (λ b. block_from (raster_of scan count (products_of scan weights scale count levels) b))

blocks_long : (scan : Scan) (weights : List ℕ) (scale count : ℕ) (levels : List ℤ) → length (blocks_from scan weights scale count levels) ≡ count
unfolding blocks_from
blocks_long scan weights scale count levels =
    length-map-range_with_len (λ b. block_from (raster_of scan count (products_of scan weights scale count levels) b)) 0 count

block_stands : (scan : Scan) (weights : List ℕ) (scale count : ℕ) (levels : List ℤ) (b : ℕ) → b < count
    → get_or (blocks_from scan weights scale count levels) b [] ≡ block_from (raster_of scan count (products_of scan weights scale count levels) b)
unfolding blocks_from
block_stands scan weights scale count levels b lt =
    table_at count (λ b. block_from (raster_of scan count (products_of scan weights scale count levels) b)) b [] lt

-- levels give blocks back
are_rebuilt : (scan : Scan) (weights : List ℕ) (scale count : ℕ) (levels : List ℤ)
    → AreRebuilt scan weights scale levels (blocks_from scan weights scale count levels)
are_rebuilt scan weights scale count levels =
    let products = products_of scan weights scale count levels in
    let long = blocks_long scan weights scale count levels in
    record {
      products = products;
      multiplied = rw long (are_products scan weights scale count levels);
      inverse = rw long (λ b lt. record {
        raster = raster_of scan count products b;
        ordered = is_raster scan count products b;
        inverse = rw (block_stands scan weights scale count levels b lt) (is_inverse (raster_of scan count products b));
      });
    }

abbrev blank : List ℕ
blank = replicate 64 0

-- blocks, and others up to so many
unfoldable filled : ℕ → List (List ℕ) → List (List ℕ)
filled n blocks = blocks ++ replicate (n - length blocks) blank

filled_long : (n : ℕ) (blocks : List (List ℕ)) → length blocks ≤ n → length (filled n blocks) ≡ n
unfolding filled
filled_long n blocks few =
    omega (arith, few, length-append blocks (replicate (n - length blocks) blank), length-replicate (n - length blocks) blank)

filled_front : (n k : ℕ) (blocks behind : List (List ℕ)) → length blocks ≡ k → take k (filled n blocks ++ behind) ≡ blocks
unfolding filled
filled_front n k blocks behind long =
    ap (take k) (append_assoc blocks (replicate (n - length blocks) blank) behind)
    ∙ take_at blocks (replicate (n - length blocks) blank ++ behind) k long

-- the samples of a slice from the blocks of its planes
unfoldable slice_samples : (Plane → List (List ℕ)) → List (List ℕ)
slice_samples blocks = filled 32 (blocks Y) ++ (filled 16 (blocks Cb) ++ (filled 16 (blocks Cr) ++ []))

blocks_stand : (blocks : Plane → List (List ℕ)) (count : ℕ) → count ≤ 8 → ((plane : Plane) → length (blocks plane) ≡ blocks_of plane count)
    → (plane : Plane) → blocks_in (slice_samples blocks) plane count ≡ blocks plane
unfolding slice_samples
blocks_stand blocks count few long Y =
    filled_front 32 (4 * count) (blocks Y) (filled 16 (blocks Cb) ++ (filled 16 (blocks Cr) ++ [])) (long Y)
blocks_stand blocks count few long Cb =
    let behind = drop_at (filled 32 (blocks Y)) (filled 16 (blocks Cb) ++ (filled 16 (blocks Cr) ++ [])) 32 (filled_long 32 (blocks Y) (omega (arith, few, long Y))) in
    ap (take (2 * count)) behind ∙ filled_front 16 (2 * count) (blocks Cb) (filled 16 (blocks Cr) ++ []) (long Cb)
blocks_stand blocks count few long Cr =
    let behind = drop_at (filled 32 (blocks Y)) (filled 16 (blocks Cb) ++ (filled 16 (blocks Cr) ++ [])) 32 (filled_long 32 (blocks Y) (omega (arith, few, long Y))) in
    let last = drop_at (filled 16 (blocks Cb)) (filled 16 (blocks Cr) ++ []) 16 (filled_long 16 (blocks Cb) (omega (arith, few, long Cb))) in
    let whole : drop 48 (slice_samples blocks) ≡ filled 16 (blocks Cr) ++ [] =
    sym (drop-drop 16 32 (slice_samples blocks)) ∙ (ap (drop 16) behind ∙ last) in
    ap (take (2 * count)) whole ∙ filled_front 16 (2 * count) (blocks Cr) [] (long Cr)

-- a plane of 8 macroblocks or fewer has all its blocks
pub blocks_counted : (samples : List (List ℕ)) (plane : Plane) (count : ℕ) → length samples ≡ 64 → count ≤ 8
    → length (blocks_in samples plane count) ≡ blocks_of plane count
blocks_counted samples Y count long few = length-take-le (4 * count) samples (omega (arith, long, few))
blocks_counted samples Cb count long few = length-take-le (2 * count) (drop 32 samples) (omega (arith, long, few, length-drop 32 samples))
blocks_counted samples Cr count long few = length-take-le (2 * count) (drop 48 samples) (omega (arith, long, few, length-drop 48 samples))

-- the part of a plane
record HasLevels (setup : Setup) (index : ℕ) (plane : Plane) (blocks : List (List ℕ)) : Type 0 where
  bits : List ℕ
  part : IsSpelledPart setup index plane blocks bits

levels_of_plane : (fields : Fields) (count : ℕ) (source : List (List ℕ)) (bytes : List ℕ) (coded : IsCodedSlice fields count source bytes) (plane : Plane)
    → HasLevels coded.setup coded.index plane (blocks_in source plane count)
levels_of_plane fields count source bytes coded Y = record { bits = coded.coded.y; part = coded.coded.y_spelled }
levels_of_plane fields count source bytes coded Cb = record { bits = coded.coded.cb; part = coded.coded.cb_spelled }
levels_of_plane fields count source bytes coded Cr = record { bits = coded.coded.cr; part = coded.coded.cr_spelled }

-- a sample that is given back has ten bits
clamped_small : (total : ℤ) → clamped total < 1024
unfolding clamped
clamped_small (pos n) = omega arith
clamped_small (negsuc n) = omega arith

block_small : (raster : List ℤ) (k : ℕ) → slice_index (block_from raster) k < 1024
unfolding block_from sample
block_small raster k =
    let value : ℕ → ℕ = λ p. sample (inverse_sum (cell raster) (p / 8) (p % 8)) in
    elim (cases_lt k 64) [
      | inl lt ↦ subst (λ (x : ℕ). x < 1024) (sym (table_at 64 value k 0 lt)) (clamped_small _)
      | inr ge ↦ subst (λ (x : ℕ). x < 1024) (sym (get_or_past (table 64 value) k 0 (omega (arith, ge, length-map-range_with_len value 0 64)))) (omega arith)
    ]

-- all samples have ten bits
abbrev pub AreTenBits : List (List ℕ) → Type 0
AreTenBits blocks = (block place : ℕ) → slice_index (get_or blocks block []) place < 1024

blocks_small : (scan : Scan) (weights : List ℕ) (scale count : ℕ) (levels : List ℤ) → AreTenBits (blocks_from scan weights scale count levels)
blocks_small scan weights scale count levels b k =
    let blocks = blocks_from scan weights scale count levels in
    elim (cases_lt b count) [
      | inl lt ↦ subst (λ (xs : List ℕ). slice_index xs k < 1024) (sym (block_stands scan weights scale count levels b lt)) (block_small _ k)
      | inr ge ↦
          let past = get_or_past blocks b [] (omega (arith, ge, blocks_long scan weights scale count levels)) in
          subst (λ (xs : List ℕ). slice_index xs k < 1024) (sym past) (omega arith)
    ]

zeros_small : (n k : ℕ) → slice_index (replicate n 0) k < 1024
zeros_small zero k = omega arith
zeros_small (suc n) zero = omega arith
zeros_small (suc n) (suc k) = zeros_small n k

blanks_small : (n : ℕ) → AreTenBits (replicate n blank)
blanks_small zero b k = omega arith
blanks_small (suc n) zero k = zeros_small 64 k
blanks_small (suc n) (suc b) k = blanks_small n b k

both_small : (xs ys : List (List ℕ)) → AreTenBits xs → AreTenBits ys → AreTenBits (xs ++ ys)
both_small [] ys one two b k = two b k
both_small (x ∷ xs) ys one two zero k = one 0 k
both_small (x ∷ xs) ys one two (suc b) k = both_small xs ys (λ c. one (suc c)) two b k

filled_small : (n : ℕ) (blocks : List (List ℕ)) → AreTenBits blocks → AreTenBits (filled n blocks)
unfolding filled
filled_small n blocks small = both_small blocks (replicate (n - length blocks) blank) small (blanks_small (n - length blocks))

samples_small : (blocks : Plane → List (List ℕ)) → ((plane : Plane) → AreTenBits (blocks plane)) → AreTenBits (slice_samples blocks)
unfolding slice_samples
samples_small blocks small =
    let none : AreTenBits [] = blanks_small 0 in
    let red = both_small (filled 16 (blocks Cr)) [] (filled_small 16 (blocks Cr) (small Cr)) none in
    let blue = both_small (filled 16 (blocks Cb)) (filled 16 (blocks Cr) ++ []) (filled_small 16 (blocks Cb) (small Cb)) red in
    both_small (filled 32 (blocks Y)) (filled 16 (blocks Cb) ++ (filled 16 (blocks Cr) ++ [])) (filled_small 32 (blocks Y) (small Y)) blue

-- a coded slice gives samples of ten bits back
pub rebuilt_slice_is_there : (fields : Fields) (count : ℕ) (source : List (List ℕ)) (bytes : List ℕ) → count ≤ 8 → length source ≡ 64
    → IsCodedSlice fields count source bytes → (samples : List (List ℕ)) × IsRebuiltSlice fields count source samples × AreTenBits samples
rebuilt_slice_is_there fields count source bytes few whole coded =
    let levels : Plane → List ℤ = λ plane. (levels_of_plane fields count source bytes coded plane).part.levels in
    let blocks : Plane → List (List ℕ) = λ plane. blocks_from coded.setup.scan (weights_of coded.setup plane) (scale_of coded.index) (blocks_of plane count) (levels plane) in
    let long : (plane : Plane) → length (blocks plane) ≡ blocks_of plane count =
    λ plane. blocks_long coded.setup.scan (weights_of coded.setup plane) (scale_of coded.index) (blocks_of plane count) (levels plane) in (
      slice_samples blocks,
      record {
        setup = coded.setup;
        of_configuration = coded.of_configuration;
        index = coded.index;
        chosen = coded.chosen;
        parts = λ plane. rw (blocks_stand blocks count few long plane) (record {
          same = long plane ∙ sym (blocks_counted source plane count whole few);
          levels = levels plane;
          quantised = (levels_of_plane fields count source bytes coded plane).part.quantised;
          inverse = are_rebuilt coded.setup.scan (weights_of coded.setup plane) (scale_of coded.index) (blocks_of plane count) (levels plane);
        });
      },
      samples_small blocks (λ plane.
          blocks_small coded.setup.scan (weights_of coded.setup plane) (scale_of coded.index) (blocks_of plane count) (levels plane)),
    )

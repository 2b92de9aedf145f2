-- How many bytes the parts of a written frame have: proved here, for proofs to cite.
use Rattle.std.proofs.Common.{◌≡◌, ℕ, suc, List, [], ◌∷◌, ◌+◌, ◌*◌, ◌++◌, length, sum, refl, ap, arith}
use Rattle.std.proofs.lemmas.List.{length-append}
use Rattle.std.proofs.lemmas.List.Sums.{sum_by-cons}
use Rattle.byteorder.specs.Endian.{big_bytes}
use Rattle.frame_syntax.specs.Written.{joined, lengths, table_of, format_bytes, matrix_bytes, frame_front, picture_front, picture_bytes}
use Rattle.frame_syntax.specs.declared.frame_head.FrameHead.{FrameHead}

-- two bytes for each entry of a slice table
pub length-table_of : (sizes : List ℕ) → length (table_of sizes) ≡ 2 * length sizes
length-table_of [] = refl
length-table_of (size ∷ sizes) =
    let rest = length-table_of sizes in
    omega (arith, length-append (big_bytes 2 size) (table_of sizes), rest)

-- the slices have as many bytes as their lengths say
pub length-joined : (slices : List (List ℕ)) → length (joined slices) ≡ sum (lengths slices)
length-joined [] = refl
length-joined (slice ∷ slices) =
    let rest = length-joined slices in
    omega (arith, length-append slice (joined slices), rest, sum_by-cons (λ (n : ℕ). n) (length slice) (lengths slices))

-- and there is a length for each
pub length-lengths : (slices : List (List ℕ)) → length (lengths slices) ≡ length slices
length-lengths [] = refl
length-lengths (slice ∷ slices) = ap suc (length-lengths slices)

-- the bytes before the coded pictures are as many as the header asks for
pub length-frame_front : (head : FrameHead) (n : ℕ) → length head.encoder ≡ 4 → length (frame_front head n) ≡ 28 + length (matrix_bytes head)
length-frame_front head n sized =
    omega (arith, sized, length-append (head.encoder ++ format_bytes head) (matrix_bytes head), length-append head.encoder (format_bytes head))

-- the bytes before the slices of a coded picture are as many as its slices ask for
pub length-picture_front : (log2 : ℕ) (sizes : List ℕ) → length (picture_front log2 sizes) ≡ 8 + 2 * length sizes
unfolding picture_front
length-picture_front log2 sizes = omega (arith, length-table_of sizes)

-- a coded picture has as many bytes as its header says
pub length-picture : (log2 : ℕ) (slices : List (List ℕ)) → length (picture_bytes log2 slices) ≡ 8 + 2 * length (lengths slices) + sum (lengths slices)
length-picture log2 slices =
    omega (arith, length-append (picture_front log2 (lengths slices)) (joined slices), length-picture_front log2 (lengths slices), length-joined slices)

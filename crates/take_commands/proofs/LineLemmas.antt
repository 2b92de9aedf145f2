-- The parts of the line that says what a file holds.
use Rattle.std.proofs.Common.{◌≡◌, ◌≤◌, ℕ, zero, suc, List, [], ◌∷◌, length, refl, arith}
use Rattle.std.proofs.lemmas.Bool.{le-leb}
use Rattle.std.proofs.lemmas.List.{length-append}
use Rattle.std.specs.Fmt.Cut.{cut_to}
use Rattle.uuid.specs.Text.{by_index, hyphenated_text, lower}

-- a text that fits isn't cut
pub cut_whole : (room : ℕ) (text : List ℕ) → length text ≤ room → cut_to room text ≡ text
unfolding cut_to
cut_whole room text fits = rw (le-leb (length text) room fits) refl

-- a list by place has as many items as places
length-by_index : (n : ℕ) (f : ℕ → ℕ) → length (by_index n f) ≡ n
unfolding by_index
length-by_index zero f = refl
length-by_index (suc n) f = let front = length-by_index n f in let more = length-append (by_index n f) (f n ∷ []) in omega arith

-- an identifier has 36 characters
pub length-identifier : (id : List ℕ) → length (hyphenated_text lower id) ≡ 36
length-identifier id = length-by_index 36 _

use Rattle.std.proofs.Common.{◌≡◌, ℕ, ◌+◌, ◌-◌, ◌≤◌, ◌<◌, List, [], length, drop, take, set, suc, sym, ◌∙◌, ◌++◌, ◌∷◌, ℤ, pos, ◌-ℤ◌, ◌+ℤ◌, negsuc, ap, subst, arith, slice_index_or}
use Rattle.std.proofs.lemmas.Int.{ints}
use Rattle.std.specs.List.{fold}
use Rattle.std.proofs.lemmas.List.Sums.{fold-append}
use Rattle.std.proofs.Math.Seq.{take-suc-set}
use Rattle.bit_io.specs.Read.{Reading}
use Rattle.slice_parts.specs.Joined.{ReadsAll}
use Rattle.slice_parts.specs.inner.Progress.{ReadsOne}
use Rattle.slice_parts.proofs.ReadsLemmas.{reads_none, reads_more}
use Rattle.slice_parts.specs.Joined.{Split}
use Rattle.slice_parts.specs.Dc.{DcState, DcSpells, dc_next, IsDc, turned}
use Rattle.slice_parts.specs.Dc.DcState.{First, Behind}
use Rattle.slice_parts.specs.laws.JoinedLaws.{joined_at}

pub dc_first : (levels : List ℤ) (bits : List ℕ) → 1 ≤ length levels → IsDc First levels bits
    → Split (λ one. DcSpells First one (slice_index_or levels 0 (pos 0))) (IsDc (Behind (slice_index_or levels 0 (pos 0)) (pos 3)) (drop 1 levels)) bits
dc_first levels bits some is = joined_at DcSpells dc_next First levels 0 (pos 0) bits (omega arith) is

pub dc_step : (levels : List ℤ) (k : ℕ) (difference : ℤ) (bits : List ℕ) → k < length levels
    → IsDc (Behind (slice_index_or levels (k - 1) (pos 0)) difference) (drop k levels) bits
    → Split (λ one. DcSpells (Behind (slice_index_or levels (k - 1) (pos 0)) difference) one (slice_index_or levels k (pos 0)))
    (IsDc (Behind (slice_index_or levels (k + 1 - 1) (pos 0)) (slice_index_or levels k (pos 0) -ℤ slice_index_or levels (k - 1) (pos 0))) (drop (k + 1) levels)) bits
dc_step levels k difference bits lt is =
    let before : ℤ = slice_index_or levels (k - 1) (pos 0) in
    let level : ℤ = slice_index_or levels k (pos 0) in
    let same : k ≡ k + 1 - 1 = omega arith in
    let P : ℕ → Type 0 = λ j. Split (λ one. DcSpells (Behind before difference) one level) (IsDc (Behind (slice_index_or levels j (pos 0)) (level -ℤ before)) (drop (k + 1) levels)) bits in
    subst P same (joined_at DcSpells dc_next (Behind before difference) levels k (pos 0) bits lt is)

-- a difference that is turned twice is as it was
pub turned_back : (difference level step : ℤ) → turned difference ((level +ℤ turned difference step) -ℤ level) ≡ step
turned_back (pos n) level step = omega (arith, ints)
turned_back (negsuc n) level step = omega (arith, ints)

-- one more level is read, and stands at its place
pub dc_reads_more : (start here behind : Reading) (out : List ℤ) (k : ℕ) (level difference next : ℤ) → k < length out
    → fold dc_next First (take k out) ≡ Behind level difference → ReadsAll DcSpells dc_next First start here (take k out)
    → ReadsOne DcSpells (Behind level difference) here behind next
    → (fold dc_next First (take (k + 1) (set out k next)) ≡ Behind next (next -ℤ level)) × ReadsAll DcSpells dc_next First start behind (take (k + 1) (set out k next))
dc_reads_more start here behind out k level difference next lt state read one =
    let more : k + 1 ≡ suc k = omega arith in
    let e : take (k + 1) (set out k next) ≡ take k out ++ next ∷ [] = ap (λ (n : ℕ). take n (set out k next)) more ∙ take-suc-set out k next lt in
    let P : DcState → Type 0 = λ s. ReadsOne DcSpells s here behind next in (
      ap (fold dc_next First) e ∙ (fold-append dc_next First (take k out) (next ∷ []) ∙ ap (λ (s : DcState). dc_next s next) state),
      subst (ReadsAll DcSpells dc_next First start behind) (sym e) (reads_more DcSpells dc_next First start here behind (take k out) next read (subst P (sym state) one)),
    )

pub dc_reads_first : (start behind : Reading) (out : List ℤ) (level : ℤ) → 1 ≤ length out → ReadsOne DcSpells First start behind level
    → (fold dc_next First (take 1 (set out 0 level)) ≡ Behind level (pos 3)) × ReadsAll DcSpells dc_next First start behind (take 1 (set out 0 level))
dc_reads_first start behind out level some one =
    let e : take 1 (set out 0 level) ≡ level ∷ [] = take-suc-set out 0 level (omega arith) in
    (ap (fold dc_next First) e, subst (ReadsAll DcSpells dc_next First start behind) (sym e) (reads_more DcSpells dc_next First start start behind [] level (reads_none DcSpells dc_next First start) one))

-- Sets that were written one behind the other.
use Rattle.std.proofs.Common.{◌≡◌, ℕ, ◌+◌, ◌≤◌, List, [], ◌∷◌, ◌++◌, length, refl, sym, ap, ◌∙◌, subst, arith, append-nil, length-append}
use Rattle.std.specs.List.{flat_map}
use Rattle.rec_bytes.specs.Places.{with_bytes}
use Rattle.rec_bytes.specs.laws.Places.{with_bytes-more}
use Rattle.local_sets.specs.laws.Lengths.{length-local_set}
use Rattle.local_sets.specs.Sets.{items_bytes}
use Rattle.local_sets.specs.declared.set.Item.{Item}
use Rattle.mxf_metadata.specs.laws.Lengths.{joined_bytes}
use Rattle.mxf_names.specs.Keys.{set_key}
use Rattle.mxf_metadata.specs.Metadata.{Set, set_bytes, metadata_set}
use Rattle.mxf_metadata.specs.inner.Writing.{Written}

-- sets behind sets
pub joined : (old mid new : List ℕ) (at end next : ℕ) (xs ys : List Set) → end ≤ length old → Written old at xs end mid → Written mid end ys next new → Written old at (xs ++ ys) next new
joined old mid new at end next xs ys room first second =
    let all = joined_bytes xs ys in
    let a : List ℕ = flat_map set_bytes xs in
    let b : List ℕ = flat_map set_bytes ys in
    let size : length (flat_map set_bytes (xs ++ ys)) ≡ length a + length b = ap (λ (bytes : List ℕ). length bytes) all ∙ length-append a b in
    record {
      place = omega (arith, first.place, second.place, size);
      bytes = with_bytes-more old at end a b mid new first.bytes first.place room second.bytes ∙ ap (λ (bytes : List ℕ). with_bytes old at bytes) (sym all);
    }

-- a set of items that are known
pub known : (old now : List ℕ) (at end kind : ℕ) (items same : List Item) → items ≡ same → Written old at (metadata_set kind items ∷ []) end now → Written old at (metadata_set kind same ∷ []) end now
known old now at end kind items same e h = subst (λ (list : List Item). Written old at (metadata_set kind list ∷ []) end now) e h

-- one set
pub one : (old now : List ℕ) (at end kind : ℕ) (items : List Item) → end ≡ at + 20 + length (items_bytes items) → now ≡ with_bytes old at (set_bytes (metadata_set kind items)) → Written old at (metadata_set kind items ∷ []) end now
one old now at end kind items place bytes =
    let same : flat_map set_bytes (metadata_set kind items ∷ []) ≡ set_bytes (metadata_set kind items) = append-nil (set_bytes (metadata_set kind items)) in
    record {
      place = omega (arith, place, ap (λ (list : List ℕ). length list) same, length-local_set (set_key kind) items refl);
      bytes = bytes ∙ ap (λ (list : List ℕ). with_bytes old at list) (sym same);
    }

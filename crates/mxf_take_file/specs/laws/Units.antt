-- What the places of units tell.
use Rattle.std.proofs.Common.{◌≡◌, ℕ, ◌+◌, List, [], length, take, map, refl, sym, ap, ◌∙◌}
use Rattle.take_layout.specs.Grown.{grown, lying, lying_behind}
use Rattle.take_layout.specs.laws.Grown as laws
use Rattle.take_layout.specs.declared.place.Place.{Place}
use Rattle.mxf_take_file.specs.Essence.{essence, offsets_behind}
use Rattle.mxf_take_file.specs.Extents.{file_len, extents}
use Rattle.mxf_take_file.specs.inner.Kept.{end_behind, total_behind, extents_kept}
use Rattle.mxf_take_file.specs.declared.lead.TheConstants.{HEADER_LEN}
use Rattle.mxf_take_file.specs.laws.Lengths.{AreLeads, grown_len, essence_more}

-- the stream offset of the unit behind others
abbrev pub essence_len : List (List ℕ) → ℕ
essence_len units = length (essence units)

-- the stream offsets of units
lying_offsets : (head : List ℕ) (lead : List (List ℕ) → ℕ → List ℕ) (before units : List (List ℕ))
    → map (λ (place : Place). place.stream) (lying_behind essence_len head lead before units) ≡ offsets_behind before units
unfolding offsets_behind
lying_offsets head lead before units =
    laws.lying_streams essence_len head lead offsets_behind (λ before. refl) (λ before units unit. refl) before units

-- where they end
lying_end : (head : List ℕ) (lead : List (List ℕ) → ℕ → List ℕ) (units : List (List ℕ))
    → end_behind (length (grown head lead [])) (lying essence_len head lead units) ≡ length (grown head lead units)
unfolding end_behind
lying_end head lead units = laws.lying_end essence_len head lead end_behind (λ n. refl) (λ n place places. refl) [] units

-- how long their elements are
lying_total : (head : List ℕ) (lead : List (List ℕ) → ℕ → List ℕ) (units : List (List ℕ))
    → total_behind 0 (lying essence_len head lead units) ≡ length (essence units)
unfolding total_behind
lying_total head lead units =
    laws.lying_last essence_len head lead (λ place. place.stream + (24 + place.len)) total_behind essence_len (λ n. refl) (λ n place places. refl)
    (λ before unit. sym (essence_more before unit)) [] units

-- the places say the extents of the units
pub lying_extents : (part : ℕ) (head : List ℕ) (lead : List (List ℕ) → ℕ → List ℕ) (units : List (List ℕ)) → length head ≡ HEADER_LEN → AreLeads part lead
    → extents_kept (lying essence_len head lead units) ≡ extents part units
lying_extents part head lead units long h =
    let end_of : (n : ℕ) → end_behind HEADER_LEN (take n (lying essence_len head lead units)) ≡ file_len part (take n units) = λ n.
    ap (λ (places : List Place). end_behind HEADER_LEN places) (laws.lying_take essence_len head lead [] units n)
    ∙ ap (λ (k : ℕ). end_behind k (lying essence_len head lead (take n units))) (sym (ap length (laws.grown_none head lead) ∙ long))
    ∙ lying_end head lead (take n units)
    ∙ grown_len part head lead (take n units) long h in
    λ i. record {
      count = laws.lying_count essence_len head lead [] units i;
      end_of = λ n. end_of n i;
      offsets = lying_offsets head lead [] units i;
      total = lying_total head lead units i;
    }

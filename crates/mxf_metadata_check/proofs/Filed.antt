-- The one file package.
use Rattle.std.proofs.Common.{◌≡◌, ℕ, List, [], ◌∷◌, Option, None, sym, ap, ◌∙◌, arith}
use Rattle.local_sets.specs.Reads.{items_in}
use Rattle.local_sets.specs.laws.Reads.{no_items, first_short}
use Rattle.mxf_metadata.specs.declared.tags.TheConstants.{PACKAGE_ID, SOURCE_PACKAGE_ID}
use Rattle.mxf_metadata_reader.specs.References.{first_value}
use Rattle.mxf_op1a.specs.Metadata.{SetAt, are_same, is_of_file, value_of}

no_value : (tag : ℕ) → first_value tag (items_in []) ≡ None
unfolding first_value
no_value tag = ap (first_value tag) (no_items 0 [] (first_short [] (omega arith)))

nothing : (other : Option (List ℕ)) → are_same (first_value PACKAGE_ID (items_in [])) other ≡ are_same None other
nothing other = ap (λ (o : Option (List ℕ)). are_same o other) (no_value PACKAGE_ID)

pub file_none : (files : List SetAt) (clip : SetAt) → files ≡ []
    → is_of_file files clip ≡ are_same (first_value PACKAGE_ID (items_in [])) (value_of SOURCE_PACKAGE_ID clip)
file_none files clip e = ap (λ (xs : List SetAt). is_of_file xs clip) e ∙ sym (nothing (value_of SOURCE_PACKAGE_ID clip))

pub file_more : (files : List SetAt) (s other : SetAt) (rest : List SetAt) (clip : SetAt) → files ≡ s ∷ other ∷ rest
    → is_of_file files clip ≡ are_same (first_value PACKAGE_ID (items_in [])) (value_of SOURCE_PACKAGE_ID clip)
file_more files s other rest clip e = ap (λ (xs : List SetAt). is_of_file xs clip) e ∙ sym (nothing (value_of SOURCE_PACKAGE_ID clip))

pub file_one : (files : List SetAt) (s clip : SetAt) → files ≡ s ∷ [] → is_of_file files clip ≡ are_same (value_of PACKAGE_ID s) (value_of SOURCE_PACKAGE_ID clip)
file_one files s clip e = ap (λ (xs : List SetAt). is_of_file xs clip) e

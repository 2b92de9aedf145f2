-- The clauses on metadata, over what is read of header and footer.
use Rattle.std.proofs.Common.{◌≡◌, ℕ, min, List, [], ◌∷◌, ◌++◌, length, replicate, Option, Some, None, refl, sym, ap, ap₂, ◌∙◌, arith, append-nil}
use Rattle.std.proofs.lemmas.List.{length-map}
use Rattle.std.specs.List.{flat_map}
use Rattle.byteorder.specs.Endian.{big_bytes}
use Rattle.mxf_metadata_check.specs.Metadata.{take_id_in}
use Rattle.mxf_metadata_reader.specs.References.{first_value}
use Rattle.mxf_op1a.specs.Clauses.{broken_7, broken_8, first_place}
use Rattle.mxf_op1a.specs.Contents.{Placed, is_primer}
use Rattle.mxf_op1a.specs.Metadata.{SetAt, lasts, least, least_behind, places_but, sets_from, sets_of, wrong_from, wrong_metadata}
use Rattle.mxf_op1a.specs.Partitions.{File, Part, elements, file_of, from_first}
use Rattle.mxf_reader.specs.declared.file.SeenFile.{SeenFile}
use Rattle.mxf_reader.specs.inner.Files.{AreSeen}
use Rattle.mxf_reader.specs.inner.Metadata.{lesser}
use Rattle.take_layout.specs.declared.place.Place.{Place}

-- the least of a place and others, of which some are behind the rest
min_turned : (a b c : ℕ) → min (min a b) c ≡ min a (min b c)
min_turned a b c = omega arith

behind_min : (a b : ℕ) (xs : List ℕ) → least_behind (min a b) xs ≡ min a (least_behind b xs)
unfolding least_behind
behind_min a b [] = refl
behind_min a b (x ∷ xs) = ap (λ (n : ℕ). least_behind n xs) (min_turned a b x) ∙ behind_min a (min b x) xs

behind_both : (a : ℕ) (xs : List ℕ) (b : ℕ) (ys : List ℕ) → least_behind a (xs ++ b ∷ ys) ≡ min (least_behind a xs) (least_behind b ys)
unfolding least_behind
behind_both a [] b ys = behind_min a b ys
behind_both a (x ∷ xs) b ys = behind_both (min a x) xs b ys

-- the least of two lists is the lesser of both leasts
least_both : (xs ys : List ℕ) → least (xs ++ ys) ≡ lesser (least xs) (least ys)
least_both [] ys = refl
least_both (x ∷ xs) [] = ap (λ (zs : List ℕ). Some (least_behind x zs)) (append-nil xs)
least_both (x ∷ xs) (y ∷ ys) = ap Some (behind_both x xs y ys)

-- of no partitions, of a header alone, and of header and footer
pub wrong_none : (len : ℕ) (all : List Part) → all ≡ [] → None ≡ broken_7 len (file_of all)
wrong_none len all e = sym (ap (λ (ps : List Part). broken_7 len (file_of ps)) e)

pub wrong_one : (len : ℕ) (file : File) (header : Part) (place : Option ℕ) → file.header ≡ header ∷ [] → file.footer ≡ []
    → place ≡ least (wrong_metadata len header)
    → place ≡ broken_7 len file
wrong_one len file header place h f is =
    is
    ∙ ap least (sym (append-nil (wrong_metadata len header ++ []) ∙ append-nil (wrong_metadata len header)))
    ∙ sym (ap₂ (λ (hs fs : List Part). least (flat_map (wrong_metadata len) hs ++ flat_map (wrong_metadata len) fs)) h f)

pub wrong_both : (len : ℕ) (file : File) (header footer : Part) (one other place : Option ℕ) → file.header ≡ header ∷ [] → file.footer ≡ footer ∷ []
    → one ≡ least (wrong_metadata len header) → other ≡ least (wrong_metadata len footer) → place ≡ lesser one other → place ≡ broken_7 len file
wrong_both len file header footer one other place h f is so both =
    both
    ∙ ap₂ lesser is so
    ∙ sym (least_both (wrong_metadata len header) (wrong_metadata len footer))
    ∙ ap₂ (λ (xs ys : List ℕ). least (xs ++ ys)) (sym (append-nil (wrong_metadata len header))) (sym (append-nil (wrong_metadata len footer)))
    ∙ sym (ap₂ (λ (hs fs : List Part). least (flat_map (wrong_metadata len) hs ++ flat_map (wrong_metadata len) fs)) h f)

-- durations of no footer, and of a footer
pub lasting_none : (count : ℕ) (file : File) → file.footer ≡ [] → None ≡ broken_8 count file
lasting_none count file f = sym (ap (λ (fs : List Part). first_place (places_but (lasts (big_bytes 8 count)) (flat_map sets_of fs))) f)

pub lasting_one : (count elements : ℕ) (file : File) (footer : Part) (place : Option ℕ) → file.footer ≡ footer ∷ [] → count ≡ elements
    → place ≡ first_place (places_but (lasts (big_bytes 8 count)) (sets_of footer)) → place ≡ broken_8 elements file
lasting_one count elements file footer place f same is =
    is
    ∙ ap (λ (sets : List SetAt). first_place (places_but (lasts (big_bytes 8 count)) sets)) (sym (append-nil (sets_of footer)))
    ∙ ap (λ (n : ℕ). first_place (places_but (lasts (big_bytes 8 n)) (flat_map sets_of (footer ∷ [])))) same
    ∙ sym (ap (λ (fs : List Part). first_place (places_but (lasts (big_bytes 8 elements)) (flat_map sets_of fs))) f)

-- the elements that are kept are as many as the file's
pub elements_counted : (file : SeenFile) (items : List Placed) → AreSeen items file → length file.elements.items ≡ length (elements items)
elements_counted file items h =
    sym (length-map file.elements.items (λ (e : Place). e.len))
    ∙ ap length h.sizes
    ∙ length-map (elements items) (λ (p : Placed). length p.item.value)

-- no sets name zeros
zeros_named : replicate 16 0 ≡ take_id_in []
unfolding first_value
zeros_named = refl

-- the take of no header, and of a header
pub named_none : (all : List Part) → all ≡ [] → replicate 16 0 ≡ take_id_in (flat_map sets_of (file_of all).header)
named_none all e = zeros_named ∙ sym (ap (λ (ps : List Part). take_id_in (flat_map sets_of (file_of ps).header)) e)

pub named_one : (file : File) (header : Part) (id : List ℕ) → file.header ≡ header ∷ [] → id ≡ take_id_in (sets_of header)
    → id ≡ take_id_in (flat_map sets_of file.header)
named_one file header id h is =
    is ∙ ap take_id_in (sym (append-nil (sets_of header))) ∙ sym (ap (λ (hs : List Part). take_id_in (flat_map sets_of hs)) h)

-- of a partition without a primer
pub wrong_missing : (len : ℕ) (part : Part) → from_first is_primer part.items ≡ [] → least (wrong_metadata len part) ≡ Some len
unfolding least_behind
wrong_missing len part e = ap (λ (ps : List Placed). least (wrong_from len ps)) e

pub sets_missing : (part : Part) → from_first is_primer part.items ≡ [] → sets_of part ≡ []
sets_missing part e = ap sets_from e

pub id_missing : (part : Part) → from_first is_primer part.items ≡ [] → replicate 16 0 ≡ take_id_in (sets_of part)
id_missing part e = zeros_named ∙ sym (ap take_id_in (sets_missing part e))

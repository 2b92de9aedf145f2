-- The metadata of a take's closed file name the take, and say how long it is where this is known.
use Rattle.std.proofs.Common.{◌≡◌, ℕ, Bool, cond, List, [], ◌∷◌, length, map, drop, Option, Some, None}
use Rattle.std.proofs.Common.{refl, sym, ap, subst, ◌∙◌, append-nil}
use Rattle.std.specs.Prelude.{replicate}
use Rattle.std.proofs.lemmas.Bool.{eq-eqb}
use Rattle.std.specs.List.{flat_map}
use Rattle.rec_bytes.specs.Configuration.{Fields}
use Rattle.rec_bytes.specs.Ranges.{IsInRange}
use Rattle.klv.specs.Items.{Item}
use Rattle.local_sets.specs.Sets.{raw}
use Rattle.take_layout.specs.Takes.{AreUnits}
use Rattle.mxf_names.specs.Identifiers.{AreIds, ids_of, umid}
use Rattle.mxf_names.specs.laws.Lengths.{are-ids_of, length-umid}
use Rattle.mxf_names.specs.declared.ids.Ids.{Ids}
use Rattle.mxf_metadata.specs.Durations.{HaveDuration}
use Rattle.mxf_metadata.specs.Metadata.{raw_sets, sets}
use Rattle.mxf_metadata.specs.Sets.{material_package}
use Rattle.mxf_metadata.specs.declared.tags.TheConstants.{PACKAGE_ID}
use Rattle.mxf_metadata_reader.specs.Fields.{or_zeros}
use Rattle.mxf_metadata_reader.specs.References.{first_value}
use Rattle.mxf_metadata_check.specs.Metadata.{first_items, take_id_in}
use Rattle.mxf_op1a.specs.Contents.{placed_from}
use Rattle.mxf_op1a.specs.Metadata.{SetAt, lasts, places_but, sets_from, sets_of}
use Rattle.mxf_op1a.specs.Partitions.{File, Part, file_of, parts}
use Rattle.mxf_take_file.specs.Layout.{closed, is_unit}
use Rattle.mxf_take_op1a.specs.Take.{AreLinked, AreStreamsNamed, HoldLinks, SaysDurations, IsUnknown, NamesTake, raw_of, take_file}
use Rattle.mxf_take_op1a.proofs.LedSets.{own_linked}
use Rattle.mxf_take_op1a.proofs.ReadBack.{ReadBack}
use Rattle.mxf_take_op1a.proofs.ClosedLemmas.{are_small, sets_read}
use Rattle.mxf_take_op1a.proofs.LinkLemmas.{has_packages}
use Rattle.mxf_take_op1a.proofs.PartLemmas.{file_is, file_with, parts_are}
use Rattle.mxf_take_op1a.proofs.SetLemmas.{foot_at, footer_sets, head_at, header_behind, header_from, none_short, own_sets, raw_own}
use Rattle.mxf_take_op1a.proofs.Shapes.{Units, Shape, IsShape, bodies, header_part, footer_part}
use Rattle.mxf_take_op1a.proofs.SmallLemmas.{AreSmall}
use Rattle.mxf_take_op1a.proofs.StreamNames.{name_streams, streams_named}
use Rattle.mxf_take_op1a.proofs.TakeSays.{first_due}
use Rattle.mxf_take_op1a.proofs.TakeShape.{shape, is_shape, items_are}

-- the material package is of the take
package_take : (ids : Ids) → AreIds ids → drop 16 (or_zeros 32 (first_value PACKAGE_ID (map raw (material_package ids)))) ≡ ids.take
unfolding material_package first_value
package_take ids are =
    ap (λ (b : Bool). drop 16 (cond b (umid ids.take) (replicate 32 0))) (eq-eqb (length (umid ids.take)) 32 (length-umid ids.take are.take))

-- the identifier of the take is that of its configuration
take_of : (cfg : Fields) → (ids_of cfg).take ≡ cfg.take_id
unfolding ids_of
take_of cfg = refl

-- so its sets name it
take_in : (cfg : Fields) (frames : Option ℕ) (at : ℕ) → IsInRange cfg → take_id_in (own_sets at (sets cfg (ids_of cfg) frames)) ≡ cfg.take_id
take_in cfg frames at h =
    let are : AreIds (ids_of cfg) = are-ids_of cfg h.take_id in
    ap (λ (found : List SetAt). drop 16 (or_zeros 32 (first_value PACKAGE_ID (first_items found)))) (has_packages cfg (ids_of cfg) frames at are).material
    ∙ package_take (ids_of cfg) are ∙ take_of cfg

-- partitions whose sets are those of a take's metadata
pub record HoldSets (cfg : Fields) (frames : Option ℕ) (partitions : List Part) : Type 0 where
  pub at : ℕ
  pub are : flat_map sets_of partitions ≡ own_sets at (sets cfg (ids_of cfg) frames)

-- they name the take
sets_take : (cfg : Fields) (frames : Option ℕ) (partitions : List Part) → IsInRange cfg → HoldSets cfg frames partitions
    → take_id_in (flat_map sets_of partitions) ≡ cfg.take_id
sets_take cfg frames partitions h held = ap take_id_in held.are ∙ take_in cfg frames held.at h

-- and have the durations of these
sets_last : (cfg : Fields) (frames : Option ℕ) (partitions : List Part) → HaveDuration frames (raw_sets cfg (ids_of cfg) frames)
    → HoldSets cfg frames partitions → HaveDuration frames (map raw_of (flat_map sets_of partitions))
sets_last cfg frames partitions last held =
    subst (HaveDuration frames) (sym (ap (map raw_of) held.are ∙ raw_own held.at (sets cfg (ids_of cfg) frames))) last

-- and lead to sets of the kinds that are due
sets_linked : (cfg : Fields) (frames : Option ℕ) (partitions : List Part) → IsInRange cfg → HoldSets cfg frames partitions
    → AreLinked (flat_map sets_of partitions)
sets_linked cfg frames partitions h held =
    subst AreLinked (sym held.are) (own_linked cfg (ids_of cfg) frames held.at (are-ids_of cfg h.take_id))

-- which aren't known in the header
sets_unknown : (cfg : Fields) (partitions : List Part) → HaveDuration None (raw_sets cfg (ids_of cfg) None)
    → HoldSets cfg None partitions → places_but (lasts (replicate 8 0xff)) (flat_map sets_of partitions) ≡ []
sets_unknown cfg partitions last held =
    ap (places_but (lasts (replicate 8 0xff))) held.are ∙ none_short None held.at (sets cfg (ids_of cfg) None) last

-- the header's partition is such
header_holds : ReadBack → (cfg : Fields) (units : Units) → IsInRange cfg → AreSmall units → HoldSets cfg None (header_part (shape cfg units) units ∷ [])
header_holds r cfg units h small =
    let s : Shape = shape cfg units in
    let is : IsShape s units = is_shape r cfg units h small in
    record {
      at = head_at s;
      are = append-nil (sets_of (header_part s units)) ∙ ap sets_from (header_from s units is (first_due cfg units h))
          ∙ header_behind s units is ∙ sets_read cfg None (head_at s) h;
    }

-- so is the footer's
footer_holds : ReadBack → (cfg : Fields) (units : Units) (len : ℕ) → IsInRange cfg → AreSmall units
    → HoldSets cfg (Some (length units)) (footer_part (shape cfg units) units len ∷ [])
footer_holds r cfg units len h small =
    let s : Shape = shape cfg units in
    let is : IsShape s units = is_shape r cfg units h small in
    record {
      at = foot_at s units;
      are = append-nil (sets_of (footer_part s units len)) ∙ footer_sets s units len is
          ∙ sets_read cfg (Some (length units)) (foot_at s units) h;
    }

-- the partitions of the closed file
abbrev pub own_file : Fields → Units → ℕ → File
own_file cfg units len =
    file_with (header_part (shape cfg units) units ∷ []) (bodies (shape cfg units) [] units) (footer_part (shape cfg units) units len ∷ [])

-- they are a header, bodies and a footer
file_is_own : ReadBack → (cfg : Fields) (units : Units) → IsInRange cfg → AreSmall units
    → take_file cfg units ≡ own_file cfg units (length (closed cfg units))
file_is_own r cfg units h small =
    let s : Shape = shape cfg units in
    let len : ℕ = length (closed cfg units) in
    ap (λ (items : List Item). file_of (parts len (placed_from 0 items))) (items_are cfg units)
    ∙ ap file_of (parts_are s units len (is_shape r cfg units h small))
    ∙ file_is (header_part s units) (bodies s [] units) (footer_part s units len)

-- header and footer name the take
pub names_take : ReadBack → (cfg : Fields) (units : Units) → IsInRange cfg → AreUnits (is_unit cfg) cfg.max_frames units
    → NamesTake cfg.take_id (take_file cfg units)
names_take r cfg units h are =
    let small : AreSmall units = are_small cfg units h are in
    let len : ℕ = length (closed cfg units) in
    subst (NamesTake cfg.take_id) (sym (file_is_own r cfg units h small)) (record {
      header = sets_take cfg None (header_part (shape cfg units) units ∷ []) h (header_holds r cfg units h small);
      footer = sets_take cfg (Some (length units)) (footer_part (shape cfg units) units len ∷ []) h (footer_holds r cfg units len h small);
    })

-- the header's durations aren't known
pub is_unknown : ReadBack → (cfg : Fields) (units : Units) → HaveDuration None (raw_sets cfg (ids_of cfg) None)
    → IsInRange cfg → AreUnits (is_unit cfg) cfg.max_frames units → IsUnknown (take_file cfg units)
is_unknown r cfg units last h are =
    let small : AreSmall units = are_small cfg units h are in
    subst IsUnknown (sym (file_is_own r cfg units h small))
    (sets_unknown cfg (header_part (shape cfg units) units ∷ []) last (header_holds r cfg units h small))

-- and are there, as the footer's, which are the number of units
pub says_durations : ReadBack → (cfg : Fields) (units : Units)
    → ((frames : Option ℕ) → HaveDuration frames (raw_sets cfg (ids_of cfg) frames))
    → IsInRange cfg → AreUnits (is_unit cfg) cfg.max_frames units → SaysDurations (length units) (take_file cfg units)
says_durations r cfg units lasting h are =
    let small : AreSmall units = are_small cfg units h are in
    let len : ℕ = length (closed cfg units) in
    let known : Option ℕ = Some (length units) in
    subst (SaysDurations (length units)) (sym (file_is_own r cfg units h small)) (record {
      header = sets_last cfg None (header_part (shape cfg units) units ∷ []) (lasting None) (header_holds r cfg units h small);
      footer = sets_last cfg known (footer_part (shape cfg units) units len ∷ []) (lasting known) (footer_holds r cfg units len h small);
    })

-- and packs name their streams
pub are_streams_named : ReadBack → (cfg : Fields) (units : Units) → IsInRange cfg → AreUnits (is_unit cfg) cfg.max_frames units
    → AreStreamsNamed (take_file cfg units)
are_streams_named r cfg units h are =
    let small : AreSmall units = are_small cfg units h are in
    subst AreStreamsNamed (sym (file_is_own r cfg units h small))
    (streams_named (shape cfg units) units (length (closed cfg units)) (is_shape r cfg units h small) (name_streams cfg units)
    (first_due cfg units h))

-- and header and footer hold linked sets
pub are_linked : ReadBack → (cfg : Fields) (units : Units) → IsInRange cfg → AreUnits (is_unit cfg) cfg.max_frames units
    → HoldLinks (take_file cfg units)
are_linked r cfg units h are =
    let small : AreSmall units = are_small cfg units h are in
    let len : ℕ = length (closed cfg units) in
    subst HoldLinks (sym (file_is_own r cfg units h small)) (record {
      header = sets_linked cfg None (header_part (shape cfg units) units ∷ []) h (header_holds r cfg units h small);
      footer = sets_linked cfg (Some (length units)) (footer_part (shape cfg units) units len ∷ []) h (footer_holds r cfg units len h small);
    })

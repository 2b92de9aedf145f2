-- Metadata with a primer pack, and without one.
use Rattle.std.proofs.Common.{◌≡◌, ℕ, ◌+◌, Bool, List, length, drop, Option, Some, None, refl, sym, ap, subst, ◌∙◌}
use Rattle.std.specs.List.{flat_map}
use Rattle.klv.specs.Items.{AreItems, Item, spelled}
use Rattle.mxf_metadata_reader.specs.PrimerTags.{tags_of_primer}
use Rattle.mxf_metadata_reader.specs.Reads.{HasPrimer}
use Rattle.mxf_metadata_reader.specs.inner.Places.{IsTable}
use Rattle.mxf_metadata_reader.specs.inner.Primers.{IsNoPrimer, IsPrimer}
use Rattle.mxf_metadata_reader.specs.declared.fault.SetFault.{SetFault}
use Rattle.mxf_metadata_reader.specs.declared.fault.SetFault.TheVariants.{Memory, NotPrimer, UnknownTag, SetCut, ItemSize, BrokenReference}
use Rattle.mxf_metadata_reader.specs.declared.primer.Primer.{Primer}
use Rattle.mxf_metadata_check.specs.Metadata.{AreMetadata, behind, least_wrong}
use Rattle.mxf_metadata_check.specs.inner.Held.{sets_among}
use Rattle.mxf_metadata_check.proofs.Behind.{behind_sets}
use Rattle.mxf_metadata_check.proofs.Walk.{IsLaw}
use Rattle.mxf_op1a.specs.Metadata.{SetAt, least, least_behind, wrong_behind, wrong_sets}

pub wrong_is : IsLaw → (bytes : List ℕ) (at : ℕ) (read : Primer) (listed : List Bool) (primer : Item) (items : List Item) (place : Option ℕ) → IsPrimer bytes read
    → listed ≡ read.listed.items → AreMetadata bytes primer items
    → ((tags : List ℕ) (items : List Item) → IsTable listed tags → AreItems (drop read.end bytes) items
    → least (wrong_sets tags (sets_among (at + read.end) items)) ≡ place)
    → least_wrong at primer items ≡ place
wrong_is law bytes at read listed primer items place p e are found =
    let front = p.front in
    let same = law front.primer primer front.stands.rest (flat_map spelled items) front.stands.is_item are.are_items.each.0
    (sym front.stands.bytes_are ∙ are.are_items.bytes_are) in
    let tags : tags_of_primer primer ≡ Some front.tags = ap tags_of_primer (sym same.0) ∙ front.tags_are in
    let end : read.end ≡ length (spelled primer) = p.place ∙ ap (λ (i : Item). length (spelled i)) same.0 in
    let rest : AreItems (drop read.end bytes) items = record { bytes_are = p.rest ∙ same.1; each = are.are_items.each.1 } in
    let table = subst (λ (xs : List Bool). IsTable xs front.tags) (sym e) p.table in
    ap (λ (o : Option (List ℕ)). least (wrong_behind at o (behind at primer items))) tags
    ∙ ap (λ (sets : List SetAt). least (wrong_sets front.tags sets)) (behind_sets (at + length (spelled primer)) items are.each)
    ∙ ap (λ (n : ℕ). least (wrong_sets front.tags (sets_among (at + n) items))) (sym end)
    ∙ found front.tags items table rest

pub none_read : (bytes : List ℕ) (fault : SetFault) → IsNoPrimer bytes fault → (fault ≡ Memory → ⊥) → HasPrimer bytes → ⊥
none_read bytes Memory h some p = some refl
none_read bytes NotPrimer h some p = h p
none_read bytes (UnknownTag at tag) h some p = h
none_read bytes (SetCut at tag) h some p = h
none_read bytes (ItemSize at tag) h some p = h
none_read bytes (BrokenReference at tag) h some p = h

pub none_wrong : (bytes : List ℕ) (at : ℕ) (primer : Item) (items : List Item) → (HasPrimer bytes → ⊥) → AreMetadata bytes primer items
    → least_wrong at primer items ≡ Some at
unfolding least_behind
none_wrong bytes at primer items none are =
    elim (tags_of_primer primer) as (λ (o : Option (List ℕ)). tags_of_primer primer ≡ o → least (wrong_behind at o (behind at primer items)) ≡ Some at) [
      | None ↦ λ e. refl
      | Some tags ↦ λ e.
          absurd (none (record {
            primer = primer;
            stands = record { is_item = are.are_items.each.0; rest = flat_map spelled items; bytes_are = are.are_items.bytes_are };
            tags = tags;
            tags_are = e;
          }))
    ] refl

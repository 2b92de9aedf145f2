-- The durations behind a primer pack.
use Rattle.std.proofs.Common.{◌≡◌, ℕ, ◌+◌, List, length, drop, Option, sym, ap, ap₂, ◌∙◌, arith}
use Rattle.byteorder.specs.Endian.{big_bytes}
use Rattle.klv.specs.Items.{AreItems, Item, spelled}
use Rattle.klv.specs.Reads.{IsKlvAt}
use Rattle.klv.specs.declared.item.Klv.{Klv}
use Rattle.mxf_metadata_check.specs.Metadata.{AreMetadata, first_other}
use Rattle.mxf_metadata_check.specs.inner.Held.{other_among}
use Rattle.mxf_metadata_check.proofs.Behind.{behind_sets}
use Rattle.mxf_metadata_check.proofs.Walk.{IsLaw, front_goes}
use Rattle.mxf_op1a.specs.Clauses.{first_place}
use Rattle.mxf_op1a.specs.Metadata.{SetAt, lasts, places_but}

pub other_is : IsLaw → (bytes : List ℕ) (at count : ℕ) (duration : List ℕ) (klv : Klv) (primer : Item) (items : List Item) (answer : Option ℕ) → IsKlvAt bytes 0 klv
    → duration ≡ big_bytes 8 count → AreMetadata bytes primer items
    → ((items : List Item) → AreItems (drop klv.end bytes) items → other_among duration (at + klv.end) items ≡ answer)
    → first_other count at primer items ≡ answer
other_is law bytes at count duration klv primer items answer h is are found =
    let front = front_goes law bytes klv primer items h are.are_items in
    let end : klv.end ≡ length (spelled primer) = let e = front.stands.end_is in omega (arith, e) in
    ap (λ (sets : List SetAt). first_place (places_but (lasts (big_bytes 8 count)) sets)) (behind_sets (at + length (spelled primer)) items are.each)
    ∙ ap₂ (λ (xs : List ℕ) (n : ℕ). other_among xs (at + n) items) (sym is) (sym end)
    ∙ found items front.behind

-- What a walk over the heads of items finds (own). Private functions alone cite this.
use Rattle.std.specs.Prelude.{◌≡◌, ℕ, ◌+◌, ◌<◌, ◌≤◌, List, ◌++◌, length, drop, map, Option, Some, None}
use Rattle.std.specs.List.{flat_map, AllByRecursion}
use Rattle.klv.specs.Items.{Item, IsItem, spelled}
use Rattle.klv.specs.Outline.{Outline}
use Rattle.klv.specs.Reads.{HasItemAt, IsItemAt}
use Rattle.mxf_op1a.specs.Contents.{Placed, placed_from, content_of}
use Rattle.mxf_reader.specs.inner.Kept.{IsKept}
use Rattle.mxf_reader.specs.inner.Marks.{mark_of, kind_of}
use Rattle.mxf_reader.specs.declared.mark.Kind.{Kind}
use Rattle.mxf_reader.specs.declared.mark.Mark.{Mark}
use Rattle.mxf_reader.specs.declared.items.Walked.{Walked}
use Rattle.mxf_reader.specs.declared.seen.Seen.{Seen}

-- an item at a place
abbrev pub placed : ℕ → Item → Placed
placed at item = record { at = at; item = item }

-- an item stands at a place, and this is kept of it
pub record IsMarked (bytes : List ℕ) (at : ℕ) (m : Mark) : Type 0 where
  pub item : Item
  pub stands : IsItemAt bytes at item
  pub is : m ≡ mark_of (placed at item)

-- this is kept of the item at a place, or no item stands there
abbrev pub IsFound : List ℕ → ℕ → Option Mark → Type 0
IsFound bytes at None = ¬ HasItemAt bytes at
IsFound bytes at (Some m) = IsMarked bytes at m

-- an item goes on from its place, and stays within the file
abbrev pub IsStep : ℕ → ℕ → Option Mark → Type 0
IsStep at len None = Unit {0}
IsStep at len (Some m) = (m.at ≡ at) × (at ≤ m.value_at) × (at < m.value_at + m.value_len) × (m.value_at + m.value_len ≤ len)

-- what an item at a place is, where its key and its value are these
abbrev pub IsKindAt : List ℕ → ℕ → List ℕ → ℕ → ℕ → Kind → Type 0
IsKindAt bytes at key value_at value_len kind =
    (item : Item) → IsItemAt bytes at item → item.key ≡ key → value_at ≡ at + (17 + item.form) → value_len ≡ length item.value
    → kind ≡ kind_of (content_of item)

-- this is kept of an item at a place, where its key and its value are these
abbrev pub IsMarkBy : List ℕ → ℕ → List ℕ → ℕ → ℕ → Mark → Type 0
IsMarkBy bytes at key value_at value_len m =
    (item : Item) → IsItemAt bytes at item → item.key ≡ key → value_at ≡ at + (17 + item.form) → value_len ≡ length item.value
    → m ≡ mark_of (placed at item)

-- items up to a place, of which this is kept
pub record IsPassed (bytes : List ℕ) (at : ℕ) (seen : Seen) : Type 0 where
  pub items : List Item
  pub each : AllByRecursion IsItem items
  pub bytes_are : bytes ≡ flat_map spelled items ++ drop at bytes
  pub place : at ≡ length (flat_map spelled items)
  pub kept : IsKept seen (map mark_of (placed_from 0 items))

-- the file's outline, and what is kept of its items
pub record AreWalked (bytes : List ℕ) (w : Walked) : Type 0 where
  pub outline : Outline bytes
  pub stop : w.stop ≡ length (flat_map spelled outline.items)
  pub kept : IsKept w.seen (map mark_of (placed_from 0 outline.items))

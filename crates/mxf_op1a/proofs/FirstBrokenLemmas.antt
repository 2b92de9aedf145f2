-- The first clause that is broken.
use Rattle.std.proofs.Common.{◌≡◌, ◌↔◌, inl, inr, ℕ, List, length, filter, Option, Some, None, refl, sym, ap, ◌∙◌}
use Rattle.std.specs.List.{flat_map, AllByRecursion}
use Rattle.klv.specs.Items.{Item, spelled}
use Rattle.klv.specs.Outline.{Outline}
use Rattle.mxf_op1a.specs.Broken.{BreaksDuration, BreaksElements, BreaksEnd, BreaksIndex, BreaksKinds, BreaksLengths, BreaksNames, BreaksPlaces, BreaksStream}
use Rattle.mxf_op1a.specs.BrokenMetadata.{BreaksMetadata}
use Rattle.mxf_op1a.specs.Clauses.{broken_1, broken_2, broken_3, broken_4, broken_5, broken_6, broken_7, broken_8, broken_9, broken_10, stream_offsets}
use Rattle.mxf_op1a.specs.Contents.{Placed, is_pack, is_segment, placed_from}
use Rattle.mxf_op1a.specs.FirstBroken.{Breaks, BreaksClause, OrBehind}
use Rattle.mxf_op1a.specs.Kept.{CountsLengths, CountsStream, EndsWithRandomIndex, HasMetadata, HoldsElements, IndexesElements, IsHeaderToFooter}
use Rattle.mxf_op1a.specs.Kept.{NamesPartitions, NamesPlaces, StatesDuration}
use Rattle.mxf_op1a.specs.Op1a.{BreaksFirst, at_place, first_broken, first_of_clauses, or_next}
use Rattle.mxf_op1a.specs.Partitions.{File, Part, being, elements, file_of, parts, up_to}
use Rattle.mxf_op1a.specs.declared.breaks.Break.{Break}
use Rattle.mxf_op1a.proofs.BreakLemmas.{durations_break, lengths_break, places_break, stream_breaks}
use Rattle.mxf_op1a.proofs.DurationLemmas.{lasting, lasting_back}
use Rattle.mxf_op1a.proofs.EndLemmas.{ends, ends_back, named, named_back}
use Rattle.mxf_op1a.proofs.FirstLemmas.{lengths, lengths_back}
use Rattle.mxf_op1a.proofs.IndexLemmas.{indexed, indexed_back}
use Rattle.mxf_op1a.proofs.JudgeLemmas.{HaveSameItems, told}
use Rattle.mxf_op1a.proofs.MetadataLemmas.{metadata, metadata_back}
use Rattle.mxf_op1a.proofs.PlaceLemmas.{kinds, kinds_back, places, places_back}
use Rattle.mxf_op1a.proofs.StreamLemmas.{counts, counts_back, held, held_back}
use Rattle.mxf_op1a.proofs.WrongElementLemmas.{elements_break, elements_break_back, index_breaks, index_breaks_back}
use Rattle.mxf_op1a.proofs.WrongEndLemmas.{end_breaks, end_breaks_back, kind_breaks, kind_breaks_back, name_breaks, name_breaks_back}
use Rattle.mxf_op1a.proofs.WrongSetLemmas.{metadata_breaks, metadata_breaks_back}

-- a clause, and those behind it, whose answer is said as far as the clause is kept
module _ (clause : ℕ) (Own : ℕ → Type 0) (Kept : Type 0) (Behind : Break → Type 0) where
  first_so : (own : Option ℕ) (rest : Option Break) → (own ≡ None → Kept) → ((at : ℕ) → own ≡ Some at → Own at)
      → (Kept → (b : Break) → rest ≡ Some b → Behind b) → (b : Break) → or_next clause own rest ≡ Some b → OrBehind clause Own Kept Behind b
  first_so None rest keeps breaks behind b e = let k = keeps refl in inr (k, behind k b e)
  first_so (Some at) rest keeps breaks behind b e =
      let same : b ≡ at_place clause at = cc in
      let place : b.at ≡ at = ap (λ (c : Break). c.at) same in
      inl (ap (λ (c : Break). c.clause) same, breaks b.at (ap (λ (n : ℕ). Some n) (sym place)))

  first_back : (own : Option ℕ) (rest : Option Break) → (Kept → own ≡ None) → ((at : ℕ) → Own at → own ≡ Some at)
      → (Kept → (b : Break) → Behind b → rest ≡ Some b) → (b : Break) → OrBehind clause Own Kept Behind b → or_next clause own rest ≡ Some b
  first_back own rest keeps breaks behind b (inl here) =
      ap (λ (o : Option ℕ). or_next clause o rest) (breaks b.at here.1) ∙ (λ i. Some (record { clause = sym here.0 i; at = b.at }))
  first_back own rest keeps breaks behind b (inr later) =
      ap (λ (o : Option ℕ). or_next clause o rest) (keeps later.0) ∙ behind later.0 b later.1

  pub first : (own : Option ℕ) (rest : Option Break) → (own ≡ None) ↔ Kept → ((at : ℕ) → (own ≡ Some at) ↔ Own at)
      → (Kept → (b : Break) → (rest ≡ Some b) ↔ Behind b) → (b : Break) → (or_next clause own rest ≡ Some b) ↔ OrBehind clause Own Kept Behind b
  first own rest kept breaks behind b =
      (first_so own rest kept.0 (λ at. (breaks at).0) (λ k c. (behind k c).0) b, first_back own rest kept.1 (λ at. (breaks at).1) (λ k c. (behind k c).1) b)

-- the clauses from each on
module _ (len stop : ℕ) (items : List Placed) (all : List Part) (file : File) where
  abbrev segments : List Placed
  segments = filter (being is_segment) items

  abbrev front : List Placed
  front = up_to is_pack items

  abbrev count : ℕ
  count = length (elements items)

  abbrev from_10 : Option Break
  from_10 = or_next 10 (broken_10 all) None

  abbrev from_9 : Option Break
  from_9 = or_next 9 (broken_9 len 0 (stream_offsets 0 file.bodies) segments) from_10

  abbrev from_8 : Option Break
  from_8 = or_next 8 (broken_8 count file) from_9

  abbrev from_7 : Option Break
  from_7 = or_next 7 (broken_7 len file) from_8

  abbrev from_6 : Option Break
  from_6 = or_next 6 (broken_6 len front file) from_7

  abbrev from_5 : Option Break
  from_5 = or_next 5 (broken_5 0 file.bodies) from_6

  abbrev from_4 : Option Break
  from_4 = or_next 4 (broken_4 len all) from_5

  abbrev from_3 : Option Break
  from_3 = or_next 3 (broken_3 0 all) from_4

  abbrev from_2 : Option Break
  from_2 = or_next 2 (broken_2 items all) from_3

  abbrev Behind_10 : Break → Type 0
  Behind_10 = OrBehind 10 (BreaksLengths all) (AllByRecursion CountsLengths all) (λ broken. ⊥)

  abbrev Behind_9 : Break → Type 0
  Behind_9 = OrBehind 9 (BreaksIndex len file.bodies segments) (IndexesElements file.bodies segments) Behind_10

  abbrev Behind_8 : Break → Type 0
  Behind_8 = OrBehind 8 (BreaksDuration count file) (StatesDuration count file) Behind_9

  abbrev Behind_7 : Break → Type 0
  Behind_7 = OrBehind 7 (BreaksMetadata len file) (HasMetadata file) Behind_8

  abbrev Behind_6 : Break → Type 0
  Behind_6 = OrBehind 6 (BreaksElements len front file) (HoldsElements front file) Behind_7

  abbrev Behind_5 : Break → Type 0
  Behind_5 = OrBehind 5 (BreaksStream file.bodies) (CountsStream file.bodies) Behind_6

  abbrev Behind_4 : Break → Type 0
  Behind_4 = OrBehind 4 (BreaksKinds len all) (IsHeaderToFooter all) Behind_5

  abbrev Behind_3 : Break → Type 0
  Behind_3 = OrBehind 3 (BreaksPlaces all) (NamesPlaces all) Behind_4

  abbrev Behind_2 : Break → Type 0
  Behind_2 = OrBehind 2 (BreaksNames items all) (NamesPartitions items all) Behind_3

  nothing : (b : Break) → (None ≡ Some b) ↔ ⊥
  nothing b = ((λ e. cc), λ none. absurd none)

  at_10 : (b : Break) → (from_10 ≡ Some b) ↔ Behind_10 b
  at_10 = first 10 (BreaksLengths all) (AllByRecursion CountsLengths all) (λ broken. ⊥) (broken_10 all) None (lengths all, lengths_back all)
      (lengths_break all) (λ kept. nothing)

  at_9 : CountsStream file.bodies → (b : Break) → (from_9 ≡ Some b) ↔ Behind_9 b
  at_9 counted = first 9 (BreaksIndex len file.bodies segments) (IndexesElements file.bodies segments) Behind_10
      (broken_9 len 0 (stream_offsets 0 file.bodies) segments) from_10
      (indexed len file.bodies segments counted, indexed_back len file.bodies segments counted)
      (λ at. (index_breaks len file.bodies counted segments at, index_breaks_back len file.bodies counted segments at)) (λ kept. at_10)

  at_8 : CountsStream file.bodies → (b : Break) → (from_8 ≡ Some b) ↔ Behind_8 b
  at_8 counted = first 8 (BreaksDuration count file) (StatesDuration count file) Behind_9 (broken_8 count file) from_9
      (lasting count file, lasting_back count file) (durations_break count file) (λ kept. at_9 counted)

  at_7 : CountsStream file.bodies → (b : Break) → (from_7 ≡ Some b) ↔ Behind_7 b
  at_7 counted = first 7 (BreaksMetadata len file) (HasMetadata file) Behind_8 (broken_7 len file) from_8
      (metadata len file, metadata_back len file) (λ at. (metadata_breaks len file at, metadata_breaks_back len file at)) (λ kept. at_8 counted)

  at_6 : CountsStream file.bodies → (b : Break) → (from_6 ≡ Some b) ↔ Behind_6 b
  at_6 counted = first 6 (BreaksElements len front file) (HoldsElements front file) Behind_7 (broken_6 len front file) from_7
      (held len front file, held_back len front file) (λ at. (elements_break len front file at, elements_break_back len front file at)) (λ kept. at_7 counted)

  at_5 : (b : Break) → (from_5 ≡ Some b) ↔ Behind_5 b
  at_5 = first 5 (BreaksStream file.bodies) (CountsStream file.bodies) Behind_6 (broken_5 0 file.bodies) from_6
      (counts file.bodies, counts_back file.bodies) (stream_breaks file.bodies) at_6

  at_4 : (b : Break) → (from_4 ≡ Some b) ↔ Behind_4 b
  at_4 = first 4 (BreaksKinds len all) (IsHeaderToFooter all) Behind_5 (broken_4 len all) from_5
      (kinds len all, kinds_back len all) (λ at. (kind_breaks len all at, kind_breaks_back len all at)) (λ kept. at_5)

  at_3 : (b : Break) → (from_3 ≡ Some b) ↔ Behind_3 b
  at_3 = first 3 (BreaksPlaces all) (NamesPlaces all) Behind_4 (broken_3 0 all) from_4 (places all, places_back all) (places_break all) (λ kept. at_4)

  at_2 : (b : Break) → (from_2 ≡ Some b) ↔ Behind_2 b
  at_2 = first 2 (BreaksNames items all) (NamesPartitions items all) Behind_3 (broken_2 items all) from_3
      (named items all, named_back items all) (λ at. (name_breaks items all at, name_breaks_back items all at)) (λ kept. at_3)

  pub at_1 : (b : Break) → (first_of_clauses len stop items all file ≡ Some b) ↔ BreaksClause len stop items all file b
  at_1 = first 1 (BreaksEnd len stop items) (EndsWithRandomIndex len stop items) Behind_2 (broken_1 stop len items) from_2
      (ends len stop items, ends_back len stop items) (λ at. (end_breaks len stop items at, end_breaks_back len stop items at)) (λ kept. at_2)

pub first_breaks : (len : ℕ) (items : List Item) (broken : Break) → (first_broken len items ≡ Some broken) ↔ Breaks len items broken
unfolding first_broken
first_breaks len items broken =
    let placed : List Placed = placed_from 0 items in
    at_1 len (length (flat_map spelled items)) placed (parts len placed) (file_of (parts len placed)) broken

-- the same of bytes, whichever outline of them is given
pub bytes_break : HaveSameItems → (bytes : List ℕ) (outline : Outline bytes) (broken : Break)
    → BreaksFirst bytes broken ↔ Breaks (length bytes) outline.items broken
bytes_break one bytes outline broken = (
  λ x. (first_breaks (length bytes) outline.items broken).0 (told one bytes outline x.outline ∙ x.is),
  λ b. record { outline = outline; is = (first_breaks (length bytes) outline.items broken).1 b },
)

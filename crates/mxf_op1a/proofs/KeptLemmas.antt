-- All clauses together.
use Rattle.std.proofs.Common.{◌≡◌, ℕ, List, length, filter, Option, Some, None, refl, ap, ◌∙◌}
use Rattle.std.specs.List.{flat_map}
use Rattle.klv.specs.Items.{Item, spelled}
use Rattle.mxf_op1a.specs.Contents.{Placed, is_pack, is_segment, placed_from}
use Rattle.mxf_op1a.specs.Partitions.{File, Part, being, elements, file_of, parts, up_to}
use Rattle.mxf_op1a.specs.Clauses.{broken_1, broken_2, broken_3, broken_4, broken_5, broken_6, broken_7, broken_8, broken_9, broken_10, stream_offsets}
use Rattle.mxf_op1a.specs.Op1a.{first_broken, first_of_clauses, or_next}
use Rattle.mxf_op1a.specs.Kept.{Keeps, KeepsClauses}
use Rattle.mxf_op1a.specs.declared.breaks.Break.{Break}
use Rattle.mxf_op1a.proofs.DurationLemmas.{lasting, lasting_back}
use Rattle.mxf_op1a.proofs.EndLemmas.{ends, ends_back, named, named_back}
use Rattle.mxf_op1a.proofs.FirstLemmas.{lengths, lengths_back}
use Rattle.mxf_op1a.proofs.IndexLemmas.{indexed, indexed_back}
use Rattle.mxf_op1a.proofs.MetadataLemmas.{metadata, metadata_back}
use Rattle.mxf_op1a.proofs.PlaceLemmas.{kinds, kinds_back, places, places_back}
use Rattle.mxf_op1a.proofs.StreamLemmas.{counts, counts_back, held, held_back}

-- a clause that isn't broken, and those behind it
next : (clause : ℕ) (own : Option ℕ) (rest : Option Break) → or_next clause own rest ≡ None → (own ≡ None) × (rest ≡ None)
next clause None rest e = (refl, e)
next clause (Some at) rest e = absurd (cc)

next_back : (clause : ℕ) (own : Option ℕ) (rest : Option Break) → own ≡ None → rest ≡ None → or_next clause own rest ≡ None
next_back clause own rest e f = ap (λ (o : Option ℕ). or_next clause o rest) e ∙ f

-- the clauses from each on
module _ (len stop : ℕ) (items : List Placed) (all : List Part) (file : File) where
  abbrev offsets : Option ℕ
  offsets = broken_9 len 0 (stream_offsets 0 file.bodies) (filter (being is_segment) items)

  abbrev from_10 : Option Break
  from_10 = or_next 10 (broken_10 all) None

  abbrev from_9 : Option Break
  from_9 = or_next 9 offsets from_10

  abbrev from_8 : Option Break
  from_8 = or_next 8 (broken_8 (length (elements items)) file) from_9

  abbrev from_7 : Option Break
  from_7 = or_next 7 (broken_7 len file) from_8

  abbrev from_6 : Option Break
  from_6 = or_next 6 (broken_6 len (up_to is_pack items) file) from_7

  abbrev from_5 : Option Break
  from_5 = or_next 5 (broken_5 0 file.bodies) from_6

  abbrev from_4 : Option Break
  from_4 = or_next 4 (broken_4 len all) from_5

  abbrev from_3 : Option Break
  from_3 = or_next 3 (broken_3 0 all) from_4

  abbrev from_2 : Option Break
  from_2 = or_next 2 (broken_2 items all) from_3

  pub kept : first_of_clauses len stop items all file ≡ None → KeepsClauses len stop items all file
  kept e =
      let a = next 1 (broken_1 stop len items) from_2 e in
      let b = next 2 (broken_2 items all) from_3 a.1 in
      let c = next 3 (broken_3 0 all) from_4 b.1 in
      let d = next 4 (broken_4 len all) from_5 c.1 in
      let f = next 5 (broken_5 0 file.bodies) from_6 d.1 in
      let g = next 6 (broken_6 len (up_to is_pack items) file) from_7 f.1 in
      let h = next 7 (broken_7 len file) from_8 g.1 in
      let i = next 8 (broken_8 (length (elements items)) file) from_9 h.1 in
      let j = next 9 offsets from_10 i.1 in
      let k = next 10 (broken_10 all) None j.1 in
      let stream = counts file.bodies f.0 in
      record {
        ends = ends len stop items a.0;
        named = named items all b.0;
        places = places all c.0;
        kinds = kinds len all d.0;
        stream = stream;
        held = held len (up_to is_pack items) file g.0;
        metadata = metadata len file h.0;
        lasting = lasting (length (elements items)) file i.0;
        indexed = indexed len file.bodies (filter (being is_segment) items) stream j.0;
        lengths = lengths all k.0;
      }

  pub kept_back : KeepsClauses len stop items all file → first_of_clauses len stop items all file ≡ None
  kept_back k =
      let j = next_back 10 (broken_10 all) None (lengths_back all k.lengths) refl in
      let i = next_back 9 offsets from_10 (indexed_back len file.bodies (filter (being is_segment) items) k.stream k.indexed) j in
      let h = next_back 8 (broken_8 (length (elements items)) file) from_9 (lasting_back (length (elements items)) file k.lasting) i in
      let g = next_back 7 (broken_7 len file) from_8 (metadata_back len file k.metadata) h in
      let f = next_back 6 (broken_6 len (up_to is_pack items) file) from_7 (held_back len (up_to is_pack items) file k.held) g in
      let d = next_back 5 (broken_5 0 file.bodies) from_6 (counts_back file.bodies k.stream) f in
      let c = next_back 4 (broken_4 len all) from_5 (kinds_back len all k.kinds) d in
      let b = next_back 3 (broken_3 0 all) from_4 (places_back all k.places) c in
      let a = next_back 2 (broken_2 items all) from_3 (named_back items all k.named) b in
      next_back 1 (broken_1 stop len items) from_2 (ends_back len stop items k.ends) a

pub keeps : (len : ℕ) (items : List Item) → first_broken len items ≡ None → Keeps len items
unfolding first_broken
keeps len items e =
    let placed : List Placed = placed_from 0 items in
    kept len (length (flat_map spelled items)) placed (parts len placed) (file_of (parts len placed)) e

pub keeps_back : (len : ℕ) (items : List Item) → Keeps len items → first_broken len items ≡ None
unfolding first_broken
keeps_back len items k =
    let placed : List Placed = placed_from 0 items in
    kept_back len (length (flat_map spelled items)) placed (parts len placed) (file_of (parts len placed)) k

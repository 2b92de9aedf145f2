-- The metadata of a take is read as it was written.
use Rattle.std.proofs.Common.{◌≡◌, inl, ℕ, ◌+◌, ◌^◌, ◌<◌, ◌==◌, ◌/◌, nat_lt, Bool, true, false, cond, List, [], ◌++◌, length, drop, map, Option, Some}
use Rattle.std.proofs.Common.{None, IfSome, refl, sym, ap, ap₂, ◌∙◌, arith, append-nil}
use Rattle.std.proofs.Math.Nat.{div-le_self}
use Rattle.std.proofs.lemmas.Bool.{lt-ltb}
use Rattle.std.proofs.lemmas.List.{drop_at}
use Rattle.std.proofs.lemmas.List.Folds.{flat_map-map}
use Rattle.std.specs.List.{flat_map, AllByRecursion}
use Rattle.std.specs.Option.{option_or}
use Rattle.std.specs.Str.{bytes_eq}
use Rattle.byteorder.specs.Endian.{big_bytes, big_number}
use Rattle.byteorder.specs.Numbers.{big_number-reads_back}
use Rattle.rec_bytes.specs.Configuration.{Fields}
use Rattle.rec_bytes.specs.Ranges.{IsInRange}
use Rattle.klv.specs.Items as klv
use Rattle.klv.specs.Items.{IsItem, length_limit, spelled}
use Rattle.local_sets.specs.Sets.{local_set}
use Rattle.local_sets.specs.Values.{duration_bytes}
use Rattle.local_sets.specs.laws.Lengths.{IsSized}
use Rattle.local_sets.specs.declared.set.Item.{Item}
use Rattle.mxf_names.specs.EditRates.{edit_rate}
use Rattle.mxf_names.specs.Identifiers.{AreIds, set_id, umid}
use Rattle.mxf_names.specs.laws.Lengths.{length-set_id, length-umid}
use Rattle.mxf_names.specs.declared.ids.Ids.{Ids}
use Rattle.mxf_names.specs.declared.keys.TheConstants.{PICTURE_TRACK_NUMBER, PRIMER_KEY}
use Rattle.mxf_names.specs.declared.labels.TheConstants.{UMID_HEAD}
use Rattle.mxf_metadata.specs.Links.{AreResolved}
use Rattle.mxf_metadata.specs.Metadata.{Set, set_bytes, storage_sets, timecode_track, picture_track, material_sets, file_sets, sets, metadata}
use Rattle.mxf_metadata.specs.Nodes.{nodes}
use Rattle.mxf_metadata.specs.Pictures.{stored_height}
use Rattle.mxf_metadata.specs.Primer.{own_entry, primer, primer_value}
use Rattle.mxf_metadata.specs.Sets.{preface, identification, content_storage, essence_container, material_package, file_package}
use Rattle.mxf_metadata.specs.Sets.{track, sequence, timecode, source_clip, descriptor}
use Rattle.mxf_metadata.specs.Tags.{is_among}
use Rattle.mxf_metadata.specs.declared.labels.TheConstants.{NO_SOURCE, PICTURE_KIND, TIMECODE_KIND}
use Rattle.mxf_metadata.specs.declared.tags.Tag.{Tag}
use Rattle.mxf_metadata.specs.declared.tags.TheConstants.{TAGS}
use Rattle.mxf_metadata.specs.laws.Sizes.{preface_sized, identification_sized, content_storage_sized, essence_container_sized, material_package_sized}
use Rattle.mxf_metadata.specs.laws.Sizes.{file_package_sized, track_sized, sequence_sized, timecode_sized, source_clip_sized, descriptor_sized}
use Rattle.mxf_metadata_reader.specs.Fields.{fields_of, frames_in, items_of_kind, known, or_zeros, pair_of}
use Rattle.mxf_metadata_reader.specs.PlacedSets.{PlacedSet, sets_from}
use Rattle.mxf_metadata_reader.specs.PrimerTags.{entry_tags, tags_of_primer}
use Rattle.mxf_metadata_reader.specs.Reads.{IsReadSets, Metadata, fault_of}
use Rattle.mxf_metadata_reader.specs.References.{first_value}
use Rattle.mxf_metadata_reader.specs.Sizes.{size_among}
use Rattle.mxf_metadata_reader.specs.Written.{said}
use Rattle.mxf_metadata_reader.proofs.FieldLemmas.{sized_value}
use Rattle.mxf_metadata_reader.proofs.WrittenLemmas.{all_ok, each_item, good_sets, small}
use Rattle.mxf_metadata_reader.proofs.WrittenSets.{AreGood, HasOwn, no_link, no_set, placed_from, set_klv, sets_are_placed}

-- the tags of the table
abbrev tag_numbers : List ℕ
tag_numbers = map (λ (tag : Tag). tag.tag) TAGS

abbrev primer_item : klv.Item
primer_item = record { key = PRIMER_KEY; form = 3; value = primer_value (map own_entry TAGS) }

primer_listed : tags_of_primer primer_item ≡ Some tag_numbers
unfolding primer_value entry_tags
primer_listed = refl

primer_fits : nat_lt (length (primer_value (map own_entry TAGS))) 16777216 ≡ true
unfolding primer_value
primer_fits = refl

primer_is_item : IsItem primer_item
unfolding length_limit
primer_is_item = record { key = refl; form = omega arith; fits = small (length (primer_value (map own_entry TAGS))) 16777216 primer_fits }

-- the values of the 19 sets have the sizes of their types
all_sized : (cfg : Fields) (ids : Ids) (frames : Option ℕ) → AreIds ids
    → AllByRecursion (λ (set : Set). AllByRecursion (λ (item : Item). IsSized item.value) set.items) (sets cfg ids frames)
unfolding sets material_sets file_sets storage_sets timecode_track picture_track
all_sized cfg ids frames h = (
  preface_sized ids h,
  (
    identification_sized ids h,
    (
      content_storage_sized ids h,
      (
        essence_container_sized ids h,
        (
          material_package_sized ids h,
          (
            track_sized cfg ids 6 1 0 h,
            (
              sequence_sized ids 7 TIMECODE_KIND frames h refl,
              (
                timecode_sized cfg ids 8 frames h,
                (
                  track_sized cfg ids 9 2 0 h,
                  (
                    sequence_sized ids 10 PICTURE_KIND frames h refl,
                    (
                      source_clip_sized ids 11 frames (umid ids.file) 2 h (length-umid ids.file h.file),
                      (
                        file_package_sized ids h,
                        (
                          track_sized cfg ids 13 1 0 h,
                          (
                            sequence_sized ids 14 TIMECODE_KIND frames h refl,
                            (
                              timecode_sized cfg ids 15 frames h,
                              (
                                track_sized cfg ids 16 2 PICTURE_TRACK_NUMBER h,
                                (
                                  sequence_sized ids 17 PICTURE_KIND frames h refl,
                                  (
                                    source_clip_sized ids 18 frames NO_SOURCE 0 h refl,
                                    (descriptor_sized cfg ids frames h, tt),
                                  ),
                                ),
                              ),
                            ),
                          ),
                        ),
                      ),
                    ),
                  ),
                ),
              ),
            ),
          ),
        ),
      ),
    ),
  ),
)

-- what is asked of them holds
all_are_ok : (cfg : Fields) (ids : Ids) (frames : Option ℕ) → all_ok tag_numbers (sets cfg ids frames) ≡ true
unfolding sets material_sets file_sets storage_sets timecode_track picture_track preface identification content_storage essence_container material_package file_package track sequence timecode source_clip descriptor is_among size_among
all_are_ok cfg ids frames = refl

-- each has its number's identifier
all_own : (cfg : Fields) (ids : Ids) (frames : Option ℕ) → AreIds ids → AllByRecursion HasOwn (sets cfg ids frames)
unfolding sets material_sets file_sets storage_sets timecode_track picture_track preface identification content_storage essence_container material_package file_package track sequence timecode source_clip descriptor first_value
all_own cfg ids frames h = (
  record { id = set_id ids 1; first = refl; own = refl; long = length-set_id ids 1 h },
  (
    record { id = set_id ids 2; first = refl; own = refl; long = length-set_id ids 2 h },
    (
      record { id = set_id ids 3; first = refl; own = refl; long = length-set_id ids 3 h },
      (
        record { id = set_id ids 4; first = refl; own = refl; long = length-set_id ids 4 h },
        (
          record { id = set_id ids 5; first = refl; own = refl; long = length-set_id ids 5 h },
          (
            record { id = set_id ids 6; first = refl; own = refl; long = length-set_id ids 6 h },
            (
              record { id = set_id ids 7; first = refl; own = refl; long = length-set_id ids 7 h },
              (
                record { id = set_id ids 8; first = refl; own = refl; long = length-set_id ids 8 h },
                (
                  record { id = set_id ids 9; first = refl; own = refl; long = length-set_id ids 9 h },
                  (
                    record { id = set_id ids 10; first = refl; own = refl; long = length-set_id ids 10 h },
                    (
                      record { id = set_id ids 11; first = refl; own = refl; long = length-set_id ids 11 h },
                      (
                        record { id = set_id ids 12; first = refl; own = refl; long = length-set_id ids 12 h },
                        (
                          record { id = set_id ids 13; first = refl; own = refl; long = length-set_id ids 13 h },
                          (
                            record { id = set_id ids 14; first = refl; own = refl; long = length-set_id ids 14 h },
                            (
                              record { id = set_id ids 15; first = refl; own = refl; long = length-set_id ids 15 h },
                              (
                                record { id = set_id ids 16; first = refl; own = refl; long = length-set_id ids 16 h },
                                (
                                  record { id = set_id ids 17; first = refl; own = refl; long = length-set_id ids 17 h },
                                  (
                                    record { id = set_id ids 18; first = refl; own = refl; long = length-set_id ids 18 h },
                                    (record { id = set_id ids 19; first = refl; own = refl; long = length-set_id ids 19 h }, tt),
                                  ),
                                ),
                              ),
                            ),
                          ),
                        ),
                      ),
                    ),
                  ),
                ),
              ),
            ),
          ),
        ),
      ),
    ),
  ),
)

-- numbers that fit 32 bits
abbrev FitPair : ℕ × ℕ → Type 0
FitPair pair = (pair.0 < 256 ^ 4) × (pair.1 < 256 ^ 4)

one_of : (b : Bool) (p q : ℕ × ℕ) → FitPair p → FitPair q → FitPair (cond b p q)
one_of true p q f g = f
one_of false p q f g = g

rate_fits : (rate : ℕ) → FitPair (edit_rate rate)
rate_fits rate =
    one_of (rate == 1) (24000, 1001) _ (omega arith, omega arith)
    (one_of (rate == 2) (24, 1) _ (omega arith, omega arith)
    (one_of (rate == 3) (25, 1) _ (omega arith, omega arith)
    (one_of (rate == 4) (30000, 1001) _ (omega arith, omega arith)
    (one_of (rate == 5) (30, 1) _ (omega arith, omega arith)
    (one_of (rate == 6) (50, 1) _ (omega arith, omega arith)
    (one_of (rate == 7) (60000, 1001) (60, 1) (omega arith, omega arith) (omega arith, omega arith)))))))

pair_back : (p : ℕ × ℕ) → FitPair p → pair_of (big_bytes 4 p.0 ++ big_bytes 4 p.1) ≡ p
pair_back p f =
    let pair : ℕ → ℕ → ℕ × ℕ = λ a b. (a, b) in
    ap₂ pair (big_number-reads_back 4 p.0 (big_bytes 4 p.1) f.0) (big_number-reads_back 4 p.1 [] f.1)

word_back : (n : ℕ) → n < 256 ^ 4 → big_number 4 (or_zeros 4 (Some (big_bytes 4 n))) ≡ n
word_back n h = big_number-reads_back 4 n [] h

known_back : (n : ℕ) → n < 2 ^ 63 → known n ≡ Some n
known_back n h = let t : nat_lt n (2 ^ 63) ≡ true = lt-ltb n (2 ^ 63) h in ap (λ (b : Bool). cond b (Some n) None) t

frames_back : (frames : Option ℕ) → IfSome frames (λ count. count < 2 ^ 63) → frames_in (Some (duration_bytes frames)) ≡ frames
frames_back None h = refl
frames_back (Some n) h = ap known (big_number-reads_back 8 n [] (omega (arith, h))) ∙ known_back n h

take_back : (take : List ℕ) → length take ≡ 16 → drop 16 (or_zeros 32 (Some (umid take))) ≡ take
take_back take h = ap (drop 16) (sized_value 32 (umid take) (length-umid take h)) ∙ drop_at UMID_HEAD take 16 refl

height_by : (b : Bool) (height : ℕ) → height < 256 ^ 4 → cond b height (height / 2) < 256 ^ 4
height_by true height h = h
height_by false height h = let half = div-le_self height 2 in omega (arith, h, half)

height_fits : (cfg : Fields) → IsInRange cfg → stored_height cfg < 256 ^ 4
height_fits cfg r = let height = r.height.most in height_by (cfg.interlace == 0) cfg.height (omega (arith, height))

-- what they say
said_so : (cfg : Fields) (ids : Ids) (frames : Option ℕ) (at : ℕ) → AreIds ids → IsInRange cfg → IfSome frames (λ count. count < 2 ^ 63)
    → said cfg ids frames ≡ fields_of (placed_from at (sets cfg ids frames))
unfolding sets material_sets file_sets storage_sets timecode_track picture_track preface identification content_storage essence_container material_package file_package track sequence timecode source_clip descriptor first_value placed_from items_of_kind
said_so cfg ids frames at h r f =
    let width = r.width.most in
    let a : frames ≡ frames_in (Some (duration_bytes frames)) = sym (frames_back frames f) in
    let b : ids.take ≡ drop 16 (or_zeros 32 (Some (umid ids.take))) = sym (take_back ids.take h.take) in
    let c : cfg.width ≡ big_number 4 (or_zeros 4 (Some (big_bytes 4 cfg.width))) = sym (word_back cfg.width (omega (arith, width))) in
    let d : stored_height cfg ≡ big_number 4 (or_zeros 4 (Some (big_bytes 4 (stored_height cfg)))) = sym (word_back (stored_height cfg) (height_fits cfg r)) in
    let e : edit_rate cfg.rate ≡ pair_of (big_bytes 4 (edit_rate cfg.rate).0 ++ big_bytes 4 (edit_rate cfg.rate).1) =
    sym (pair_back (edit_rate cfg.rate) (rate_fits cfg.rate)) in
    λ i. record { frames = a i; take_id = b i; width = c i; height = d i; rate = e i }

-- the bytes of the sets are those of their items
bytes_of : (all : List Set) → flat_map set_bytes all ≡ flat_map spelled (map set_klv all) ++ []
unfolding local_set
bytes_of all = sym (append-nil (flat_map spelled (map set_klv all)) ∙ flat_map-map spelled set_klv all)

stands : (cfg : Fields) (ids : Ids) (frames : Option ℕ) → AreIds ids → Metadata (metadata cfg ids frames)
unfolding metadata primer
stands cfg ids frames h =
    let all : List Set = sets cfg ids frames in
    record {
      front = record {
        primer = primer_item;
        stands = record { is_item = primer_is_item; rest = flat_map set_bytes all; bytes_are = refl };
        tags = tag_numbers;
        tags_are = primer_listed;
      };
      items = map set_klv all;
      rest = [];
      behind = record {
        each = each_item tag_numbers all (all_sized cfg ids frames h) (all_are_ok cfg ids frames);
        bytes_are = bytes_of all;
        ends = inl refl;
      };
    }

-- so it is read
pub is_read_back : (cfg : Fields) (ids : Ids) (frames : Option ℕ) → AreIds ids → IsInRange cfg → IfSome frames (λ count. count < 2 ^ 63)
    → AreResolved bytes_eq (nodes cfg ids frames) → IsReadSets (metadata cfg ids frames) (said cfg ids frames)
unfolding stands
is_read_back cfg ids frames h r f linked =
    let all : List Set = sets cfg ids frames in
    let start : ℕ = length (spelled primer_item) in
    let end : ℕ = start + length (flat_map spelled (map set_klv all)) in
    let good : AreGood tag_numbers all = good_sets tag_numbers all (all_sized cfg ids frames h) (all_are_ok cfg ids frames) in
    let placed : sets_from start (map set_klv all) ≡ placed_from start all = sets_are_placed tag_numbers start all good in
    record {
      metadata = stands cfg ids frames h;
      right =
          ap (λ (xs : List PlacedSet). fault_of tag_numbers xs end []) placed
          ∙ ap₂ (λ a b. option_or (option_or a None) b) (no_set tag_numbers start all good)
          (no_link tag_numbers all start start all (all_own cfg ids frames h) good linked);
      fields = said_so cfg ids frames start h r f ∙ ap fields_of (sym placed);
    }

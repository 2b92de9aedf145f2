-- What the index tables and the random index of a take's file name.
use Rattle.std.proofs.Common.{◌≡◌, ℕ, zero, suc, ◌+◌, ◌-◌, ◌*◌, ◌%◌, ◌<◌, ◌≤◌, List, [], ◌∷◌, ◌++◌, length, map, drop}
use Rattle.std.proofs.Common.{take, Some, refl, sym, ap, ap₂, subst, ◌∙◌, inl, inr, arith, append_assoc, append-nil, length-append}
use Rattle.std.proofs.lemmas.Bool.{cases_eq}
use Rattle.std.proofs.lemmas.List.{length-drop, take_at, drop_at, drop-append-le, map-append}
use Rattle.std.specs.List.{AllByRecursion, range_with_len}
use Rattle.rec_bytes.specs.Configuration.{Fields}
use Rattle.rec_bytes.specs.Ranges.{IsInRange}
use Rattle.mxf_names.specs.Identifiers.{ids_of}
use Rattle.mxf_names.specs.declared.streams.TheConstants.{ESSENCE_STREAM}
use Rattle.mxf_partitions.specs.declared.random_index.PackEntry.{PackEntry}
use Rattle.mxf_index.specs.Reads.{AreFrames}
use Rattle.mxf_index.specs.Segments.{segment_item, segment_of}
use Rattle.mxf_take_file.specs.Essence.{essence, offsets_behind, stream_offsets}
use Rattle.mxf_take_file.specs.Extents.{extents, file_len, body_count}
use Rattle.mxf_take_file.specs.Items.{entries_items, segment_items}
use Rattle.mxf_take_file.specs.Layout.{growing}
use Rattle.mxf_take_file.specs.Packs.{body_pack, footer_pack, pack_entries, entry}
use Rattle.mxf_take_file.specs.laws.Counts.{count_none, count_begins, count_stays, count_times, count_few, last_few, last_within, last_of_none}
use Rattle.mxf_take_file.specs.laws.Parts.{growing_len, offsets_are, ids_sized, entries_count}
use Rattle.mxf_take_op1a.proofs.ReadBack.{ReadBack, frames_from}
use Rattle.mxf_partitions.specs.Ranges.{IsEntryInRange}
use Rattle.mxf_take_op1a.proofs.IndexClauses.{offsets_of}
use Rattle.mxf_take_op1a.proofs.PartLemmas.{all_parts}
use Rattle.mxf_take_op1a.proofs.Says.{NameParts, Covers, CoverOffsets, entry_of_part}
use Rattle.mxf_take_op1a.proofs.Shapes.{Units, Shape, bodies, bodies_due, bodies_stays, tested, step, footer_part}
use Rattle.mxf_take_op1a.proofs.SmallLemmas.{AreSmall, small_take, small_front, file_small, each_join, are_frames}
use Rattle.mxf_take_op1a.proofs.TakeShape.{shape}
use Rattle.mxf_take_op1a.proofs.TakeSays.{even_from, uneven_from, last_whole, last_begins, last_stays, one_more, end_of_file}

-- no fewer bodies for more units
count_grows : (part m k : ℕ) → 0 < part → body_count part m ≤ body_count part (m + k)
count_grows part m zero some = let e : body_count part (m + 0) ≡ body_count part m = ap (body_count part) (omega arith) in omega arith
count_grows part m (suc k) some =
    let e : body_count part (m + suc k) ≡ body_count part (m + k + 1) = ap (body_count part) (omega arith) in
    elim (cases_eq ((m + k) % part) 0) [
      | inl begins ↦ let more = count_begins part (m + k) some begins in omega (arith, count_grows part m k some)
      | inr stays ↦ let same = count_stays part (m + k) some stays in omega (arith, count_grows part m k some)
    ]

-- the entries of bodies from a number on
abbrev pub entries_from : Fields → Units → ℕ → ℕ → List PackEntry
entries_from cfg all first count = map (λ n. entry ESSENCE_STREAM (file_len cfg.part (take (n * cfg.part) all))) (range_with_len first count)

bodies_named : (cfg : Fields) (all before units : Units) (left : ℕ) → IsInRange cfg → before ++ units ≡ all
    → body_count cfg.part (length before) + left ≡ body_count cfg.part (length all)
    → entries_from cfg all (body_count cfg.part (length before)) left ≡ map entry_of_part (bodies (shape cfg all) before units)
unfolding bodies body_pack
bodies_named cfg all before [] left h e sum =
    let whole : before ≡ all = sym (append-nil before) ∙ e in
    let none : left ≡ 0 = omega (arith, sum, ap (λ (us : Units). body_count cfg.part (length us)) whole) in
    ap (entries_from cfg all (body_count cfg.part (length before))) none
bodies_named cfg all before (unit ∷ units) left h e sum =
    let s : Shape = shape cfg all in
    let more : Units = before ++ unit ∷ [] in
    let next = step before unit units all e in
    let count : ℕ = body_count cfg.part (length before) in
    let long : body_count cfg.part (length more) ≡ body_count cfg.part (length before + 1) = ap (body_count cfg.part) (one_more before unit) in
    let total : length all ≡ length more + length units = sym (ap length next) ∙ length-append more units in
    let grows : body_count cfg.part (length more) ≤ body_count cfg.part (length all) =
    subst (λ (n : ℕ). body_count cfg.part (length more) ≤ body_count cfg.part n) (sym total)
    (count_grows cfg.part (length more) (length units) h.part.least) in
    elim (tested (s.due before)) [
      | inl due ↦
          let even = even_from cfg.part (length before) due in
          let begins : body_count cfg.part (length before + 1) ≡ count + 1 = count_begins cfg.part (length before) h.part.least even in
          let later = bodies_named cfg all more units (left - 1) h next (omega (arith, long, begins, sum, grows)) in
          let left_is : left ≡ suc (left - 1) = omega (arith, long, begins, sum, grows) in
          let place : file_len cfg.part (take (count * cfg.part) all) ≡ length (growing cfg before) =
          ap (λ (n : ℕ). file_len cfg.part (take n all)) (count_times cfg.part (length before) even)
          ∙ ap (λ (us : Units). file_len cfg.part (take (length before) us)) (sym e)
          ∙ ap (file_len cfg.part) (take_at before (unit ∷ units) (length before) refl)
          ∙ sym (growing_len cfg before h) in
          ap (entries_from cfg all count) left_is
          ∙ ap₂ (λ (at n : ℕ). entry ESSENCE_STREAM at ∷ entries_from cfg all n (left - 1)) place (sym (long ∙ begins))
          ∙ ap (λ (es : List PackEntry). entry ESSENCE_STREAM (length (growing cfg before)) ∷ es) later
          ∙ ap (map entry_of_part) (sym (bodies_due s before unit units due))
      | inr stays ↦
          let same : body_count cfg.part (length before + 1) ≡ count =
          count_stays cfg.part (length before) h.part.least (uneven_from cfg.part (length before) stays) in
          let later = bodies_named cfg all more units left h next (omega (arith, long, same, sum)) in
          ap (λ (n : ℕ). entries_from cfg all n left) (sym (long ∙ same))
          ∙ later
          ∙ ap (map entry_of_part) (sym (bodies_stays s before unit units stays))
    ]

entries_named : (cfg : Fields) (units : Units) (len : ℕ) → IsInRange cfg
    → pack_entries cfg (extents cfg.part units) ≡ map entry_of_part (all_parts (shape cfg units) units len)
unfolding pack_entries footer_pack
entries_named cfg units len h =
    let s : Shape = shape cfg units in
    let none : body_count cfg.part 0 ≡ 0 = count_none cfg.part h.part.least in
    let total : ℕ = body_count cfg.part (length units) in
    let bodies_are : entries_from cfg units 0 total ≡ map entry_of_part (bodies s [] units) =
    ap (λ (n : ℕ). entries_from cfg units n total) (sym none) ∙ bodies_named cfg units [] units total h refl (omega (arith, none)) in
    ap₂ (λ (es : List PackEntry) (at : ℕ). entry 0 0 ∷ (es ++ (entry 0 at ∷ []))) bodies_are (end_of_file cfg units h)
    ∙ ap (λ (es : List PackEntry). entry 0 0 ∷ es) (sym (map-append entry_of_part (bodies s [] units) (footer_part s units len ∷ [])))

-- their numbers fit
body_entries_fit : (cfg : Fields) (units : Units) (first count : ℕ) → IsInRange cfg → AreSmall units
    → AllByRecursion IsEntryInRange (entries_from cfg units first count)
body_entries_fit cfg units first zero h small = tt
body_entries_fit cfg units first (suc count) h small = (
  record {
    body_sid = omega arith;
    at = omega (arith, file_small cfg (take (first * cfg.part) units) h (small_take (first * cfg.part) units small));
  },
  body_entries_fit cfg units (first + 1) count h small,
)

entries_fit : (cfg : Fields) (units : Units) → IsInRange cfg → AreSmall units → AllByRecursion IsEntryInRange (pack_entries cfg (extents cfg.part units))
unfolding pack_entries
entries_fit cfg units h small =
    let first : IsEntryInRange (entry 0 0) = record { body_sid = omega arith; at = omega arith } in
    let last : IsEntryInRange (entry 0 (file_len cfg.part (take (length units) units))) =
    record { body_sid = omega arith; at = omega (arith, file_small cfg (take (length units) units) h (small_take (length units) units small)) } in (
      first,
      each_join IsEntryInRange (entries_from cfg units 0 (body_count cfg.part (length units))) _
          (body_entries_fit cfg units 0 (body_count cfg.part (length units)) h small) (last, tt),
    )

pub name_parts : ReadBack → (cfg : Fields) (units : Units) (len : ℕ) → IsInRange cfg → AreSmall units → NameParts (shape cfg units) units len
name_parts r cfg units len h small =
    let entries : List PackEntry = pack_entries cfg (extents cfg.part units) in
    let few : length entries ≤ 1000002 =
    omega (arith, entries_count cfg (extents cfg.part units), count_few cfg.part (length units) h.part.least, small.few) in
    record { says = r.index entries (entries_fit cfg units h small) (omega (arith, few)) ∙ ap Some (entries_named cfg units len h) }

-- a segment covers its entries
covers_entries : ReadBack → (cfg : Fields) (first : ℕ) (offsets : List ℕ) → AreFrames (frames_from first offsets)
    → Covers (entries_items cfg first offsets) first offsets
unfolding entries_items
covers_entries r cfg first [] fit = record { frames = frames_from first []; first_is = refl; streams_are = refl; cases = inl (refl, refl) }
covers_entries r cfg first (offset ∷ offsets) fit =
    let streams : List ℕ = offset ∷ offsets in
    record {
      frames = frames_from first streams;
      first_is = refl;
      streams_are = refl;
      cases = inr (segment_item (segment_of cfg (ids_of cfg) first streams), refl, r.segment cfg (ids_of cfg) first streams (ids_sized cfg) fit);
    }

-- offsets behind units, as the layout has them
offsets_same : (before units : Units) → offsets_of (λ us. length (essence us)) before units ≡ offsets_behind before units
unfolding offsets_of offsets_behind
offsets_same before [] = refl
offsets_same before (unit ∷ units) = ap (λ (ks : List ℕ). length (essence before) ∷ ks) (offsets_same (before ++ unit ∷ []) units)

offsets_join : (before units more : Units) → offsets_behind before (units ++ more) ≡ offsets_behind before units ++ offsets_behind (before ++ units) more
unfolding offsets_behind
offsets_join before [] more = ap (λ (us : Units). offsets_behind us more) (sym (append-nil before))
offsets_join before (unit ∷ units) more =
    ap (λ (ks : List ℕ). length (essence before) ∷ ks) (
    offsets_join (before ++ unit ∷ []) units more
    ∙ ap (λ (us : Units). offsets_behind (before ++ unit ∷ []) units ++ offsets_behind us more) (append_assoc before (unit ∷ []) units)
    )

-- the first unit of the last body
abbrev pub last_unit : Fields → Units → ℕ
last_unit cfg units = (body_count cfg.part (length units) - 1) * cfg.part

pub cover_offsets : ReadBack → (cfg : Fields) (all : Units) → IsInRange cfg → AreSmall all
    → CoverOffsets (shape cfg all) all (offsets_of (λ us. length (essence us)) [] all)
cover_offsets r cfg all h small =
    let part = h.part.most in
    record {
      first = last_unit cfg;
      left = λ us. drop (last_unit cfg us) (stream_offsets all);
      streams = λ us. drop (length us - cfg.part) (stream_offsets us);
      starts = sym (last_of_none cfg.part 0 h.part.least refl);
      left_starts = ap (λ (n : ℕ). drop n (stream_offsets all)) (sym (last_of_none cfg.part 0 h.part.least refl)) ∙ sym (offsets_same [] all);
      covers = λ us rest e due.
          let first : ℕ = length us - cfg.part in
          let fit = are_frames us first (small_front all us rest e small) (omega arith) (omega arith) in
          subst (λ (n : ℕ). Covers (segment_items cfg (extents cfg.part us) first) n (drop first (stream_offsets us)))
          (sym (last_whole cfg.part (length us) (even_from cfg.part (length us) due)))
          (covers_entries r cfg first (drop first (stream_offsets us)) fit);
      due = λ us unit rest e due.
          let even = even_from cfg.part (length us) due in
          let first : ℕ = length us - cfg.part in
          let more : last_unit cfg (us ++ unit ∷ []) ≡ length us =
          ap (λ (n : ℕ). (body_count cfg.part n - 1) * cfg.part) (one_more us unit) ∙ last_begins cfg.part (length us) h.part.least even in
          let behind : List ℕ = offsets_behind us (unit ∷ rest) in
          let whole : stream_offsets all ≡ stream_offsets us ++ behind =
          ap stream_offsets (sym e) ∙ offsets_join [] us (unit ∷ rest) in
          let front : drop (last_unit cfg us) (stream_offsets all) ≡ drop first (stream_offsets us) ++ behind =
          ap₂ (λ (n : ℕ) (ks : List ℕ). drop n ks) (last_whole cfg.part (length us) even) whole
          ∙ drop-append-le first (stream_offsets us) behind (omega (arith, offsets_are us)) in
          let rest_is : drop (last_unit cfg (us ++ unit ∷ [])) (stream_offsets all) ≡ behind =
          ap₂ (λ (n : ℕ) (ks : List ℕ). drop n ks) more whole ∙ drop_at (stream_offsets us) behind (length us) (offsets_are us) in (
            omega (arith, more, last_whole cfg.part (length us) even, length-drop first (stream_offsets us), offsets_are us),
            front ∙ ap (λ (ks : List ℕ). drop first (stream_offsets us) ++ ks) (sym rest_is),
          );
      stays = λ us unit stays.
          let same : last_unit cfg (us ++ unit ∷ []) ≡ last_unit cfg us =
          ap (λ (n : ℕ). (body_count cfg.part n - 1) * cfg.part) (one_more us unit)
          ∙ last_stays cfg.part (length us) h.part.least (uneven_from cfg.part (length us) stays) in
          (same, ap (λ (n : ℕ). drop n (stream_offsets all)) same);
      last =
          let few = last_few cfg.part (length all) h.part.least in
          let within = last_within cfg.part (length all) h.part.least in
          covers_entries r cfg (last_unit cfg all) (drop (last_unit cfg all) (stream_offsets all))
          (are_frames all (last_unit cfg all) small within (omega arith));
    }

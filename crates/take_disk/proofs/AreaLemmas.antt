-- What is true of an area in memory stays true after one deed more.
use Rattle.std.proofs.Common.{◌≡◌, ◌≤◌, ◌<◌, ◌+◌, ◌*◌, ◌&&◌, if◌then◌else◌, nat_lt, ℕ, Bool, true, false, List, [], ◌∷◌, ◌++◌, length, take, drop, refl, sym}
use Rattle.std.proofs.Common.{◌∙◌, ap, subst, arith, length-append}
use Rattle.std.specs.List.{list_any}
use Rattle.std.proofs.Math.Seq.{drop-append_seam}
use Rattle.std.proofs.lemmas.List.{take_all}
use Rattle.take_disk.specs.declared.entry.Entry.{Entry}
use Rattle.take_disk.specs.declared.entry.Deed.{Deed}
use Rattle.take_disk.specs.declared.entry.Deed.TheVariants.{Settle}
use Rattle.take_disk.specs.Logs.{Content, fresh, done, replay}
use Rattle.take_disk.specs.inner.Counts.{IsSettledSo, is_change, changes, unsettled, piece_end, pieces_end, in_span, latest, fits_in, is_sound}
use Rattle.take_disk.proofs.SoundLemmas.{sound_push, sound_grows}
use Rattle.take_disk.proofs.LogLemmas.{replay_push, replay_grows, changes_push, unsettled_push, pieces_end_push, done_settled, settle_settled, free_settled}
use Rattle.take_disk.proofs.LogLemmas.{unsettled_fewer, unsettled_free}

-- the area reads what its record says, the record has all that is kept, and has so many entries at most
pub record IsRecord (start pieces : List ℕ) (entries : List Entry) (synced : ℕ) (bytes : List ℕ) (size calls : ℕ) : Type 0 where
  pub reads : (replay pieces entries (fresh start)).reads ≡ bytes
  pub settled : IsSettledSo (replay pieces entries (fresh start)) synced
  pub sound : is_sound pieces 0 (fresh start) entries ≡ true
  pub pieced : pieces_end entries ≤ length pieces
  pub few : size + unsettled synced entries ≤ 2 * changes entries
  pub recorded : changes entries ≤ calls

pub replay_more : (start pieces more : List ℕ) (entries : List Entry) (moment : ℕ) (deed : Deed) → pieces_end entries ≤ length pieces
    → replay (pieces ++ more) (entries ++ record { moment = moment; deed = deed } ∷ []) (fresh start) ≡ done (pieces ++ more) moment deed
    (replay pieces entries (fresh start))
replay_more start pieces more entries moment deed le =
    replay_push (pieces ++ more) entries (record { moment = moment; deed = deed }) (fresh start)
    ∙ ap (done (pieces ++ more) moment deed) (replay_grows pieces more entries (fresh start) le)

module _ (start pieces : List ℕ) (entries : List Entry) (synced : ℕ) (bytes : List ℕ) (size calls : ℕ)
    (r : IsRecord start pieces entries synced bytes size calls) where
  -- a write or cut, or one that failed
  pub change_recorded : (more : List ℕ) (moment : ℕ) (deed : Deed) (later : List Entry) (pieces_now bytes_now : List ℕ) (size_now : ℕ) → is_change deed ≡ true
      → synced < moment → latest entries < moment
      → fits_in (length (pieces ++ more)) (length (replay pieces entries (fresh start)).reads) deed ≡ true
      → changes entries < calls → piece_end deed ≤ length (pieces ++ more) → later ≡ entries ++ record { moment = moment; deed = deed } ∷ []
      → pieces_now ≡ pieces ++ more
      → bytes_now ≡ (done (pieces ++ more) moment deed (replay pieces entries (fresh start))).reads → size_now ≡ size + 1
      → IsRecord start pieces_now later synced bytes_now size_now calls
  change_recorded more moment deed later pieces_now bytes_now size_now is late last fits call end e p b n =
      let entry : Entry = record { moment = moment; deed = deed } in
      let all = replay_more start pieces more entries moment deed r.pieced in
      let counted : changes (entries ++ entry ∷ []) ≡ changes entries + 1 = rw (changes_push entries entry, is) refl in
      let open_ : unsettled synced (entries ++ entry ∷ []) ≤ unsettled synced entries + 1 = unsettled_one entry in
      let long : length pieces ≤ length (pieces ++ more) = omega (arith, length-append pieces more) in
      rw (e, p, n) (record {
        reads = ap (λ (k : Content). k.reads) all ∙ sym b;
        settled = subst (λ (k : Content). IsSettledSo k synced) (sym all) (done_settled (pieces ++ more) moment synced deed
            (replay pieces entries (fresh start)) is late r.settled);
        sound = sound_push (pieces ++ more) 0 (fresh start) entries entry (sound_grows pieces more 0 (fresh start) entries r.sound) (omega (arith, last)) last
            (rw (replay_grows pieces more entries (fresh start) r.pieced) fits);
        pieced = omega (arith, pieces_end_push entries entry, end, r.pieced, long);
        few = omega (arith, counted, open_, r.few);
        recorded = omega (arith, counted, call);
      })
    where
      one_at_most : (b : Bool) → (if b then 1 else 0) ≤ 1
      one_at_most true = omega arith
      one_at_most false = omega arith

      unsettled_one : (entry : Entry) → unsettled synced (entries ++ entry ∷ []) ≤ unsettled synced entries + 1
      unsettled_one entry = omega (arith, unsettled_push synced entries entry, one_at_most (nat_lt synced entry.moment && is_change entry.deed))

  -- a settling of something
  pub settle_recorded : (moment upto : ℕ) (later : List Entry) (size_now : ℕ) → synced < upto → latest entries < moment
      → list_any (in_span synced upto) entries ≡ true
      → later ≡ entries ++ record { moment = moment; deed = Settle upto } ∷ [] → size_now ≡ size + 1 → IsRecord start pieces later upto bytes size_now calls
  settle_recorded moment upto later size_now late last some e n =
      let entry : Entry = record { moment = moment; deed = Settle upto } in
      let all = replay_push pieces entries entry (fresh start) in
      let off : (nat_lt upto moment && false) ≡ false = and_false (nat_lt upto moment) in
      let open_ : unsettled upto (entries ++ entry ∷ []) ≡ unsettled upto entries = rw (unsettled_push upto entries entry, off) (omega arith) in
      let counted : changes (entries ++ entry ∷ []) ≡ changes entries = rw (changes_push entries entry) (omega arith) in
      rw (e, n) (record {
        reads = ap (λ (k : Content). k.reads) all ∙ r.reads;
        settled = subst (λ (k : Content). IsSettledSo k upto) (sym all) (settle_settled pieces moment synced upto
            (replay pieces entries (fresh start)) late r.settled);
        sound = sound_push pieces 0 (fresh start) entries entry r.sound (omega (arith, last)) last refl;
        pieced = omega (arith, pieces_end_push entries entry, r.pieced);
        few = omega (arith, counted, open_, r.few, unsettled_fewer synced upto entries (omega (arith, late)) some);
        recorded = omega (arith, counted, r.recorded);
      })
    where
      and_false : (b : Bool) → (b && false) ≡ false
      and_false true = refl
      and_false false = refl

  -- a settling of nothing
  pub free_recorded : (upto : ℕ) → synced < upto → list_any (in_span synced upto) entries ≡ false → IsRecord start pieces entries upto bytes size calls
  free_recorded upto late none = record {
    reads = r.reads;
    settled = free_settled pieces start synced upto entries none r.settled;
    sound = r.sound;
    pieced = r.pieced;
    few = omega (arith, r.few, unsettled_free synced upto entries (omega (arith, late)));
    recorded = r.recorded;
  }

  -- where something is settled, there is room for its entry
  pub settle_room : (upto : ℕ) → synced < upto → list_any (in_span synced upto) entries ≡ true → size + 1 ≤ 2 * calls
  settle_room upto late some = omega (arith, r.few, r.recorded, unsettled_fewer synced upto entries (omega (arith, late)) some)

-- the piece behind all others is the one that was put there
pub last_piece : (pieces more : List ℕ) → take (length more) (drop (length pieces) (pieces ++ more)) ≡ more
last_piece pieces more = rw (drop-append_seam pieces more) (take_all (length more) more (omega arith))

-- What each entry more does to the record of an area.
use Rattle.std.proofs.Common.{◌≡◌, ◌⊎◌, inl, inr, ◌&&◌, ◌||◌, not, ◌≤◌, ◌<◌, ◌+◌, ℕ, max, nat_lt, if◌then◌else◌, true, false, Bool, List, [], ◌∷◌, ◌++◌}
use Rattle.std.proofs.Common.{length, take, drop, refl, sym, arith, length-drop}
use Rattle.std.specs.List.{list_any}
use Rattle.std.proofs.lemmas.List.{drop-append-le, take-append-le}
use Rattle.std.proofs.lemmas.Bool.{lt-ltb, le-ltb, cases_lt, true≢false}
use Rattle.take_disk.specs.declared.entry.Entry.{Entry}
use Rattle.take_disk.specs.declared.entry.Deed.{Deed}
use Rattle.take_disk.specs.declared.entry.Deed.TheVariants.{Write, Cut, Fail, Settle}
use Rattle.take_disk.specs.Logs.{Content, fresh, touch, changed, done, replay}
use Rattle.take_disk.specs.inner.Counts.{IsSettledSo, is_change, changes, unsettled, latest, piece_end, pieces_end, in_span}

-- a fresh area is synced
pub fresh_settled : (bytes : List ℕ) → IsSettledSo (fresh bytes) 0
fresh_settled bytes = record { places = λ place le. le; whole = λ le. le }

pub fresh_replayed : (pieces start : List ℕ) (entries : List Entry) → entries ≡ [] → replay pieces entries (fresh start) ≡ fresh start
unfolding replay
fresh_replayed pieces start entries e = rw e refl

pub fresh_counts : (entries : List Entry) → entries ≡ [] → (changes entries ≡ 0) × (unsettled 0 entries ≡ 0) × (pieces_end entries ≡ 0)
unfolding changes unsettled pieces_end
fresh_counts entries e = rw e (refl, refl, refl)

pub replay_push : (pieces : List ℕ) (entries : List Entry) (entry : Entry) (kept : Content)
    → replay pieces (entries ++ entry ∷ []) kept ≡ done pieces entry.moment entry.deed (replay pieces entries kept)
unfolding replay
replay_push pieces [] entry kept = refl
replay_push pieces (e ∷ entries) entry kept = replay_push pieces entries entry (done pieces e.moment e.deed kept)

pub changes_push : (entries : List Entry) (entry : Entry) → changes (entries ++ entry ∷ []) ≡ changes entries + (if is_change entry.deed then 1 else 0)
unfolding changes
changes_push [] entry = omega arith
changes_push (e ∷ entries) entry = omega (arith, changes_push entries entry)

pub unsettled_push : (synced : ℕ) (entries : List Entry) (entry : Entry)
    → unsettled synced (entries ++ entry ∷ []) ≡ unsettled synced entries + (if nat_lt synced entry.moment && is_change entry.deed then 1 else 0)
unfolding unsettled
unsettled_push synced [] entry = omega arith
unsettled_push synced (e ∷ entries) entry = omega (arith, unsettled_push synced entries entry)

pub latest_push : (entries : List Entry) (entry : Entry) → latest (entries ++ entry ∷ []) ≡ max (latest entries) entry.moment
unfolding latest
latest_push [] entry = omega arith
latest_push (e ∷ entries) entry = omega (arith, latest_push entries entry)

pub pieces_end_push : (entries : List Entry) (entry : Entry) → pieces_end (entries ++ entry ∷ []) ≡ max (pieces_end entries) (piece_end entry.deed)
unfolding pieces_end
pieces_end_push [] entry = omega arith
pieces_end_push (e ∷ entries) entry = omega (arith, pieces_end_push entries entry)

-- a part of the pieces stays when others come behind
piece_stays : (pieces more : List ℕ) (from len : ℕ) → from + len ≤ length pieces → take len (drop from (pieces ++ more)) ≡ take len (drop from pieces)
piece_stays pieces more from len le = rw (drop-append-le from pieces more (omega (arith, le)))
    (take-append-le len (drop from pieces) more (omega (arith, le, length-drop from pieces)))

pub done_grows : (pieces more : List ℕ) (moment : ℕ) (deed : Deed) (kept : Content) → piece_end deed ≤ length pieces
    → done (pieces ++ more) moment deed kept ≡ done pieces moment deed kept
done_grows pieces more moment (Write at from len) kept le = rw (piece_stays pieces more from len le) refl
done_grows pieces more moment (Cut len end) kept le = refl
done_grows pieces more moment (Fail from to) kept le = refl
done_grows pieces more moment (Settle upto) kept le = refl

pub replay_grows : (pieces more : List ℕ) (entries : List Entry) (kept : Content) → pieces_end entries ≤ length pieces
    → replay (pieces ++ more) entries kept ≡ replay pieces entries kept
unfolding replay pieces_end
replay_grows pieces more [] kept le = refl
replay_grows pieces more (e ∷ entries) kept le =
    rw (done_grows pieces more e.moment e.deed kept (omega (arith, le)))
    (replay_grows pieces more entries (done pieces e.moment e.deed kept) (omega (arith, le)))

-- a place that is touched now has this moment, and others keep theirs
touched_now : (from to moment : ℕ) (old : ℕ → ℕ) (place : ℕ) → (touch from to moment old place ≡ old place) ⊎ (touch from to moment old place ≡ moment)
touched_now from to moment old place = elim (cases_lt place from) [
  | inl lt ↦ inl (rw (lt-ltb place from lt) refl)
  | inr ge ↦ elim (cases_lt place to) [
    | inl inside ↦ inr (rw (le-ltb place from ge, lt-ltb place to inside) refl)
    | inr outside ↦ inl (rw (le-ltb place from ge, le-ltb place to outside) refl)
  ]
]

changed_settled : (from to moment synced : ℕ) (reads : List ℕ) (kept : Content) → synced < moment → IsSettledSo kept synced
    → IsSettledSo (changed from to moment reads kept) synced
changed_settled from to moment synced reads kept late so = record {
  places = λ place le. elim (touched_now from to moment kept.touched place) [
    | inl old ↦ omega (arith, old, so.places place (omega (arith, old, le)))
    | inr new ↦ omega (arith, new, le, late)
  ];
  whole = λ le. omega (arith, le, late);
}

-- a write or cut after the moment up to which all is kept
pub done_settled : (pieces : List ℕ) (moment synced : ℕ) (deed : Deed) (kept : Content) → is_change deed ≡ true → synced < moment → IsSettledSo kept synced
    → IsSettledSo (done pieces moment deed kept) synced
done_settled pieces moment synced (Write at from len) kept is late so = changed_settled at _ moment synced _ kept late so
done_settled pieces moment synced (Cut len end) kept is late so = changed_settled len _ moment synced _ kept late so
done_settled pieces moment synced (Fail from to) kept is late so = changed_settled from to moment synced kept.reads kept late so
done_settled pieces moment synced (Settle upto) kept is late so = absurd (true≢false (sym is))

-- all up to a moment is settled
pub settle_settled : (pieces : List ℕ) (moment synced upto : ℕ) (kept : Content) → synced < upto → IsSettledSo kept synced
    → IsSettledSo (done pieces moment (Settle upto) kept) upto
settle_settled pieces moment synced upto kept late so = record {
  places = λ place le. omega (arith, le);
  whole = λ le. omega (arith, le);
}

-- nothing touched lies between two moments
record IsFree (after to : ℕ) (kept : Content) : Type 0 where
  pub places : (place : ℕ) → kept.touched place ≤ to → kept.touched place ≤ after
  pub whole : kept.altered ≤ to → kept.altered ≤ after

changed_free : (from end moment after to : ℕ) (reads : List ℕ) (kept : Content) → (moment ≤ to → moment ≤ after) → IsFree after to kept
    → IsFree after to (changed from end moment reads kept)
changed_free from end moment after to reads kept out free = record {
  places = λ place le. elim (touched_now from end moment kept.touched place) [
    | inl old ↦ omega (arith, old, free.places place (omega (arith, old, le)))
    | inr new ↦ omega (arith, new, out (omega (arith, new, le)))
  ];
  whole = out;
}

-- an entry outside of the span that writes or cuts
outside : (after to : ℕ) (moment : ℕ) (is : Bool) → is ≡ true → (nat_lt after moment && not (nat_lt to moment) && is) ≡ false → moment ≤ to → moment ≤ after
outside after to moment is change out le = elim (cases_lt after moment) [
  | inl lt ↦ absurd (true≢false (rw (lt-ltb after moment lt, le-ltb to moment le, change) at out))
  | inr ge ↦ ge
]

done_free : (pieces : List ℕ) (after to moment : ℕ) (deed : Deed) (kept : Content) → in_span after to (record { moment = moment; deed = deed }) ≡ false
    → IsFree after to kept → IsFree after to (done pieces moment deed kept)
done_free pieces after to moment (Write at from len) kept out free = changed_free at _ moment after to _ kept (outside after to moment true refl out) free
done_free pieces after to moment (Cut len end) kept out free = changed_free len _ moment after to _ kept (outside after to moment true refl out) free
done_free pieces after to moment (Fail from end) kept out free = changed_free from end moment after to kept.reads kept
    (outside after to moment true refl out) free
done_free pieces after to moment (Settle upto) kept out free = record { places = free.places; whole = free.whole }

or_false : (a b : Bool) → (a || b) ≡ false → (a ≡ false) × (b ≡ false)
or_false false b e = (refl, e)
or_false true b e = absurd (true≢false e)

or_true : (a b : Bool) → (a || b) ≡ true → (a ≡ true) ⊎ (b ≡ true)
or_true false b e = inr e
or_true true b e = inl refl

replay_free : (pieces : List ℕ) (after to : ℕ) (entries : List Entry) (kept : Content) → list_any (in_span after to) entries ≡ false → IsFree after to kept
    → IsFree after to (replay pieces entries kept)
unfolding replay
replay_free pieces after to [] kept out free = free
replay_free pieces after to (e ∷ entries) kept out free =
    let both = or_false (in_span after to e) (list_any (in_span after to) entries) out in
    replay_free pieces after to entries (done pieces e.moment e.deed kept) both.1 (done_free pieces after to e.moment e.deed kept both.0 free)

-- where no write or cut lies between, the same places are kept
pub free_settled : (pieces start : List ℕ) (synced upto : ℕ) (entries : List Entry) → list_any (in_span synced upto) entries ≡ false
    → IsSettledSo (replay pieces entries (fresh start)) synced → IsSettledSo (replay pieces entries (fresh start)) upto
free_settled pieces start synced upto entries out so =
    let free = replay_free pieces synced upto entries (fresh start) out (record { places = λ place le. omega arith; whole = λ le. omega arith }) in
    record { places = λ place le. so.places place (free.places place le); whole = λ le. so.whole (free.whole le) }

-- a later moment leaves no more unsettled, and fewer where a write or cut lies between
unsettled_less : (synced upto : ℕ) (entries : List Entry) → synced ≤ upto → unsettled upto entries ≤ unsettled synced entries
unfolding unsettled
unsettled_less synced upto [] le = omega arith
unsettled_less synced upto (e ∷ entries) le = elim (cases_lt upto e.moment) [
  | inl lt ↦ rw (lt-ltb upto e.moment lt, lt-ltb synced e.moment (omega (arith, le, lt))) (omega (arith, unsettled_less synced upto entries le))
  | inr ge ↦ rw (le-ltb upto e.moment ge) (omega (arith, unsettled_less synced upto entries le))
]

spanned : (synced upto : ℕ) (entry : Entry) → in_span synced upto entry ≡ true
    → (nat_lt synced entry.moment ≡ true) × (nat_lt upto entry.moment ≡ false) × (is_change entry.deed ≡ true)
spanned synced upto entry is = elim (cases_lt synced entry.moment) [
  | inl lt ↦ elim (cases_lt upto entry.moment) [
    | inl beyond ↦ absurd (true≢false (sym (rw (lt-ltb synced entry.moment lt, lt-ltb upto entry.moment beyond) at is)))
    | inr ge ↦ (lt-ltb synced entry.moment lt, le-ltb upto entry.moment ge, rw (lt-ltb synced entry.moment lt, le-ltb upto entry.moment ge) at is)
  ]
  | inr ge ↦ absurd (true≢false (sym (rw (le-ltb synced entry.moment ge) at is)))
]

pub unsettled_fewer : (synced upto : ℕ) (entries : List Entry) → synced ≤ upto → list_any (in_span synced upto) entries ≡ true
    → unsettled upto entries + 1 ≤ unsettled synced entries
unfolding unsettled
unsettled_fewer synced upto [] le is = absurd (true≢false (sym is))
unsettled_fewer synced upto (e ∷ entries) le is = elim (or_true (in_span synced upto e) (list_any (in_span synced upto) entries) is) [
  | inl here ↦
      let s = spanned synced upto e here in
      rw (s.0, s.1, s.2) (omega (arith, unsettled_less synced upto entries le))
  | inr there ↦ elim (cases_lt upto e.moment) [
    | inl lt ↦ rw (lt-ltb upto e.moment lt, lt-ltb synced e.moment (omega (arith, le, lt))) (omega (arith, unsettled_fewer synced upto entries le there))
    | inr ge ↦ rw (le-ltb upto e.moment ge) (omega (arith, unsettled_fewer synced upto entries le there))
  ]
]

pub unsettled_free : (synced upto : ℕ) (entries : List Entry) → synced ≤ upto → unsettled upto entries ≤ unsettled synced entries
unsettled_free synced upto entries le = unsettled_less synced upto entries le

pub fresh_latest : (entries : List Entry) → entries ≡ [] → latest entries ≡ 0
unfolding latest
fresh_latest entries e = rw e refl

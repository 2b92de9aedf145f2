-- Each pick is an image: what was settled is there, whatever came later.
use Rattle.std.proofs.Common.{◌≡◌, inl, inr, ◌≤◌, ◌<◌, ◌+◌, ◌-◌, not, min, nat_lt, if◌then◌else◌, ℕ, true, List, [], ◌∷◌, length}
use Rattle.std.proofs.Common.{take, drop, get_or, refl, sym, ◌∙◌, subst, ap, arith, length-drop}
use Rattle.std.proofs.lemmas.List.{ext_get_or, get_or-take, get_or-drop, drop_all, length-take}
use Rattle.std.proofs.lemmas.Bool.{lt-ltb, le-ltb, cases_lt}
use Rattle.take_disk.specs.declared.entry.Entry.{Entry}
use Rattle.take_disk.specs.declared.entry.Deed.{Deed}
use Rattle.take_disk.specs.declared.entry.Deed.TheVariants.{Write, Cut, Fail, Settle}
use Rattle.take_disk.specs.declared.pick.Pick.{Pick}
use Rattle.take_disk.specs.declared.pick.Pick.TheVariants.{Kept, Lost, Torn}
use Rattle.take_disk.specs.Held.{IsImage}
use Rattle.take_disk.specs.Logs.{Content, Log, held_of, fresh, touch, changed, done, replay, up_to, kept_at, kept_now, replayed}
use Rattle.take_disk.specs.Picks.{IsTorn, IsPicked}
use Rattle.take_disk.specs.inner.Counts.{fits_in, is_sound}
use Rattle.take_disk.specs.laws.LogLaws.{image_of}
use Rattle.take_disk.proofs.DiskLemmas.{with_bytes_before, with_bytes_after, take_twice}
use Rattle.take_disk.proofs.SoundLemmas.{and_true, not_less, sound_first, sound_cons}

-- the entries after a moment
abbrev rest_from : ℕ → List Entry → List Entry
rest_from upto [] = []
rest_from upto (e ∷ entries) = if nat_lt upto e.moment then e ∷ entries else rest_from upto entries

rest_replay : (pieces : List ℕ) (upto : ℕ) (entries : List Entry) (content : Content)
    → replay pieces (rest_from upto entries) (replay pieces (up_to upto entries) content) ≡ replay pieces entries content
unfolding replay up_to
rest_replay pieces upto [] content = refl
rest_replay pieces upto (e ∷ entries) content = elim (cases_lt upto e.moment) [
  | inl lt ↦ rw (lt-ltb upto e.moment lt) refl
  | inr ge ↦ rw (le-ltb upto e.moment ge) (rest_replay pieces upto entries (done pieces e.moment e.deed content))
]

rest_sound : (pieces : List ℕ) (upto before : ℕ) (entries : List Entry) (content : Content) → is_sound pieces before content entries ≡ true
    → is_sound pieces upto (replay pieces (up_to upto entries) content) (rest_from upto entries) ≡ true
unfolding replay up_to is_sound
rest_sound pieces upto before [] content is = refl
rest_sound pieces upto before (e ∷ entries) content is =
    let first = sound_first pieces before content e entries is in
    elim (cases_lt upto e.moment) [
      | inl lt ↦ rw (lt-ltb upto e.moment lt) (sound_cons pieces upto content e entries (record { later = lt; fits = first.fits; rest = first.rest }))
      | inr ge ↦ rw (le-ltb upto e.moment ge) (rest_sound pieces upto e.moment entries (done pieces e.moment e.deed content) first.rest)
    ]

-- outside of a range all bytes are the same, and inside of it all places are touched now
record IsRange (from to moment : ℕ) (old new : Content) : Type 0 where
  pub before : take from new.reads ≡ take from old.reads
  pub after : drop to new.reads ≡ drop to old.reads
  pub touched : (place : ℕ) → new.touched place ≡ touch from to moment old.touched place

-- what is kept of a place by what comes later
record Stood (place upto : ℕ) (old new : Content) : Type 0 where
  pub inside : place < length old.reads
  pub same : get_or new.reads place 0 ≡ get_or old.reads place 0
  pub touched : old.touched place ≤ upto

touch_low : (from to moment : ℕ) (old : ℕ → ℕ) (place : ℕ) → place < from → touch from to moment old place ≡ old place
touch_low from to moment old place lt = rw (lt-ltb place from lt) refl

touch_mid : (from to moment : ℕ) (old : ℕ → ℕ) (place : ℕ) → from ≤ place → place < to → touch from to moment old place ≡ moment
touch_mid from to moment old place ge lt = rw (le-ltb place from ge, lt-ltb place to lt) refl

touch_high : (from to moment : ℕ) (old : ℕ → ℕ) (place : ℕ) → from ≤ place → to ≤ place → touch from to moment old place ≡ old place
touch_high from to moment old place ge out = rw (le-ltb place from ge, le-ltb place to out) refl

at_most : {a b : ℕ} (upto : ℕ) → a ≡ b → a ≤ upto → b ≤ upto
at_most upto e le = omega (arith, e, le)

range_stood : (from to moment upto place : ℕ) (old new : Content) → IsRange from to moment old new → upto < moment → place < length new.reads
    → new.touched place ≤ upto → Stood place upto old new
range_stood from to moment upto place old new range late inside kept = elim (cases_lt place from) [
  | inl lt ↦
      let fronts : min from (length new.reads) ≡ min from (length old.reads) =
      sym (length-take from new.reads) ∙ (ap (λ (l : List ℕ). length l) range.before ∙ length-take from old.reads) in
      record {
        inside = omega (arith, fronts, lt, inside);
        same = sym (get_or-take from new.reads place 0 lt) ∙ (ap (λ (l : List ℕ). get_or l place 0) range.before ∙ get_or-take from old.reads place 0 lt);
        touched = at_most upto (range.touched place ∙ touch_low from to moment old.touched place lt) kept;
      }
  | inr ge ↦ elim (cases_lt place to) [
    | inl lt ↦ absurd (omega (arith, late, kept, range.touched place ∙ touch_mid from to moment old.touched place ge lt))
    | inr out ↦
        let backs : length new.reads - to ≡ length old.reads - to =
        sym (length-drop to new.reads) ∙ (ap (λ (l : List ℕ). length l) range.after ∙ length-drop to old.reads) in
        let at : to + (place - to) ≡ place = omega (arith, out) in
        record {
          inside = omega (arith, backs, out, inside);
          same = ap (λ (n : ℕ). get_or new.reads n 0) (sym at) ∙ (sym (get_or-drop to new.reads (place - to) 0)
              ∙ (ap (λ (l : List ℕ). get_or l (place - to) 0) range.after ∙ (get_or-drop to old.reads (place - to) 0
              ∙ ap (λ (n : ℕ). get_or old.reads n 0) at)));
          touched = at_most upto (range.touched place ∙ touch_high from to moment old.touched place ge out) kept;
        }
  ]
]

piece_long : (pieces : List ℕ) (from len : ℕ) → from + len ≤ length pieces → length (take len (drop from pieces)) ≡ len
piece_long pieces from len le = omega (arith, length-take len (drop from pieces), length-drop from pieces, le)

done_stood : (pieces : List ℕ) (moment upto place : ℕ) (deed : Deed) (content : Content) → fits_in (length pieces) (length content.reads) deed ≡ true
    → upto < moment
    → place < length (done pieces moment deed content).reads → (done pieces moment deed content).touched place ≤ upto
    → Stood place upto content (done pieces moment deed content)
done_stood pieces moment upto place (Write at from len) content fits late inside kept =
    let both = and_true (not (nat_lt (length content.reads) at)) (not (nat_lt (length pieces) (from + len))) fits in
    let le = not_less (length content.reads) at both.0 in
    let piece : List ℕ = take len (drop from pieces) in
    let long : length piece ≡ len = piece_long pieces from len (not_less (length pieces) (from + len) both.1) in
    range_stood at (at + len) moment upto place content (done pieces moment (Write at from len) content) (record {
      before = with_bytes_before content.reads at piece le;
      after = subst (λ (n : ℕ). drop (at + n) ((done pieces moment (Write at from len) content).reads) ≡ drop (at + n) content.reads) long
          (with_bytes_after content.reads at piece le);
      touched = λ p. refl;
    }) late inside kept
done_stood pieces moment upto place (Cut len end) content fits late inside kept =
    let both = and_true (not (nat_lt (length content.reads) len)) (not (nat_lt end (length content.reads))) fits in
    let long = not_less end (length content.reads) both.1 in
    range_stood len end moment upto place content (done pieces moment (Cut len end) content) (record {
      before = take_twice len content.reads;
      after = drop_all end (take len content.reads) (omega (arith, long, length-take len content.reads)) ∙ sym (drop_all end content.reads long);
      touched = λ p. refl;
    }) late inside kept
done_stood pieces moment upto place (Fail from to) content fits late inside kept =
    range_stood from to moment upto place content (done pieces moment (Fail from to) content) (record {
      before = refl;
      after = refl;
      touched =
          λ p. refl;
    }) late inside kept
done_stood pieces moment upto place (Settle s) content fits late inside kept = record { inside = inside; same = refl; touched = kept }

-- what was settled stands, whatever comes after that moment
rest_stood : (pieces : List ℕ) (upto before place : ℕ) (entries : List Entry) (content : Content) → is_sound pieces before content entries ≡ true
    → upto ≤ before
    → place < length (replay pieces entries content).reads → (replay pieces entries content).touched place ≤ upto
    → Stood place upto content (replay pieces entries content)
unfolding replay
rest_stood pieces upto before place [] content is le inside kept = record { inside = inside; same = refl; touched = kept }
rest_stood pieces upto before place (e ∷ entries) content is le inside kept =
    let first = sound_first pieces before content e entries is in
    let later = rest_stood pieces upto e.moment place entries (done pieces e.moment e.deed content) first.rest (omega (arith, le, first.later)) inside kept in
    let now = done_stood pieces e.moment upto place e.deed content first.fits (omega (arith, le, first.later)) later.inside later.touched in
    record { inside = now.inside; same = later.same ∙ now.same; touched = now.touched }

-- where nothing was written or cut since, all stands
record StoodWhole (upto : ℕ) (old new : Content) : Type 0 where
  pub same : new.reads ≡ old.reads
  pub altered : old.altered ≤ upto

done_whole : (pieces : List ℕ) (moment upto : ℕ) (deed : Deed) (content : Content) → upto < moment → (done pieces moment deed content).altered ≤ upto
    → StoodWhole upto content (done pieces moment deed content)
done_whole pieces moment upto (Write at from len) content late le = absurd (omega (arith, late, le))
done_whole pieces moment upto (Cut len end) content late le = absurd (omega (arith, late, le))
done_whole pieces moment upto (Fail from to) content late le = absurd (omega (arith, late, le))
done_whole pieces moment upto (Settle s) content late le = record { same = refl; altered = le }

rest_whole : (pieces : List ℕ) (upto before : ℕ) (entries : List Entry) (content : Content) → is_sound pieces before content entries ≡ true → upto ≤ before
    → (replay pieces entries content).altered ≤ upto → StoodWhole upto content (replay pieces entries content)
unfolding replay
rest_whole pieces upto before [] content is le kept = record { same = refl; altered = kept }
rest_whole pieces upto before (e ∷ entries) content is le kept =
    let first = sound_first pieces before content e entries is in
    let later = rest_whole pieces upto e.moment entries (done pieces e.moment e.deed content) first.rest (omega (arith, le, first.later)) kept in
    let now = done_whole pieces e.moment upto e.deed content (omega (arith, le, first.later)) later.altered in
    record { same = later.same ∙ now.same; altered = now.altered }

-- no place was touched later than the area was altered
record IsOrdered (before : ℕ) (content : Content) : Type 0 where
  pub touched : (place : ℕ) → content.touched place ≤ content.altered
  pub altered : content.altered ≤ before

touch_most : (from to moment : ℕ) (old : ℕ → ℕ) (place : ℕ) → old place ≤ moment → touch from to moment old place ≤ moment
touch_most from to moment old place le = elim (cases_lt place from) [
  | inl lt ↦ rw (lt-ltb place from lt) le
  | inr ge ↦ elim (cases_lt place to) [
    | inl lt ↦ rw (le-ltb place from ge, lt-ltb place to lt) (omega arith)
    | inr out ↦ rw (le-ltb place from ge, le-ltb place to out) le
  ]
]

changed_ordered : (from to moment before : ℕ) (reads : List ℕ) (content : Content) → before < moment → IsOrdered before content
    → IsOrdered moment (changed from to moment reads content)
changed_ordered from to moment before reads content late is = record {
  touched = λ place. touch_most from to moment content.touched place (omega (arith, late, is.altered, is.touched place));
  altered = omega arith;
}

done_ordered : (pieces : List ℕ) (moment before : ℕ) (deed : Deed) (content : Content) → before < moment → IsOrdered before content
    → IsOrdered moment (done pieces moment deed content)
done_ordered pieces moment before (Write at from len) content late is = changed_ordered at _ moment before _ content late is
done_ordered pieces moment before (Cut len end) content late is = changed_ordered len end moment before _ content late is
done_ordered pieces moment before (Fail from to) content late is = changed_ordered from to moment before content.reads content late is
done_ordered pieces moment before (Settle s) content late is = record { touched = is.touched; altered = omega (arith, late, is.altered) }

replay_ordered : (pieces : List ℕ) (before : ℕ) (entries : List Entry) (content : Content) → is_sound pieces before content entries ≡ true
    → IsOrdered before content
    → (place : ℕ) → (replay pieces entries content).touched place ≤ (replay pieces entries content).altered
unfolding replay
replay_ordered pieces before [] content is ordered = ordered.touched
replay_ordered pieces before (e ∷ entries) content is ordered =
    let first = sound_first pieces before content e entries is in
    replay_ordered pieces e.moment entries (done pieces e.moment e.deed content) first.rest
    (done_ordered pieces e.moment before e.deed content first.later ordered)

module _ (log : Log) (sound : is_sound log.pieces 0 (fresh log.start) log.entries ≡ true) where
  -- as the area was at the moment up to which all is kept
  lost_image : IsImage (held_of (kept_now log)) (kept_at log.synced log).reads
  lost_image =
      let all = rest_replay log.pieces log.synced log.entries (fresh log.start) in
      let is = rest_sound log.pieces log.synced 0 log.entries (fresh log.start) sound in
      let lost : Content = kept_at log.synced log in
      let stood : (place : ℕ) → place < length (replayed log).reads → (replayed log).touched place ≤ log.synced → Stood place log.synced lost (replayed log) =
      λ place inside kept. subst (λ (x : Content). Stood place log.synced lost x) all
      (rest_stood log.pieces log.synced log.synced place (rest_from log.synced log.entries) lost is (omega arith)
      (subst (λ (x : Content). place < length x.reads) (sym all) inside) (subst (λ (x : Content). x.touched place ≤ log.synced) (sym all) kept)) in
      record {
        reaches = λ place inside keeps. (stood place inside keeps.first).inside;
        agrees = λ place inside keeps. sym ((stood place inside keeps.first).same);
        whole = λ keeps.
            let back = rest_whole log.pieces log.synced log.synced (rest_from log.synced log.entries) lost is (omega arith)
            (subst (λ (x : Content). x.altered ≤ log.synced) (sym all) keeps.first) in
            sym back.same ∙ ap (λ (x : Content). x.reads) all;
      }

  -- with another byte in each place that is unsettled
  torn_image : (byte : ℕ) (image : List ℕ) → IsTorn byte (kept_now log) image → IsImage (held_of (kept_now log)) image
  torn_image byte image torn =
      let same : (place : ℕ) → place < length (replayed log).reads → (replayed log).touched place ≤ log.synced
      → get_or image place 0 ≡ get_or (replayed log).reads place 0 =
      λ place inside kept. torn.each place inside ∙ rw (le-ltb log.synced ((replayed log).touched place) kept) refl in
      record {
        reaches = λ place inside keeps. omega (arith, inside, torn.long);
        agrees = λ place inside keeps. same place inside keeps.first;
        whole = λ keeps. ext_get_or 0 image (replayed log).reads torn.long (λ place inside.
            same place (omega (arith, inside, torn.long))
            (omega (
              arith,
              keeps.first,
              replay_ordered log.pieces 0 log.entries (fresh log.start) sound (record {
                touched = λ p. omega arith;
                altered =
                    omega arith;
              }) place,
            )));
      }

  pub picked_image : (pick : Pick) (image : List ℕ) → IsPicked pick log image → IsImage (held_of (kept_now log)) image
  picked_image Kept image is = subst (λ (l : List ℕ). IsImage (held_of (kept_now log)) l) (sym is) (image_of (held_of (kept_now log)))
  picked_image Lost image is = subst (λ (l : List ℕ). IsImage (held_of (kept_now log)) l) (sym is) lost_image
  picked_image (Torn byte) image is = torn_image byte image is

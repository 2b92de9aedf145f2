-- What is read again and touched last is what the record says.
use Rattle.std.proofs.Common.{◌≡◌, inl, inr, ◌≤◌, ◌<◌, ◌+◌, ◌-◌, min, nat_lt, if◌then◌else◌, ℕ, List, [], ◌∷◌, length}
use Rattle.std.proofs.Common.{take, drop, get_or, refl, sym, ◌∙◌, subst, ap, arith, length-drop}
use Rattle.std.proofs.lemmas.List.{take_all, drop_all}
use Rattle.std.proofs.lemmas.Bool.{lt-ltb, le-ltb, cases_lt}
use Rattle.rec_bytes.specs.Places.{with_bytes}
use Rattle.take_disk.specs.declared.entry.Entry.{Entry}
use Rattle.take_disk.specs.declared.entry.Deed.{Deed}
use Rattle.take_disk.specs.declared.entry.Deed.TheVariants.{Write, Cut, Fail, Settle}
use Rattle.take_disk.specs.Logs.{Content, Log, fresh, touch, done, replay, replayed, up_to, kept_now}
use Rattle.take_disk.specs.Picks.{IsTorn}
use Rattle.take_disk.specs.inner.Redone.{redone, redone_to, between, touches, last_touch}

done_reads : (pieces : List ℕ) (moment : ℕ) (deed : Deed) (content : Content) → (done pieces moment deed content).reads ≡ redone pieces deed content.reads
done_reads pieces moment (Write at from len) content = refl
done_reads pieces moment (Cut len end) content = refl
done_reads pieces moment (Fail from to) content = refl
done_reads pieces moment (Settle upto) content = refl

pub redone_reads : (upto : ℕ) (pieces : List ℕ) (entries : List Entry) (content : Content)
    → redone_to upto pieces entries content.reads ≡ (replay pieces (up_to upto entries) content).reads
unfolding replay up_to redone_to
redone_reads upto pieces [] content = refl
redone_reads upto pieces (e ∷ entries) content = elim (cases_lt upto e.moment) [
  | inl lt ↦ rw (lt-ltb upto e.moment lt) refl
  | inr ge ↦ rw (
    le-ltb upto e.moment ge,
    sym (done_reads pieces e.moment e.deed content),
  ) (redone_reads upto pieces entries (done pieces e.moment e.deed content))
]

touch_between : (from to moment : ℕ) (old : ℕ → ℕ) (place : ℕ) → touch from to moment old place ≡ (if between from to place then moment else old place)
touch_between from to moment old place = elim (cases_lt place from) [
  | inl lt ↦ rw (lt-ltb place from lt) refl
  | inr ge ↦ elim (cases_lt place to) [
    | inl lt ↦ rw (le-ltb place from ge, lt-ltb place to lt) refl
    | inr out ↦ rw (le-ltb place from ge, le-ltb place to out) refl
  ]
]

done_touched : (pieces : List ℕ) (moment : ℕ) (deed : Deed) (content : Content) (place : ℕ)
    → (done pieces moment deed content).touched place ≡ (if touches deed place then moment else content.touched place)
done_touched pieces moment (Write at from len) content place = touch_between at (at + len) moment content.touched place
done_touched pieces moment (Cut len end) content place = touch_between len end moment content.touched place
done_touched pieces moment (Fail from to) content place = touch_between from to moment content.touched place
done_touched pieces moment (Settle upto) content place = refl

pub last_touched : (pieces : List ℕ) (place : ℕ) (entries : List Entry) (content : Content)
    → (replay pieces entries content).touched place ≡ last_touch place (content.touched place) entries
unfolding replay last_touch
last_touched pieces place [] content = refl
last_touched pieces place (e ∷ entries) content =
    last_touched pieces place entries (done pieces e.moment e.deed content)
    ∙ ap (λ (n : ℕ). last_touch place n entries) (done_touched pieces e.moment e.deed content place)

-- one entry further
pub redone_step : (upto : ℕ) (pieces : List ℕ) (entry : Entry) (entries : List Entry) (bytes : List ℕ) → entry.moment ≤ upto
    → redone_to upto pieces (entry ∷ entries) bytes ≡ redone_to upto pieces entries (redone pieces entry.deed bytes)
unfolding redone_to
redone_step upto pieces entry entries bytes le = rw (le-ltb upto entry.moment le) refl

pub redone_stop : (upto : ℕ) (pieces : List ℕ) (entry : Entry) (entries : List Entry) (bytes : List ℕ) → upto < entry.moment
    → redone_to upto pieces (entry ∷ entries) bytes ≡ bytes
unfolding redone_to
redone_stop upto pieces entry entries bytes late = rw (lt-ltb upto entry.moment late) refl

pub redone_end : (upto : ℕ) (pieces : List ℕ) (entries : List Entry) (bytes : List ℕ) → entries ≡ [] → redone_to upto pieces entries bytes ≡ bytes
unfolding redone_to
redone_end upto pieces entries bytes e = rw e refl

pub touch_step : (place latest : ℕ) (entry : Entry) (entries : List Entry)
    → last_touch place latest (entry ∷ entries) ≡ last_touch place (if touches entry.deed place then entry.moment else latest) entries
unfolding last_touch
touch_step place latest entry entries = refl

pub touch_end : (place latest : ℕ) (entries : List Entry) → entries ≡ [] → last_touch place latest entries ≡ latest
unfolding last_touch
touch_end place latest entries e = rw e refl

-- a place beyond the end is as good as the end
pub with_bytes_end : (old : List ℕ) (at end : ℕ) (bytes : List ℕ) → end ≡ min at (length old) → with_bytes old end bytes ≡ with_bytes old at bytes
with_bytes_end old at end bytes is = elim (cases_lt at (length old)) [
  | inl lt ↦ ap (λ (n : ℕ). with_bytes old n bytes) (omega (arith, is, lt))
  | inr ge ↦
      let front : take end old ≡ take at old = take_all end old (omega (arith, is, ge)) ∙ sym (take_all at old ge) in
      let back : drop (end + length bytes) old ≡ drop (at + length bytes) old =
      drop_all (end + length bytes) old (omega (arith, is, ge)) ∙ sym (drop_all (at + length bytes) old (omega (arith, ge))) in
      rw (front, back) refl
]

pub part_end : (pieces : List ℕ) (from len start count : ℕ) → start ≡ min from (length pieces) → count ≡ min len (length pieces - start)
    → take count (drop start pieces) ≡ take len (drop from pieces)
part_end pieces from len start count is is_count = elim (cases_lt from (length pieces)) [
  | inl lt ↦
      let same : start ≡ from = omega (arith, is, lt) in
      elim (cases_lt len (length pieces - from)) [
        | inl less ↦ ap (λ (n : ℕ). take n (drop start pieces)) (omega (arith, is_count, same, less)) ∙ ap (λ (n : ℕ). take len (drop n pieces)) same
        | inr most ↦
            take_all count (drop start pieces) (omega (arith, length-drop start pieces, is_count, same, most))
            ∙ (ap (λ (n : ℕ). drop n pieces) same ∙ sym (take_all len (drop from pieces) (omega (arith, length-drop from pieces, most))))
      ]
  | inr ge ↦
      let one : drop start pieces ≡ [] = drop_all start pieces (omega (arith, is, ge)) in
      let two : drop from pieces ≡ [] = drop_all from pieces ge in
      let none : count ≡ 0 = omega (arith, is, is_count, ge) in
      ap (λ (l : List ℕ). take count l) one ∙ (ap (λ (n : ℕ). take n []) none ∙ (sym (take_all len [] (omega arith))
      ∙ ap (λ (l : List ℕ). take len l) (sym two)))
]

-- each place has the byte or what was there
abbrev pub TornEach : ℕ → ℕ → List Entry → List ℕ → List ℕ → Type 0
TornEach synced byte entries old new =
    (place : ℕ) → place < length old → get_or new place 0 ≡ (if nat_lt synced (last_touch place 0 entries) then byte else get_or old place 0)

pub torn_is : (log : Log) (bytes now : List ℕ) (byte : ℕ) → (replayed log).reads ≡ bytes → length now ≡ length bytes
    → TornEach log.synced byte log.entries bytes now
    → IsTorn byte (kept_now log) now
torn_is log bytes now byte reads long each = record {
  long = long ∙ ap (λ (l : List ℕ). length l) (sym reads);
  each = λ place inside.
      each place (subst (λ (l : List ℕ). place < length l) reads inside)
      ∙ (ap (λ (n : ℕ). if nat_lt log.synced n then byte else get_or bytes place 0) (sym (last_touched log.pieces place log.entries (fresh log.start)))
      ∙ ap (λ (l : List ℕ). if nat_lt log.synced ((replayed log).touched place) then byte else get_or l place 0) (sym reads));
}

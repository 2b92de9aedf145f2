-- What the record of a disk in memory says of now (own). The laws of `TakeDisk` cite this.
use Rattle.std.proofs.Common.{◌≡◌, inl, inr, ◌≤◌, ℕ, List, [], ◌∷◌, refl, sym, subst, arith, Some}
use Rattle.std.proofs.lemmas.Bool.{lt-ltb, le-ltb, cases_lt}
use Rattle.std.proofs.lemmas.Option.{same_Some}
use Rattle.take_disk.specs.declared.area.Area.{Area}
use Rattle.take_disk.specs.declared.area.Area.TheVariants.{Essence, Commits}
use Rattle.take_disk.specs.declared.entry.Entry.{Entry}
use Rattle.take_disk.specs.declared.entry.Deed.{Deed}
use Rattle.take_disk.specs.declared.entry.Deed.TheVariants.{Write, Cut, Fail, Settle}
use Rattle.take_disk.specs.Held.{Moment, IsBefore, Areas, Held, Disk, IsImage, Leaves, IsPast, in_area}
use Rattle.take_disk.specs.Logs.{Content, Log, Logs, LeavesSince, one, held_of, fresh, touch, changed, done, replay, up_to, kept_at, kept_now, replayed, now}
use Rattle.take_disk.specs.Logs.{disk_now}
use Rattle.take_disk.specs.inner.Counts.{IsSettledSo, latest}

pub up_to_all : (k : ℕ) (entries : List Entry) → latest entries ≤ k → up_to k entries ≡ entries
unfolding up_to latest
up_to_all k [] le = refl
up_to_all k (e ∷ entries) le = rw (le-ltb k e.moment (omega (arith, le)), up_to_all k entries (omega (arith, le))) refl

pub is_before : {a b : ℕ} → a ≤ b → IsBefore (one a) (one b)
is_before le = record { first = le; second = omega arith }

-- what a crash leaves now is an image of what is held, and the other way round
pub held_image : (kept : Content) (synced : ℕ) (image : List ℕ) → IsSettledSo kept synced → IsImage (held_of kept) image
    → IsImage (held_of (record kept { synced = synced })) image
held_image kept synced image so is = record {
  reaches = λ place inside keeps. is.reaches place inside (is_before (so.places place keeps.first));
  agrees = λ place inside keeps. is.agrees place inside (is_before (so.places place keeps.first));
  whole = λ keeps. is.whole (is_before (so.whole keeps.first));
}

pub image_of : (held : Held) → IsImage held held.reads
image_of held = record { reaches = λ place inside keeps. inside; agrees = λ place inside keeps. refl; whole = λ keeps. refl }

-- the record says what a crash leaves now
pub record IsCurrent (log : Log) (moment : ℕ) : Type 0 where
  pub latest : latest log.entries ≤ moment
  pub settled : IsSettledSo (replayed log) log.synced

pub now_image : (log : Log) (moment k : ℕ) (image : List ℕ) → IsCurrent log moment → moment ≤ k → IsImage (held_of (kept_at k log)) image
    → IsImage (held_of (kept_now log)) image
now_image log moment k image current le is =
    held_image (replayed log) log.synced image current.settled
    (subst (λ entries. IsImage (held_of (replay log.pieces entries (fresh log.start))) image) (up_to_all k log.entries (omega (arith, le, current.latest))) is)

pub reads_image : (log : Log) (moment : ℕ) → IsCurrent log moment → IsImage (held_of (kept_at moment log)) (kept_now log).reads
reads_image log moment current =
    subst (λ entries. IsImage (held_of (replay log.pieces entries (fresh log.start))) (replayed log).reads) (sym (up_to_all moment log.entries current.latest))
    (image_of (held_of (replayed log)))

pub logs_crash : (logs : Logs) (disk : Disk) (image : Areas) → IsCurrent logs.essence (now logs) → IsCurrent logs.commits (now logs)
    → Some (disk_now logs) ≡ Some disk
    → LeavesSince logs (one (now logs)) image → Leaves disk image
logs_crash logs disk image e c told (k, le, most, left) =
    subst (λ d. Leaves d image) (same_Some (disk_now logs) disk told)
    (record {
      essence = now_image logs.essence (now logs) k image.essence e le left.essence;
      commits = now_image logs.commits (now logs) k image.commits c le left.commits;
    })

pub logs_earlier : (logs : Logs) (a b : Moment) (image : Areas) → IsBefore a b → LeavesSince logs b image → LeavesSince logs a image
logs_earlier logs a b image before (k, le, most, left) = (k, omega (arith, before.first, le), most, left)

pub logs_reads_so : (logs : Logs) (disk : Disk) → IsCurrent logs.essence (now logs) → IsCurrent logs.commits (now logs) → Some (disk_now logs) ≡ Some disk
    → LeavesSince logs (one (now logs)) (record { essence = disk.essence.reads; commits = disk.commits.reads })
logs_reads_so logs disk e c told =
    subst (λ (d : Disk). LeavesSince logs (one (now logs)) (record { essence = d.essence.reads; commits = d.commits.reads }))
    (same_Some (disk_now logs) disk told)
    (now logs, omega arith, omega arith, record { essence = reads_image logs.essence (now logs) e; commits = reads_image logs.commits (now logs) c })

-- nothing was touched later than the latest entry
record NoLater (kept : Content) (moment : ℕ) : Type 0 where
  pub places : (place : ℕ) → kept.touched place ≤ moment
  pub whole : kept.altered ≤ moment

touch_later : (from to moment most : ℕ) (old : ℕ → ℕ) (place : ℕ) → moment ≤ most → old place ≤ most → touch from to moment old place ≤ most
touch_later from to moment most old place now before = elim (cases_lt place from) [
  | inl lt ↦ rw (lt-ltb place from lt) before
  | inr ge ↦ elim (cases_lt place to) [
    | inl inside ↦ rw (le-ltb place from ge, lt-ltb place to inside) now
    | inr outside ↦ rw (le-ltb place from ge, le-ltb place to outside) before
  ]
]

changed_later : (from to moment most : ℕ) (reads : List ℕ) (kept : Content) → moment ≤ most → NoLater kept most
    → NoLater (changed from to moment reads kept) most
changed_later from to moment most reads kept le late = record {
  places = λ place. touch_later from to moment most kept.touched place le (late.places place);
  whole = le;
}

done_later : (pieces : List ℕ) (moment most : ℕ) (deed : Deed) (kept : Content) → moment ≤ most → NoLater kept most
    → NoLater (done pieces moment deed kept) most
done_later pieces moment most (Write at from len) kept le late = changed_later at _ moment most _ kept le late
done_later pieces moment most (Cut len end) kept le late = changed_later len _ moment most _ kept le late
done_later pieces moment most (Fail from to) kept le late = changed_later from to moment most kept.reads kept le late
done_later pieces moment most (Settle upto) kept le late = record { places = late.places; whole = late.whole }

replay_later : (pieces : List ℕ) (most : ℕ) (entries : List Entry) (kept : Content) → latest entries ≤ most → NoLater kept most
    → NoLater (replay pieces entries kept) most
unfolding replay latest
replay_later pieces most [] kept le late = late
replay_later pieces most (e ∷ entries) kept le late =
    replay_later pieces most entries (done pieces e.moment e.deed kept) (omega (arith, le))
    (done_later pieces e.moment most e.deed kept (omega (arith, le)) late)

log_past : (log : Log) (moment : ℕ) → latest log.entries ≤ moment → IsPast (one moment) (held_of (kept_now log))
log_past log moment le =
    let late = replay_later log.pieces moment log.entries (fresh log.start) le (record { places = λ place. omega arith; whole = omega arith }) in
    record { touched = λ place. is_before (late.places place); altered = is_before late.whole }

pub logs_past : (logs : Logs) (disk : Disk) (area : Area) → latest logs.essence.entries ≤ now logs → latest logs.commits.entries ≤ now logs
    → Some (disk_now logs) ≡ Some disk
    → IsPast (one (now logs)) (in_area area disk)
logs_past logs disk Essence e c told = subst (λ (d : Disk). IsPast (one (now logs)) d.essence) (same_Some (disk_now logs) disk told)
    (log_past logs.essence (now logs) e)
logs_past logs disk Commits e c told = subst (λ (d : Disk). IsPast (one (now logs)) d.commits) (same_Some (disk_now logs) disk told)
    (log_past logs.commits (now logs) c)

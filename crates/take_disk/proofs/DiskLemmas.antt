-- What each call of a disk in memory does to what it tells and to what a crash leaves.
use Rattle.std.proofs.Common.{◌≡◌, ◌⊎◌, inl, inr, ◌≤◌, ◌<◌, ◌+◌, ℕ, max, List, [], ◌∷◌, ◌++◌, length, take, drop, refl, sym, ◌∙◌, ap, subst, arith}
use Rattle.std.proofs.Common.{append_assoc, length-append, length-drop}
use Rattle.std.proofs.lemmas.List.{take_at, drop_at, length-take-le, drop_all, length-take, take_all}
use Rattle.std.proofs.lemmas.Bool.{cases_lt, lt-ltb, le-ltb}
use Rattle.rec_bytes.specs.Places.{with_bytes}
use Rattle.take_disk.specs.declared.area.Area.{Area}
use Rattle.take_disk.specs.declared.area.Area.TheVariants.{Essence, Commits}
use Rattle.take_disk.specs.declared.entry.Entry.{Entry}
use Rattle.take_disk.specs.declared.entry.Deed.{Deed}
use Rattle.take_disk.specs.declared.entry.Deed.TheVariants.{Write, Cut, Fail, Settle}
use Rattle.take_disk.specs.Held.{Moment, Areas, Held, Leaves, InArea, Changed, Settled}
use Rattle.take_disk.specs.Calls.{Elapses}
use Rattle.take_disk.specs.Logs.{Content, Log, Logs, LeavesSince, one, held_of, fresh, touch, changed, done, replay, up_to, kept_at, kept_now, replayed, now}
use Rattle.take_disk.specs.Logs.{disk_now, disk_at}
use Rattle.take_disk.specs.Recorded.{IsMadeBy}
use Rattle.take_disk.specs.inner.Counts.{pieces_end}
use Rattle.take_disk.specs.Entered.{entered, written, Settles, in_logs, with_log}
use Rattle.take_disk.specs.laws.LogLaws.{is_before}
use Rattle.take_disk.proofs.LogLemmas.{replay_push, replay_grows}
use Rattle.take_disk.proofs.AreaLemmas.{replay_more, last_piece}

-- the entries up to a moment don't change where a later one comes
up_to_push : (k : ℕ) (entries : List Entry) (entry : Entry) → k < entry.moment → up_to k (entries ++ entry ∷ []) ≡ up_to k entries
unfolding up_to
up_to_push k [] entry late = rw (lt-ltb k entry.moment late) refl
up_to_push k (e ∷ entries) entry late = elim (cases_lt k e.moment) [
  | inl lt ↦ rw (lt-ltb k e.moment lt) refl
  | inr ge ↦ rw (le-ltb k e.moment ge, up_to_push k entries entry late) refl
]

up_to_pieces : (k : ℕ) (entries : List Entry) → pieces_end (up_to k entries) ≤ pieces_end entries
unfolding up_to pieces_end
up_to_pieces k [] = omega arith
up_to_pieces k (e ∷ entries) = elim (cases_lt k e.moment) [
  | inl lt ↦ rw (lt-ltb k e.moment lt) (omega arith)
  | inr ge ↦ rw (le-ltb k e.moment ge) (omega (arith, up_to_pieces k entries))
]

-- what was held at a moment doesn't change any more, and there is an entry more at most
pub record IsLater (moment : ℕ) (old new : Log) : Type 0 where
  pub same : (k : ℕ) → k ≤ moment → kept_at k new ≡ kept_at k old
  pub least : length old.entries ≤ length new.entries
  pub most : length new.entries ≤ length old.entries + 1

pub entered_later : (moment : ℕ) (deed : Deed) (log : Log) → IsLater moment log (entered (moment + 1) deed log)
entered_later moment deed log =
    let entry : Entry = record { moment = moment + 1; deed = deed } in record {
      same = λ k le. ap (λ (l : List Entry). replay log.pieces l (fresh log.start)) (up_to_push k log.entries entry (omega (arith, le)));
      least = omega (arith, length-append log.entries (entry ∷ []));
      most = omega (arith, length-append log.entries (entry ∷ []));
    }

pub written_later : (moment at : ℕ) (bytes : List ℕ) (log : Log) → pieces_end log.entries ≤ length log.pieces
    → IsLater moment log (written (moment + 1) at bytes log)
written_later moment at bytes log le =
    let entry : Entry = record { moment = moment + 1; deed = Write at (length log.pieces) (length bytes) } in record {
      same = λ k before. ap (λ (l : List Entry). replay (log.pieces ++ bytes) l (fresh log.start)) (up_to_push k log.entries entry (omega (arith, before)))
          ∙ replay_grows log.pieces bytes (up_to k log.entries) (fresh log.start) (omega (arith, le, up_to_pieces k log.entries));
      least = omega (arith, length-append log.entries (entry ∷ []));
      most = omega (arith, length-append log.entries (entry ∷ []));
    }

pub settles_later : (moment upto : ℕ) (old new : Log) → Settles (moment + 1) upto old new → IsLater moment old new
settles_later moment upto old new (inl (late, is)) =
    let entry : Entry = record { moment = moment + 1; deed = Settle upto } in
    let long : length new.entries ≡ length (old.entries ++ entry ∷ []) = ap (λ (l : Log). length l.entries) is in record {
      same = λ k le. ap (λ (l : Log). kept_at k l) is ∙ ap (λ (l : List Entry). replay old.pieces l (fresh old.start))
          (up_to_push k old.entries entry (omega (arith, le)));
      least = omega (arith, long, length-append old.entries (entry ∷ []));
      most = omega (arith, long, length-append old.entries (entry ∷ []));
    }
settles_later moment upto old new (inr is) =
    let long : length new.entries ≡ length old.entries = ap (λ (l : Log). length l.entries) is in
    record { same = λ k le. ap (λ (l : Log). kept_at k l) is; least = omega (arith, long); most = omega (arith, long) }

-- time goes on where nothing that was held before is another now
pub elapses : (old new : Logs) → now old ≤ now new → now new ≤ now old + 1 → ((k : ℕ) → k ≤ now old → disk_at k new ≡ disk_at k old)
    → Elapses (one (now old)) (one (now new)) (LeavesSince old) (LeavesSince new) (IsMadeBy old) (IsMadeBy new)
elapses old new least most same = record {
  later = is_before least;
  nothing_else = λ moment image before left. since moment image left;
  keeps = λ moment image before left. kept moment image left;
  tickets = λ ticket is. record { first = omega (arith, is.first, least); second = is.second };
}
  where
    since : (moment : Moment) (image : Areas) → LeavesSince new moment image → LeavesSince old moment image ⊎ LeavesSince new (one (now new)) image
    since moment image (k, from, to, leaves) = elim (cases_lt (now old) k) [
      | inl after ↦ inr (k, omega (arith, after, most), to, leaves)
      | inr by ↦ inl (k, from, by, subst (λ d. Leaves d image) (same k by) leaves)
    ]

    kept : (moment : Moment) (image : Areas) → LeavesSince old moment image → LeavesSince new moment image
    kept moment image (k, from, to, leaves) = (k, from, omega (arith, to, least), subst (λ d. Leaves d image) (sym (same k to)) leaves)

pub elapses_in : (area : Area) (logs : Logs) (new : Log) → IsLater (now logs) (in_logs area logs) new
    → Elapses (one (now logs)) (one (now (with_log area new logs))) (LeavesSince logs) (LeavesSince (with_log area new logs)) (IsMadeBy logs)
    (IsMadeBy (with_log area new logs))
elapses_in Essence logs new later = elapses logs (record logs { essence = new }) (omega (arith, later.least)) (omega (arith, later.most))
    (λ k le. ap (λ (kept : Content). record { essence = held_of kept; commits = held_of (kept_at k logs.commits) }) (later.same k le))
elapses_in Commits logs new later = elapses logs (record logs { commits = new }) (omega (arith, later.least)) (omega (arith, later.most))
    (λ k le. ap (λ (kept : Content). record { essence = held_of (kept_at k logs.essence); commits = held_of kept }) (later.same k le))

pub elapses_same : (logs : Logs) → Elapses (one (now logs)) (one (now logs)) (LeavesSince logs) (LeavesSince logs) (IsMadeBy logs) (IsMadeBy logs)
elapses_same logs = elapses logs logs (omega arith) (omega arith) (λ k le. refl)

pub elapses_ticket : (logs : Logs) → Elapses (one (now logs)) (one (now (record logs { tickets = logs.tickets + 1 }))) (LeavesSince logs)
    (LeavesSince (record logs { tickets = logs.tickets + 1 })) (IsMadeBy logs) (IsMadeBy (record logs { tickets = logs.tickets + 1 }))
elapses_ticket logs = elapses logs (record logs { tickets = logs.tickets + 1 }) (omega arith) (omega arith) (λ k le. refl)

-- only this area is another
pub told_in : (area : Area) (logs : Logs) (new : Log) (step : Held → Held → Type 0) → step (held_of (kept_now (in_logs area logs))) (held_of (kept_now new))
    → InArea area step (disk_now logs) (disk_now (with_log area new logs))
told_in Essence logs new step is = record { changed = is; same = refl }
told_in Commits logs new step is = record { changed = is; same = refl }

touch_out : (from to moment : ℕ) (old : ℕ → ℕ) (place : ℕ) → (place < from) ⊎ (to ≤ place) → touch from to moment old place ≡ old place
touch_out from to moment old place (inl before) = rw (lt-ltb place from before) refl
touch_out from to moment old place (inr behind) = elim (cases_lt place from) [
  | inl before ↦ rw (lt-ltb place from before) refl
  | inr ge ↦ rw (le-ltb place from ge, le-ltb place to behind) refl
]

-- a write or cut between two places
pub changed_held : (from to moment synced : ℕ) (reads : List ℕ) (kept : Content) → take from reads ≡ take from kept.reads → drop to reads ≡ drop to kept.reads
    → Changed from to (held_of (record kept { synced = synced })) (held_of (record (changed from to moment reads kept) { synced = synced }))
changed_held from to moment synced reads kept before after = record {
  before = before;
  after = after;
  untouched = λ place out. ap one (touch_out from to moment kept.touched place out);
  synced = refl;
}

pub with_bytes_before : (old : List ℕ) (at : ℕ) (bytes : List ℕ) → at ≤ length old → take at (with_bytes old at bytes) ≡ take at old
with_bytes_before old at bytes le =
    ap (λ (l : List ℕ). take at l) (append_assoc (take at old) bytes (drop (at + length bytes) old))
    ∙ take_at (take at old) (bytes ++ drop (at + length bytes) old) at (length-take-le at old le)

pub with_bytes_after : (old : List ℕ) (at : ℕ) (bytes : List ℕ) → at ≤ length old
    → drop (at + length bytes) (with_bytes old at bytes) ≡ drop (at + length bytes) old
with_bytes_after old at bytes le =
    drop_at (take at old ++ bytes) (drop (at + length bytes) old) (at + length bytes)
    (omega (arith, length-take-le at old le, length-append (take at old) bytes))

pub length-with_bytes : (old : List ℕ) (at : ℕ) (bytes : List ℕ) → at ≤ length old → length (with_bytes old at bytes) ≡ max (length old) (at + length bytes)
length-with_bytes old at bytes le =
    omega (
      arith,
      le,
      length-append (take at old ++ bytes) (drop (at + length bytes) old),
      length-append
          (take at old) bytes,
      length-take-le at old le,
      length-drop (at + length bytes) old,
    )

written_kept : (moment at : ℕ) (bytes : List ℕ) (log : Log) → pieces_end log.entries ≤ length log.pieces
    → kept_now (written moment at bytes log) ≡ record (changed at (at + length bytes) moment (with_bytes (replayed log).reads at bytes)
    (replayed log)) { synced = log.synced }
written_kept moment at bytes log le =
    ap (λ (k : Content). record k { synced = log.synced }) (replay_more log.start log.pieces bytes log.entries moment
    (Write at (length log.pieces) (length bytes)) le
    ∙ ap (λ (b : List ℕ). changed at (at + length bytes) moment (with_bytes (replayed log).reads at b) (replayed log)) (last_piece log.pieces bytes))

pub written_changed : (moment at : ℕ) (bytes : List ℕ) (log : Log) → pieces_end log.entries ≤ length log.pieces → at ≤ length (replayed log).reads
    → Changed at (at + length bytes) (held_of (kept_now log)) (held_of (kept_now (written moment at bytes log)))
written_changed moment at bytes log le inside =
    subst (λ (k : Content). Changed at (at + length bytes) (held_of (kept_now log)) (held_of k)) (sym (written_kept moment at bytes log le))
    (changed_held at (at + length bytes) moment log.synced (with_bytes (replayed log).reads at bytes) (replayed log)
    (with_bytes_before (replayed log).reads at bytes inside) (with_bytes_after (replayed log).reads at bytes inside))

pub written_reads : (moment at : ℕ) (bytes : List ℕ) (log : Log) → pieces_end log.entries ≤ length log.pieces
    → (kept_now (written moment at bytes log)).reads ≡ with_bytes (replayed log).reads at bytes
written_reads moment at bytes log le = ap (λ (k : Content). k.reads) (written_kept moment at bytes log le)

entered_kept : (moment : ℕ) (deed : Deed) (log : Log) → kept_now (entered moment deed log) ≡ record
    (done log.pieces moment deed (replayed log)) { synced = log.synced }
entered_kept moment deed log = ap (λ (k : Content). record k { synced = log.synced })
    (replay_push log.pieces log.entries (record { moment = moment; deed = deed }) (fresh log.start))

-- a front of a front
pub take_twice : (n : ℕ) (xs : List ℕ) → take n (take n xs) ≡ take n xs
take_twice n xs = take_all n (take n xs) (omega (arith, length-take n xs))

pub cut_changed : (moment len end : ℕ) (log : Log) → end ≡ length (replayed log).reads
    → Changed len end (held_of (kept_now log)) (held_of (kept_now (entered moment (Cut len end) log)))
cut_changed moment len end log is =
    let reads = (replayed log).reads in
    subst (λ (k : Content). Changed len end (held_of (kept_now log)) (held_of k)) (sym (entered_kept moment (Cut len end) log))
    (changed_held len end moment log.synced (take len reads) (replayed log) (take_twice len reads)
    (drop_all end (take len reads) (omega (arith, is, length-take len reads)) ∙ sym (drop_all end reads (omega (arith, is)))))

pub cut_reads : (moment len end : ℕ) (log : Log) → (kept_now (entered moment (Cut len end) log)).reads ≡ take len (replayed log).reads
cut_reads moment len end log = ap (λ (k : Content). k.reads) (entered_kept moment (Cut len end) log)

pub failed_changed : (moment from to : ℕ) (log : Log) → Changed from to (held_of (kept_now log)) (held_of (kept_now (entered moment (Fail from to) log)))
failed_changed moment from to log =
    subst (λ (k : Content). Changed from to (held_of (kept_now log)) (held_of k)) (sym (entered_kept moment (Fail from to) log))
    (changed_held from to moment log.synced (replayed log).reads (replayed log) refl refl)

pub failed_reads : (moment from to : ℕ) (log : Log) → (kept_now (entered moment (Fail from to) log)).reads ≡ (replayed log).reads
failed_reads moment from to log = ap (λ (k : Content). k.reads) (entered_kept moment (Fail from to) log)

pub same_changed : (from to : ℕ) (held : Held) → Changed from to held held
same_changed from to held = record { before = refl; after = refl; untouched = λ place out. refl; synced = refl }

-- all up to a moment is kept
settled_held : (upto synced new : ℕ) (kept : Content) → new ≡ max synced upto
    → Settled (one upto) (held_of (record kept { synced = synced })) (held_of (record kept { synced = new }))
settled_held upto synced new kept e = record { reads = refl; touched = λ place. refl; altered = refl; synced = ap one e }

pub settles_settled : (moment upto : ℕ) (old new : Log) → Settles moment upto old new → Settled (one upto) (held_of (kept_now old)) (held_of (kept_now new))
settles_settled moment upto old new (inl (late, is)) =
    subst (λ (l : Log). Settled (one upto) (held_of (kept_now old)) (held_of (kept_now l))) (sym is)
    (subst (λ (k : Content). Settled (one upto) (held_of (kept_now old)) (held_of (record k { synced = upto })))
    (sym (replay_push old.pieces old.entries (record { moment = moment; deed = Settle upto }) (fresh old.start)))
    (settled_held upto old.synced upto (replayed old) (omega (arith, late))))
settles_settled moment upto old new (inr is) =
    subst (λ (l : Log). Settled (one upto) (held_of (kept_now old)) (held_of (kept_now l))) (sym is)
    (settled_held upto old.synced (max old.synced upto) (replayed old) refl)

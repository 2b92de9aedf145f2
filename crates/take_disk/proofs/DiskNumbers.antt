-- The numbers of a disk in memory stay right after one deed more.
use Rattle.std.proofs.Common.{◌≡◌, inl, inr, ◌≤◌, ◌<◌, ◌+◌, ℕ, max, not, nat_lt, ◌||◌, Bool, true, false, List, [], ◌∷◌, ◌++◌, length, refl, ◌∙◌, ap, arith}
use Rattle.std.proofs.Common.{length-append}
use Rattle.std.proofs.lemmas.Bool.{cases_lt, lt-ltb, le-ltb, true≢false}
use Rattle.take_disk.specs.declared.entry.Entry.{Entry}
use Rattle.take_disk.specs.declared.entry.Deed.TheVariants.{Settle}
use Rattle.std.specs.Bool.{◌==◌}
use Rattle.std.specs.List.{list_any}
use Rattle.take_disk.specs.declared.memory_disk.MemoryDisk.{MemoryDisk}
use Rattle.take_disk.specs.Recorded.{is_stopped, fails_next}
use Rattle.take_disk.specs.Logs.{Log}
use Rattle.take_disk.specs.inner.Counts.{is_change, changes, latest}
use Rattle.take_disk.specs.Entered.{Settles}
use Rattle.take_disk.proofs.LogLemmas.{changes_push, latest_push}

-- nothing in the record is later than this
pub record IsBy (moment : ℕ) (log : Log) : Type 0 where
  pub latest : latest log.entries ≤ moment
  pub synced : log.synced ≤ moment

-- as many writes and cuts as calls at most, and nothing later than now
pub record AreRight (one two : Log) (tickets number : ℕ) : Type 0 where
  pub recorded : changes one.entries + changes two.entries ≤ number
  pub essence : IsBy (length one.entries + length two.entries + tickets) one
  pub commits : IsBy (length one.entries + length two.entries + tickets) two

-- a write or cut more at the next moment
pub record IsOneMore (before : ℕ) (old new : Log) : Type 0 where
  pub entry : Entry
  pub entries : new.entries ≡ old.entries ++ entry ∷ []
  pub moment : entry.moment ≡ before + 1
  pub change : is_change entry.deed ≡ true
  pub synced : new.synced ≡ old.synced

by_later : (moment later : ℕ) (log : Log) → IsBy moment log → moment ≤ later → IsBy later log
by_later moment later log by le = record { latest = omega (arith, by.latest, le); synced = omega (arith, by.synced, le) }

pub one_longer : (old new : List Entry) (entry : Entry) → new ≡ old ++ entry ∷ [] → length new ≡ length old + 1
one_longer old new entry e = ap (λ (l : List Entry). length l) e ∙ length-append old (entry ∷ [])

more_changes : (old new : List Entry) (entry : Entry) → new ≡ old ++ entry ∷ [] → is_change entry.deed ≡ true → changes new ≡ changes old + 1
more_changes old new entry e is = ap changes e ∙ (changes_push old entry ∙ rw is refl)

more_latest : (old new : List Entry) (entry : Entry) → new ≡ old ++ entry ∷ [] → latest new ≡ max (latest old) entry.moment
more_latest old new entry e = ap latest e ∙ latest_push old entry

pub right_essence : (essence commits new : Log) (tickets number later : ℕ) → AreRight essence commits tickets number
    → IsOneMore (length essence.entries + length commits.entries + tickets) essence new
    → number + 1 ≤ later → AreRight new commits tickets later
right_essence essence commits new tickets number later right more le =
    let long = one_longer essence.entries new.entries more.entry more.entries in
    record {
      recorded = omega (arith, right.recorded, le, more_changes essence.entries new.entries more.entry more.entries more.change);
      essence = record {
        latest = omega (arith, long, right.essence.latest, more.moment, more_latest essence.entries new.entries more.entry more.entries);
        synced = omega (arith, long, right.essence.synced, more.synced);
      };
      commits = by_later _ _ commits right.commits (omega (arith, long));
    }

pub right_commits : (essence commits new : Log) (tickets number later : ℕ) → AreRight essence commits tickets number
    → IsOneMore (length essence.entries + length commits.entries + tickets) commits new
    → number + 1 ≤ later → AreRight essence new tickets later
right_commits essence commits new tickets number later right more le =
    let long = one_longer commits.entries new.entries more.entry more.entries in
    record {
      recorded = omega (arith, right.recorded, le, more_changes commits.entries new.entries more.entry more.entries more.change);
      essence = by_later _ _ essence right.essence (omega (arith, long));
      commits = record {
        latest = omega (arith, long, right.commits.latest, more.moment, more_latest commits.entries new.entries more.entry more.entries);
        synced = omega (arith, long, right.commits.synced, more.synced);
      };
    }

same_changes : (old new : List Entry) (moment upto : ℕ) → new ≡ old ++ record { moment = moment; deed = Settle upto } ∷ [] → changes new ≡ changes old
same_changes old new moment upto e = ap changes e ∙ (changes_push old (record { moment = moment; deed = Settle upto }) ∙ omega arith)

pub settled_essence : (essence commits new : Log) (tickets number upto : ℕ) → AreRight essence commits tickets number
    → upto ≤ length essence.entries + length commits.entries + tickets
    → Settles (length essence.entries + length commits.entries + tickets + 1) upto essence new → AreRight new commits tickets number
settled_essence essence commits new tickets number upto right le (inl (late, is)) =
    let moment : ℕ = length essence.entries + length commits.entries + tickets + 1 in
    let e : new.entries ≡ essence.entries ++ record { moment = moment; deed = Settle upto } ∷ [] = ap (λ (l : Log). l.entries) is in
    let s : new.synced ≡ upto = ap (λ (l : Log). l.synced) is in
    let long = one_longer essence.entries new.entries (record { moment = moment; deed = Settle upto }) e in
    record {
      recorded = omega (arith, right.recorded, same_changes essence.entries new.entries moment upto e);
      essence = record {
        latest = omega (
          arith,
          long,
          right.essence.latest,
          more_latest essence.entries new.entries
              (record { moment = moment; deed = Settle upto }) e,
        );
        synced = omega (arith, long, le, s);
      };
      commits = by_later _ _ commits right.commits (omega (arith, long));
    }
settled_essence essence commits new tickets number upto right le (inr is) =
    let s : new.synced ≡ max essence.synced upto = ap (λ (l : Log). l.synced) is in
    let long : length new.entries ≡ length essence.entries = ap (λ (l : Log). length l.entries) is in
    record {
      recorded = omega (arith, right.recorded, ap (λ (l : Log). changes l.entries) is);
      essence = record {
        latest = omega (arith, long, right.essence.latest, ap (λ (l : Log). latest l.entries) is);
        synced = omega (arith, long, le, s, right.essence.synced);
      };
      commits = by_later _ _ commits right.commits (omega (arith, long));
    }

pub settled_commits : (essence commits new : Log) (tickets number upto : ℕ) → AreRight essence commits tickets number
    → upto ≤ length essence.entries + length commits.entries + tickets
    → Settles (length essence.entries + length commits.entries + tickets + 1) upto commits new → AreRight essence new tickets number
settled_commits essence commits new tickets number upto right le (inl (late, is)) =
    let moment : ℕ = length essence.entries + length commits.entries + tickets + 1 in
    let e : new.entries ≡ commits.entries ++ record { moment = moment; deed = Settle upto } ∷ [] = ap (λ (l : Log). l.entries) is in
    let s : new.synced ≡ upto = ap (λ (l : Log). l.synced) is in
    let long = one_longer commits.entries new.entries (record { moment = moment; deed = Settle upto }) e in
    record {
      recorded = omega (arith, right.recorded, same_changes commits.entries new.entries moment upto e);
      essence = by_later _ _ essence right.essence (omega (arith, long));
      commits = record {
        latest = omega (
          arith,
          long,
          right.commits.latest,
          more_latest commits.entries new.entries
              (record { moment = moment; deed = Settle upto }) e,
        );
        synced = omega (arith, long, le, s);
      };
    }
settled_commits essence commits new tickets number upto right le (inr is) =
    let s : new.synced ≡ max commits.synced upto = ap (λ (l : Log). l.synced) is in
    let long : length new.entries ≡ length commits.entries = ap (λ (l : Log). length l.entries) is in
    record {
      recorded = omega (arith, right.recorded, ap (λ (l : Log). changes l.entries) is);
      essence = by_later _ _ essence right.essence (omega (arith, long));
      commits = record {
        latest = omega (arith, long, right.commits.latest, ap (λ (l : Log). latest l.entries) is);
        synced = omega (arith, long, le, s, right.commits.synced);
      };
    }

-- a call that doesn't fail is one of those that are recorded
runs_by : (a b : Bool) (number calls : ℕ) → (a || b || not (nat_lt number calls)) ≡ false → number < calls
runs_by true b number calls e = absurd (true≢false e)
runs_by false true number calls e = absurd (true≢false e)
runs_by false false number calls e = elim (cases_lt number calls) [
  | inl lt ↦ lt
  | inr ge ↦ absurd (true≢false (rw (le-ltb number calls ge) at e))
]

pub runs : (disk : MemoryDisk) → fails_next disk ≡ false → disk.number < disk.essence.calls
runs disk e = runs_by (list_any (λ n. n == disk.number) disk.fail.items) (is_stopped disk.stop disk.number) disk.number disk.essence.calls e

-- what a write passes
pub fits : (room at count pieces : ℕ) → (nat_lt room (at + count) || nat_lt room (pieces + count)) ≡ false → pieces + count ≤ room
fits room at count pieces e = elim (cases_lt room (at + count)) [
  | inl lt ↦ absurd (true≢false (rw (lt-ltb room (at + count) lt) at e))
  | inr ge ↦ elim (cases_lt room (pieces + count)) [
    | inl lt ↦ absurd (true≢false (rw (le-ltb room (at + count) ge, lt-ltb room (pieces + count) lt) at e))
    | inr fit ↦ fit
  ]
]

pub same_pieces : (moment upto : ℕ) (old new : Log) → Settles moment upto old new → length new.pieces ≡ length old.pieces
same_pieces moment upto old new (inl settles) = ap (λ (l : Log). length l.pieces) settles.1
same_pieces moment upto old new (inr is) = ap (λ (l : Log). length l.pieces) is

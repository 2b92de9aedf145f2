-- What one write of an area does, and two of the essence, one behind the other.
use Rattle.std.proofs.Common.{◌≡◌, ◌⊎◌, inl, inr, ⊎_elim, ℕ, ◌+◌, ◌-◌, ◌≤◌, ◌<◌, max, List, [], ◌∷◌, ◌++◌, length, take, drop, Option, Some, None, Result, Ok, Err, OnOk, OnErr, is_err, true, false, true≢false, refl, sym, ap, ap₂, subst, ◌∙◌, arith, append_assoc, length-append}
use Rattle.std.proofs.lemmas.List.{drop-drop, drop_at, take_at, take-take, length-take-le}
use Rattle.rec_bytes.specs.Faults.{Rose}
use Rattle.rec_bytes.specs.Places.{with_bytes}
use Rattle.take_disk.specs.declared.area.Area.{Area}
use Rattle.take_disk.specs.declared.disk.TakeDisk.{Ghosts}
use Rattle.take_disk.specs.declared.ticket.Ticket.{Ticket}
use Rattle.take_disk.specs.Calls.{IfTold, Steps, WritesIn, Writes, Grows, Elapses}
use Rattle.take_disk.specs.Held.{Moment, IsBefore, Areas, Held, Disk, Leaves, InArea, Changed, in_area, other}
use Rattle.commit_phases.specs.laws.Moments.{later_moment}
use Rattle.commit_phases.specs.laws.Told.{both, through, weaker, with_old}
use Rattle.commit_phases.specs.laws.Runs.{Crashes, Lengths, Passes, all_long}
use Rattle.take_state.specs.inner.Writing.{LeavesWritten, WritesInside, Wrote}

-- a write behind another is one write of both, where the first begins in the bytes or at their end
with_both : (old : List ℕ) (at : ℕ) (a b : List ℕ) → at ≤ length old
    → with_bytes (with_bytes old at a) (at + length a) b ≡ with_bytes old at (a ++ b)
with_both old at a b h =
    let front : List ℕ = take at old ++ a in
    let rest : List ℕ = drop (at + length a) old in
    let long : length front ≡ at + length a = omega (arith, length-append (take at old) a, length-take-le at old h) in
    let before : take (at + length a) (front ++ rest) ≡ front = take_at front rest (at + length a) long in
    let behind : drop (at + length a + length b) (front ++ rest) ≡ drop (at + length (a ++ b)) old =
    ap (λ (n : ℕ). drop n (front ++ rest)) (omega arith)
    ∙ sym (drop-drop (length b) (at + length a) (front ++ rest))
    ∙ ap (λ (xs : List ℕ). drop (length b) xs) (drop_at front rest (at + length a) long)
    ∙ drop-drop (length b) (at + length a) old
    ∙ ap (λ (n : ℕ). drop n old) (omega (arith, length-append a b)) in
    rw (before, behind, append_assoc (take at old) a b) refl

-- what has changed up to one place, and then from there up to another
changed_both : (from mid to : ℕ) (old next new : Held) → from ≤ mid → mid ≤ to → Changed from mid old next → Changed mid to next new → Changed from to old new
changed_both from mid to old next new low high one two = record {
  before = sym (take-take from mid new.reads low) ∙ ap (λ (xs : List ℕ). take from xs) two.before ∙ take-take from mid next.reads low ∙ one.before;
  after = two.after ∙ later next.reads ∙ ap (λ (xs : List ℕ). drop (to - mid) xs) one.after ∙ sym (later old.reads);
  untouched = λ place out. ⊎_elim
      (λ (l : place < from). two.untouched place (inl (omega (arith, l, low))) ∙ one.untouched place (inl l))
      (λ (l : to ≤ place). two.untouched place (inr l) ∙ one.untouched place (inr (omega (arith, l, high)))) out;
  synced = two.synced ∙ one.synced;
}
  where
    later : (xs : List ℕ) → drop to xs ≡ drop (to - mid) (drop mid xs)
    later xs = ap (λ (n : ℕ). drop n xs) (omega (arith, high)) ∙ sym (drop-drop (to - mid) mid xs)

area_both : (area : Area) (from mid to : ℕ) (old next new : Disk) → from ≤ mid → mid ≤ to → InArea area (Changed from mid) old next
    → InArea area (Changed mid to) next new → InArea area (Changed from to) old new
area_both area from mid to old next new low high one two = record {
  changed = changed_both from mid to (in_area area old) (in_area area next) (in_area area new) low high one.changed two.changed;
  same = two.same ∙ one.same;
}

module _ {D : Type 0} (device : Ghosts D) where
  -- a call that may have changed so many bytes
  pub inside_once : Crashes device → (area : Area) (at count : ℕ) (old new : D) → Steps (device.told old) (device.told new) (WritesIn area at count)
      → Passes device old new → WritesInside device area at count old new
  inside_once crash area at count old new torn time = record {
    later = time.later;
    torn = torn;
    left = go (device.told old) (device.told new) refl torn;
    tickets = time.tickets;
  }
    where
      go : (x y : Option Disk) → device.told new ≡ y → Steps x y (WritesIn area at count)
          → IfTold x (λ held. (moment : Moment) (image : Areas) → IsBefore moment (device.moment old)
          → device.images_since new moment image → device.images_since old moment image ⊎ LeavesWritten area at count held image)
      go None y e steps = tt
      go (Some held) None e steps = absurd steps
      go (Some held) (Some now) e steps = λ moment image before left.
          ⊎_elim
          (λ (past : device.images_since old moment image). inl past)
          (λ (here : device.images_since new (device.moment new) image). inr (record { written = now; torn = steps; left = crash new now image e here }))
          (time.nothing_else moment image before left)

  -- two such calls, of bytes one behind the other
  pub inside_both : (area : Area) (at first second : ℕ) (old mid new : D) → WritesInside device area at first old mid
      → WritesInside device area (at + first) second mid new → WritesInside device area at (first + second) old new
  inside_both area at first second old mid new one two = record {
    later = later_moment (device.moment old) (device.moment mid) (device.moment new) one.later two.later;
    torn = weaker (device.told old) (device.told new) _ _ (through (device.told old) (device.told mid) (device.told new) _ _ one.torn two.torn)
        (λ h k steps. joins h steps.0 k steps.1 steps.2);
    left = go (device.told old) (device.told mid) one.torn one.left two.left;
    tickets = λ ticket h. two.tickets ticket (one.tickets ticket h);
  }
    where
      nothing : (h : Disk) → WritesIn area (at + first) second h h
      nothing h = record {
        changed = record { before = refl; after = refl; untouched = λ place out. refl; synced = refl };
        same = refl;
      }

      joins : (h next k : Disk) → WritesIn area at first h next → WritesIn area (at + first) second next k → WritesIn area at (first + second) h k
      joins h next k a b = area_both area at (at + first) (at + (first + second)) h next k (omega arith) (omega arith) a
          (subst (λ (n : ℕ). InArea area (Changed (at + first) n) next k) (omega arith) b)

      go : (x y : Option Disk) → Steps x y (WritesIn area at first)
          → IfTold x (λ held. (moment : Moment) (image : Areas) → IsBefore moment (device.moment old)
          → device.images_since mid moment image → device.images_since old moment image ⊎ LeavesWritten area at first held image)
          → IfTold y (λ held. (moment : Moment) (image : Areas) → IsBefore moment (device.moment mid)
          → device.images_since new moment image → device.images_since mid moment image ⊎ LeavesWritten area (at + first) second held image)
          → IfTold x (λ held. (moment : Moment) (image : Areas) → IsBefore moment (device.moment old)
          → device.images_since new moment image → device.images_since old moment image ⊎ LeavesWritten area at (first + second) held image)
      go None y steps a b = tt
      go (Some held) None steps a b = absurd steps
      go (Some held) (Some next) steps a b = λ moment image before left.
          ⊎_elim
          (λ (past : device.images_since mid moment image). ⊎_elim
          (λ (past : device.images_since old moment image). inl past)
          (λ (x : LeavesWritten area at first held image). inr (record {
            written = x.written;
            torn = joins held x.written x.written x.torn (nothing x.written);
            left = x.left;
          }))
          (a moment image before past))
          (λ (x : LeavesWritten area (at + first) second next image). inr (record {
            written = x.written;
            torn = joins held next x.written steps x.torn;
            left = x.left;
          }))
          (b moment image (later_moment moment (device.moment old) (device.moment mid) before one.later) left)

  -- the first write has failed
  pub wrote_first : {E : Type 0} (area : Area) (at : ℕ) (first second : List ℕ) (old new : D) (error : E)
      → Wrote device area at first old new (Err error) → Wrote device area at (first ++ second) old new (Err error)
  wrote_first area at first second old new error one =
      let long : length first + length second ≡ length (first ++ second) = sym (length-append first second) in
      let lengths = one.lengths in
      record {
        inside = subst (λ (n : ℕ). WritesInside device area at n old new) long (inside_both area at (length first) (length second) old new new one.inside (none new));
        written = tt;
        lengths = record {
          least = lengths.least;
          most = omega (arith, lengths.most, long);
          whole = tt;
          same = lengths.same;
        };
      }
    where
      none : (d : D) → WritesInside device area (at + length first) (length second) d d
      none d = record {
        later = record { first = omega arith; second = omega arith };
        torn = stays (device.told d);
        left = here (device.told d);
        tickets = λ ticket h. h;
      }
        where
          stays : (x : Option Disk) → Steps x x (WritesIn area (at + length first) (length second))
          stays None = tt
          stays (Some h) = record {
            changed = record { before = refl; after = refl; untouched = λ place out. refl; synced = refl };
            same = refl;
          }

          here : (x : Option Disk) → IfTold x (λ held. (moment : Moment) (image : Areas) → IsBefore moment (device.moment d)
              → device.images_since d moment image → device.images_since d moment image ⊎ LeavesWritten area (at + length first) (length second) held image)
          here None = tt
          here (Some h) = λ moment image before left. inl left

  -- the first write was made, and the second too, or it has failed
  pub wrote_both : {E : Type 0} (area : Area) (at : ℕ) (first second : List ℕ) (old mid new : D) (done : Unit {0}) (result : Result (Unit {0}) E) → Lengths device
      → at ≤ device.length_of old area → Wrote {E = E} device area at first old mid (Ok done)
      → Wrote device area (at + length first) second mid new result → Wrote device area at (first ++ second) old new result
  wrote_both {E} area at first second old mid new done result long fits one two =
      let sum : length first + length second ≡ length (first ++ second) = sym (length-append first second) in
      let one_lengths = one.lengths in
      let two_lengths = two.lengths in
      record {
        inside = subst (λ (n : ℕ). WritesInside device area at n old new) sum
            (inside_both area at (length first) (length second) old mid new one.inside two.inside);
        written = all result two.written;
        lengths = record {
          least = omega (arith, one_lengths.least, two_lengths.least);
          most = omega (arith, one_lengths.whole, two_lengths.most, sum);
          whole = ends result two_lengths.whole one_lengths.whole sum;
          same = two_lengths.same ∙ one_lengths.same;
        };
      }
    where
      ends : (r : Result (Unit {0}) E) → OnOk r (device.length_of new area ≡ max (device.length_of mid area) (at + length first + length second))
          → device.length_of mid area ≡ max (device.length_of old area) (at + length first) → length first + length second ≡ length (first ++ second)
          → OnOk r (device.length_of new area ≡ max (device.length_of old area) (at + length (first ++ second)))
      ends (Ok done) whole before sum = omega (arith, whole, before, sum)
      ends (Err error) whole before sum = tt

      all : (r : Result (Unit {0}) E) → OnOk r (Steps (device.told mid) (device.told new) (Writes area (at + length first) second))
          → OnOk r (Steps (device.told old) (device.told new) (Writes area at (first ++ second)))
      all (Err error) steps = tt
      all (Ok done) steps =
          let before = with_old (device.told old) (device.told mid) _ _ (all_long device long old area) one.written in
          weaker (device.told old) (device.told new) _ _ (through (device.told old) (device.told mid) (device.told new) _ _ before steps)
          (λ h k both. both.2
          ∙ ap (λ (xs : List ℕ). with_bytes xs (at + length first) second) both.1.1
          ∙ with_both ((in_area area h).reads) at first second (omega (arith, both.1.0, fits)))

  -- of a write that answered no error
  pub wrote_ok : {E : Type 0} (area : Area) (at : ℕ) (bytes : List ℕ) (old new : D) (result : Result (Unit {0}) E) → Wrote device area at bytes old new result
      → is_err result ≡ false → Wrote {E = E} device area at bytes old new (Ok tt)
  wrote_ok area at bytes old new (Ok done) wrote fine = wrote
  wrote_ok area at bytes old new (Err error) wrote fine = absurd (true≢false fine)

-- a failure has raised the count, so that it isn't 0
pub some_faults : {E : Type 0} (before now : ℕ) (result : Result (Unit {0}) E) → OnErr result (Rose before now) → is_err result ≡ true → 1 ≤ now
some_faults before now (Ok done) rose failed = absurd (true≢false (sym failed))
some_faults before now (Err error) rose failed = omega (arith, rose)

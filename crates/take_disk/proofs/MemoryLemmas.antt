-- What each call of a disk in memory does, by the change of its record.
use Rattle.std.proofs.Common.{◌≡◌, inl, inr, ◌≤◌, ◌+◌, ℕ, max, List, length, take, refl, sym, ◌∙◌, ap, subst, arith, Ok, Err}
use Rattle.std.proofs.lemmas.List.{length-take-le}
use Rattle.rec_bytes.specs.Places.{with_bytes}
use Rattle.take_disk.specs.declared.area.Area.{Area}
use Rattle.take_disk.specs.declared.area.Area.TheVariants.{Essence, Commits}
use Rattle.take_disk.specs.declared.entry.Deed.TheVariants.{Cut, Fail}
use Rattle.take_disk.specs.declared.memory_disk.MemoryDisk.{MemoryDisk}
use Rattle.take_disk.specs.declared.ticket.Ticket.{Ticket}
use Rattle.take_disk.specs.Tickets.{twin_or_0, moment_of}
use Rattle.take_disk.specs.Held.{InArea, Changed, Settled, in_area, other}
use Rattle.take_disk.specs.Calls.{WritesIn, Writes, CutsIn, Cuts, Grows, Shrinks}
use Rattle.take_disk.specs.Logs.{Log, Logs, one, kept_now, replayed, now, disk_now}
use Rattle.take_disk.specs.Recorded.{PassesTime, logs_of, bytes_of}
use Rattle.take_disk.specs.inner.Counts.{pieces_end}
use Rattle.take_disk.specs.Entered.{entered, written, in_logs, with_log, enters, writes, SettlesIn, Fails}
use Rattle.take_disk.specs.laws.MemoryLaws.{memory_reads}
use Rattle.take_disk.proofs.DiskLemmas.{entered_later, written_later, settles_later, elapses_in, elapses_same, told_in, written_changed, written_reads}
use Rattle.take_disk.proofs.DiskLemmas.{length-with_bytes, cut_changed, cut_reads, failed_changed, failed_reads, same_changed, settles_settled}

pieced : (d : MemoryDisk) (area : Area) → pieces_end (in_logs area (logs_of d)).entries ≤ length (in_logs area (logs_of d)).pieces
pieced d Essence = d.essence.pieced
pieced d Commits = d.commits.pieced

log_reads : (d : MemoryDisk) (area : Area) → (replayed (in_logs area (logs_of d))).reads ≡ bytes_of d area
log_reads d Essence = d.essence.reads
log_reads d Commits = d.commits.reads

-- with another record in an area
reads_there : (area : Area) (log : Log) (logs : Logs) → (in_area area (disk_now (with_log area log logs))).reads ≡ (kept_now log).reads
reads_there Essence log logs = refl
reads_there Commits log logs = refl

reads_here : (area : Area) (logs : Logs) → (in_area area (disk_now logs)).reads ≡ (replayed (in_logs area logs)).reads
reads_here Essence logs = refl
reads_here Commits logs = refl

reads_elsewhere : (area : Area) (log : Log) (logs : Logs) → (in_area (other area) (disk_now (with_log area log logs))).reads ≡
    (in_area (other area) (disk_now logs)).reads
reads_elsewhere Essence log logs = refl
reads_elsewhere Commits log logs = refl

both_areas : (P : Area → Type 0) (area : Area) → P area → P (other area) → (a : Area) → P a
both_areas P Essence here there Essence = here
both_areas P Essence here there Commits = there
both_areas P Commits here there Essence = there
both_areas P Commits here there Commits = here

module _ (old new : MemoryDisk) (area : Area) where
  bytes_there : (log : Log) → logs_of new ≡ with_log area log (logs_of old) → bytes_of new area ≡ (kept_now log).reads
  bytes_there log e = sym (memory_reads new area) ∙ (ap (λ (l : Logs). (in_area area (disk_now l)).reads) e ∙ reads_there area log (logs_of old))

  bytes_elsewhere : (log : Log) → logs_of new ≡ with_log area log (logs_of old) → bytes_of new (other area) ≡ bytes_of old (other area)
  bytes_elsewhere log e =
      sym (memory_reads new (other area)) ∙ (ap (λ (l : Logs). (in_area (other area) (disk_now l)).reads) e
      ∙ (reads_elsewhere area log (logs_of old) ∙ memory_reads old (other area)))

  -- a write
  pub wrote_torn : (at : ℕ) (bytes : List ℕ) → logs_of new ≡ writes area at bytes (logs_of old) → at ≤ length (bytes_of old area)
      → WritesIn area at (length bytes) (disk_now (logs_of old)) (disk_now (logs_of new))
  wrote_torn at bytes e le =
      let log = in_logs area (logs_of old) in
      let inside : at ≤ length (replayed log).reads = subst (λ (l : List ℕ). at ≤ length l) (sym (log_reads old area)) le in
      subst (λ (l : Logs). WritesIn area at (length bytes) (disk_now (logs_of old)) (disk_now l)) (sym e)
      (told_in area (logs_of old) (written (now (logs_of old) + 1) at bytes log) (Changed at (at + length bytes))
      (written_changed (now (logs_of old) + 1) at bytes log (pieced old area) inside))

  wrote_bytes : (at : ℕ) (bytes : List ℕ) → logs_of new ≡ writes area at bytes (logs_of old) → bytes_of new area ≡ with_bytes (bytes_of old area) at bytes
  wrote_bytes at bytes e =
      let log = in_logs area (logs_of old) in
      bytes_there (written (now (logs_of old) + 1) at bytes log) e ∙ (written_reads (now (logs_of old) + 1) at bytes log (pieced old area)
      ∙ ap (λ (l : List ℕ). with_bytes l at bytes) (log_reads old area))

  pub wrote_written : (at : ℕ) (bytes : List ℕ) → logs_of new ≡ writes area at bytes (logs_of old)
      → Writes area at bytes (disk_now (logs_of old)) (disk_now (logs_of new))
  wrote_written at bytes e = memory_reads new area ∙ (wrote_bytes at bytes e ∙ ap (λ (l : List ℕ). with_bytes l at bytes) (sym (memory_reads old area)))

  pub wrote_lengths : {E : Type 0} (at : ℕ) (bytes : List ℕ) → logs_of new ≡ writes area at bytes (logs_of old) → at ≤ length (bytes_of old area)
      → Grows {E = E} area (at + length bytes) (λ a. length (bytes_of old a)) (λ a. length (bytes_of new a)) (Ok tt)
  wrote_lengths at bytes e le =
      let long : length (bytes_of new area) ≡ max (length (bytes_of old area)) (at + length bytes) = ap (λ (l : List ℕ). length l) (wrote_bytes at bytes e)
      ∙ length-with_bytes (bytes_of old area) at bytes le in
      record {
        least = omega (arith, long);
        most = omega (arith, long);
        whole = long;
        same = ap (λ (l : List ℕ). length l) (bytes_elsewhere (written (now (logs_of old) + 1) at bytes (in_logs area (logs_of old))) e);
      }

  pub wrote_time : (at : ℕ) (bytes : List ℕ) → logs_of new ≡ writes area at bytes (logs_of old) → PassesTime (logs_of old) (logs_of new)
  wrote_time at bytes e =
      let log = in_logs area (logs_of old) in
      subst (λ (l : Logs). PassesTime (logs_of old) l) (sym e) (elapses_in area (logs_of old) (written (now (logs_of old) + 1) at bytes log)
      (written_later (now (logs_of old)) at bytes log (pieced old area)))

  -- a cut
  pub cut_torn : (len : ℕ) → logs_of new ≡ enters area (Cut len (length (bytes_of old area))) (logs_of old)
      → CutsIn area len (disk_now (logs_of old)) (disk_now (logs_of new))
  cut_torn len e =
      let log = in_logs area (logs_of old) in
      let end : ℕ = length (bytes_of old area) in
      let is = told_in area (logs_of old) (entered (now (logs_of old) + 1) (Cut len end) log) (Changed len end)
      (cut_changed (now (logs_of old) + 1) len end log (ap (λ (l : List ℕ). length l) (sym (log_reads old area)))) in
      let there = subst (λ (n : ℕ). InArea area (Changed len n) (disk_now (logs_of old)) (disk_now (enters area (Cut len end) (logs_of old))))
      (ap (λ (l : List ℕ). length l) (sym (memory_reads old area))) is in
      subst (λ (l : Logs). CutsIn area len (disk_now (logs_of old)) (disk_now l)) (sym e) there

  cut_bytes : (len : ℕ) → logs_of new ≡ enters area (Cut len (length (bytes_of old area))) (logs_of old) → bytes_of new area ≡ take len (bytes_of old area)
  cut_bytes len e =
      let log = in_logs area (logs_of old) in
      bytes_there (entered (now (logs_of old) + 1) (Cut len (length (bytes_of old area))) log) e
      ∙ (cut_reads (now (logs_of old) + 1) len (length (bytes_of old area)) log
      ∙ ap (λ (l : List ℕ). take len l) (log_reads old area))

  pub cut_cut : (len : ℕ) → logs_of new ≡ enters area (Cut len (length (bytes_of old area))) (logs_of old)
      → Cuts area len (disk_now (logs_of old)) (disk_now (logs_of new))
  cut_cut len e = memory_reads new area ∙ (cut_bytes len e ∙ ap (λ (l : List ℕ). take len l) (sym (memory_reads old area)))

  pub cut_lengths : {E : Type 0} (len : ℕ) → logs_of new ≡ enters area (Cut len (length (bytes_of old area))) (logs_of old) → len ≤ length (bytes_of old area)
      → Shrinks {E = E} area len (λ a. length (bytes_of old a)) (λ a. length (bytes_of new a)) (Ok tt)
  cut_lengths len e le =
      let long : length (bytes_of new area) ≡ len = ap (λ (l : List ℕ). length l) (cut_bytes len e) ∙ length-take-le len (bytes_of old area) le in
      record {
        least = omega (arith, long);
        most = omega (arith, long, le);
        whole = long;
        same = ap (λ (l : List ℕ). length l) (bytes_elsewhere (entered (now (logs_of old) + 1) (Cut len (length (bytes_of old area))) (in_logs area
            (logs_of old))) e);
      }

  pub cut_time : (len : ℕ) → logs_of new ≡ enters area (Cut len (length (bytes_of old area))) (logs_of old) → PassesTime (logs_of old) (logs_of new)
  cut_time len e =
      let log = in_logs area (logs_of old) in
      subst (λ (l : Logs). PassesTime (logs_of old) l) (sym e) (elapses_in area (logs_of old) (entered (now (logs_of old) + 1) (Cut len (length
      (bytes_of old area))) log)
      (entered_later (now (logs_of old)) (Cut len (length (bytes_of old area))) log))

  -- a write or cut that failed
  pub failed_torn : (from to : ℕ) → Fails area from to (logs_of old) (logs_of new)
      → InArea area (Changed from to) (disk_now (logs_of old)) (disk_now (logs_of new))
  failed_torn from to (inl e) =
      let log = in_logs area (logs_of old) in
      subst (λ (l : Logs). InArea area (Changed from to) (disk_now (logs_of old)) (disk_now l)) (sym e)
      (told_in area (logs_of old) (entered (now (logs_of old) + 1) (Fail from to) log) (Changed from to) (failed_changed (now (logs_of old) + 1) from to log))
  failed_torn from to (inr e) =
      subst (λ (l : Logs). InArea area (Changed from to) (disk_now (logs_of old)) (disk_now l)) (sym e)
      (record { changed = same_changed from to (in_area area (disk_now (logs_of old))); same = refl })

  pub failed_cut_torn : (len end : ℕ) → end ≡ length (bytes_of old area) → Fails area len end (logs_of old) (logs_of new)
      → CutsIn area len (disk_now (logs_of old)) (disk_now (logs_of new))
  failed_cut_torn len end is fails =
      subst (λ (n : ℕ). InArea area (Changed len n) (disk_now (logs_of old)) (disk_now (logs_of new)))
      (is ∙ ap (λ (l : List ℕ). length l) (sym (memory_reads old area))) (failed_torn len end fails)

  failed_bytes : (from to : ℕ) → Fails area from to (logs_of old) (logs_of new) → (a : Area) → bytes_of new a ≡ bytes_of old a
  failed_bytes from to (inl e) =
      let log = in_logs area (logs_of old) in
      both_areas (λ (a : Area). bytes_of new a ≡ bytes_of old a) area
      (bytes_there (entered (now (logs_of old) + 1) (Fail from to) log) e ∙ (failed_reads (now (logs_of old) + 1) from to log ∙ log_reads old area))
      (bytes_elsewhere (entered (now (logs_of old) + 1) (Fail from to) log) e)
  failed_bytes from to (inr e) = λ a. sym (memory_reads new a) ∙ (ap (λ (l : Logs). (in_area a (disk_now l)).reads) e ∙ memory_reads old a)

  pub failed_grows : {E : Type 0} (fault : E) (from to end : ℕ) → Fails area from to (logs_of old) (logs_of new)
      → Grows area end (λ a. length (bytes_of old a)) (λ a. length (bytes_of new a)) (Err fault)
  failed_grows fault from to end fails =
      let here : length (bytes_of new area) ≡ length (bytes_of old area) = ap (λ (l : List ℕ). length l) (failed_bytes from to fails area) in
      record {
        least = omega (arith, here);
        most = omega (arith, here);
        whole = tt;
        same = ap (λ (l : List ℕ). length l) (failed_bytes from to fails (other area));
      }

  pub failed_shrinks : {E : Type 0} (fault : E) (from to len : ℕ) → Fails area from to (logs_of old) (logs_of new) → len ≤ length (bytes_of old area)
      → Shrinks area len (λ a. length (bytes_of old a)) (λ a. length (bytes_of new a)) (Err fault)
  failed_shrinks fault from to len fails le =
      let here : length (bytes_of new area) ≡ length (bytes_of old area) = ap (λ (l : List ℕ). length l) (failed_bytes from to fails area) in
      record {
        least = omega (arith, here, le);
        most = omega (arith, here);
        whole = tt;
        same = ap (λ (l : List ℕ). length l) (failed_bytes from to fails (other area));
      }

  pub failed_time : (from to : ℕ) → Fails area from to (logs_of old) (logs_of new) → PassesTime (logs_of old) (logs_of new)
  failed_time from to (inl e) =
      let log = in_logs area (logs_of old) in
      subst (λ (l : Logs). PassesTime (logs_of old) l) (sym e) (elapses_in area (logs_of old) (entered (now (logs_of old) + 1) (Fail from to) log)
      (entered_later (now (logs_of old)) (Fail from to) log))
  failed_time from to (inr e) = subst (λ (l : Logs). PassesTime (logs_of old) l) (sym e) (elapses_same (logs_of old))

  -- a settling
  pub settled_told : (upto : ℕ) → SettlesIn area upto (logs_of old) (logs_of new)
      → InArea area (Settled (one upto)) (disk_now (logs_of old)) (disk_now (logs_of new))
  settled_told upto s =
      subst (λ (l : Logs). InArea area (Settled (one upto)) (disk_now (logs_of old)) (disk_now l)) (sym s.is)
      (told_in area (logs_of old) s.log (Settled (one upto)) (settles_settled (now (logs_of old) + 1) upto (in_logs area (logs_of old)) s.log s.settles))

  pub settled_lengths : (upto : ℕ) → SettlesIn area upto (logs_of old) (logs_of new) → (a : Area) → length (bytes_of new a) ≡ length (bytes_of old a)
  settled_lengths upto s = both_areas (λ (a : Area). length (bytes_of new a) ≡ length (bytes_of old a)) area
      (ap (λ (l : List ℕ). length l) (sym (memory_reads new area) ∙ ((settled_told upto s).changed.reads ∙ memory_reads old area)))
      (ap (λ (l : List ℕ). length l) (bytes_elsewhere s.log s.is))

  pub settled_time : (upto : ℕ) → SettlesIn area upto (logs_of old) (logs_of new) → PassesTime (logs_of old) (logs_of new)
  settled_time upto s =
      subst (λ (l : Logs). PassesTime (logs_of old) l) (sym s.is) (elapses_in area (logs_of old) s.log
      (settles_later (now (logs_of old)) upto (in_logs area (logs_of old)) s.log s.settles))

-- a sync settles up to now
module _ (old mid new : MemoryDisk) (area : Area) (upto : ℕ) (same : logs_of mid ≡ logs_of old) (is : upto ≡ now (logs_of mid))
    (s : SettlesIn area upto (logs_of mid) (logs_of new)) where
  synced_in : SettlesIn area (now (logs_of old)) (logs_of old) (logs_of new)
  synced_in = subst (λ (l : Logs). SettlesIn area (now l) l (logs_of new)) same (subst (λ (n : ℕ). SettlesIn area n (logs_of mid) (logs_of new)) is s)

  pub synced_told : InArea area (Settled (one (now (logs_of old)))) (disk_now (logs_of old)) (disk_now (logs_of new))
  synced_told = settled_told old new area (now (logs_of old)) synced_in

  pub synced_lengths : (a : Area) → length (bytes_of new a) ≡ length (bytes_of old a)
  synced_lengths = settled_lengths old new area (now (logs_of old)) synced_in

  pub synced_time : PassesTime (logs_of old) (logs_of new)
  synced_time = settled_time old new area (now (logs_of old)) synced_in

-- a ticket that is settled has one number alone
module _ (old new : MemoryDisk) (ticket done : Ticket) (is : ticket ≡ done) (s : SettlesIn ticket.area ticket.moment (logs_of old) (logs_of new)) where
  done_in : SettlesIn done.area done.moment (logs_of old) (logs_of new)
  done_in = subst (λ (t : Ticket). SettlesIn t.area t.moment (logs_of old) (logs_of new)) is s

  pub done_told : twin_or_0 done.twin ≤ 0 → InArea done.area (Settled (moment_of done)) (disk_now (logs_of old)) (disk_now (logs_of new))
  done_told alone =
      let none : 0 ≡ twin_or_0 done.twin = omega (arith, alone) in
      subst (λ (n : ℕ). InArea done.area (Settled (record { first = done.moment; second = n })) (disk_now (logs_of old)) (disk_now (logs_of new))) none
      (settled_told old new done.area done.moment done_in)

  pub done_lengths : (a : Area) → length (bytes_of new a) ≡ length (bytes_of old a)
  done_lengths = settled_lengths old new done.area done.moment done_in

  pub done_time : PassesTime (logs_of old) (logs_of new)
  done_time = settled_time old new done.area done.moment done_in

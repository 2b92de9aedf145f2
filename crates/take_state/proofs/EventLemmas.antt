-- Which event each call of a take is.
use Rattle.std.proofs.Common.{◌≡◌, inl, ℕ, ◌≤◌, ◌<◌, ◌-◌, true, false, List, [], ◌∷◌, ◌++◌, None, refl, sym, ap, subst}
use Rattle.rec_bytes.specs.Configuration.{Fields}
use Rattle.take_core.specs.History.{latest}
use Rattle.take_core.specs.Marks.{core_mark}
use Rattle.take_core.specs.Phases.{core_phase}
use Rattle.take_core.specs.Sound.{IsSound}
use Rattle.take_core.specs.States.{no_slices, without_frame, Slices}
use Rattle.take_core.specs.declared.commit_phase.CommitPhase.TheVariants.{Idle, MarkOut, Marked, NoteOut, Noted, GateOut, Opened}
use Rattle.take_core.specs.declared.entry.Entry.{Entry}
use Rattle.take_core.specs.declared.entry.Entry.TheVariants as entry
use Rattle.take_core.specs.declared.event.Answer.TheVariants.{Done}
use Rattle.take_core.specs.declared.event.Event.{Event}
use Rattle.take_core.specs.declared.event.Event.TheVariants.{Publish, BeginCommit, NoteRecord, OpenGate, Acknowledge, WriteTail, Finish, Stop}
use Rattle.take_core.specs.declared.mark.Mark.{Mark}
use Rattle.take_core.specs.declared.numbers.TheConstants.{MAX_UNIT}
use Rattle.take_core.specs.declared.snapshot.Phase.TheVariants as phase
use Rattle.take_core.specs.declared.snapshot.Snapshot.{Snapshot}
use Rattle.take_disk.specs.declared.ticket.Ticket.{Ticket}
use Rattle.take_layout.specs.declared.layout.TakeLayout.{Ghosts}
use Rattle.take_state.specs.Events.{core_of, IsEvent, IsPublish, PublishesFrame, Stops}
use Rattle.take_state.specs.Seen.{TakeSeen, published, acked, phase_of}
use Rattle.take_state.specs.inner.Keeping.{HasLaws}

module _ {D : Type 0} where
  pub is_stop : (s : TakeSeen D) (d : D) (faults : ℕ) → phase_of s ≡ phase.Growing → 1 ≤ faults
      → IsEvent (Stop faults) s (record s { disk = d; history = s.history ++ entry.Stopped faults ∷ [] })
  is_stop s d faults grows some = λ slices. inl (record { does = record { growing = grows; some = some; effect = refl }; told = refl })

  pub is_publish : (s : TakeSeen D) (d : D) (len : ℕ) → phase_of s ≡ phase.Growing → s.tail ≡ false → published s < s.config.max_frames
      → published s - acked s < s.config.lag → 1 ≤ len → len ≤ MAX_UNIT
      → IsPublish len s (record s { disk = d; history = s.history ++ entry.Published len ∷ [] })
  is_publish s d len grows no_tail room near some most = λ slices whole. inl (record {
    does = record { growing = grows; no_tail = no_tail; room = room; near = near; whole = whole; some = some; most = most; effect = refl };
    told = refl;
  })

  pub is_begin : (s : TakeSeen D) (len : ℕ) → phase_of s ≡ phase.Growing → s.commit ≡ Idle → acked s < published s → s.tail ≡ false
      → IsEvent BeginCommit s (record s { commit = MarkOut (record { count = published s; length = len; closed = false }); out = None })
  is_begin s len grows idle behind no_tail = λ slices. inl (record {
    does = record { growing = grows; idle = ap core_phase idle; behind = behind; no_tail = no_tail; effect = refl };
    told = refl;
  })

  pub is_note : (s : TakeSeen D) (d : D) (mark : Mark) → phase_of s ≡ phase.Growing → s.commit ≡ Marked mark
      → IsEvent NoteRecord s (record s { disk = d; commit = NoteOut mark; out = None })
  is_note s d mark grows marked = λ slices. inl (record {
    does = record { mark = core_mark mark; growing = grows; marked = ap core_phase marked; effect = refl };
    told = refl;
  })

  pub is_gate : (s : TakeSeen D) (d : D) (mark : Mark) → phase_of s ≡ phase.Growing → s.commit ≡ Noted mark
      → IsEvent OpenGate s (record s { disk = d; commit = GateOut mark; out = None })
  is_gate s d mark grows noted = λ slices. inl (record {
    does = record { mark = core_mark mark; growing = grows; noted = ap core_phase noted; effect = refl };
    told = refl;
  })

  pub is_acknowledge : (s : TakeSeen D) (mark : Mark) → phase_of s ≡ phase.Growing → s.commit ≡ Opened mark → mark.closed ≡ false
      → IsEvent Acknowledge s (record s { history = s.history ++ entry.Acked mark.count ∷ []; commit = Idle; out = None })
  is_acknowledge s mark grows opened not_closed = λ slices. inl (record {
    does = record { mark = core_mark mark; growing = grows; opened = ap core_phase opened; not_closed = not_closed; effect = refl };
    told = refl;
  })

  pub is_tail : (s : TakeSeen D) (d : D) (len : ℕ) → phase_of s ≡ phase.Growing → s.commit ≡ Idle → acked s ≡ published s → s.tail ≡ false
      → IsEvent WriteTail s (record s { disk = d; commit = MarkOut (record { count = published s; length = len; closed = true }); tail = true; out = None })
  is_tail s d len grows idle level no_tail = λ slices. inl (record {
    does = record { growing = grows; idle = ap core_phase idle; level = level; no_tail = no_tail; effect = refl };
    told = refl;
  })

  pub is_finish : (s : TakeSeen D) (mark : Mark) → phase_of s ≡ phase.Growing → s.commit ≡ Opened mark → mark.closed ≡ true
      → IsEvent Finish s (record s { history = s.history ++ entry.Closed ∷ []; commit = Idle; out = None })
  is_finish s mark grows opened closed = λ slices. inl (record {
    does = record { mark = core_mark mark; growing = grows; opened = ap core_phase opened; closed = closed; effect = refl };
    told = refl;
  })

  -- what an event keeps
  pub stays_sound : {L : Type 0} (layout : Ghosts L) → HasLaws layout → (s new : TakeSeen D) (event : Event) → IsEvent event s new
      → IsSound (core_of s no_slices) → IsSound (core_of new no_slices)
  stays_sound layout laws s new event is sound = laws.stays (core_of s no_slices) (core_of new no_slices) event Done (is no_slices) sound

  -- the same of a take that is shown
  pub stops_shown : (s t : TakeSeen D) (d : D) (entries : List Entry) (faults other : ℕ) → s ≡ t → phase_of s ≡ phase.Growing → 1 ≤ faults → other ≡ faults
      → entries ≡ s.history ++ entry.Stopped faults ∷ [] → Stops t (record s { disk = d; history = entries }) other
  stops_shown s t d entries faults other is grows some same says = subst
      (λ (v : TakeSeen D). Stops v (record s { disk = d; history = entries }) other) is
      (subst (λ (n : ℕ). Stops s (record s { disk = d; history = entries }) n) (sym same)
      (subst (λ (h : List Entry). Stops s (record s { disk = d; history = h }) faults) (sym says)
      (record { stands = refl; event = is_stop s d faults grows some })))

  pub publishes_shown : (s t : TakeSeen D) (cfg : Fields) (d : D) (entries : List Entry) (len : ℕ) (seen : Snapshot) → s ≡ t → phase_of s ≡ phase.Growing
      → s.tail ≡ false → published s < s.config.max_frames → published s - acked s < s.config.lag → 1 ≤ len → len ≤ MAX_UNIT → cfg ≡ s.config
      → entries ≡ s.history ++ entry.Published len ∷ [] → seen ≡ latest entries
      → PublishesFrame len t (record s { config = cfg; disk = d; history = entries }) seen
  publishes_shown s t cfg d entries len seen is grows none room near some most same says shows = subst
      (λ (v : TakeSeen D). PublishesFrame len v (record s { config = cfg; disk = d; history = entries }) seen) is
      (subst (λ (x : Fields). PublishesFrame len s (record s { config = x; disk = d; history = entries }) seen) (sym same) (record {
        stands = ap (λ (h : List Entry). record s { disk = d; history = h }) says;
        event = subst (λ (h : List Entry). IsPublish len s (record s { disk = d; history = h })) (sym says) (is_publish s d len grows none room near some most);
        shows = shows;
      }))

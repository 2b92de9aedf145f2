-- The entries of a record come in order, each inside of the area as it was.
use Rattle.std.proofs.Common.{◌≡◌, inl, inr, ◌≤◌, ◌<◌, ◌+◌, ◌&&◌, not, nat_lt, ℕ, Bool, true, false, List, [], ◌∷◌, ◌++◌, length, refl, sym, subst}
use Rattle.std.proofs.Common.{arith, length-append}
use Rattle.std.proofs.lemmas.Bool.{lt-ltb, le-ltb, ltb-true, cases_lt, true≢false}
use Rattle.take_disk.specs.declared.entry.Entry.{Entry}
use Rattle.take_disk.specs.declared.entry.Deed.{Deed}
use Rattle.take_disk.specs.declared.entry.Deed.TheVariants.{Write, Cut, Fail, Settle}
use Rattle.take_disk.specs.Logs.{Content, fresh, done, replay}
use Rattle.take_disk.specs.inner.Counts.{latest, piece_end, fits_in, is_sound}
use Rattle.take_disk.proofs.LogLemmas.{done_grows}

pub and_true : (a b : Bool) → (a && b) ≡ true → (a ≡ true) × (b ≡ true)
and_true true b e = (refl, e)
and_true false b e = absurd (true≢false (sym e))

pub not_less : (a b : ℕ) → not (nat_lt a b) ≡ true → b ≤ a
not_less a b e = elim (cases_lt a b) [
  | inl lt ↦ absurd (true≢false (sym (rw (lt-ltb a b lt) at e)))
  | inr ge ↦ ge
]

pub is_not_less : (a b : ℕ) → b ≤ a → not (nat_lt a b) ≡ true
is_not_less a b le = rw (le-ltb a b le) refl

-- the parts of what is sound
pub record IsSoundFirst (pieces : List ℕ) (before : ℕ) (kept : Content) (entry : Entry) (entries : List Entry) : Type 0 where
  pub later : before < entry.moment
  pub fits : fits_in (length pieces) (length kept.reads) entry.deed ≡ true
  pub rest : is_sound pieces entry.moment (done pieces entry.moment entry.deed kept) entries ≡ true

pub sound_first : (pieces : List ℕ) (before : ℕ) (kept : Content) (entry : Entry) (entries : List Entry) → is_sound pieces before kept (entry ∷ entries) ≡ true
    → IsSoundFirst pieces before kept entry entries
unfolding is_sound
sound_first pieces before kept entry entries is =
    let one = and_true (nat_lt before entry.moment) _ is in
    let two = and_true (fits_in (length pieces) (length kept.reads) entry.deed) _ one.1 in
    record { later = ltb-true before entry.moment one.0; fits = two.0; rest = two.1 }

pub sound_cons : (pieces : List ℕ) (before : ℕ) (kept : Content) (entry : Entry) (entries : List Entry) → IsSoundFirst pieces before kept entry entries
    → is_sound pieces before kept (entry ∷ entries) ≡ true
unfolding is_sound
sound_cons pieces before kept entry entries first = rw (lt-ltb before entry.moment first.later, first.fits) first.rest

sound_none : (pieces : List ℕ) (before : ℕ) (kept : Content) → is_sound pieces before kept [] ≡ true
unfolding is_sound
sound_none pieces before kept = refl

pub sound_push : (pieces : List ℕ) (before : ℕ) (kept : Content) (entries : List Entry) (entry : Entry) → is_sound pieces before kept entries ≡ true
    → before < entry.moment → latest entries < entry.moment → fits_in (length pieces) (length (replay pieces entries kept).reads) entry.deed ≡ true
    → is_sound pieces before kept (entries ++ entry ∷ []) ≡ true
unfolding latest replay
sound_push pieces before kept [] entry is late last fits = sound_cons pieces before kept entry [] (record {
  later = late;
  fits = fits;
  rest =
      sound_none pieces entry.moment (done pieces entry.moment entry.deed kept);
})
sound_push pieces before kept (e ∷ entries) entry is late last fits =
    let first = sound_first pieces before kept e entries is in
    sound_cons pieces before kept e (entries ++ entry ∷ []) (record {
      later = first.later;
      fits = first.fits;
      rest = sound_push pieces e.moment (done pieces e.moment e.deed kept) entries entry first.rest (omega (arith, last)) (omega (arith, last)) fits;
    })

piece_fits : (pieces long : ℕ) (deed : Deed) → fits_in pieces long deed ≡ true → piece_end deed ≤ pieces
piece_fits pieces long (Write at from len) fits = not_less pieces (from + len) (and_true (not (nat_lt long at)) _ fits).1
piece_fits pieces long (Cut len end) fits = omega arith
piece_fits pieces long (Fail from to) fits = omega arith
piece_fits pieces long (Settle upto) fits = omega arith

fits_grows : (pieces more long : ℕ) (deed : Deed) → pieces ≤ more → fits_in pieces long deed ≡ true → fits_in more long deed ≡ true
fits_grows pieces more long (Write at from len) le fits =
    let both = and_true (not (nat_lt long at)) _ fits in
    rw (both.0) (is_not_less more (from + len) (omega (arith, le, not_less pieces (from + len) both.1)))
fits_grows pieces more long (Cut len end) le fits = fits
fits_grows pieces more long (Fail from to) le fits = refl
fits_grows pieces more long (Settle upto) le fits = refl

pub sound_grows : (pieces more : List ℕ) (before : ℕ) (kept : Content) (entries : List Entry) → is_sound pieces before kept entries ≡ true
    → is_sound (pieces ++ more) before kept entries ≡ true
sound_grows pieces more before kept [] is = sound_none (pieces ++ more) before kept
sound_grows pieces more before kept (e ∷ entries) is =
    let first = sound_first pieces before kept e entries is in
    let grows = done_grows pieces more e.moment e.deed kept (piece_fits (length pieces) (length kept.reads) e.deed first.fits) in
    sound_cons (pieces ++ more) before kept e entries (record {
      later = first.later;
      fits = fits_grows (length pieces) (length (pieces ++ more)) (length kept.reads) e.deed (omega (arith, length-append pieces more)) first.fits;
      rest = subst (λ (k : Content). is_sound (pieces ++ more) e.moment k entries ≡ true) (sym grows)
          (sound_grows pieces more e.moment (done pieces e.moment e.deed kept) entries first.rest);
    })

pub write_fits : (pieces bytes : List ℕ) (long at : ℕ) → at ≤ long → fits_in (length (pieces ++ bytes)) long (Write at (length pieces) (length bytes)) ≡ true
write_fits pieces bytes long at le =
    rw (is_not_less long at le) (is_not_less (length (pieces ++ bytes)) (length pieces + length bytes) (omega (arith, length-append pieces bytes)))

pub cut_fits : (pieces long len end : ℕ) → len ≤ long → end ≡ long → fits_in pieces long (Cut len end) ≡ true
cut_fits pieces long len end le is = rw (is_not_less long len le) (is_not_less end long (omega (arith, is)))

pub fresh_sound : (pieces start : List ℕ) (entries : List Entry) → entries ≡ [] → is_sound pieces 0 (fresh start) entries ≡ true
unfolding is_sound
fresh_sound pieces start entries e = rw e refl

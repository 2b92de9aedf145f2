use Rattle.std.proofs.Common.{◌≡◌, ℕ, ◌+◌, ◌-◌, ◌≤◌, List, [], ◌++◌, length, drop, refl, sym, ap, subst, ◌∙◌, arith, true, false}
use Rattle.std.proofs.lemmas.List.{append_assoc, append-nil, length-append, drop-drop}
use Rattle.bit_io.specs.declared.writer.BitWriter.{BitWriter}
use Rattle.bit_io.specs.Bits.{bytes_for}
use Rattle.bit_io.specs.Written.{Puts, room, lent, bits_put}
use Rattle.slice_parts.specs.Joined.{Split}
use Rattle.slice_parts.specs.inner.Written.{Wrote}

pub puts_none : (w : BitWriter) → Puts w w []
puts_none w = record { put = sym (append-nil (bits_put w)); size = refl; behind = refl }

drop_more : (m n : ℕ) (xs ys : List ℕ) → m ≤ n → drop m xs ≡ drop m ys → drop n xs ≡ drop n ys
drop_more m n xs ys le e =
    let d : ℕ = n - m in
    let whole : n ≡ m + d = omega arith in
    ap (λ (k : ℕ). drop k xs) whole ∙ (sym (drop-drop d m xs) ∙ (ap (drop d) e ∙ (drop-drop d m ys ∙ ap (λ (k : ℕ). drop k ys) (sym whole))))

pub puts_more : (a b c : BitWriter) (one two : List ℕ) → Puts a b one → Puts b c two → Puts a c (one ++ two)
puts_more a b c one two p q = record {
  put = q.put ∙ (ap (λ (bs : List ℕ). bs ++ two) p.put ∙ append_assoc (bits_put a) one two);
  size = q.size ∙ p.size;
  behind =
      let more : length (bits_put c) ≡ length (bits_put b) + length two = ap length q.put ∙ length-append (bits_put b) two in
      q.behind ∙ drop_more (bytes_for (length (bits_put b))) (bytes_for (length (bits_put c))) (lent b) (lent a) (omega (arith, more)) p.behind;
}

pub room_left : (a b : BitWriter) (done : List ℕ) → Puts a b done → length done ≤ room a → room b + length done ≡ room a
room_left a b done p h =
    omega (arith, p.size, ap length p.put, length-append (bits_put a) done)

pub wrote_none : (w : BitWriter) (remains : List ℕ → Type 0) (whole : List ℕ) → remains whole → Wrote w w remains whole
wrote_none w remains whole h = record { done = []; rest = whole; put = puts_none w; fits = omega arith; tail = h; joined = refl }

pub wrote_more : (start now new : BitWriter) (remains head tail : List ℕ → Type 0) (whole : List ℕ) → Wrote start now remains whole
    → ((rest : List ℕ) → remains rest → Split head tail rest)
    → ((one : List ℕ) → head one → Puts now new one) → ((one : List ℕ) → head one → length one ≤ room now) → Wrote start new tail whole
wrote_more start now new remains head tail whole w step puts room =
    let s = step w.rest w.tail in
    record {
      done = w.done ++ s.one;
      rest = s.rest;
      put = puts_more start now new w.done s.one w.put (puts s.one s.head);
      fits = omega (arith, length-append w.done s.one, room_left start now w.done w.put w.fits, room s.one s.head, w.fits);
      tail = s.tail;
      joined = w.joined ∙ (ap (λ (bs : List ℕ). w.done ++ bs) s.joined ∙ sym (append_assoc w.done s.one s.rest));
    }

-- what is due next doesn't fit, so the whole doesn't
pub wrote_full : (start now : BitWriter) (remains head tail : List ℕ → Type 0) (whole : List ℕ) → Wrote start now remains whole
    → ((rest : List ℕ) → remains rest → Split head tail rest)
    → ((one : List ℕ) → head one → ¬ (length one ≤ room now)) → ¬ (length whole ≤ room start)
wrote_full start now remains head tail whole w step full = λ fits.
    let s = step w.rest w.tail in
    absurd (full s.one s.head (omega (arith, fits, room_left start now w.done w.put w.fits, w.fits, ap length w.joined, length-append w.done w.rest, ap length s.joined, length-append s.one s.rest)))

pub wrote_all : (start now : BitWriter) (remains : List ℕ → Type 0) (whole : List ℕ) → Wrote start now remains whole → ((rest : List ℕ) → remains rest → rest ≡ [])
    → Puts start now whole × (length whole ≤ room start)
wrote_all start now remains whole w none =
    let e : whole ≡ w.done = w.joined ∙ (ap (λ (bs : List ℕ). w.done ++ bs) (none w.rest w.tail) ∙ append-nil w.done) in
    (subst (Puts start now) (sym e) w.put, omega (arith, ap length e, w.fits))

pub never : false ≡ true → ⊥
never e = cc

-- nothing is due for it
pub wrote_kept : (start now : BitWriter) (remains others : List ℕ → Type 0) (whole : List ℕ) → Wrote start now remains whole → ((rest : List ℕ) → remains rest → others rest) → Wrote start now others whole
wrote_kept start now remains others whole w step = record { done = w.done; rest = w.rest; put = w.put; fits = w.fits; tail = step w.rest w.tail; joined = w.joined }

-- what is all that is left, with nothing behind it
pub alone : (kind : List ℕ → Type 0) (bits : List ℕ) → kind bits → Split kind (λ b. b ≡ []) bits
alone kind bits h = record { one = bits; rest = []; head = h; tail = refl; joined = sym (append-nil bits) }

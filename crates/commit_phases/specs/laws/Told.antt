-- What is known of a disk that may tell what it holds (own).
use Rattle.std.proofs.Common.{◌≡◌, Option, Some, None, Result, Ok, Err, OnOk, is_err, false, refl, sym, subst, true≢false}
use Rattle.std.proofs.lemmas.Option.{none-some, same_Some}
use Rattle.take_disk.specs.Calls.{IfTold, Steps}

-- what is told has this
pub known : {T : Type 0} (x : Option T) (P : T → Type 0) → ((told : T) → x ≡ Some told → P told) → IfTold x P
known None P f = tt
known (Some told) P f = f told refl

pub told_so : {T : Type 0} (x : Option T) (P : T → Type 0) (told : T) → IfTold x P → x ≡ Some told → P told
told_so None P told p e = absurd (none-some told e)
told_so (Some a) P told p e = subst P (same_Some a told e) p

-- the same is told
pub same_told : {T : Type 0} (x y : Option T) (P : T → Type 0) → y ≡ x → IfTold x P → IfTold y P
same_told {T} x y P e p = subst (λ (z : Option T). IfTold z P) (sym e) p

-- what follows of one fact, and of two
pub changes : {T : Type 0} (x : Option T) (P Q : T → Type 0) → IfTold x P → ((told : T) → P told → Q told) → IfTold x Q
changes None P Q p f = tt
changes (Some told) P Q p f = f told p

pub two : {T : Type 0} (x : Option T) (P Q R : T → Type 0) → IfTold x P → IfTold x Q → ((told : T) → P told → Q told → R told) → IfTold x R
two None P Q R p q f = tt
two (Some told) P Q R p q f = f told p q

-- what a step makes of a fact
pub lift : {T : Type 0} (x y : Option T) (P Q : T → Type 0) (step : T → T → Type 0) → IfTold x P → Steps x y step
    → ((old new : T) → P old → step old new → Q new) → IfTold y Q
lift None None P Q step p s f = tt
lift None (Some new) P Q step p s f = absurd s
lift (Some old) None P Q step p s f = absurd s
lift (Some old) (Some new) P Q step p s f = f old new p s

-- two facts of one step
pub both : {T : Type 0} (x y : Option T) (step other : T → T → Type 0) → Steps x y step → Steps x y other → Steps x y (λ old new. step old new × other old new)
both None None step other s o = tt
both None (Some new) step other s o = absurd s
both (Some old) None step other s o = absurd s
both (Some old) (Some new) step other s o = (s, o)

-- a fact of what was told before, with a step
pub with_old : {T : Type 0} (x y : Option T) (P : T → Type 0) (step : T → T → Type 0) → IfTold x P → Steps x y step
    → Steps x y (λ old new. P old × step old new)
with_old None None P step p s = tt
with_old None (Some new) P step p s = absurd s
with_old (Some old) None P step p s = absurd s
with_old (Some old) (Some new) P step p s = (p, s)

-- and of what is told now
pub with_new : {T : Type 0} (x y : Option T) (P : T → Type 0) (step : T → T → Type 0) → IfTold y P → Steps x y step
    → Steps x y (λ old new. step old new × P new)
with_new None None P step p s = tt
with_new None (Some new) P step p s = absurd s
with_new (Some old) None P step p s = absurd s
with_new (Some old) (Some new) P step p s = (s, p)

-- what follows of a step
pub weaker : {T : Type 0} (x y : Option T) (step other : T → T → Type 0) → Steps x y step → ((old new : T) → step old new → other old new) → Steps x y other
weaker None None step other s f = tt
weaker None (Some new) step other s f = absurd s
weaker (Some old) None step other s f = absurd s
weaker (Some old) (Some new) step other s f = f old new s

-- no step at all
pub unchanged : {T : Type 0} (x y : Option T) → y ≡ x → Steps x y (λ old new. new ≡ old)
unchanged None None e = tt
unchanged None (Some new) e = absurd (none-some new (sym e))
unchanged (Some old) None e = absurd (none-some old e)
unchanged (Some old) (Some new) e = same_Some new old e

-- who tells goes on telling
pub still : {T : Type 0} (x : Option T) → Steps x x (λ old new. Unit {0})
still None = tt
still (Some told) = tt

pub tells : {T : Type 0} (x y z : Option T) (step : T → T → Type 0) → Steps x y (λ old new. Unit {0}) → Steps y z step → Steps x z (λ old new. Unit {0})
tells None None None step s o = tt
tells None None (Some new) step s o = absurd o
tells None (Some mid) z step s o = absurd s
tells (Some old) None z step s o = absurd s
tells (Some old) (Some mid) None step s o = absurd o
tells (Some old) (Some mid) (Some new) step s o = tt

-- two steps, one after the other
pub through : {T : Type 0} (x y z : Option T) (step other : T → T → Type 0) → Steps x y step → Steps y z other
    → Steps x z (λ old new. (mid : T) × step old mid × other mid new)
through None None None step other s o = tt
through None None (Some new) step other s o = absurd o
through None (Some mid) z step other s o = absurd s
through (Some old) None z step other s o = absurd s
through (Some old) (Some mid) None step other s o = absurd o
through (Some old) (Some mid) (Some new) step other s o = (mid, s, o)

-- a call that answered no error answered Ok
pub on_ok : {T E : Type 0} (r : Result T E) (P : Type 0) → OnOk r P → is_err r ≡ false → P
on_ok (Ok v) P p e = p
on_ok (Err x) P p e = absurd (true≢false e)

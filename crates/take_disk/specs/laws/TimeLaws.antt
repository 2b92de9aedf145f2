-- Time over no call, over one and over two parts is one time (own). The crates above cite this.
use Rattle.std.proofs.Common.{inl, inr, ⊎_elim, arith}
use Rattle.take_disk.specs.declared.ticket.Ticket.{Ticket}
use Rattle.take_disk.specs.Held.{Moment, IsBefore, Areas}
use Rattle.take_disk.specs.Calls.{Elapses}
use Rattle.take_disk.specs.Elapsed.{IsLeftBetween, Elapsed}

same_moment : (m : Moment) → IsBefore m m
same_moment m = record { first = omega arith; second = omega arith }

later_moment : (a b c : Moment) → IsBefore a b → IsBefore b c → IsBefore a c
later_moment a b c p q =
    let p_first = p.first in let p_second = p.second in let q_first = q.first in let q_second = q.second in
    record { first = omega arith; second = omega arith }

pub elapsed_none : (m : Moment) (since : Moment → Areas → Type 0) (made : Ticket → Type 0) → Elapsed m m since since made made
elapsed_none m since made = record {
  later = same_moment m;
  nothing_else = λ moment image before left. inl left;
  keeps = λ moment image before left. left;
  tickets = λ ticket h. h;
}

pub elapsed_once : (before now : Moment) (past since : Moment → Areas → Type 0) (made makes : Ticket → Type 0)
    → Elapses before now past since made makes → Elapsed before now past since made makes
elapsed_once before now past since made makes e = record {
  later = e.later;
  nothing_else = λ moment image b left.
      ⊎_elim
      (λ (x : past moment image). inl x)
      (λ (x : since now image). inr (record { moment = now; from = e.later; to = same_moment now; left = x }))
      (e.nothing_else moment image b left);
  keeps = e.keeps;
  tickets = e.tickets;
}

pub elapsed_more : (a b c : Moment) (one two three : Moment → Areas → Type 0) (made makes made_then : Ticket → Type 0)
    → Elapsed a b one two made makes → Elapsed b c two three makes made_then → Elapsed a c one three made made_then
elapsed_more a b c one two three made makes made_then p q = record {
  later = later_moment a b c p.later q.later;
  nothing_else = λ moment image before left.
      ⊎_elim
      (λ (x : two moment image).
      ⊎_elim
      (λ (y : one moment image). inl y)
      (λ (y : IsLeftBetween a b two image). inr (record {
        moment = y.moment;
        from = y.from;
        to = later_moment y.moment b c y.to q.later;
        left = q.keeps y.moment image y.to y.left;
      }))
      (p.nothing_else moment image before x))
      (λ (x : IsLeftBetween b c three image). inr (record {
        moment = x.moment;
        from = later_moment a b x.moment p.later x.from;
        to = x.to;
        left = x.left;
      }))
      (q.nothing_else moment image (later_moment moment a b before p.later) left);
  keeps = λ moment image before left. q.keeps moment image (later_moment moment a b before p.later) (p.keeps moment image before left);
  tickets = λ ticket h. q.tickets ticket (p.tickets ticket h);
}

-- Moments one after the other (own).
use Rattle.std.proofs.Common.{◌≡◌, subst, arith}
use Rattle.take_disk.specs.Held.{Moment, IsBefore, joined}

pub same_moment : (m : Moment) → IsBefore m m
same_moment m = record { first = omega arith; second = omega arith }

pub later_moment : (a b c : Moment) → IsBefore a b → IsBefore b c → IsBefore a c
later_moment a b c p q =
    let p_first = p.first in let p_second = p.second in let q_first = q.first in let q_second = q.second in
    record { first = omega arith; second = omega arith }

pub equal_moment : (a b : Moment) → a ≡ b → IsBefore a b
equal_moment a b e = subst (λ (m : Moment). IsBefore a m) e (same_moment a)

-- the join is before neither
pub joined_first : (a b : Moment) → IsBefore a (joined a b)
joined_first a b = record { first = omega arith; second = omega arith }

pub joined_second : (a b : Moment) → IsBefore b (joined a b)
joined_second a b = record { first = omega arith; second = omega arith }

-- and the least such moment
pub joined_least : (a b c : Moment) → IsBefore a c → IsBefore b c → IsBefore (joined a b) c
joined_least a b c p q =
    let p_first = p.first in let p_second = p.second in let q_first = q.first in let q_second = q.second in
    record { first = omega arith; second = omega arith }

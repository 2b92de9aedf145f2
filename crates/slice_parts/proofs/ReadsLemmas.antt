use Rattle.std.proofs.Common.{ℕ, List, [], ◌∷◌, ◌++◌, refl, sym, ap, ◌∙◌, arith}
use Rattle.std.specs.List.{fold}
use Rattle.std.proofs.lemmas.List.{append_assoc, length-append}
use Rattle.bit_io.specs.Read.{Reading, Takes}
use Rattle.slice_parts.specs.Joined.{ReadsAll}
use Rattle.slice_parts.specs.inner.Progress.{ReadsOne}
use Rattle.slice_parts.specs.laws.JoinedLaws.{joined_more}

pub takes_none : (a : Reading) → Takes a a []
takes_none a = record { left = refl; place = omega arith }

pub takes_more : (a b c : Reading) (one two : List ℕ) → Takes a b one → Takes b c two → Takes a c (one ++ two)
takes_more a b c one two p q = record {
  left = p.left ∙ (ap (λ (bs : List ℕ). one ++ bs) q.left ∙ sym (append_assoc one two c.left));
  place = omega (arith, p.place, q.place, length-append one two);
}

pub reads_none : {S X : Type 0} (spells : S → List ℕ → X → Type 0) (next : S → X → S) (s : S) (start : Reading) → ReadsAll spells next s start start []
reads_none spells next s start = record { spelled = []; coded = refl; taken = takes_none start }

-- one more item
pub reads_more : {S X : Type 0} (spells : S → List ℕ → X → Type 0) (next : S → X → S) (s : S) (start here behind : Reading) (xs : List X) (x : X)
    → ReadsAll spells next s start here xs → ReadsOne spells (fold next s xs) here behind x → ReadsAll spells next s start behind (xs ++ x ∷ [])
reads_more spells next s start here behind xs x all one = record {
  spelled = all.spelled ++ one.spelled;
  coded = joined_more spells next s xs x all.spelled one.spelled all.coded one.coded;
  taken = takes_more start here behind all.spelled one.spelled all.taken one.taken;
}

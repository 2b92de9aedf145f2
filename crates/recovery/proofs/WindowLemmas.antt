-- What a window shows of the commits.
use Rattle.std.proofs.Common.{◌≡◌, ◌≤◌, ◌<◌, ◌⊎◌, inl, inr, ⊎_elim, ℕ, ◌+◌, ◌-◌, min, List, ◌∷◌, ◌++◌, length, take, drop, sym, ap, subst, ◌∙◌}
use Rattle.std.proofs.Common.{arith, length-drop, length-take, length-append, refl, Option, Some}
use Rattle.std.proofs.lemmas.Bool.{cases_lt}
use Rattle.std.proofs.lemmas.List.{drop-take, drop-drop}
use Rattle.take_core.specs.declared.mark.Mark.{Mark}
use Rattle.rec_bytes.specs.Configuration.{Fields}
use Rattle.rec_bytes.specs.Views.{view}
use Rattle.rec_bytes.specs.declared.config.Config.{Config}
use Rattle.commit_sidecar.specs.Looks.{BeginsHead, Sees, IsEnough}
use Rattle.commit_sidecar.specs.Refusals.{IsNoTake}
use Rattle.commit_sidecar.specs.Says.{head_of, gate_place}
use Rattle.commit_sidecar.specs.declared.file.TheConstants.{COMMITS_AREA}
use Rattle.commit_sidecar.specs.laws.Reads.{read_said, read_more, read_damaged}
use Rattle.commit_sidecar.specs.declared.head.TheConstants.{HEAD_LEN}
use Rattle.commit_sidecar.specs.Notes.{note_of}
use Rattle.commit_sidecar.specs.declared.looks.Look.{Look}
use Rattle.commit_sidecar.specs.declared.looks.Look.TheVariants.{Shut, Open, Broken}
use Rattle.commit_sidecar.specs.declared.note.TheConstants.{RECORD_LEN}
use Rattle.commit_sidecar.specs.laws.Records.{length-head, length-note}
use Rattle.recovery.specs.declared.window.Window.{Window}
use Rattle.recovery.specs.declared.answer.RecoverFault.TheVariants.{Damaged}
use Rattle.recovery.specs.inner.Windows.{Shows, HasRecord, HasReadTo, RefusesIn, SaysUpTo, SeesWithin}

-- the bytes of the window from a place on are those of the commits
window_rest : (at held place : ℕ) (bytes commits : List ℕ) → take held bytes ≡ take held (drop at commits) → at ≤ place → place ≤ at + held
    → take (held - (place - at)) (drop (place - at) bytes) ≡ take (held - (place - at)) (drop place commits)
window_rest at held place bytes commits same from to =
    let k : ℕ = place - at in
    let n : ℕ = held - (place - at) in
    let all : k + n ≡ held = omega (arith, from, to) in
    let on : at + k ≡ place = omega (arith, from) in
    let joined : take (k + n) bytes ≡ take (k + n) (drop at commits) = subst (λ (m : ℕ). take m bytes ≡ take m (drop at commits)) (sym all) same in
    sym (drop-take k n bytes)
    ∙ ap (λ (xs : List ℕ). drop k xs) joined
    ∙ drop-take k n (drop at commits)
    ∙ ap (λ (xs : List ℕ). take n xs) (drop-drop k at commits ∙ ap (λ (m : ℕ). drop m commits) on)

-- so what a look at them sees, one at all bytes behind the place sees
pub window_sees : (window : Window) (len place : ℕ) (bytes commits : List ℕ) (last : Option Mark) (look : Look)
    → ((rest : List ℕ) (number : ℕ) (last : Option Mark) (look : Look) → IsEnough RECORD_LEN number rest → Sees last (take number rest) look
    → Sees last rest look)
    → len ≡ length commits → HasRecord window len place → Shows window bytes commits
    → Sees last (take (window.held - (place - window.at)) (drop (place - window.at) bytes)) look → Sees last (drop place commits) look
window_sees window len place bytes commits last look decides long has shows sees =
    let number : ℕ = window.held - (place - window.at) in
    let from = has.place.from in let to = has.place.to in
    let rest : length (drop place commits) ≡ length commits - place = length-drop place commits in
    let enough : IsEnough RECORD_LEN number (drop place commits) =
    ⊎_elim
    (λ (e : place + RECORD_LEN ≤ window.at + window.held). inl (omega (arith, e, from, to)))
    (λ (e : len ≤ window.at + window.held). inr (omega (arith, e, from, to, long, rest)))
    has.enough in
    decides (drop place commits) number last look enough
    (subst (λ (xs : List ℕ). Sees last xs look) (window_rest window.at window.held place bytes commits shows from to) sees)

-- and what is seen lies in the window
pub sees_within : (window : Window) (len place : ℕ) (bytes : List ℕ) (last : Option Mark) (look : Look) → HasRecord window len place
    → Sees last (take (window.held - (place - window.at)) (drop (place - window.at) bytes)) look → SeesWithin window len place look
sees_within window len place bytes last Broken has sees = tt
sees_within window len place bytes last Shut has sees =
    let n : ℕ = window.held - (place - window.at) in
    let rest : List ℕ = drop (place - window.at) bytes in
    let long : length (take n rest) ≡ length (sees.0 ∷ sees.1) = ap (length {A = ℕ}) sees.3 in
    let within = has.place.within in let small = has.place.small in let from = has.place.from in let to = has.place.to in
    (omega (arith, long, length-take n rest, within, from, to), omega (arith, long, length-take n rest, small, from, to))
sees_within window len place bytes last (Open mark) has sees =
    let n : ℕ = window.held - (place - window.at) in
    let rest : List ℕ = drop (place - window.at) bytes in
    let long : length (take n rest) ≡ length (1 ∷ (note_of mark ++ sees.0)) = ap (length {A = ℕ}) sees.1 in
    let within = has.place.within in let small = has.place.small in let from = has.place.from in let to = has.place.to in
    record {
      from = omega (arith, from);
      to = omega (arith, long, length-take n rest, length-append (note_of mark) sees.0, length-note mark, from, to);
      within = within;
      room = has.place.room;
      small = small;
    }

-- bytes that begin with a head are as many
pub head_within : (bytes : List ℕ) (cfg : Fields) (len : ℕ) → BeginsHead bytes cfg → length bytes ≡ min len HEAD_LEN → HEAD_LEN ≤ len
head_within bytes cfg len head long =
    omega (arith, long, ap (length {A = ℕ}) head.is, length-append (head_of cfg) head.rest, length-head cfg head.is_config)

-- and where the first bytes are no part of a head, the commits aren't a take's
pub front_refused : (front commits : List ℕ) (len at : ℕ)
    → ((commits : List ℕ) (number at : ℕ) → IsEnough HEAD_LEN number commits → IsNoTake (take number commits) at → IsNoTake commits at)
    → len ≡ length commits → length front ≡ min len HEAD_LEN → front ≡ take (min len HEAD_LEN) (drop 0 commits) → IsNoTake front at → IsNoTake commits at
front_refused front commits len at decides long count is none =
    decides commits (min len HEAD_LEN) at (enough (cases_lt len HEAD_LEN)) (subst (λ (xs : List ℕ). IsNoTake xs at) is none)
  where
    enough : (len < HEAD_LEN) ⊎ (HEAD_LEN ≤ len) → IsEnough HEAD_LEN (min len HEAD_LEN) commits
    enough (inl less) = inr (omega (arith, less, long))
    enough (inr more) = inl (omega (arith, more))

-- behind the records that were read a gate isn't open: the commits say their marks
pub says_shut : (commits : List ℕ) (config : Config) (at : ℕ) (last : Option Mark) → HasReadTo commits (view config) at last → Sees last (drop at commits) Shut
    → SaysUpTo commits (record { config = config; gate = at; mark = last })
says_shut commits config at last to sees = record {
  marks = to.read.marks;
  says = read_said commits (view config) at to.number last to.read sees;
  gate = to.read.placed ∙ ap (λ (n : ℕ). gate_place n) to.read.counted;
  mark = to.read.ends;
}

-- one more is open
pub read_on : (commits : List ℕ) (cfg : Fields) (at : ℕ) (last : Option Mark) (mark : Mark) → HasReadTo commits cfg at last
    → Sees last (drop at commits) (Open mark)
    → HasReadTo commits cfg (at + RECORD_LEN) (Some mark)
read_on commits cfg at last mark to sees = record { number = to.number + 1; read = read_more commits cfg at to.number last mark to.read sees }

-- or they break
pub breaks_at : (commits : List ℕ) (cfg : Fields) (at : ℕ) (last : Option Mark) → HasReadTo commits cfg at last → Sees last (drop at commits) Broken
    → RefusesIn commits (Damaged at COMMITS_AREA)
breaks_at commits cfg at last to sees = (read_damaged commits cfg at to.number last to.read sees, refl)

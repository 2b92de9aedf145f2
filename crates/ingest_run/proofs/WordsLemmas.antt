-- When the words call a command.
use Rattle.std.proofs.Common.{◌≡◌, ◌≢◌, ◌&&◌, ◌==◌, Bool, true, false, ℕ, List, [], ◌∷◌, Some, None, Result, Ok, Err, IfOk, OnOk, length, codes, String, string_bytes, slice_get, option_map, refl, sym, ap, ap₂, ◌∙◌, arith}
use Rattle.std.specs.Str.{bytes_eq}
use Rattle.std.proofs.lemmas.Bool.{ne_eqb}
use Rattle.std.proofs.lemmas.Slice.Eq.{bytes_eq-Decides}
use Rattle.clap.specs.Words.{App, Kinds, fault_of}
use Rattle.ingest_run.specs.Words.{check, command_of, encode, frame, is_call, number_of, recover, texts, wrap}
use Rattle.ingest_run.specs.declared.words.Command.{Command}
use Rattle.ingest_run.specs.declared.words.Command.TheVariants.{Wrap, Encode, Recover, Check, Frame}
use Rattle.ingest_run.specs.declared.words.WordsFault.{WordsFault}
use Rattle.ingest_run.proofs.OptionLemmas.{differ}

-- a test that doesn't hold is false
denied : (b : Bool) → (b ≡ true → ⊥) → b ≡ false
denied true h = absurd (h refl)
denied false h = refl

-- a false part makes a conjunction false
and_false : (a b : Bool) → b ≡ false → (a && b) ≡ false
and_false true b h = h
and_false false b h = refl

-- kinds of error that are some are not none
some_kinds : (kinds : Kinds) → kinds ≢ [] → (length kinds == 0) ≡ false
some_kinds [] h = absurd (h refl)
some_kinds (kind ∷ kinds) h = ne_eqb _ _ (λ e. omega arith)

-- no words call no command
pub is_call_none : {Z : Type 0} (app : App) (words : List (String Z)) → slice_get words 0 ≡ None → is_call app (texts words) ≡ false
unfolding is_call
is_call_none app [] h = refl
is_call_none app (first ∷ rest) h = cc

-- words whose first is another name don't call it
pub is_call_other : {Z : Type 0} (app : App) (words : List (String Z)) (first : String Z) → slice_get words 0 ≡ Some first → string_bytes first ≢ app.top.name → is_call app (texts words) ≡ false
unfolding is_call
is_call_other app [] first h ne = refl
is_call_other app (word ∷ rest) first h ne =
    let same : word ≡ first = cc in
    let other : bytes_eq (string_bytes word) app.top.name ≡ false = denied _ (λ e. ne (ap string_bytes (sym same) ∙ (bytes_eq-Decides (string_bytes word) app.top.name).0 e)) in
    ap (λ b. b && length (fault_of app (texts (word ∷ rest))) == 0) other

-- nor do words that it refuses
pub is_call_refused : {Z : Type 0} (app : App) (words : List (String Z)) → fault_of app (texts words) ≢ [] → is_call app (texts words) ≡ false
unfolding is_call
is_call_refused app [] h = refl
is_call_refused app (word ∷ rest) h = and_false _ _ (some_kinds (fault_of app (texts (word ∷ rest))) h)

-- words whose first is its name, and that it takes, call it
pub is_call_taken : {Z : Type 0} (app : App) (words : List (String Z)) (first : String Z) → slice_get words 0 ≡ Some first → string_bytes first ≡ app.top.name → fault_of app (texts words) ≡ [] → is_call app (texts words) ≡ true
unfolding is_call
is_call_taken app [] first h e none = cc
is_call_taken app (word ∷ rest) first h e none =
    let same : word ≡ first = cc in
    let named = (bytes_eq-Decides (string_bytes word) app.top.name).1 (ap string_bytes same ∙ e) in
    ap₂ (λ a b. a && b) named (ap (λ (kinds : Kinds). length kinds == 0) none)

-- words whose first is a name that differs from its name don't call it
pub is_call_named : {Z : Type 0} (app : App) (words : List (String Z)) (first : String Z) (name : List ℕ) → slice_get words 0 ≡ Some first
    → string_bytes first ≡ name → bytes_eq name app.top.name ≡ false → is_call app (texts words) ≡ false
is_call_named app words first name at named unlike = is_call_other app words first at (λ e. differ name app.top.name unlike (sym named ∙ e))

-- words that no command takes are none
pub none_taken : {Z : Type 0} (words : List (String Z)) → is_call wrap (texts words) ≡ false → is_call encode (texts words) ≡ false
    → is_call recover (texts words) ≡ false → is_call check (texts words) ≡ false → is_call frame (texts words) ≡ false → command_of (texts words) ≡ None
none_taken words w e r c f = rw (w, e, r, c, f) refl

-- there are no words
pub none_given : {Z : Type 0} (words : List (String Z)) → slice_get words 0 ≡ None → command_of (texts words) ≡ None
none_given words none =
    none_taken words (is_call_none wrap words none) (is_call_none encode words none) (is_call_none recover words none) (is_call_none check words none)
    (is_call_none frame words none)

-- the first word names no command
pub none_named : {Z : Type 0} (words : List (String Z)) (first : String Z) → slice_get words 0 ≡ Some first → string_bytes first ≢ codes "wrap"
    → string_bytes first ≢ codes "encode" → string_bytes first ≢ codes "recover" → string_bytes first ≢ codes "check" → string_bytes first ≢ codes "frame"
    → command_of (texts words) ≡ None
none_named words first at w e r c f =
    none_taken words (is_call_other wrap words first at w) (is_call_other encode words first at e) (is_call_other recover words first at r)
    (is_call_other check words first at c) (is_call_other frame words first at f)

-- words that begin with the name of `wrap`, and that it refuses, are none
pub wrap_refused : {Z : Type 0} (words : List (String Z)) (first : String Z) → slice_get words 0 ≡ Some first → string_bytes first ≡ codes "wrap"
    → fault_of wrap (texts words) ≢ [] → command_of (texts words) ≡ None
wrap_refused words first at named faulty =
    none_taken words (is_call_refused wrap words faulty) (is_call_named encode words first (codes "wrap") at named refl)
    (is_call_named recover words first (codes "wrap") at named refl) (is_call_named check words first (codes "wrap") at named refl)
    (is_call_named frame words first (codes "wrap") at named refl)

-- the same of `encode`
pub encode_refused : {Z : Type 0} (words : List (String Z)) (first : String Z) → slice_get words 0 ≡ Some first → string_bytes first ≡ codes "encode"
    → fault_of encode (texts words) ≢ [] → command_of (texts words) ≡ None
encode_refused words first at named faulty =
    none_taken words (is_call_named wrap words first (codes "encode") at named refl) (is_call_refused encode words faulty)
    (is_call_named recover words first (codes "encode") at named refl) (is_call_named check words first (codes "encode") at named refl)
    (is_call_named frame words first (codes "encode") at named refl)

-- the same of `recover`
pub recover_refused : {Z : Type 0} (words : List (String Z)) (first : String Z) → slice_get words 0 ≡ Some first → string_bytes first ≡ codes "recover"
    → fault_of recover (texts words) ≢ [] → command_of (texts words) ≡ None
recover_refused words first at named faulty =
    none_taken words (is_call_named wrap words first (codes "recover") at named refl) (is_call_named encode words first (codes "recover") at named refl)
    (is_call_refused recover words faulty) (is_call_named check words first (codes "recover") at named refl)
    (is_call_named frame words first (codes "recover") at named refl)

-- the same of `check`
pub check_refused : {Z : Type 0} (words : List (String Z)) (first : String Z) → slice_get words 0 ≡ Some first → string_bytes first ≡ codes "check"
    → fault_of check (texts words) ≢ [] → command_of (texts words) ≡ None
check_refused words first at named faulty =
    none_taken words (is_call_named wrap words first (codes "check") at named refl) (is_call_named encode words first (codes "check") at named refl)
    (is_call_named recover words first (codes "check") at named refl) (is_call_refused check words faulty)
    (is_call_named frame words first (codes "check") at named refl)

-- the same of `frame`
pub frame_refused : {Z : Type 0} (words : List (String Z)) (first : String Z) → slice_get words 0 ≡ Some first → string_bytes first ≡ codes "frame"
    → fault_of frame (texts words) ≢ [] → command_of (texts words) ≡ None
frame_refused words first at named faulty =
    none_taken words (is_call_named wrap words first (codes "frame") at named refl) (is_call_named encode words first (codes "frame") at named refl)
    (is_call_named recover words first (codes "frame") at named refl) (is_call_named check words first (codes "frame") at named refl)
    (is_call_refused frame words faulty)

-- words that `wrap` takes
pub wrap_taken : {Z : Type 0} (words : List (String Z)) (first : String Z) (read : Result Command WordsFault) → slice_get words 0 ≡ Some first → string_bytes first ≡ codes "wrap"
    → IfOk read (λ command. command ≡ Wrap) → OnOk read (fault_of wrap (texts words) ≡ [])
    → IfOk read (λ command. command_of (texts words) ≡ Some command)
wrap_taken words first (Ok command) at named is none = rw (is_call_taken wrap words first at named none) (ap Some (sym is))
wrap_taken words first (Err _) at named is none = tt

-- those that `encode` takes, with the workers that they give
pub encode_taken : {Z : Type 0} (words : List (String Z)) (first : String Z) (read : Result Command WordsFault) → slice_get words 0 ≡ Some first → string_bytes first ≡ codes "encode"
    → IfOk read (λ command. option_map Encode (number_of (codes "workers") encode (texts words)) ≡ Some command) → OnOk read (fault_of encode (texts words) ≡ [])
    → IfOk read (λ command. command_of (texts words) ≡ Some command)
encode_taken words first (Ok command) at named is none = rw (
  is_call_named wrap words first (codes "encode") at named refl,
  is_call_taken encode words first at named none,
) is
encode_taken words first (Err _) at named is none = tt

-- those that `recover` takes
pub recover_taken : {Z : Type 0} (words : List (String Z)) (first : String Z) (read : Result Command WordsFault) → slice_get words 0 ≡ Some first → string_bytes first ≡ codes "recover"
    → IfOk read (λ command. command ≡ Recover) → OnOk read (fault_of recover (texts words) ≡ [])
    → IfOk read (λ command. command_of (texts words) ≡ Some command)
recover_taken words first (Ok command) at named is none = rw (
  is_call_named wrap words first (codes "recover") at named refl,
  is_call_named encode words first (codes "recover") at named refl,
  is_call_taken recover words first at named none,
) (ap Some (sym is))
recover_taken words first (Err _) at named is none = tt

-- those that `check` takes
pub check_taken : {Z : Type 0} (words : List (String Z)) (first : String Z) (read : Result Command WordsFault) → slice_get words 0 ≡ Some first → string_bytes first ≡ codes "check"
    → IfOk read (λ command. command ≡ Check) → OnOk read (fault_of check (texts words) ≡ [])
    → IfOk read (λ command. command_of (texts words) ≡ Some command)
check_taken words first (Ok command) at named is none = rw (
  is_call_named wrap words first (codes "check") at named refl,
  is_call_named encode words first (codes "check") at named refl,
  is_call_named recover words first (codes "check") at named refl,
  is_call_taken check words first at named none,
) (ap Some (sym is))
check_taken words first (Err _) at named is none = tt

-- and those that `frame` takes, with the number that they give
pub frame_taken : {Z : Type 0} (words : List (String Z)) (first : String Z) (read : Result Command WordsFault) → slice_get words 0 ≡ Some first → string_bytes first ≡ codes "frame"
    → IfOk read (λ command. option_map Frame (number_of (codes "number") frame (texts words)) ≡ Some command) → OnOk read (fault_of frame (texts words) ≡ [])
    → IfOk read (λ command. command_of (texts words) ≡ Some command)
frame_taken words first (Ok command) at named is none = rw (
  is_call_named wrap words first (codes "frame") at named refl,
  is_call_named encode words first (codes "frame") at named refl,
  is_call_named recover words first (codes "frame") at named refl,
  is_call_named check words first (codes "frame") at named refl,
  is_call_taken frame words first at named none,
) is
frame_taken words first (Err _) at named is none = tt

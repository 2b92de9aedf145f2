-- The value of an option in words.
use Rattle.std.proofs.Common.{◌≡◌, ◌≢◌, ◌+◌, ◌++◌, ◌∷◌, ◌∙◌, Bool, true, false, List, [], Option, Some, None, String, string_bytes, length, take, drop, slice_get, codes, option_map, if◌then◌else◌, refl, sym, ap, append_assoc, arith}
use Rattle.std.specs.Borrow.{Bor}
use Rattle.std.specs.Option.{MatchOption, option_or}
use Rattle.std.specs.Str.{bytes_eq}
use Rattle.std.proofs.Math.Seq.{take-append-add, drop-append-add}
use Rattle.std.proofs.lemmas.List.{append_cancel_left, take-append-drop}
use Rattle.std.proofs.lemmas.Slice.Eq.{bytes_eq-Decides}
use Rattle.clap.specs.Walk.{Text}
use Rattle.ingest_run.specs.Words.{attached, texts, value_in, value_of}

-- what a word has attached that is the option, `=` and a value
attached_some : (option word rest value : Text) → word ≡ option ++ rest → rest ≡ 61 ∷ value → attached option word ≡ Some value
attached_some option word rest value w r =
    let front : take (length option + 1) word ≡ option ++ codes "=" = rw (w, r) (take-append-add option (61 ∷ value) 1) in
    let back : drop (length option + 1) word ≡ value = rw (w, r) (drop-append-add option (61 ∷ value) 1) in
    let test : bytes_eq (take (length option + 1) word) (option ++ codes "=") ≡ true = (bytes_eq-Decides (take (length option + 1) word) (option ++ codes "=")).1 front in
    ap (λ (b : Bool). if b then Some (drop (length option + 1) word) else None) test ∙ ap Some back

-- a word that is not the option, `=` and anything has nothing attached
pub attached_none : (option word : Text) → ((value : Text) → word ≢ option ++ 61 ∷ value) → attached option word ≡ None
attached_none option word lacks = go (bytes_eq (take (length option + 1) word) (option ++ codes "=")) refl
  where
    go : (b : Bool) → bytes_eq (take (length option + 1) word) (option ++ codes "=") ≡ b → (if b then Some (drop (length option + 1) word) else None) ≡ None
    go true e =
        let front = (bytes_eq-Decides (take (length option + 1) word) (option ++ codes "=")).0 e in
        absurd (lacks (drop (length option + 1) word)
        (sym (take-append-drop (length option + 1) word)
        ∙ (ap (λ (xs : Text). xs ++ drop (length option + 1) word) front ∙ append_assoc option (codes "=") (drop (length option + 1) word))))
    go false e = refl

-- what a word has attached is what stands behind `=` in the rest of it behind the option
pub attached_rest : (option word rest : Text) (r : Option (Bor Text)) → word ≡ option ++ rest
    → MatchOption r ((value : Text) → rest ≢ 61 ∷ value) (λ x. rest ≡ 61 ∷ x.now) → option_map (λ value. value.now) r ≡ attached option word
attached_rest option word rest None w lacks =
    sym (attached_none option word (λ value e. lacks value (append_cancel_left option rest (61 ∷ value) (sym w ∙ e))))
attached_rest option word rest (Some x) w is = sym (attached_some option word rest x.now w is)

-- the first word is the option
pub value_here : (option word : Text) (rest : List Text) → bytes_eq word option ≡ true → value_in option (word ∷ rest) ≡ slice_get rest 0
unfolding value_in
value_here option word rest is = ap (λ (b : Bool). if b then slice_get rest 0 else option_or (attached option word) (value_in option rest)) is

-- the first word has a value attached
pub value_at : (option word value : Text) (rest : List Text) → bytes_eq word option ≡ false → attached option word ≡ Some value
    → value_in option (word ∷ rest) ≡ Some value
unfolding value_in
value_at option word value rest is at =
    ap (λ (b : Bool). if b then slice_get rest 0 else option_or (attached option word) (value_in option rest)) is
    ∙ ap (λ (o : Option Text). option_or o (value_in option rest)) at

-- the first word gives no value
pub value_later : (option word : Text) (rest : List Text) → bytes_eq word option ≡ false → attached option word ≡ None
    → value_in option (word ∷ rest) ≡ value_in option rest
unfolding value_in
value_later option word rest is at =
    ap (λ (b : Bool). if b then slice_get rest 0 else option_or (attached option word) (value_in option rest)) is
    ∙ ap (λ (o : Option Text). option_or o (value_in option rest)) at

-- there is no word
pub value_none : (option : Text) → value_in option [] ≡ None
unfolding value_in
value_none option = refl

-- the first word is the option, and its value is the next one
pub step_here : {Z : Type 0} (option : Text) (left rest : List (String Z)) (word : String Z) → left ≡ word ∷ rest
    → bytes_eq (string_bytes word) option ≡ true → value_in option (texts left) ≡ slice_get (texts rest) 0
step_here {Z} option left rest word split is = ap (λ (w : List (String Z)). value_in option (texts w)) split ∙ value_here option (string_bytes word) (texts rest) is

-- the first word has the value attached
pub step_at : {Z : Type 0} (option value : Text) (left rest : List (String Z)) (word : String Z) → left ≡ word ∷ rest
    → bytes_eq (string_bytes word) option ≡ false → attached option (string_bytes word) ≡ Some value → value_in option (texts left) ≡ Some value
step_at {Z} option value left rest word split other at =
    ap (λ (w : List (String Z)). value_in option (texts w)) split ∙ value_at option (string_bytes word) value (texts rest) other at

-- the first word gives no value, so those behind it do
pub step_later : {Z : Type 0} (option : Text) (left rest : List (String Z)) (word : String Z) → left ≡ word ∷ rest
    → bytes_eq (string_bytes word) option ≡ false → attached option (string_bytes word) ≡ None → value_in option (texts left) ≡ value_in option (texts rest)
step_later {Z} option left rest word split other none =
    ap (λ (w : List (String Z)). value_in option (texts w)) split ∙ value_later option (string_bytes word) (texts rest) other none

-- no word is left
pub step_none : {Z : Type 0} (option : Text) (left : List (String Z)) → length left ≡ 0 → value_in option (texts left) ≡ None
step_none option [] none = value_none option
step_none option (word ∷ rest) none = absurd (omega arith)

-- a call without words gives no value
pub call_none : {Z : Type 0} (option : Text) (words : List (String Z)) → length words ≡ 0 → value_of option (texts words) ≡ None
call_none option [] none = value_none option
call_none option (word ∷ rest) none = absurd (omega arith)

-- What is known of an option after a parse.
use Rattle.std.proofs.Common.{◌≡◌, ◌≢◌, ◌<◌, ◌≤◌, ◌^◌, ◌&&◌, ◌++◌, ◌∷◌, ◌∙◌, Bool, true, false, ℕ, List, [], zero, suc, length, Option, Some, None, Result, Ok, codes, pos, option_map, refl, sym, ap, subst, inl, inr, arith}
use Rattle.std.specs.List.{All, slice_index_or}
use Rattle.std.specs.Str.{bytes_eq}
use Rattle.std.specs.Str.Parse.{ParsesUnsigned, digits_value, without_leading_plus}
use Rattle.std.proofs.lemmas.List.Elements.{All-nil}
use Rattle.std.proofs.lemmas.Slice.Eq.{bytes_eq-Decides}
use Rattle.clap.proofs.CallerLemmas.{added_plain}
use Rattle.clap.proofs.CallerReads.{one_required_read, signed_reads}
use Rattle.clap.proofs.WalkLemmas.{one_text-rows}
use Rattle.clap.specs.Built.{IsAuto}
use Rattle.clap.specs.Facts.{args_of, groups_of, least_values}
use Rattle.clap.specs.Faults.{is_free_app}
use Rattle.clap.specs.Matches.{ReadsOne}
use Rattle.clap.specs.Values.{IsSignedIn}
use Rattle.clap.specs.Walk.{Row, Text}
use Rattle.clap.specs.Words.{AddsArg, App, HasMatchesOf, IsParsedFrom, IsPlain, IsPlainArg, app_of, built, found_of, is_simple, is_simple_and_free, matches_of, one_of, one_text, without_minus}
use Rattle.clap.specs.declared.builder.ArgAction.TheVariants.{Set}
use Rattle.clap.specs.declared.builder.arg.Arg.{Arg}
use Rattle.clap.specs.declared.builder.command.Command.{Command}
use Rattle.clap.specs.declared.builder.command.Command.TheViews.{out-Command}
use Rattle.clap.specs.declared.builder.value_parser.ValueParser.TheVariants as vp
use Rattle.clap.specs.declared.parser.matches.ArgMatches.{ArgMatches}
use Rattle.ingest_run.specs.Words.{number_of}
use Rattle.ingest_run.specs.inner.Options.{AsksNumber, IsOption, TakesNumber}

-- texts that a test tells apart differ
pub differ : (a b : Text) → bytes_eq a b ≡ false → a ≢ b
differ a b unlike same =
    let alike : bytes_eq a b ≡ true = (bytes_eq-Decides a b).1 same in
    let bad : false ≡ true = sym unlike ∙ alike in
    cc

-- of two arguments the second alone is named so
only_second : (at : ℕ) (a b other : Arg) → at < 2 → a.id.now ≡ codes "dir"
    → bytes_eq (slice_index_or (a ∷ b ∷ []) at other).id.now (codes "number") ≡ true → at ≡ 1
only_second zero a b other low named same = absurd (differ (codes "dir") (codes "number") refl (sym named ∙ (bytes_eq-Decides a.id.now (codes "number")).0 same))
only_second (suc zero) a b other low named same = refl
only_second (suc (suc at)) a b other low named same = absurd (omega arith)

-- the second option of a command is a number, and no other has its name
pub record HoldsNumber (command : Command) : Type 0 where
  pub option : Arg
  pub more : 1 < length (args_of command)
  pub required : (slice_index_or (args_of command) 1 option).required ≡ true
  pub action : (slice_index_or (args_of command) 1 option).action ≡ Some Set
  pub whole : (slice_index_or (args_of command) 1 option).val_delim ≡ None
  pub least : 1 ≤ least_values (slice_index_or (args_of command) 1 option)
  pub named : (slice_index_or (args_of command) 1 option).id.now ≡ codes "number"
  pub parser : (slice_index_or (args_of command) 1 option).value_parser ≡ Some (vp.Signed (pos 0) (pos 4294967295))
  pub only : (at : ℕ) (other : Arg) → at < length (args_of command)
      → bytes_eq (slice_index_or (args_of command) at other).id.now (slice_index_or (args_of command) 1 option).id.now ≡ true → at ≡ 1
  pub plain : IsPlain command

-- a command that was given a folder and then a number holds the number
pub holds_number : (start mid command : Command) (dir number : Arg) → AddsArg start dir mid → AddsArg mid number command
    → args_of start ≡ [] → groups_of start ≡ []
    → IsOption (codes "dir") dir → IsOption (codes "number") number → TakesNumber 0 4294967295 number → HoldsNumber command
holds_number start mid command dir number one two args groups d n takes =
    let first : args_of mid ≡ one.arg ∷ [] = one.args ∙ ap (λ (l : List Arg). l ++ one.arg ∷ []) args in
    let list : args_of command ≡ one.arg ∷ two.arg ∷ [] = two.args ∙ ap (λ (l : List Arg). l ++ two.arg ∷ []) first in
    let e : slice_index_or (args_of command) 1 two.arg ≡ two.arg = ap (λ (l : List Arg). slice_index_or l 1 two.arg) list in
    let name : (slice_index_or (args_of command) 1 two.arg).id.now ≡ codes "number" = ap (λ (x : Arg). x.id.now) e ∙ (ap (λ i. i.now) two.rules.id ∙ n.named) in
    record {
      option = two.arg;
      more = subst (λ (l : List Arg). 1 < length l) (sym list) (omega arith);
      required = ap (λ (x : Arg). x.required) e ∙ (two.rules.required ∙ n.required);
      action = ap (λ (x : Arg). x.action) e ∙ two.rules.action Set n.action;
      whole = ap (λ (x : Arg). x.val_delim) e ∙ (two.rules.val_delim ∙ n.whole);
      least = subst (λ (x : Arg). 1 ≤ least_values x) (sym e) (two.rules.least n.action n.least);
      named = name;
      parser = ap (λ (x : Arg). x.value_parser) e ∙ two.rules.parser (vp.Signed (pos 0) (pos 4294967295)) takes;
      only = λ at other low same.
          only_second at one.arg two.arg other (subst (λ (l : List Arg). at < length l) list low) (ap (λ i. i.now) one.rules.id ∙ d.named)
          (subst (λ (l : List Arg). bytes_eq (slice_index_or l at other).id.now (codes "number") ≡ true) list
          (subst (λ (t : List ℕ). bytes_eq (slice_index_or (args_of command) at other).id.now t ≡ true) name same));
      plain = added_plain mid command number two (added_plain start mid dir one (subst (All IsPlainArg) (sym args) (All-nil IsPlainArg), groups) d.plain) n.plain;
    }

-- a number has a name
pub has_name : (option : Arg) → option.id.now ≡ codes "number" → option.id.now ≡ [] → ⊥
has_name option named empty = differ (codes "number") [] refl (sym named ∙ empty)

-- the number is the option of neither help nor version
pub not_auto : (option : Arg) → option.id.now ≡ codes "number" → IsAuto option → ⊥
not_auto option named (inl help) = differ (codes "number") (codes "help") refl (sym named ∙ help)
not_auto option named (inr version) = differ (codes "number") (codes "version") refl (sym named ∙ version)

-- what a parse read of the option that is named so, it read of that name
pub number_named : (m : ArgMatches) (option : Arg) → option.id.now ≡ codes "number"
    → (t : List ℕ) × (one_text (found_of m) option.id.now ≡ Some (without_minus t)) × IsSignedIn (pos 0) (pos 4294967295) t
    → (t : List ℕ) × (one_text (found_of m) (codes "number") ≡ Some (without_minus t)) × IsSignedIn (pos 0) (pos 4294967295) t
number_named m option named got =
    (got.0, subst (λ (name : List ℕ). one_text (found_of m) name ≡ Some (without_minus got.0)) named got.1, got.2)

-- a command of one option, a number, asks for it
pub asks_one : (start command : Command) (option : Arg) (name : Text) (low high : ℕ) → AddsArg start option command
    → args_of start ≡ [] → groups_of start ≡ [] → (out-Command start).has_globals ≡ false → (out-Command start).subcommand_negates_reqs ≡ false
    → IsOption name option → TakesNumber low high option → name ≢ [] → name ≢ codes "help" → name ≢ codes "version" → AsksNumber name low high command
asks_one start command option name low high added args groups globals negates o takes some help version m parsed =
    let got = one_required_read start command option m added args groups globals negates o.plain o.here o.required o.action o.whole o.least
    (λ e. some (sym o.named ∙ e)) (not_help option name o.named help version) (vp.Signed (pos low) (pos high)) takes parsed in
    (got.0, subst (λ (id : Text). one_text (found_of m) id ≡ Some (without_minus got.0)) o.named got.1, got.2)
  where
    not_help : (option : Arg) (name : Text) → option.id.now ≡ name → name ≢ codes "help" → name ≢ codes "version" → IsAuto option → ⊥
    not_help option name named help version (inl is) = help (sym named ∙ is)
    not_help option name named help version (inr is) = version (sym named ∙ is)

-- the number that is read of a text is the one that its digits write
number_is : (E : Type 0) (G : List ℕ → Result ℕ E → Type 0) (k : ℕ) (t : List ℕ) (n : ℕ) (r : Option ℕ) → ReadsOne G t r → r ≡ Some n
    → ((u : List ℕ) (x : Result ℕ E) → G u x → ParsesUnsigned k 10 u x) → n ≡ digits_value 10 (without_leading_plus t)
number_is E G k t n r reads is only = (only t (Ok n) (subst (λ (o : Option ℕ). ReadsOne G t o) is reads)).1

-- the words give the number that a parse reads of them, which is in the option's range
pub record GivesNumber (name : Text) (low high : ℕ) (app : App) (words : List Text) (r : Option ℕ) : Type 0 where
  pub number : ℕ
  pub read : r ≡ Some number
  pub given : number_of name app words ≡ Some number
  pub least : low ≤ number
  pub most : number ≤ high

pub number_given : (E : Type 0) (G : List ℕ → Result ℕ E → Type 0) (name : Text) (k low high : ℕ) (words : List Text) (command : Command) (m : ArgMatches)
    (r : Option ℕ) → ((u : List ℕ) (x : Result ℕ E) → G u x → ParsesUnsigned k 10 u x) → high < 2 ^ k
    → is_simple (app_of command) ≡ true → AsksNumber name low high command → IsParsedFrom command m → HasMatchesOf (app_of command) words m
    → ((t : List ℕ) → one_text (found_of m) name ≡ Some t → ReadsOne G t r)
    → GivesNumber name low high (app_of command) words r
unfolding number_of
number_given E G name k low high words command m r only fits simple asks parsed has given =
    let read = asks m parsed in
    let one = given (without_minus read.0) read.1 in
    let got = signed_reads E G k low high read.0 r one only fits read.2 in
    let value = number_is E G k (without_minus read.0) got.0 r one got.1 only in
    let rows : one_of name (matches_of (app_of command) words) ≡ Some (without_minus read.0) =
    ap (λ (rows : List Row). one_of name rows) (sym (has simple).0) ∙ (sym (one_text-rows (found_of m) name) ∙ read.1) in
    record {
      number = got.0;
      read = got.1;
      given = ap (λ (o : Option Text). option_map (λ text. digits_value 10 (without_leading_plus text)) o) rows ∙ ap Some (sym value);
      least = got.2;
      most = got.3;
    }

-- a command that is simple and free is simple
pub simple_of : (app : App) → is_simple_and_free app ≡ true → is_simple app ≡ true
simple_of app both = go (is_simple app) both
  where
    go : (b : Bool) → (b && is_free_app (built app)) ≡ true → b ≡ true
    go true h = refl
    go false h = h

-- what is none is not some
pub none_some : {X : Type 0} (o : Option X) (x : X) → o ≡ None → o ≡ Some x → ⊥
none_some o x none some = cc

-- what is read is in the range that it was shown to be in
pub some_least : (o : Option ℕ) (n v low : ℕ) → o ≡ Some n → o ≡ Some v → low ≤ n → low ≤ v
some_least o n v low read is least =
    let same : Some n ≡ Some v = sym read ∙ is in
    let equal : n ≡ v = cc in
    rw equal at least

pub some_most : (o : Option ℕ) (n v high : ℕ) → o ≡ Some n → o ≡ Some v → n ≤ high → v ≤ high
some_most o n v high read is most =
    let same : Some n ≡ Some v = sym read ∙ is in
    let equal : n ≡ v = cc in
    rw equal at most

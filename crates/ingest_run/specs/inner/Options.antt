-- What the reading of an option's value rests on (own). Private functions alone cite these.
use Rattle.std.specs.Prelude.{◌≡◌, ◌≤◌, ℕ, true, false, List, Some, None, pos, codes}
use Rattle.clap.specs.Facts.{least_values}
use Rattle.clap.specs.Values.{IsSignedIn}
use Rattle.clap.specs.Words.{IsParsedFrom, IsPlainArg, found_of, one_text, without_minus}
use Rattle.clap.specs.declared.builder.ArgAction.TheVariants.{Set}
use Rattle.clap.specs.declared.builder.arg.Arg.{Arg}
use Rattle.clap.specs.declared.builder.command.Command.{Command}
use Rattle.clap.specs.declared.builder.value_parser.ValueParser.TheVariants as vp
use Rattle.clap.specs.declared.parser.matches.ArgMatches.{ArgMatches}
use Rattle.ingest_run.specs.declared.words.Command.{Command as Asked}
use Rattle.ingest_run.specs.declared.words.Command.TheVariants.{Encode}

-- an option of this name takes one value, which must be given
pub record IsOption (name : List ℕ) (option : Arg) : Type 0 where
  pub plain : IsPlainArg option
  pub here : option.global ≡ false
  pub named : option.id.now ≡ name
  pub required : option.required ≡ true
  pub action : option.action ≡ Some Set
  pub whole : option.val_delim ≡ None
  pub least : 1 ≤ least_values option

-- the option takes a number from the low to the high
abbrev pub TakesNumber : ℕ → ℕ → Arg → Type 0
TakesNumber low high option = option.value_parser ≡ Some (vp.Signed (pos low) (pos high))

-- a parse of the command has a text for the option of this name, which says a number from the low to the high
abbrev pub AsksNumber : List ℕ → ℕ → ℕ → Command → Type 0
AsksNumber name low high command = (m : ArgMatches) → IsParsedFrom command m
    → (text : List ℕ) × (one_text (found_of m) name ≡ Some (without_minus text)) × IsSignedIn (pos low) (pos high) text

-- the workers of a command that has some are 1 to 64
abbrev pub HasFewWorkers : Asked → Type 0
HasFewWorkers (Encode workers) = (1 ≤ workers) × (workers ≤ 64)
HasFewWorkers asked = Unit {0}

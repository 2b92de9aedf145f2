-- The words of a call (own). docs/FORMATS.md, "Words".
use Rattle.std.specs.Prelude.{◌&&◌, ◌==◌, ◌+◌, ◌++◌, ℕ, Bool, true, false, List, [], ◌∷◌, Option, Some, None, Result, Ok, Err}
use Rattle.std.specs.Prelude.{map, length, take, drop, slice_get, option_map, pos, String, Vec, string_bytes, codes, if◌then◌else◌}
use Rattle.std.specs.Option.{option_or}
use Rattle.std.specs.Str.{bytes_eq}
use Rattle.std.specs.Str.Parse.{digits_value, without_leading_plus}
use Rattle.clap.specs.Words.{App, Rule, new_app, new_rule, with_rule, fault_of, matches_of, one_of}
use Rattle.clap.specs.declared.builder.ArgAction.TheVariants.{Set}
use Rattle.clap.specs.declared.builder.value_parser.ValueParser.TheVariants as vp
use Rattle.clap.specs.Walk.{Text}
use Rattle.ingest_run.specs.declared.words.Command.{Command}
use Rattle.ingest_run.specs.declared.words.Command.TheVariants.{Wrap, Encode, Recover, Check, Frame}

-- the bytes of each word
abbrev pub texts : {Z : Type 0} → List (String Z) → List Text
texts words = map (λ word. string_bytes word) words

-- the same where the words were read
abbrev pub texts_in : {Y Z E : Type 0} → Result (Vec (String Y) Z) E → Result (List Text) E
texts_in (Ok words) = Ok (texts words.items)
texts_in (Err fault) = Err fault

-- a command that has no help flag: help is the program's own
abbrev pub without_help : App → App
without_help app = record app { top = record app.top { disable_help_flag = true } }

-- how many threads encode: a number from 1 to 64, which must be given
abbrev pub workers : Rule
workers = record (new_rule (codes "workers")) { long = Some (codes "workers"); action = Some Set; parser = Some (vp.Signed (pos 1) (pos 64)); required = true }

-- the folder of a take: a text, which must be given
abbrev pub dir : Rule
dir = record (new_rule (codes "dir")) { long = Some (codes "dir"); action = Some Set; required = true }

-- which frame: a number from 0 to 2^32 - 1, which must be given
abbrev pub number : Rule
number = record (new_rule (codes "number")) { long = Some (codes "number"); action = Some Set; parser = Some (vp.Signed (pos 0) (pos 4294967295)); required = true }

-- the commands with their options: `wrap` has none
abbrev pub wrap : App
wrap = without_help (new_app (codes "wrap"))

abbrev pub encode : App
encode = with_rule (without_help (new_app (codes "encode"))) workers

abbrev pub recover : App
recover = with_rule (without_help (new_app (codes "recover"))) dir

abbrev pub check : App
check = with_rule (without_help (new_app (codes "check"))) dir

abbrev pub frame : App
frame = with_rule (with_rule (without_help (new_app (codes "frame"))) dir) number

-- the words call the command: the first is its name, and it takes those behind
unfoldable pub is_call : App → List Text → Bool
is_call app [] = false
is_call app (first ∷ rest) = bytes_eq first app.top.name && length (fault_of app (first ∷ rest)) == 0

-- the number that the words give to an option of a command
unfoldable pub number_of : Text → App → List Text → Option ℕ
number_of option app words = option_map (λ text. digits_value 10 (without_leading_plus text)) (one_of option (matches_of app words))

-- the command that the words call; none where they are faulty
abbrev pub command_of : List Text → Option Command
command_of words =
    if is_call wrap words then Some Wrap
    else if is_call encode words then option_map Encode (number_of (codes "workers") encode words)
    else if is_call recover words then Some Recover
    else if is_call check words then Some Check else if is_call frame words then option_map Frame (number_of (codes "number") frame words)
    else None

-- the value that a word has attached: what follows the option and `=`
abbrev pub attached : Text → Text → Option Text
attached option word =
    if bytes_eq (take (length option + 1) word) (option ++ codes "=") then Some (drop (length option + 1) word) else None

-- the value of an option: the word behind the first word that is the option, or what the first word has attached that has a
-- value attached, whichever comes first
unfoldable pub value_in : Text → List Text → Option Text
value_in option [] = None
value_in option (word ∷ rest) = if bytes_eq word option then slice_get rest 0 else option_or (attached option word) (value_in option rest)

-- the same in the words of a call, of which the first is the command's name
abbrev pub value_of : Text → List Text → Option Text
value_of option words = value_in option (drop 1 words)

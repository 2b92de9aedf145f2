-- The texts of help (own). docs/FORMATS.md, "Words".
use Rattle.std.specs.Prelude.{◌&&◌, ◌||◌, ℕ, Bool, List, [], ◌∷◌, Option, Some, None, false, codes, if◌then◌else◌}
use Rattle.std.specs.Str.{bytes_eq}
use Rattle.clap.specs.Walk.{Text}
use Rattle.ingest_run.specs.declared.help.TheConstants.{SERVER, WRAP, ENCODE, RECOVER, CHECK, FRAME, VERSION}

-- a word that asks for help
abbrev pub is_help : Text → Bool
is_help word = bytes_eq word (codes "--help") || bytes_eq word (codes "-h")

-- words behind a command that ask for its help
abbrev pub are_help : List Text → Bool
are_help (word ∷ []) = is_help word
are_help words = false

-- the text that the words ask for: as the first word, or as the only one behind a command
abbrev pub help_of : List Text → Option (List ℕ)
help_of [] = None
help_of (first ∷ rest) =
    if is_help first || bytes_eq first (codes "help") then Some SERVER.now
    else if bytes_eq first (codes "--version") then Some VERSION.now
    else if bytes_eq first (codes "wrap") && are_help rest then Some WRAP.now
    else if bytes_eq first (codes "encode") && are_help rest then Some ENCODE.now
    else if bytes_eq first (codes "recover") && are_help rest then Some RECOVER.now
    else if bytes_eq first (codes "check") && are_help rest then Some CHECK.now
    else if bytes_eq first (codes "frame") && are_help rest then Some FRAME.now
    else None

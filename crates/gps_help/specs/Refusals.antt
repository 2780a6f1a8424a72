-- Which words ask for something, which command they begin with, and which word a refusal may name.
use Rattle.std.specs.Prelude.{ℕ, ◌<◌, Bool, ◌||◌, is_some, IfSome, List, [], ◌∷◌, Option, Some, None, codes, if◌then◌else◌}
use Rattle.std.specs.Str.{bytes_eq}
use Rattle.clap.specs.Walk.{Text}
use Rattle.gps_words.specs.Asked.{asked_of}
use Rattle.gps_words.specs.Serve.{serve_asked_of}
use Rattle.gps_help.specs.declared.command_name.CommandName.{CommandName}
use Rattle.gps_help.specs.declared.command_name.CommandName.TheVariants as command
use Rattle.gps_help.specs.declared.refusal.Refusal.{Refusal}

-- a command or the daemon is asked for
abbrev pub is_asked : List Text → Bool
is_asked words = is_some (asked_of words) || is_some (serve_asked_of words)

-- the commands by their names
unfoldable pub command_named : Text → Option CommandName
command_named word =
    if bytes_eq word (codes "decode") then Some command.Decode
    else (if bytes_eq word (codes "replay") then Some command.Replay
    else (if bytes_eq word (codes "generate") then Some command.Generate
    else (if bytes_eq word (codes "pseudo") then Some command.Pseudo
    else (if bytes_eq word (codes "lines") then Some command.Lines
    else (if bytes_eq word (codes "serve") then Some command.Serve
    else None)))))

-- the command that the words begin with
abbrev pub command_in : List Text → Option CommandName
command_in [] = None
command_in (word ∷ words) = command_named word

-- the word that is named is among the first n words
abbrev pub IsThere : Refusal → ℕ → Type 0
IsThere refusal count = IfSome refusal.at (λ at. at < count)

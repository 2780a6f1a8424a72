-- What the words ask of the program itself: help, or the version. This project's own.
use Rattle.std.specs.Prelude.{ℕ, Bool, ◌||◌, List, [], ◌∷◌, Option, Some, None, codes, option_map, take, if◌then◌else◌}
use Rattle.std.specs.List.{list_any}
use Rattle.std.specs.Str.{bytes_eq}
use Rattle.clap.specs.Walk.{Text}
use Rattle.gps_help.specs.Places.{stop_of}
use Rattle.gps_help.specs.Refusals.{command_named}
use Rattle.gps_help.specs.declared.command_name.CommandName.{CommandName}
use Rattle.gps_help.specs.declared.question.Question.{Question}
use Rattle.gps_help.specs.declared.question.Question.TheVariants.{Help, HelpOf, Version}

-- a word that asks for help among those of a command
abbrev pub is_help_word : Text → Bool
is_help_word word = bytes_eq word (codes "--help") || bytes_eq word (codes "-h")

-- a first word that asks for help
abbrev pub asks_help : Text → Bool
asks_help word = bytes_eq word (codes "help") || is_help_word word

-- a first word that asks for the version
abbrev pub asks_for_version : Text → Bool
asks_for_version word = bytes_eq word (codes "--version") || bytes_eq word (codes "version") || bytes_eq word (codes "-V")

-- the whole help, or that of the one command that is named
abbrev pub help_of : List Text → Option Question
help_of [] = Some Help
help_of (word ∷ []) = option_map (λ command. HelpOf command) (command_named word)
help_of (word ∷ other ∷ words) = None

-- the words up to this place, or all of them
abbrev pub words_to : {X : Type 0} → Option ℕ → List X → List X
words_to None words = words
words_to (Some place) words = take place words

-- A command's help is asked for before the first `--`. After it no word is an option.
abbrev pub help_within : Option CommandName → List Text → Option Question
help_within None words = None
help_within (Some command) words = if list_any is_help_word (words_to (stop_of words) words) then Some (HelpOf command) else None

abbrev pub question_of : Text → List Text → Option Question
question_of word words =
    if asks_for_version word then Some Version
    else (if asks_help word then help_of words
    else help_within (command_named word) words)

unfoldable pub question_in : List Text → Option Question
question_in [] = None
question_in (word ∷ words) = question_of word words

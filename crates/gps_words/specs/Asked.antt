-- What the words ask for, without the program's name: the first chooses the command, which reads them all.
-- No answer if the first is no command or is missing, if clap finds a fault, or if a number is none.
use Rattle.std.specs.Prelude.{List, [], ◌∷◌, Option, Some, None, codes, if◌then◌else◌}
use Rattle.std.specs.Str.{bytes_eq}
use Rattle.clap.specs.Walk.{Text}
use Rattle.gps_words.specs.Forms.{app_for, line_in}
use Rattle.gps_words.specs.Options.{read_by}
use Rattle.gps_words.specs.declared.choice.Kind.{Kind}
use Rattle.gps_words.specs.declared.choice.Kind.TheVariants as kind
use Rattle.gps_words.specs.declared.command.CommandLine.{CommandLine}

-- the commands by their names
unfoldable pub kind_named : Text → Option Kind
kind_named word =
    if bytes_eq word (codes "decode") then Some kind.Decode
    else (if bytes_eq word (codes "pseudo") then Some kind.Pseudo
    else (if bytes_eq word (codes "replay") then Some kind.Replay
    else (if bytes_eq word (codes "generate") then Some kind.Generate
    else (if bytes_eq word (codes "lines") then Some kind.Lines
    else None))))

abbrev pub read_as : Option Kind → List Text → Option CommandLine
read_as None words = None
read_as (Some kind) words = read_by (app_for kind) (line_in kind) words

abbrev pub asked_of : List Text → Option CommandLine
asked_of [] = None
asked_of (word ∷ words) = read_as (kind_named word) (word ∷ words)

-- The forms of the commands of a run: what each is for clap, and what its options' values ask for.
use Rattle.std.specs.Prelude.{List, [], ◌∷◌, Option, codes}
use Rattle.clap.specs.Simple.{App}
use Rattle.clap.specs.Walk.{Row, Text}
use Rattle.gps_words.specs.Decode.{decode_in}
use Rattle.gps_words.specs.Generate.{generate_in}
use Rattle.gps_words.specs.Lines.{lines_in}
use Rattle.gps_words.specs.Options.{bare_app, with_options}
use Rattle.gps_words.specs.Pseudo.{pseudo_in}
use Rattle.gps_words.specs.Replay.{replay_in}
use Rattle.gps_words.specs.declared.choice.Kind.{Kind}
use Rattle.gps_words.specs.declared.choice.Kind.TheVariants as kind
use Rattle.gps_words.specs.declared.command.CommandLine.{CommandLine}

-- a command of this name with these options
abbrev pub form_app : Text → List Text → App
form_app name options = with_options (bare_app name) options

-- the name and the options of each command
unfoldable pub app_for : Kind → App
app_for kind.Decode = form_app (codes "decode") (codes "history" ∷ [])
app_for kind.Pseudo = form_app (codes "pseudo") (codes "history" ∷ [])
app_for kind.Replay = form_app (codes "replay") (codes "history" ∷ codes "queue" ∷ [])
app_for kind.Generate = form_app (codes "generate") (codes "seed" ∷ codes "size" ∷ [])
app_for kind.Lines = form_app (codes "lines") []

-- what the values of a command's options ask for
unfoldable pub line_in : Kind → List Row → Option CommandLine
line_in kind.Decode rows = decode_in rows
line_in kind.Pseudo rows = pseudo_in rows
line_in kind.Replay rows = replay_in rows
line_in kind.Generate rows = generate_in rows
line_in kind.Lines rows = lines_in rows

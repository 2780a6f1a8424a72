-- The table of the options says what the reading of the words does: which options a command has, how each is written, and which texts it takes.
use Rattle.std.specs.Prelude.{◌≡◌, ◌++◌, ◌&&◌, Bool, true, List, ◌∷◌, Option, Some, None, codes, is_some, map, not}
use Rattle.std.specs.List.{list_all}
use Rattle.clap.specs.Simple.{App, matches_of, with_rule}
use Rattle.clap.specs.Walk.{Row, Text, first_of}
use Rattle.gps_words.specs.Asked.{asked_of}
use Rattle.gps_words.specs.Forms.{form_app}
use Rattle.gps_words.specs.Options.{are_taken, list_rule}
use Rattle.gps_words.specs.Serve.{devices_among, serve_asked_of}
use Rattle.gps_help.specs.Options.{flag_of, is_needed, options_of, takes}
use Rattle.gps_help.specs.declared.command_name.CommandName.{CommandName}
use Rattle.gps_help.specs.declared.command_name.CommandName.TheVariants.{Decode, Replay, Generate, Pseudo, Lines, Serve}
use Rattle.gps_help.specs.declared.option_name.OptionName.{OptionName}
use Rattle.gps_help.specs.declared.option_name.OptionName.TheVariants.{Listen, Queue, Requests, History, Wait, Monitor, Reopen, CycleGap, Report, Stop, Bytes, Seed, Size}

-- the name under which clap gives an option's values
abbrev pub name_of : OptionName → Text
name_of Listen = codes "listen"
name_of Queue = codes "queue"
name_of Requests = codes "requests"
name_of History = codes "history"
name_of Wait = codes "wait"
name_of Monitor = codes "monitor"
name_of Reopen = codes "reopen"
name_of CycleGap = codes "cycle-gap"
name_of Report = codes "report"
name_of Stop = codes "stop"
name_of Bytes = codes "history"
name_of Seed = codes "seed"
name_of Size = codes "size"

abbrev pub command_text : CommandName → Text
command_text Decode = codes "decode"
command_text Pseudo = codes "pseudo"
command_text Replay = codes "replay"
command_text Generate = codes "generate"
command_text Lines = codes "lines"
command_text Serve = codes "serve"

-- the words of a command, its name first
abbrev pub with_name : CommandName → List Text → List Text
with_name command words = command_text command ∷ words

-- the words behind a command's name ask for something
abbrev pub is_accepted : CommandName → List Text → Bool
is_accepted Serve words = is_some (serve_asked_of (with_name Serve words))
is_accepted command words = is_some (asked_of (with_name command words))

-- for clap: a command with just the options of the table, and `serve` with device words among them
abbrev pub app_by_table : CommandName → App
app_by_table Serve = with_rule (form_app (command_text Serve) (map name_of (options_of Serve))) (list_rule (codes "device"))
app_by_table command = form_app (command_text command) (map name_of (options_of command))

-- an option has a text that it takes, or is left out where the command can do without it
abbrev pub is_right : CommandName → OptionName → Option Text → Bool
is_right command option None = not (is_needed (Some command) option)
is_right command option (Some text) = takes option text

-- the devices of `serve` can be read
abbrev pub has_devices : CommandName → List Row → Bool
has_devices Serve rows = is_some (devices_among rows)
has_devices _ rows = true

-- each option of the table is right, and so are the devices, in what clap finds in the words
abbrev pub are_right : CommandName → List Row → Bool
are_right command rows = list_all (λ option. is_right command option (first_of (name_of option) rows)) (options_of command) && has_devices command rows

-- an option is written as its name behind two dashes
abbrev pub IsWrittenByName : Type 0
IsWrittenByName = (option : OptionName) → flag_of option ≡ codes "--" ++ name_of option

-- Words are accepted exactly if clap finds no fault in them, for a command with the options of the table, and each option is right by the table.
abbrev pub TakesWhatIsAccepted : Type 0
TakesWhatIsAccepted = (command : CommandName) (words : List Text) → is_accepted command words
    ≡ are_taken (app_by_table command) (with_name command words) && are_right command (matches_of (app_by_table command) (with_name command words))

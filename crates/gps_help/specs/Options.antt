-- The options of the commands, how they are written, and which values they take.
use Rattle.std.specs.Prelude.{ℕ, Bool, true, false, List, [], ◌∷◌, Option, Some, None, codes, find, is_some, length, nat_lt}
use Rattle.std.specs.Str.{bytes_eq}
use Rattle.clap.specs.Walk.{Text}
use Rattle.gps_words.specs.Decode.{bytes_within}
use Rattle.gps_words.specs.Devices.{is_address}
use Rattle.gps_words.specs.Numbers.{number_in}
use Rattle.gps_help.specs.declared.command_name.CommandName.{CommandName}
use Rattle.gps_help.specs.declared.command_name.CommandName.TheVariants.{Decode, Replay, Generate, Pseudo, Lines, Serve}
use Rattle.gps_help.specs.declared.option_name.OptionName.{OptionName}
use Rattle.gps_help.specs.declared.option_name.OptionName.TheVariants.{Listen, Queue, Requests, History, Wait, Monitor, Reopen, CycleGap, Report, Stop, Bytes, Seed, Size}

abbrev pub options_of : CommandName → List OptionName
options_of Decode = Bytes ∷ []
options_of Pseudo = Bytes ∷ []
options_of Replay = History ∷ Queue ∷ []
options_of Generate = Seed ∷ Size ∷ []
options_of Lines = []
options_of Serve = Listen ∷ Queue ∷ Requests ∷ History ∷ Wait ∷ Monitor ∷ Reopen ∷ CycleGap ∷ Report ∷ Stop ∷ []

-- the command takes device words; the others take options alone
abbrev pub is_served : CommandName → Bool
is_served Serve = true
is_served _ = false

-- the options that a command cannot do without
abbrev pub is_needed : Option CommandName → OptionName → Bool
is_needed (Some Generate) Seed = true
is_needed (Some Generate) Size = true
is_needed _ _ = false

-- how an option is written
unfoldable pub flag_of : OptionName → Text
flag_of Listen = codes "--listen"
flag_of Queue = codes "--queue"
flag_of Requests = codes "--requests"
flag_of History = codes "--history"
flag_of Wait = codes "--wait"
flag_of Monitor = codes "--monitor"
flag_of Reopen = codes "--reopen"
flag_of CycleGap = codes "--cycle-gap"
flag_of Report = codes "--report"
flag_of Stop = codes "--stop"
flag_of Bytes = codes "--history"
flag_of Seed = codes "--seed"
flag_of Size = codes "--size"

-- the command's option that is written so
unfoldable pub option_named : CommandName → Text → Option OptionName
option_named command flag = find (λ option. bytes_eq flag (flag_of option)) (options_of command)

-- the least and the greatest number of an option that takes a number
abbrev pub range_of : OptionName → Option (ℕ × ℕ)
range_of Listen = None
range_of Queue = Some (1, 65_536)
range_of Requests = Some (1, 4_294_967_294)
range_of History = Some (1, 33_554_432)
range_of Wait = Some (0, 64)
range_of Monitor = Some (0, 1_000_000)
range_of Reopen = Some (1, 3_600)
range_of CycleGap = Some (1, 10_000)
range_of Report = Some (10, 86_400)
range_of Stop = None
range_of Bytes = Some (1, 33_554_432)
range_of Seed = Some (0, 4_294_967_295)
range_of Size = Some (1, 10_000)

abbrev pub is_in_range : Option (ℕ × ℕ) → Text → Bool
is_in_range None text = false
is_in_range (Some range) text = is_some (number_in range.0 range.1 text)

-- a text is a value of the option
unfoldable pub takes : OptionName → Text → Bool
takes Listen text = is_address text
takes Stop text = nat_lt 0 (length text)
takes Bytes text = is_some (bytes_within text)
takes option text = is_in_range (range_of option) text

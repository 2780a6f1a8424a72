-- Reasons are true: what each cause means of the word that it names, or of the whole command line.
use Rattle.std.specs.Prelude.{◌≡◌, ℕ, ◌+◌, ◌==◌, true, false, not, ◌&&◌, ◌||◌, ◌⊎◌, List, [], Option, Some, None, MatchOption, is_some, length, nat_lt, slice_get}
use Rattle.clap.specs.Walk.{Text}
use Rattle.gps_words.specs.Devices.{halves}
use Rattle.gps_help.specs.DeviceCauses.{IsCauseOfDevice}
use Rattle.gps_help.specs.Options.{is_needed, is_served, option_named, takes}
use Rattle.gps_help.specs.Places.{any_below, can_be_value, head_of, is_alone, is_dashed, is_stopped, names_at, option_before, passes, stop_of, value_of}
use Rattle.gps_help.specs.Questions.{asks_help, question_in}
use Rattle.gps_help.specs.Refusals.{command_named}
use Rattle.gps_help.specs.declared.cause.Cause.{Cause}
use Rattle.gps_help.specs.declared.cause.Cause.TheVariants.{NoCommand, Help, Version, NoSuchCommand, NoSuchOption, NoValue, Twice, BadValue, Lacking, Stray, NoDevice, Device, Other}
use Rattle.gps_help.specs.declared.command_name.CommandName.{CommandName}
use Rattle.gps_help.specs.declared.command_name.CommandName.TheVariants.{Serve}
use Rattle.gps_help.specs.declared.option_name.OptionName.{OptionName}
use Rattle.gps_help.specs.declared.question.Question.TheVariants as question
use Rattle.gps_help.specs.declared.refusal.Refusal.{Refusal}

-- the word at this place names the option of the command
abbrev pub Names : CommandName → Option ℕ → ℕ → Text → OptionName → Type 0
Names command stop at word option = (is_stopped stop at ≡ false) × (option_named command (head_of word) ≡ Some option)

-- a word of a command
unfoldable pub IsCauseWithin : CommandName → List Text → Option ℕ → ℕ → Text → Cause → Type 0
IsCauseWithin command words stop at word (NoSuchOption near) =
    (is_stopped stop at ≡ false) × (is_dashed word ≡ true) × (option_named command (head_of word) ≡ None)
IsCauseWithin command words stop at word (NoValue option) =
    Names command stop at word option × (value_of word ≡ None) × (passes can_be_value (slice_get words (at + 1)) ≡ false)
IsCauseWithin command words stop at word (Twice option) =
    Names command stop at word option × (any_below (names_at words stop option) at ≡ true)
IsCauseWithin command words stop at word (BadValue option) =
    (Names command stop at word option × (passes (λ value. not (takes option value)) (value_of word) ≡ true))
    ⊎ ((option_before command words stop at ≡ Some option) × (takes option word ≡ false))
IsCauseWithin command words stop at word Stray = (is_served command ≡ false) × (is_alone command words stop at word ≡ true)
IsCauseWithin command words stop at word (Device cause) =
    (is_served command ≡ true) × (is_alone command words stop at word ≡ true) × IsCauseOfDevice words stop at (halves 61 word) cause
IsCauseWithin command words stop at word _ = ⊥

-- a word of a line that begins with no command; after `help` one command may come
unfoldable pub IsCauseBefore : List Text → ℕ → Text → Cause → Type 0
IsCauseBefore words at word (NoSuchCommand near) =
    (command_named word ≡ None) × ((at == 0 || at == 1 && passes asks_help (slice_get words 0)) ≡ true)
IsCauseBefore words at word Stray = (nat_lt 1 at && passes asks_help (slice_get words 0)) ≡ true
IsCauseBefore words at word _ = ⊥

abbrev pub IsCauseOf : List Text → Option CommandName → ℕ → Text → Cause → Type 0
IsCauseOf words None at word cause = IsCauseBefore words at word cause
IsCauseOf words (Some command) at word cause = IsCauseWithin command words (stop_of words) at word cause

-- no word: what the line asks or lacks as a whole
unfoldable pub IsCauseOfLine : List Text → Option CommandName → Cause → Type 0
IsCauseOfLine words command NoCommand = words ≡ []
IsCauseOfLine words command Help = is_some (question_in words) ≡ true
IsCauseOfLine words command Version = question_in words ≡ Some question.Version
IsCauseOfLine words command (Lacking option) =
    (is_needed command option ≡ true) × (any_below (names_at words (stop_of words) option) (length words) ≡ false)
IsCauseOfLine words command NoDevice =
    (command ≡ Some Serve) × (any_below (λ at. passes (is_alone Serve words (stop_of words) at) (slice_get words at)) (length words) ≡ false)
IsCauseOfLine words command Other = Unit {0}
IsCauseOfLine words command _ = ⊥

-- the cause is one of the word at this place, and there is a word, or of the whole line if no place is named
unfoldable pub HasCauseAt : List Text → Option CommandName → Option ℕ → Cause → Type 0
HasCauseAt words command None cause = IsCauseOfLine words command cause
HasCauseAt words command (Some at) cause = MatchOption (slice_get words at) ⊥ (λ word. IsCauseOf words command at word cause)

abbrev pub HasCause : List Text → Refusal → Type 0
HasCause words refusal = HasCauseAt words refusal.command refusal.at refusal.cause

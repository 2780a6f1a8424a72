-- What the commands have in common, in clap's own terms: a command without help, an option with one value,
-- and which words clap takes. A command's words begin with its name, which clap reads as the program's.
use Rattle.std.specs.Prelude.{Bool, true, false, List, [], ◌∷◌, Option, Some, None, fold, if◌then◌else◌}
use Rattle.clap.specs.Kinds.{Kinds}
use Rattle.clap.specs.Faults.{fault_of}
use Rattle.clap.specs.Simple.{App, matches_of, new_app, new_rule, on_top, with_rule}
use Rattle.clap.specs.Walk.{Row, Rule, Text}
use Rattle.clap.specs.declared.builder.action.ArgAction.TheVariants.{Append, Set}

-- no help option
abbrev pub bare_app : Text → App
bare_app name = on_top (λ top. record top { disable_help_flag = true }) (new_app name)

-- `--NAME VALUE` or `--NAME=VALUE`, at most once
abbrev pub option_rule : Text → Rule
option_rule name = record (new_rule name) {
  long = Some name;
  action = Some Set;
}

-- a command with these options besides
abbrev pub with_options : App → List Text → App
with_options app names = fold (λ a name. with_rule a (option_rule name)) app names

-- positional words, any number of them among the options
abbrev pub list_rule : Text → Rule
list_rule name = record (new_rule name) { action = Some Append }

abbrev pub is_no_kind : Kinds → Bool
is_no_kind [] = true
is_no_kind (_ ∷ _) = false

-- clap finds no fault in the words
abbrev pub are_taken : App → List Text → Bool
are_taken app words = is_no_kind (fault_of app words)

-- what a reading of the options and their values makes of words that are taken
unfoldable pub read_by : {X : Type 0} → App → (List Row → Option X) → List Text → Option X
read_by app read words = if are_taken app words then read (matches_of app words) else None

-- Which replies show reports: only those to ?POLL. After gpsd_json(5).
use Rattle.std.specs.Prelude.{◌≡◌, ℕ, Bool, true, false, List, [], take, drop, codes, Option, Some, None, is_some, Result, Ok, Err, if◌then◌else◌}
use Rattle.std.specs.List.{list_any}
use Rattle.std.specs.Str.{bytes_eq}
use Rattle.gps_command.specs.Commands.{command_in}
use Rattle.gps_command.specs.declared.command.Command.{Command}
use Rattle.gps_command.specs.declared.command.Command.TheVariants.{Version, Devices, Poll, Watch}
use Rattle.gps_command.specs.declared.request.RawCommand.{RawCommand}
use Rattle.gps_command.specs.declared.request.RawCommand.TheVariants.{Words, Long}
use Rattle.gps_report.specs.declared.policy.CommandFault.{CommandFault}
use Rattle.gps_report.specs.declared.policy.Policy.{Policy}
use Rattle.book_replies.specs.ReplyDataView.{ReplyDataView}
use Rattle.book_replies.specs.Replies.{answered}

abbrev pub polls : Command → Bool
polls Version = false
polls Devices = false
polls Poll = true
polls (Watch change) = false

abbrev pub polls_by : Result Command CommandFault → Bool
polls_by (Ok command) = polls command
polls_by (Err fault) = false

abbrev pub is_poll : RawCommand → Bool
is_poll request = polls_by (command_in request)

-- what follows `?POLL`
abbrev pub poll_text : List ℕ → Option (List ℕ)
poll_text text = if bytes_eq (take 5 text) (codes "?POLL") then Some (drop 5 text) else None

abbrev pub begins_as_poll : RawCommand → Bool
begins_as_poll (Words text) = is_some (poll_text text)
begins_as_poll Long = false

-- the same devices, without their last fixes and skies
abbrev pub without_reports : ReplyDataView → ReplyDataView
without_reports known = record known { fixes = []; skies = [] }

abbrev pub PollsAloneShowReports : Type 0
PollsAloneShowReports = (known : ReplyDataView) (names : List (List ℕ)) (policy : Policy) (requests : List RawCommand)
    → list_any is_poll requests ≡ false → answered (without_reports known) names policy requests ≡ answered known names policy requests

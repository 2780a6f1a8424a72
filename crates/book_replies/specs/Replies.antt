-- What each request of a session is answered, and the policy after it. After gpsd_json(5); that a WATCH is
-- answered by a DEVICES line and a WATCH line in one reply is this project's own.
use Rattle.std.specs.Prelude.{ℕ, List, [], ◌∷◌, ◌++◌, Result, Ok, Err}
use Rattle.gps_command.specs.Commands.{command_in}
use Rattle.gps_command.specs.Policies.{policy_with}
use Rattle.gps_command.specs.declared.command.Command.{Command}
use Rattle.gps_command.specs.declared.command.Command.TheVariants.{Version, Devices, Poll, Watch}
use Rattle.gps_command.specs.declared.request.RawCommand.{RawCommand}
use Rattle.gps_report.specs.declared.policy.CommandFault.{CommandFault}
use Rattle.gps_report.specs.declared.policy.Policy.{Policy}
use Rattle.json_line.specs.Json.{line_end}
use Rattle.json_line.specs.Lines.{devices, error, poll, version, watch}
use Rattle.book_replies.specs.ReplyDataView.{ReplyDataView, active_count}
use Rattle.book_replies.specs.declared.answering.Answer.{Answer}

-- what a session is sent when it opens
abbrev pub opening_reply : List ℕ
opening_reply = version ++ line_end

abbrev pub reply_to : ReplyDataView → List (List ℕ) → Policy → Command → List ℕ
reply_to known names policy Version = version ++ line_end
reply_to known names policy Devices = devices names known.firsts ++ line_end
reply_to known names policy Poll = poll known.last (active_count known) known.fixes known.skies names ++ line_end
reply_to known names policy (Watch change) = (devices names known.firsts ++ line_end) ++ (watch policy ++ line_end)

abbrev pub reply_by : ReplyDataView → List (List ℕ) → Policy → Result Command CommandFault → List ℕ
reply_by known names policy (Ok command) = reply_to known names policy command
reply_by known names policy (Err fault) = error fault ++ line_end

-- the reply to a request, with the policy after it
abbrev pub reply : ReplyDataView → List (List ℕ) → Policy → RawCommand → List ℕ
reply known names policy request = reply_by known names policy (command_in request)

-- the answer to a request, with the policy before it
abbrev pub answer_of : ReplyDataView → List (List ℕ) → Policy → RawCommand → Answer
answer_of known names policy request = record {
  policy = policy_with policy request;
  reply = reply known names (policy_with policy request) request;
}

-- the answers to requests in order, with the policy before the first
unfoldable pub answered : ReplyDataView → List (List ℕ) → Policy → List RawCommand → List Answer
answered known names policy [] = []
answered known names policy (request ∷ requests) =
    answer_of known names policy request ∷ answered known names (policy_with policy request) requests

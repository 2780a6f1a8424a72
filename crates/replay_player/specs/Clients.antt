-- The sessions of a script: what each has over the whole run, whose log is never forgotten. This project's own; requests and replies are after gpsd_json(5).
use Rattle.std.specs.Prelude.{ℕ, ◌-◌, ◌+◌, min, nat_le, Bool, cond, not, List, [], ◌∷◌, ◌++◌, length, map, take, drop, Option, Some, None, is_some}
use Rattle.gps_command.specs.declared.request.RawCommand.{RawCommand}
use Rattle.gps_command.specs.Requests.{requests}
use Rattle.gps_report.specs.declared.policy.Policy.{Policy}
use Rattle.gps_report.specs.declared.report.Report.{Report}
use Rattle.session_core.specs.declared.mark.Close.{Close}
use Rattle.session_core.specs.declared.mark.Close.TheVariants.{TooManyRequests, Overrun}
use Rattle.session_core.specs.SessionView.{opening_policy, usual_requests}
use Rattle.session_core.specs.Stretches.{last_watched}
use Rattle.book_batch.specs.Lines.{line_for}
use Rattle.book_log.specs.Entries.{Entry}
use Rattle.book_log.specs.History.{history}
use Rattle.book_replies.specs.declared.answering.Answer.{Answer}
use Rattle.book_replies.specs.Replies.{answered}
use Rattle.book_sessions.specs.Answering.{stretch_at}
use Rattle.book_sessions.specs.Spreading.{Due, due}
use Rattle.report_book.specs.Knowing.{known_in}
use Rattle.session_runs.specs.Runs.{SessionRun, items_over}
use Rattle.session_runs.specs.Following.{opened_run, shut_run}

pub record Client : Type 0 where
  pub cap : ℕ  -- how many items its outlet keeps
  pub run : SessionRun  -- its opening, its answered requests, and its closing
  pub heard : List ℕ  -- all its input
  pub taken : ℕ  -- how many of its items were taken

abbrev pub is_open : Client → Bool
is_open c = not (is_some c.run.closing)

-- its items, after this log
abbrev pub items_of : List (List ℕ) → List Entry → Client → List (List ℕ)
items_of names log c = items_over names log c.run

-- those that its outlet keeps
abbrev pub kept_of : List (List ℕ) → List Entry → Client → List (List ℕ)
kept_of names log c = drop c.taken (items_of names log c)

-- how many more its outlet has room for
abbrev pub room_of : List (List ℕ) → List Entry → Client → ℕ
room_of names log c = c.cap - length (kept_of names log c)

abbrev pub policy_of : Client → Policy
policy_of c = last_watched opening_policy c.run.stretches

-- how many requests were answered: the opening is none
abbrev pub asked_by : Client → ℕ
asked_by c = length c.run.stretches - 1

abbrev pub opened : ℕ → List Entry → Client
opened cap log = record { cap = cap; run = opened_run log; heard = []; taken = 0 }

-- if it is open it is closed, after this log
abbrev pub closed : List Entry → Close → Client → Client
closed log why c = record c { run = shut_run log why c.run.closing c.run }

-- the lines that these reports bring after the history of this log, each with its report's place
abbrev pub lines_due : List (List ℕ) → List Entry → List Report → Client → List Due
lines_due names log reports c = due (line_for names) (policy_of c) (length (history log)) reports

-- the first line that finds the outlet full closes the session, at the place of its report
abbrev pub overrun_at : List Due → Option (ℕ × Close)
overrun_at [] = None
overrun_at (line ∷ more) = Some (line.place, Overrun)

abbrev pub overrun_by : Option (ℕ × Close) → List Due → Option (ℕ × Close)
overrun_by None lines = overrun_at lines
overrun_by (Some closing) lines = Some closing

-- reports come after this log
unfoldable pub told : List (List ℕ) → List Entry → List Report → Client → Client
told names log reports c =
    record c { run = record c.run { closing = overrun_by c.run.closing (drop (room_of names log c) (lines_due names log reports c)) } }

-- the requests that a piece ends, after all input before it
abbrev pub new_requests : List ℕ → List ℕ → List RawCommand
new_requests heard piece = drop (length (requests heard)) (requests (heard ++ piece))

-- what they are answered by what is known of this log
abbrev pub answers_to : List (List ℕ) → List Entry → List ℕ → Client → List Answer
answers_to names log piece c = answered (known_in (length names) log) names (policy_of c) (new_requests c.heard piece)

-- how many are answered: up to 65,536 in the whole run, and no more than the outlet has room for
abbrev pub answerable : List (List ℕ) → List Entry → Client → ℕ
answerable names log c = min (usual_requests - asked_by c) (room_of names log c)

-- why the next one closes the session
abbrev pub refusal : List (List ℕ) → List Entry → Client → Close
refusal names log c = cond (nat_le (usual_requests - asked_by c) (room_of names log c)) TooManyRequests Overrun

-- an open session gets its next piece of input
unfoldable pub served : List (List ℕ) → List Entry → List ℕ → Client → Client
served names log piece c =
    let place = length (history log) in
    let answers = answers_to names log piece c in
    let count = answerable names log c in
    record c {
      run = record {
        stretches = c.run.stretches ++ map (stretch_at place) (take count answers);
        closing = cond (nat_le (length answers) count) None (Some (place, refusal names log c));
      };
      heard = c.heard ++ piece;
    }

-- at most n of its items are taken
abbrev pub next_taken : ℕ → List (List ℕ) → List Entry → Client → List (List ℕ)
next_taken most names log c = take most (kept_of names log c)

abbrev pub after_take : ℕ → List (List ℕ) → List Entry → Client → Client
after_take most names log c = record c { taken = c.taken + length (next_taken most names log c) }

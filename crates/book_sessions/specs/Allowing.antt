-- What a caller of a roster must know before its call: the items that the call puts are allowed.
use Rattle.std.specs.Prelude.{ℕ, ◌-◌, List, map, take}
use Rattle.std.specs.List.{All}
use Rattle.gps_command.specs.declared.request.RawCommand.{RawCommand}
use Rattle.gps_command.specs.Kept as input
use Rattle.gps_report.specs.declared.report.Report.{Report}
use Rattle.book_replies.specs.declared.answering.Answer.{Answer}
use Rattle.book_replies.specs.ReplyDataView.{ReplyDataView}
use Rattle.book_replies.specs.Replies.{answered}
use Rattle.session_core.specs.Allowing.{AllowsAll, MayReport}
use Rattle.session_core.specs.Holding.{Selection}
use Rattle.session_core.specs.Naming.{OutletName}
use Rattle.session_core.specs.SessionView.{SessionView}
use Rattle.book_sessions.specs.MemberView.{MemberView}

-- the replies of these answers, but none after as many requests as are answered
abbrev pub replies_left : SessionView → List Answer → List (List ℕ)
replies_left s answers = map (λ answer. answer.reply) (take (s.most_requests - s.requests) answers)

-- by what is known, each reply to these requests may be put
abbrev pub MayReply : (OutletName → List (List ℕ) → Type 0) → ReplyDataView → List (List ℕ) → List RawCommand → SessionView → Type 0
MayReply may known names requests s = AllowsAll may s (replies_left s (answered known names s.policy requests))

-- the same of the requests that a piece of its input ends
abbrev pub MayHear : (OutletName → List (List ℕ) → Type 0) → ReplyDataView → List (List ℕ) → List ℕ → MemberView → Type 0
MayHear may known names piece a = (requests : List RawCommand)
    → ((bytes : List ℕ) → input.StandsFor a.cutter bytes → input.Gains bytes piece requests)
    → MayReply may known names requests a.session

-- the lines of these reports may be put to each session
abbrev pub MayReportEach : (OutletName → List (List ℕ) → Type 0) → Selection → List Report → List MemberView → Type 0
MayReportEach may lines reports roster = All (λ a. MayReport may lines reports a.session) roster

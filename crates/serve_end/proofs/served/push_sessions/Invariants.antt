use Rattle.std.proofs.Common.{◌≡◌, ◌++◌, take}
use Rattle.std.specs.List.{flat_map}
use Rattle.serve_end.specs.Lines.{session_text}
use Rattle.serve_end.proofs.served.push_sessions.Given as goal

abbrev pub invariant-loop-session : goal.invariant-loop-session
invariant-loop-session g l = l.out ≡ l.initial.out ++ flat_map (session_text l.book.sessions) (take l.session-index l.sessions)

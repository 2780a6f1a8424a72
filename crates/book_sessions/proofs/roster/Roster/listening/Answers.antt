use Rattle.std.proofs.Common.{◌≡◌, ◌≤◌, length, arith}
use Rattle.book_sessions.proofs.Listening.{few_listen}
use Rattle.book_sessions.proofs.roster.Roster.listening.Goals as goal

pub overflow_cast-result : goal.overflow_cast-result
overflow_cast-result g c =
    let few = few_listen c.self.inside.live.items c.self.inside.recent.items c.self.inside.listening.items c.self.inside.watched c.self.inside.members.items c.self.invariant.0 c.self.invariant.1 in
    omega (arith, few, c.len.ensures)

pub returns-clause-few : goal.returns-clause-few
returns-clause-few g c =
    let few = few_listen c.self.inside.live.items c.self.inside.recent.items c.self.inside.listening.items c.self.inside.watched c.self.inside.members.items c.self.invariant.0 c.self.invariant.1 in
    omega (arith, few, c.len.ensures)

use Rattle.std.proofs.Common.{sym}
use Rattle.std.specs.Duration.{as_nanos}
use Rattle.idle_client.proofs.Steps.{taken}
use Rattle.idle_client.proofs.idle_timer.IdleTimer.take.Goals as goal

pub returns-clause-taken : goal.returns-clause-taken
returns-clause-taken c = λ client stands.
    taken client c.args.bytes.now (as_nanos c.args.now) c.args.self.now c.self.inside.cutter c.push.new.self
    c.self.inside.watches c.in_ok-self-inside.field-0 c.self.inside.asked (as_nanos c.self.inside.since)
    (as_nanos c.later-self-inside.result) c.self.inside.missed c.has_whole-ended.result c.either-self-inside.result
    c.in_ok-requests.requests.items c.as_slice.result.now c.as_slice-2.result.now (sym c.self.view_is)
    c.in_ok-requests.ensures.gains c.as_slice.ensures.value c.in_ok-self-inside.ensures c.as_slice-2.ensures.value
    c.has_whole-ended.ensures c.either-self-inside.ensures c.later-self-inside.ensures stands

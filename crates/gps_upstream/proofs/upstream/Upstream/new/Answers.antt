use Rattle.gps_upstream.proofs.Views.{fresh_told, fresh_unread}
use Rattle.gps_upstream.proofs.upstream.Upstream.new.Goals as goal

pub returns-clause-told : goal.returns-clause-told
returns-clause-told g c = rw c.new.ensures (λ left e. fresh_told (g.S.Source.content c.args.source) left e)

pub returns-clause-unread : goal.returns-clause-unread
returns-clause-unread g c =
    rw c.new.ensures
    (λ is none.
    fresh_unread
    (g.S.Source.content c.args.source) (g.S.Source.faults c.args.source) (g.S.Source.quiets c.args.source) (g.K.Sink.faults c.args.sink)
    is none)

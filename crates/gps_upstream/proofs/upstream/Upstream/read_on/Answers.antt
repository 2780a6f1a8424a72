use Rattle.std.proofs.Common.{sym, subst}
use Rattle.gps_upstream.specs.Upward.{IsOpen, Upward}
use Rattle.gps_upstream.proofs.Views.{read_seen}
use Rattle.gps_upstream.proofs.upstream.Upstream.read_on.Goals as goal

pub returns : goal.returns
returns g c =
    let is_open = subst (λ (u : Upward). IsOpen u.head) (sym c.self.view_is) c.requires.head in
    rw (c.answer.ensures, ← c.self.view_is)
    (read_seen c.read_on.result _ c.read_on.new.buf c.self.inside.device c.self.inside.asked c.self.inside.cutter c.read_on.new.cutter
    (g.S.Source.content c.self.inside.source) (g.S.Source.content c.read_on.new.source)
    (g.S.Source.faults c.self.inside.source) (g.S.Source.faults c.read_on.new.source)
    (g.S.Source.quiets c.self.inside.source) (g.S.Source.quiets c.read_on.new.source)
    (g.K.Sink.written c.self.inside.sink) (g.K.Sink.faults c.self.inside.sink)
    is_open c.read_on.ensures.fits c.read_on.ensures.gives c.read_on.ensures.faults_stay c.read_on.ensures.quiets_stay
    c.read_on.ensures.failed c.read_on.ensures.quiet c.read_on.ensures.fails_only c.read_on.ensures.counts_quiet)

use Rattle.std.proofs.Common.{◌≡◌, sym, subst}
use Rattle.gps_upstream.specs.declared.head.Head.TheVariants as heads
use Rattle.gps_upstream.specs.Upward.{Upward}
use Rattle.gps_upstream.proofs.Views.{first_seen, start_is}
use Rattle.gps_upstream.proofs.upstream.Upstream.ask_and_read.Goals as goal

pub returns : goal.returns
returns g c =
    let start = subst (λ (u : Upward). u.head ≡ heads.Start) (sym c.self.view_is) c.requires.head in
    rw (← c.self.view_is)
    (first_seen c.read_on.result _ c.read_on.new.buf c.self.inside.device c.self.inside.asked c.self.inside.cutter
    (g.S.Source.content c.self.inside.source) (g.S.Source.faults c.self.inside.source) (g.S.Source.quiets c.self.inside.source)
    (g.K.Sink.written c.self.inside.sink) (g.K.Sink.written c.ask.new.sink)
    (g.K.Sink.faults c.self.inside.sink) (g.K.Sink.faults c.ask.new.sink)
    c.read_on.new.self start (c.self.invariant.0 (start_is c.self.inside.asked c.self.inside.cutter.stage start))
    c.if-not-ask.ensures.bytes (c.ask.ensures.fails_only c.if-not-ask.false) c.read_on.ensures)

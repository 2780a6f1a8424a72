use Rattle.serve_end.specs.Runs.{source_facts}
use Rattle.gps_serve.specs.Facts.{sink_facts}
use Rattle.gps_serve.proofs.Sessions.{input_lane_at, input_served_at}
use Rattle.gps_serve.proofs.settling.settled.Goals as goal

pub session_done-requires-clause-input : goal.session_done-requires-clause-input
session_done-requires-clause-input g c =
    input_lane_at (source_facts g.S.Source) (sink_facts g.K.ClientSink) c.args.book.now.sessions c.args.number
    c.args.input c.args.run c.requires.there c.requires.ready

pub returns-clause-link : goal.returns-clause-link
returns-clause-link g c =
    record { source = c.session_done.ensures.source; input = c.session_done.ensures.input_tx; sink = c.session_done.ensures.wrote }

pub returns-clause-input : goal.returns-clause-input
returns-clause-input g c =
    input_served_at (source_facts g.S.Source) (sink_facts g.K.ClientSink) c.args.book.now.sessions c.args.number
    c.args.input c.args.run c.session_done.result c.requires.there c.requires.ready c.session_done.ensures.source c.session_done.ensures.input_tx c.session_done.ensures.input_rx

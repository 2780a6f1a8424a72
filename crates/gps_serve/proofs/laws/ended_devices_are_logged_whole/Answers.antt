use Rattle.gps_serve.specs.Facts.{world_facts}
use Rattle.gps_serve.proofs.Logged.{ended_are_logged}
use Rattle.gps_serve.proofs.laws.ended_devices_are_logged_whole.Goals as goal

pub returns : goal.returns
returns g c =
    ended_are_logged _ (world_facts g.S.Source g.K.ClientSink g.G.Door)

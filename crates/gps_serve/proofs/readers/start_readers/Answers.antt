use Rattle.gps_lane.specs.Carried.{device_part}
use Rattle.serve_workers.specs.Readings.{IsDevicePiece}
use Rattle.serve_workers.proofs.Sourcing.{from_new}
use Rattle.gps_serve.proofs.readers.start_readers.Goals as goal

pub start_device-bytes-requires-clause-from : goal.start_device-bytes-requires-clause-from
start_device-bytes-requires-clause-from g c κs within =
    from_new device_part (IsDevicePiece g.D.Dials.may) c.args.start.bytes.about.source c.args.start.bytes.put (g.S.Source.content c.args.start.source) c.requires.told.0 c.args.start.nothing

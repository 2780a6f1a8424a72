use Rattle.gps_lane.specs.Held.{of_source}
use Rattle.serve_door.proofs.places.input_lane.Given as goal

abbrev pub ghosts-lane_of : goal.ghosts-lane_of
ghosts-lane_of g a = record { about = of_source (g.K.ClientSink.asks a._sink.now) }

use Rattle.serve_workers.specs.Sourced.{held_in}
use Rattle.gps_serve.proofs.lanes.lane_for.Given as goal
use Rattle.gps_lane.specs.Held.{of_source}

abbrev pub ghosts-lane_of : goal.ghosts-lane_of
ghosts-lane_of g a = record { about = of_source (held_in (g.S.Source.content a._source.now)) }

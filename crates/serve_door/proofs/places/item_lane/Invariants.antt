use Rattle.hub_promise.specs.Parts.{subject_of}
use Rattle.serve_door.proofs.places.item_lane.Given as goal

abbrev pub ghosts-lane_of : goal.ghosts-lane_of
ghosts-lane_of g a = record { about = subject_of g.J.HubNaming.terms (g.K.ClientSink.asks a._sink.now) }

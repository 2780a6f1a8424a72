use Rattle.hub_promise.specs.Parts.{terms_of}
use Rattle.gps_world.specs.OpenInOrder.{dial_of}
use Rattle.gps_serve.proofs.served.serve.Given as goal

abbrev pub ghosts-run-J-Ledger : goal.ghosts-run-J-Ledger
ghosts-run-J-Ledger g a = record { name = a.ground.doors.ledger; parts = a.ground.doors.parts }

abbrev pub ghosts-run-J-DoorNaming : goal.ghosts-run-J-DoorNaming
ghosts-run-J-DoorNaming g a = record { table = a.ground.doors.table; whole = a.ground.doors.parts }

abbrev pub ghosts-run-J-HubNaming : goal.ghosts-run-J-HubNaming
ghosts-run-J-HubNaming g a = record { terms = terms_of a.ground.book a.ground.lanes.inlets.items a.numbers.wait }

abbrev pub ghosts-run-D-ShareNaming : goal.ghosts-run-D-ShareNaming
ghosts-run-D-ShareNaming g a = record { table = a.ground.stamps }

abbrev pub ghosts-run-D-Dials : goal.ghosts-run-D-Dials
ghosts-run-D-Dials g a = record { may = dial_of (g.W.Now.Clock.stamps a.clock); first = g.W.Now.Clock.stamps a.clock }

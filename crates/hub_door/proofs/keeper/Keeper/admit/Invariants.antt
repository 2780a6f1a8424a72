use Rattle.hub_door.specs.Admissions.{entry_of, link_of}
use Rattle.hub_door.proofs.keeper.Keeper.admit.Given as goal

abbrev pub ghosts-enter_link : goal.ghosts-enter_link
ghosts-enter_link g a = record { entry = entry_of (link_of a.outlet.value.lane a.outlet.value.cap a.input.value.lane) }

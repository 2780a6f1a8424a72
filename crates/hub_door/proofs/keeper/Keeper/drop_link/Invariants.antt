use Rattle.hub_door.specs.Admissions.{drop_entry}
use Rattle.hub_door.proofs.keeper.Keeper.drop_link.Given as goal

abbrev pub ghosts-enter_drop : goal.ghosts-enter_drop
ghosts-enter_drop g a = record { entry = drop_entry (record { live = a.live; opened = a.opened; held = a.held }) }

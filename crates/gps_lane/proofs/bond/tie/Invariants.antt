use Rattle.gps_lane.specs.Bonds.{open_over}
use Rattle.gps_lane.proofs.bond.tie.Given as goal

abbrev pub ghosts-store : goal.ghosts-store
ghosts-store g a = record { bond = open_over a._of.now.table_id }

use Rattle.gps_lane.specs.Bonds.{let_go}
use Rattle.gps_lane.proofs.bond.untie.Given as goal

abbrev pub ghosts-store : goal.ghosts-store
ghosts-store g a = record { bond = let_go a._of.now.table_id a._of.now.me.0.client.put.items }

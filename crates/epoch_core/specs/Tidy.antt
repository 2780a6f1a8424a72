-- What the kept satellites and used ids have by the notes that they come from.
use Rattle.std.specs.Prelude.{Bool, true, ◌&&◌, List, ◌≡◌}
use Rattle.std.specs.List.{list_all}
use Rattle.gps_report.specs.declared.satellite.Satellite.{Satellite}
use Rattle.gps_report.specs.Fits.{is_id, is_named_system, is_satellite, where_given}
use Rattle.epoch_core.specs.declared.used_id.UsedId.{UsedId}

abbrev pub is_used_id : UsedId → Bool
is_used_id a = is_id a.id && where_given is_named_system a.system

pub record IsTidy (sats : List Satellite) (used_ids : List UsedId) : Type 0 where
  pub sats_fit : list_all is_satellite sats ≡ true
  pub used_ids_fit : list_all is_used_id used_ids ≡ true

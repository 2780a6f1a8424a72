use Rattle.std.proofs.Common.{◌≡◌, take, map}
use Rattle.epoch_core.specs.Keys.{by_key, used_id_key}
use Rattle.epoch_core.specs.Steps.{all_added}
use Rattle.epoch_core.specs.Satellites.{used_id_by}
use Rattle.epoch_core.proofs.running.add_ids.Given as goal

abbrev pub invariant-loop-id : goal.invariant-loop-id
invariant-loop-id l =
    l.used_ids ≡ all_added (by_key used_id_key) l.initial.used_ids (map (used_id_by l.system) (take l.id-index l.ids))

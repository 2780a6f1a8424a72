use Rattle.std.proofs.Common.{sym, rules}
use Rattle.gps_world.proofs.Firsts.{missing_takes}
use Rattle.gps_world.proofs.memory_world.take_first.Goals as goal

pub returns-else-at-len-clause-rest : goal.returns-else-at-len-clause-rest
returns-else-at-len-clause-rest g c = sym (missing_takes c.args.place.now c.args.places.now.items (search rules)).1

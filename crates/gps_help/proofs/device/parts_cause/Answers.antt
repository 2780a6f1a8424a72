use Rattle.std.proofs.Common.{map, string_bytes}
use Rattle.gps_help.proofs.device.parts_cause.Goals as goal

pub returns-in-Some : goal.returns-in-Some
returns-in-Some c = c.in-Some.ensures (map string_bytes c.args.words.now) c.args.stop c.args.at c.args.name.now

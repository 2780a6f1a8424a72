use Rattle.std.proofs.Common.{drop}
use Rattle.gps_command.proofs.Pieces.{Going}
use Rattle.gps_command.proofs.cutter.CommandCutter.cut.Given as goal

abbrev pub invariant-bytes : goal.invariant-bytes
invariant-bytes l = Going l.self l.piece l.stand l.held.items l.requests.items (drop l.byte-index l.piece)

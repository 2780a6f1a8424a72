use Rattle.std.proofs.Common.{◌≡◌, ◌++◌, take}
use Rattle.json_line.specs.Lines.{hex}
use Rattle.json_line.proofs.line.push_hex.Given as goal

abbrev pub invariant-loop-byte : goal.invariant-loop-byte
invariant-loop-byte l = l.out ≡ l.initial.out ++ hex (take l.byte-index l.bytes)

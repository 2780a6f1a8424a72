use Rattle.std.proofs.Common.{◌≡◌, ◌++◌, take}
use Rattle.gps_decode.specs.Texts.{texts_by, texts_of}
use Rattle.gps_decode.proofs.texts.Output.push_all.Given as goal

abbrev pub invariant-bodies : goal.invariant-bodies
invariant-bodies l = l.out ≡ l.initial.out ++ texts_of (texts_by l.self) (take l.body-index l.bodies)

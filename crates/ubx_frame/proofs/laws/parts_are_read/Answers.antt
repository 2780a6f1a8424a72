use Rattle.std.proofs.Common.{refl}
use Rattle.ubx_frame.proofs.Frames.{payload_read}
use Rattle.ubx_frame.proofs.laws.parts_are_read.Goals as goal

pub returns : goal.returns
returns c = record { class = λ p. refl; id = λ p. refl; payload = payload_read }

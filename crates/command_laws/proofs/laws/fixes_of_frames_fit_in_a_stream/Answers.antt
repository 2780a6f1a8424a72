use Rattle.command_laws.proofs.Midst.{frames_fit}
use Rattle.command_laws.proofs.laws.fixes_of_frames_fit_in_a_stream.Goals as goal

pub returns : goal.returns
returns c = frames_fit

use Rattle.pseudo_nmea.proofs.Frames.{frame_fits}
use Rattle.pseudo_nmea.proofs.laws.fixes_of_frames_fit.Goals as goal

pub returns : goal.returns
returns c = frame_fits

use Rattle.pseudo_nmea.proofs.Back.{height_back, track_back, speed_back}
use Rattle.pseudo_nmea.proofs.Places.{place_back}
use Rattle.pseudo_nmea.proofs.Times.{time_back, date_back}
use Rattle.pseudo_nmea.proofs.laws.fields_are_read_back.Goals as goal

pub returns : goal.returns
returns c =
    record { heights = height_back; tracks = track_back; speeds = speed_back; places = place_back; times = time_back; days = date_back }

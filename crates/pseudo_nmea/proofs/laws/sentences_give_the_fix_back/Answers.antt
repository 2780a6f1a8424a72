use Rattle.pseudo_nmea.proofs.OneEpoch.{given_back}
use Rattle.pseudo_nmea.proofs.laws.sentences_give_the_fix_back.Goals as goal

pub returns : goal.returns
returns c = given_back

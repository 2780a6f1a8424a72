use Rattle.gps_client.proofs.Stamps.{same_stamp}
use Rattle.gps_client.proofs.texts.stamp_in.Goals as goal

pub returns : goal.returns
returns c = same_stamp c.stamp_of_iso-stamp.result c.args.text.now c.stamp_of_iso-stamp.ensures.exact

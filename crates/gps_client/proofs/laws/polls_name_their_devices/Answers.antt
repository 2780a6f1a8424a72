use Rattle.gps_client.proofs.Answered.{poll_is}
use Rattle.gps_client.proofs.laws.polls_name_their_devices.Goals as goal

pub returns : goal.returns
returns c = poll_is

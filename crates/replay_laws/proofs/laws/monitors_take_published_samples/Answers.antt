use Rattle.replay_laws.proofs.Runs.{numbers_rise, takes_published}
use Rattle.replay_laws.proofs.laws.monitors_take_published_samples.Goals as goal

pub returns : goal.returns
returns c = record { published = takes_published; in_order = numbers_rise }

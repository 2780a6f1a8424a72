use Rattle.replay_player.proofs.EndsWhole.{all_left}
use Rattle.replay_player.proofs.script_end.ScriptEnd.of.Goals as goal

pub returns : goal.returns
returns c = λ state plays. all_left c.args.book c.end_devices.new.self c.close_sessions.new.self c.in_ok-end_devices.ensures.ended c.close_sessions.ensures.shut state plays

use Rattle.replay_player.proofs.EndsClosed.{whole_closed}
use Rattle.replay_player.proofs.replay_book.ReplayBook.end_quietly.Goals as goal

pub returns : goal.returns
returns c = record {
  writes = whole_closed c.args.self.now c.end_devices.new.self c.close_sessions.new.self c.args.out.now c.close_lines.new.out c.publish.new.out c.publish.result
      c.in_ok-end_devices.ensures.ended c.close_sessions.ensures.shut c.in_ok-close_lines.ensures.lines c.publish.ensures.shows;
}

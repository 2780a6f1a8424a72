use Rattle.std.proofs.Common.{◌≡◌, ◌<◌, length, refl, arith}
use Rattle.replay_player.proofs.EndsClosed.{every_one_closed, one_more_closed}
use Rattle.replay_player.proofs.replay_book.ReplayBook.close_lines.Goals as goal

pub sessions-preserved : goal.sessions-preserved
sessions-preserved c =
    let below : c.sessions.s < length c.args.self.now.book.sessions = let all = c.sessions.invariant.all in omega (arith, all) in
    record {
      so_far = one_more_closed c.args.self.now c.sessions.s c.args.out.now c.sessions.out c.write_closing.new.out below c.sessions.invariant.so_far c.in_ok-write_closing.ensures.line;
      all = c.sessions.invariant.all;
      out = refl;
    }

pub returns : goal.returns
returns c = record {
  lines = λ state plays.
      let all : c.sessions.s ≡ length c.args.self.now.book.sessions = let end = c.sessions.invariant.all in omega (arith, end) in
      every_one_closed c.args.self.now c.sessions.s c.args.out.now c.sessions.out all c.sessions.invariant.so_far state plays;
}

use Rattle.std.proofs.Common.{◌≡◌, sym, subst}
use Rattle.std.specs.List.{list_all}
use Rattle.book_log.specs.Standing.{DeviceStateView, has_stopped}
use Rattle.report_book.specs.Standing.{BookHolds}
use Rattle.replay_player.specs.Playing.{BookStandsFor, ReplayBookView}
use Rattle.replay_player.proofs.EndsDevices.{not_stopped, shuts_all}
use Rattle.replay_player.proofs.replay_book.ReplayBook.close_sessions.Goals as goal

pub returns-then-all_ended : goal.returns-then-all_ended
returns-then-all_ended c = record {
  shut = λ state plays stopped.
      let P : ReplayBookView → Type 0 = λ v. BookStandsFor v state in
      shuts_all (record { devices = c.self.inside.devices; book = c.self.inside.book; watchers = c.self.inside.watchers.items }) c.shut.new.self c.show.ensures.holds c.shut.ensures state (subst P (sym c.self.view_is) plays);
}

pub returns-else-all_ended : goal.returns-else-all_ended
returns-else-all_ended c = record {
  shut = λ state plays stopped.
      let H : ReplayBookView → Type 0 = λ v. BookHolds v.book in
      let T : ReplayBookView → Type 0 = λ v. c.all_ended.result ≡ list_all (λ (line : DeviceStateView). has_stopped line.stage) v.book.log.present.lines in
      not_stopped c.args.self.now c.all_ended.result (subst H c.self.view_is c.show.ensures.holds) (subst T c.self.view_is c.all_ended.ensures) c.if-all_ended.false state plays stopped;
}

use Rattle.std.proofs.Common.{◌≡◌, Some, None, slice_get, option_and_then, option_map, sym, subst, rules}
use Rattle.book_sessions.specs.MemberView.{MemberView}
use Rattle.replay_player.specs.Playing.{BookStandsFor, ReplayBookView}
use Rattle.replay_player.proofs.EndsDrained.{line_or_none, no_line}
use Rattle.replay_player.proofs.replay_book.ReplayBook.write_closing.Goals as goal

pub returns-in_default : goal.returns-in_default
returns-in_default c = record {
  line = λ state client plays there.
      let P : ReplayBookView → Type 0 = λ v. BookStandsFor v state in
      let none : option_and_then (λ (a : MemberView). a.session.closing) (slice_get c.self.inside.book.sessions c.args.s) ≡ None = search rules in
      no_line (record { devices = c.self.inside.devices; book = c.self.inside.book; watchers = c.self.inside.watchers.items }) state c.args.s client c.args.out.now (subst P (sym c.self.view_is) plays) there none;
}

pub returns : goal.returns
returns c = record {
  line = λ state client plays there.
      let P : ReplayBookView → Type 0 = λ v. BookStandsFor v state in
      let is : option_and_then (λ (a : MemberView). a.session.closing) (slice_get c.self.inside.book.sessions c.args.s) ≡ Some (c.in-Some.field-0-0, c.in-Some.why) = search rules in
      let counts : option_map (λ (a : MemberView). a.session.items) (slice_get c.self.inside.book.sessions c.args.s) ≡ Some c.in-Some-items.items = search rules in
      line_or_none (record { devices = c.self.inside.devices; book = c.self.inside.book; watchers = c.self.inside.watchers.items }) state c.args.s client (c.in-Some.field-0-0, c.in-Some.why) c.in-Some-items.items
      c.args.out.now c.push_closing_line.new.out c.push_closing_line.result (subst P (sym c.self.view_is) plays) there is counts c.push_closing_line.ensures.line;
}

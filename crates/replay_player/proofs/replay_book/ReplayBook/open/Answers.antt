use Rattle.std.proofs.Common.{◌≡◌, ◌≢◌, ℕ, length, sym, subst, rules, ap, OnOk}
use Rattle.session_core.specs.Naming.OutletName.{alone}
use Rattle.session_core.specs.Queue.{Queue}
use Rattle.report_book.specs.Moves.{Admits}
use Rattle.replay_player.specs.Playing.{BookStandsFor, ReplayBookView}
use Rattle.replay_player.proofs.Seating.{opens_act}
use Rattle.replay_player.proofs.Absent.{opens_none}
use Rattle.replay_player.proofs.replay_book.ReplayBook.open.Goals as goal

pub returns-then-s-from : goal.returns-then-s-from
returns-then-s-from c = record {
  acts = λ state plays.
      let other : c.args.s ≢ length c.args.self.now.book.sessions = search rules in
      opens_none c.args.self.now state c.args.s c.args.cap plays other;
}

pub returns : goal.returns
returns c = record {
  acts = λ state plays.
      let P : ReplayBookView → Type 0 = λ v. BookStandsFor v state in
      let next : c.args.s ≡ length c.self.inside.book.sessions = search rules in
      let A : ℕ → Type 0 = λ n. OnOk c.admit.result (Admits alone n c.self.inside.book c.admit.new.self) in
      let cap : c.in_ok-outlet.outlet.cap ≡ c.args.cap = ap (λ (q : Queue). q.cap) c.in_ok-outlet.ensures in
      opens_act (record { devices = c.self.inside.devices; book = c.self.inside.book; watchers = c.self.inside.watchers.items }) c.admit.new.self alone c.args.s c.args.cap c.admit.result c.event_step_of_admission.result c.show.ensures.holds c.requires.least c.requires.most
      next c.event_step_of_admission.ensures c.admit.ensures.refusal (subst A cap c.admit.ensures.admits) state (subst P (sym c.self.view_is) plays);
}

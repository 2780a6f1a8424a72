use Rattle.std.proofs.Common.{◌∷◌, [], refl, sym, subst, List}
use Rattle.book_replies.specs.Replies.{opening_reply}
use Rattle.book_sessions.specs.MemberView.{MemberView, opened}
use Rattle.session_core.specs.SessionView.{opening_policy}
use Rattle.session_core.specs.Stretches.{answer_stretch}
use Rattle.report_book.specs.Standing.{BookHolds}
use Rattle.report_book.proofs.Calls.{one_more}
use Rattle.report_book.proofs.book.Book.admit.Goals as goal
use Rattle.report_book.proofs.book.Book.admit.Goals.{in-Ok, in-Err}

pub invariant_of-self : goal.invariant_of-self
invariant_of-self g c =
    let P : List MemberView → Type 0 = λ l. BookHolds (record { names = c.self.inside.names; most_requests = c.self.inside.most_requests; log = c.self.inside.log; sessions = l; units = c.self.inside.units.units }) in
    elim c.match-admit.branch [
      | in-Ok w ↦ one_more (record { names = c.self.inside.names; most_requests = c.self.inside.most_requests; log = c.self.inside.log; sessions = c.self.inside.roster; units = c.self.inside.units.units }) c.place.result (opened (g.O.Outlet.name c.args.outlet) (g.O.Outlet.cap c.args.outlet) c.self.inside.most_requests c.place.result)
          (answer_stretch c.place.result opening_policy opening_reply ∷ []) c.admit.new.self c.self.invariant c.place.ensures.place refl c.admit.ensures.opens w.in-Ok.ensures.admitted
      | in-Err w ↦ subst P (sym w.in-Err.ensures.err) c.self.invariant
    ]

use Rattle.std.proofs.Common.{List, get_or, sym, subst, arith, ◌<◌, length, ap, ◌∙◌}
use Rattle.book_sessions.specs.MemberView.{MemberView}
use Rattle.book_sessions.specs.Allowing.{MayReply}
use Rattle.book_sessions.specs.Answering.{AnswersCut}
use Rattle.book_sessions.specs.Roster.{IsAfterAll, Changes, IsOpenAt, IsAfter}
use Rattle.book_sessions.proofs.Listening.{listening_heard}
use Rattle.book_sessions.proofs.Places.{after_input}
use Rattle.book_sessions.proofs.Rosters.{changed_roster}
use Rattle.book_sessions.proofs.roster.Roster.input.Goals as goal

pub input_at-requires-clause-may : goal.input_at-requires-clause-may
input_at-requires-clause-may g c =
    let P : List MemberView → Type 0 = λ l. (free : MemberView)
    → MayReply g.O.Outlet.may c.args.known.now c.args.names.now c.args.cut.requests.items (get_or l c.args.s free).session in
    subst P (sym c.self.view_is) c.requires.may

pub invariant_of-self-2 : goal.invariant_of-self-2
invariant_of-self-2 g c =
    let changed = c.in_ok-watched.ensures.answers in
    let P : List MemberView → Type 0 = λ l. IsOpenAt c.args.s l in
    let was_open = subst P (sym c.self.view_is) c.requires.open in (
      changed_roster c.self.inside.live.items c.self.inside.recent.items c.keep_open.new.numbers.items c.self.inside.watched _ c.args.s changed.0 c.self.inside.members.items c.input_at.new.members.items
          c.self.invariant.0 was_open changed.1 c.keep_open.ensures
          (omega (arith, c.self.invariant.0.watched_ones, c.in_ok-watched.ensures.watched, c.from.ensures)),
      listening_heard c.in_ok-listening.listening.items c.keep_listening.new.numbers.items c.args.s changed.0 c.self.inside.members.items c.input_at.new.members.items
          (c.in_ok-listening.ensures ∙ c.self.invariant.0.live_ones) was_open changed.1 c.keep_listening.ensures,
    )

pub returns-clause-answers : goal.returns-clause-answers
returns-clause-answers g c =
    let P : List MemberView → Type 0 = λ l. Changes c.args.s (AnswersCut g.O.Outlet.exact c.args.known.now c.args.names.now c.args.place c.args.cut.requests.items c.args.cut.cutter) l c.input_at.new.members.items in
    subst P c.self.view_is c.in_ok-watched.ensures.answers

pub returns-clause-after : goal.returns-clause-after
returns-clause-after g c = λ later low after.
    let P : List MemberView → Type 0 = λ l. IsAfterAll later l in
    let within : c.args.s < length c.self.inside.members.items = omega (arith, ap length c.self.view_is, c.requires.exists) in
    after_input g.O.Outlet.exact c.args.known.now c.args.names.now c.args.place c.args.s c.args.cut.requests.items c.args.cut.cutter c.self.inside.members.items c.input_at.new.members.items
    c.in_ok-watched.ensures.answers within later low (subst P (sym c.self.view_is) after)

pub input_at-requires-clause-open : goal.input_at-requires-clause-open
input_at-requires-clause-open g c = let P : List MemberView → Type 0 = λ l. IsOpenAt c.args.s l in subst P (sym c.self.view_is) c.requires.open

pub input_at-requires-clause-after : goal.input_at-requires-clause-after
input_at-requires-clause-after g c = let P : List MemberView → Type 0 = λ l. IsAfter c.args.place c.args.s l in subst P (sym c.self.view_is) c.requires.after

pub returns-in_err-watched-clause-after : goal.returns-in_err-watched-clause-after
returns-in_err-watched-clause-after g c = λ later low after. let P : List MemberView → Type 0 = λ l. IsAfterAll later l in subst P (sym (c.in_err-watched.ensures.err ∙ c.self.view_is)) after

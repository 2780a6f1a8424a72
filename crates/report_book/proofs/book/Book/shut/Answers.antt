use Rattle.session_core.specs.declared.mark.Close.TheVariants.{DaemonEnd}
use Rattle.report_book.proofs.Calls.{after_all_at, shut_all}
use Rattle.report_book.proofs.book.Book.shut.Goals as goal

pub shut-requires : goal.shut-requires
shut-requires g c = after_all_at (record { names = c.self.inside.names; most_requests = c.self.inside.most_requests; log = c.self.inside.log; sessions = c.self.inside.roster; units = c.self.inside.units.units }) c.place-place.result c.self.invariant c.place-place.ensures.place

pub invariant_of-self : goal.invariant_of-self
invariant_of-self g c = shut_all DaemonEnd (record { names = c.self.inside.names; most_requests = c.self.inside.most_requests; log = c.self.inside.log; sessions = c.self.inside.roster; units = c.self.inside.units.units }) c.place-place.result c.shut.new.self c.self.invariant c.place-place.ensures.place c.shut.ensures.shuts

use Rattle.std.proofs.Common.{◌∙◌, ap, arith, length, map, refl, subst, sym}
use Rattle.book_units.specs.Units.{segment_of}
use Rattle.report_book.specs.BookView.{BookView}
use Rattle.hub_promise.specs.Keeping.{IsUnused}
use Rattle.gps_serve.specs.Units.{CountFromZero}
use Rattle.gps_serve.proofs.Resting.{new_counts}
use Rattle.gps_serve.proofs.Starting.{still_unused, two_each, unused}
use Rattle.gps_serve.proofs.ground.new_book.Goals as goal

pub returns-clause-unused : goal.returns-clause-unused
returns-clause-unused g c = subst IsUnused (sym c.allow_requests.ensures) (still_unused _ c.args.requests (unused c.in_ok-book.ensures.new))

pub returns-clause-names : goal.returns-clause-names
returns-clause-names g c = ap (λ (b : BookView). b.names) c.allow_requests.ensures ∙ c.in_ok-book.ensures.new.names_are

pub returns-clause-limit : goal.returns-clause-limit
returns-clause-limit g c = ap (λ (b : BookView). b.log.limit) c.allow_requests.ensures ∙ c.in_ok-book.ensures.new.log.limit_is

pub returns-clause-requests : goal.returns-clause-requests
returns-clause-requests g c = ap (λ (b : BookView). b.most_requests) c.allow_requests.ensures

pub returns-clause-units : goal.returns-clause-units
returns-clause-units g c =
    ap (λ (b : BookView). length b.units) c.allow_requests.ensures
    ∙ two_each c.in_ok-book.ensures.new (omega (arith, c.len-few.ensures.count, c.len-few.ensures.few)) refl

pub returns-clause-from : goal.returns-clause-from
returns-clause-from g c =
    subst (λ (b : BookView). CountFromZero (map segment_of b.units)) (sym c.allow_requests.ensures) (new_counts _ _ _ c.in_ok-book.ensures.new)

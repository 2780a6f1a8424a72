use Rattle.std.proofs.Common.{◌≡◌, ◌≤◌, ◌*◌, ℕ, List, length, take, refl, sym, subst, arith}
use Rattle.std.specs.List.{AllZip}
use Rattle.book_log.specs.DeviceLogView.{IsFresh}
use Rattle.book_sessions.specs.MemberView.{MemberView}
use Rattle.session_core.specs.SessionView.{usual_requests}
use Rattle.book_units.specs.Units.{IsNew}
use Rattle.report_book.specs.Standing.{BookHolds}
use Rattle.report_book.proofs.Calls.{new_holds}
use Rattle.report_book.proofs.book.Book.new.Goals as goal

pub invariant_of-result : goal.invariant_of-result
invariant_of-result g c =
    let short : length c.args.names ≤ 8 = let few = c.len-devices.ensures.few in let count = c.len-devices.ensures.count in omega arith in
    let F : ℕ → Type 0 = λ n. IsFresh n c.args.limit c.in_ok-log.log in
    let Z : ℕ → Type 0 = λ n. AllZip IsNew (take (2 * n) c.args.firsts) c.in_ok-units.units.units in
    let C : ℕ → Type 0 = λ n. length c.in_ok-units.units.units ≡ 2 * n in
    let S : List MemberView → Type 0 = λ l. BookHolds (record { names = c.args.names; most_requests = usual_requests; log = c.in_ok-log.log; sessions = l; units = c.in_ok-units.units.units }) in
    subst S (sym c.new-3.ensures) (new_holds c.args.names usual_requests c.in_ok-log.log c.args.limit c.args.firsts c.in_ok-units.units.units
    (subst F c.len-devices.ensures.count c.in_ok-log.ensures.fresh) c.in_ok-log.ensures.holds short (subst Z c.len-devices.ensures.count c.in_ok-units.ensures.new) (subst C c.len-devices.ensures.count c.in_ok-units.ensures.count))

pub returns-clause-holds : goal.returns-clause-holds
returns-clause-holds g c =
    let short : length c.args.names ≤ 8 = let few = c.len-devices.ensures.few in let count = c.len-devices.ensures.count in omega arith in
    let F : ℕ → Type 0 = λ n. IsFresh n c.args.limit c.in_ok-log.log in
    let Z : ℕ → Type 0 = λ n. AllZip IsNew (take (2 * n) c.args.firsts) c.in_ok-units.units.units in
    let C : ℕ → Type 0 = λ n. length c.in_ok-units.units.units ≡ 2 * n in
    let S : List MemberView → Type 0 = λ l. BookHolds (record { names = c.args.names; most_requests = usual_requests; log = c.in_ok-log.log; sessions = l; units = c.in_ok-units.units.units }) in
    subst S (sym c.new-3.ensures) (new_holds c.args.names usual_requests c.in_ok-log.log c.args.limit c.args.firsts c.in_ok-units.units.units
    (subst F c.len-devices.ensures.count c.in_ok-log.ensures.fresh) c.in_ok-log.ensures.holds short (subst Z c.len-devices.ensures.count c.in_ok-units.ensures.new) (subst C c.len-devices.ensures.count c.in_ok-units.ensures.count))

pub returns-clause-new : goal.returns-clause-new
returns-clause-new g c =
    let short : length c.args.names ≤ 8 = let few = c.len-devices.ensures.few in let count = c.len-devices.ensures.count in omega arith in
    let F : ℕ → Type 0 = λ n. IsFresh n c.args.limit c.in_ok-log.log in
    let Z : ℕ → Type 0 = λ n. AllZip IsNew (take (2 * n) c.args.firsts) c.in_ok-units.units.units in
    let C : ℕ → Type 0 = λ n. length c.in_ok-units.units.units ≡ 2 * n in
    record {
      names_are = refl;
      most_requests = refl;
      log = subst F c.len-devices.ensures.count c.in_ok-log.ensures.fresh;
      sessions = c.new-3.ensures;
      units = subst Z c.len-devices.ensures.count c.in_ok-units.ensures.new;
    }

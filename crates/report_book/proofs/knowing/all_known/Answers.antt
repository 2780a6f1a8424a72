use Rattle.std.proofs.Common.{◌≡◌, ℕ, ◌+◌, List, ◌∷◌, [], ◌++◌, length, Option, sym, ap, ◌∙◌, subst, arith}
use Rattle.std.specs.Option.{option_copied}
use Rattle.gps_fixed.specs.Moment.{Moment}
use Rattle.gps_report.specs.declared.report.Report.{Report}
use Rattle.book_log.specs.Entries.{Entry}
use Rattle.book_log.specs.Standing.{StandsFor}
use Rattle.report_book.specs.Knowing.{AreRead, fix_reports, sky_reports}
use Rattle.report_book.proofs.Reading.{Fit, all_fit, one_more_read, read_known}
use Rattle.report_book.proofs.knowing.all_known.Goals as goal

pub devices-preserved : goal.devices-preserved
devices-preserved c = λ before stands.
    let log = before ++ c.args.log.now.log in
    let n = c.devices.device + 1 in
    let fixes = c.devices.fixes.items ++ fix_reports c.devices.device c.is_some-is_active.result c.last_fix.result in
    let skies = c.devices.skies.items ++ sky_reports c.devices.device c.is_some-is_active.result (option_copied c.last_sky.result) in
    let read = one_more_read c.devices.device log c.devices.firsts.items c.devices.fixes.items c.devices.skies.items c.active-first.result c.is_some-is_active.result c.last_fix.result (option_copied c.last_sky.result)
    (c.devices.invariant before stands) (c.active-first.ensures before stands) c.is_some-is_active.ensures (c.last_fix.ensures before stands) (c.last_sky.ensures before stands) in
    let P : List (Option Moment) → Type 0 = λ f. AreRead n log f fixes skies in
    let Q : List Report → Type 0 = λ f. AreRead n log c.push.new.self.items f skies in
    let R : List Report → Type 0 = λ f. AreRead n log c.push.new.self.items c.push_fix.new.fixes.items f in
    subst R (sym c.in_ok-push_sky.ensures) (subst Q (sym c.in_ok-push_fix.ensures) (subst P (sym c.in_ok-push.ensures.items) read))

pub of-requires-clause-fixes : goal.of-requires-clause-fixes
of-requires-clause-fixes c = (all_fit c.args.log.now c.devices.device c.devices.firsts.items c.devices.fixes.items c.devices.skies.items c.requires.holds c.devices.invariant).tpv

pub of-requires-clause-skies : goal.of-requires-clause-skies
of-requires-clause-skies c = (all_fit c.args.log.now c.devices.device c.devices.firsts.items c.devices.fixes.items c.devices.skies.items c.requires.holds c.devices.invariant).sky

pub of-requires-clause-fixes_named : goal.of-requires-clause-fixes_named
of-requires-clause-fixes_named c = (all_fit c.args.log.now c.devices.device c.devices.firsts.items c.devices.fixes.items c.devices.skies.items c.requires.holds c.devices.invariant).fixes_named

pub of-requires-clause-skies_named : goal.of-requires-clause-skies_named
of-requires-clause-skies_named c = (all_fit c.args.log.now c.devices.device c.devices.firsts.items c.devices.fixes.items c.devices.skies.items c.requires.holds c.devices.invariant).skies_named

pub returns-clause-count : goal.returns-clause-count
returns-clause-count c =
    let e : c.devices.device ≡ length c.args.names.now = omega arith in
    ap length c.of.ensures.firsts ∙ (all_fit c.args.log.now c.devices.device c.devices.firsts.items c.devices.fixes.items c.devices.skies.items c.requires.holds c.devices.invariant).long ∙ e

pub returns-clause-known : goal.returns-clause-known
returns-clause-known c = λ before stands.
    let log = before ++ c.args.log.now.log in
    let n = length c.args.names.now in
    let e : c.devices.device ≡ n = omega arith in
    let N : ℕ → Type 0 = λ m. AreRead m log c.devices.firsts.items c.devices.fixes.items c.devices.skies.items in
    let P : List (Option Moment) → Type 0 = λ f. AreRead n log f c.devices.fixes.items c.devices.skies.items in
    let Q : List Report → Type 0 = λ f. AreRead n log c.of.result.firsts f c.devices.skies.items in
    let R : List Report → Type 0 = λ f. AreRead n log c.of.result.firsts c.of.result.fixes f in
    read_known n log c.of.result
    (subst R (sym c.of.ensures.skies) (subst Q (sym c.of.ensures.fixes) (subst P (sym c.of.ensures.firsts) (subst N e (c.devices.invariant before stands)))))
    (c.of.ensures.last ∙ c.last_stamp.ensures.stands before stands)

-- The publisher that hears is the one that gave the notice: no store lies between.
use Rattle.std.proofs.Common.{◌≡◌, subst, sym, get_or}
use Rattle.shm_segment.specs.Publishing.{words_now}
use Rattle.shm_monitor.specs.MonitorView.{MonitorView}
use Rattle.book_units.specs.Steps.{BearsOut}
use Rattle.book_units.specs.Units.{UnitView}
use Rattle.report_book.specs.BookView.{BookView}
use Rattle.replay_player.specs.Loads.{reading_after}
use Rattle.replay_player.proofs.Known.{exact_reading, exact_step, notice_part}
use Rattle.replay_player.proofs.exact.load.Goals as goal

pub meet-requires-clause-notice : goal.meet-requires-clause-notice
meet-requires-clause-notice g c =
    notice_part c.args.book.now.units c.args.unit c.args.segment.now c.notice_of-notice.result c.requires.part c.notice_of-notice.ensures.notice

pub returns-clause-step : goal.returns-clause-step
returns-clause-step g c =
    exact_step c.args.book.now.units c.args.unit c.notice_of-notice.result c.args.monitor.now c.meet.new.self c.step-step.new.self c.step-step.result c.account-account.result
    c.notice_of-notice.ensures.notice c.meet.ensures.told c.meet.ensures.informed c.step-step.ensures.loads c.account-account.ensures.account
    (subst (λ (b : BookView). (free : UnitView) → BearsOut (get_or b.units c.args.unit free) c.account-account.result.taken c.account-account.result.kept) c.notice_of-notice.ensures.unchanged c.tell.ensures.heard)

pub returns-clause-reading : goal.returns-clause-reading
returns-clause-reading g c =
    subst (λ (w : MonitorView). (free : UnitView) → w.reading ≡ reading_after (words_now (get_or c.args.book.now.units c.args.unit free).publisher) c.args.monitor.now.reading) (sym c.account-account.ensures.unchanged)
    (exact_reading c.args.book.now.units c.args.unit c.notice_of-notice.result c.args.monitor.now c.meet.new.self c.step-step.new.self c.step-step.result c.account-account.result
    c.notice_of-notice.ensures.notice c.meet.ensures.told c.meet.ensures.informed c.step-step.ensures.loads c.account-account.ensures.account
    (subst (λ (b : BookView). (free : UnitView) → BearsOut (get_or b.units c.args.unit free) c.account-account.result.taken c.account-account.result.kept) c.notice_of-notice.ensures.unchanged c.tell.ensures.heard))

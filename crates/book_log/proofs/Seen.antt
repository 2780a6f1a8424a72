-- Lines as a summary, after a call for one of them.
use Rattle.std.proofs.Common.{◌≡◌, ℕ, refl, subst, List, Option}
use Rattle.std.specs.Option.{option_or}
use Rattle.gps_fixed.specs.Moment.{Moment}
use Rattle.gps_report.specs.declared.edge.Symbol.{Symbol}
use Rattle.gps_report.specs.declared.report.Report.{Report}
use Rattle.book_log.specs.Standing.{DeviceStateView, DeviceStatesView}
use Rattle.book_log.specs.Steps.{ChangesAt, Ends, EndsAt, TakesSymbols, TakesAt}

pub takes_here : (olds news : List DeviceStateView) (before stamp : Option Moment) (old : DeviceStatesView) (d : ℕ) (symbols : List Symbol) (reports : List Report)
    → record { lines = olds; stamp = before } ≡ old → ChangesAt olds news d (λ line next. TakesSymbols line next d symbols stamp reports)
    → TakesAt old (record { lines = news; stamp = option_or stamp before }) d symbols stamp reports
takes_here olds news before stamp old d symbols reports seen changes =
    let P : DeviceStatesView → Type 0 = λ o. TakesAt o (record { lines = news; stamp = option_or stamp before }) d symbols stamp reports in
    subst P seen (record { lines_are = changes; stamp_is = refl })

pub ends_here : (olds news : List DeviceStateView) (before : Option Moment) (old : DeviceStatesView) (d : ℕ) (reports : List Report)
    → record { lines = olds; stamp = before } ≡ old → ChangesAt olds news d (λ line next. Ends line next d reports)
    → EndsAt old (record { lines = news; stamp = before }) d reports
ends_here olds news before old d reports seen changes =
    let P : DeviceStatesView → Type 0 = λ o. EndsAt o (record { lines = news; stamp = before }) d reports in
    subst P seen (record { lines_are = changes; stamp_is = refl })

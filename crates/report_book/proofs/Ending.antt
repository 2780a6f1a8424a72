-- A device's end gives no sample: its reports are a fix, a sky, and that it has ended.
use Rattle.std.proofs.Common.{◌≡◌, ◌≤◌, ℕ, Bool, true, false, cond, List, [], ◌∷◌, ◌++◌, None, length, refl, sym, ap, ◌∙◌, append-nil, arith}
use Rattle.std.specs.Prelude.{slice_index}
use Rattle.gps_report.specs.declared.fix.Fix.{Fix}
use Rattle.gps_report.specs.declared.fix.Sky.{Sky}
use Rattle.gps_report.specs.declared.edge.Symbol.{Symbol}
use Rattle.gps_report.specs.declared.report.Body.TheVariants.{Tpv, Sky as SkyBody, Device}
use Rattle.gps_report.specs.declared.report.Report.{Report}
use Rattle.epoch_core.specs.Days.{Dated}
use Rattle.epoch_core.specs.Epochs.{closing, epochs_of, left, running, sky_of}
use Rattle.epoch_core.specs.Fixes.{fix_of}
use Rattle.epoch_core.specs.Quantities.{said}
use Rattle.device_core.specs.Reports.{device_close}
use Rattle.device_core.specs.Stream.{notes_in}
use Rattle.book_log.specs.Entries.{ended, stream}
use Rattle.book_log.specs.History.{history_after}
use Rattle.book_log.specs.Readings.{of_device}
use Rattle.book_log.specs.DeviceLogView.{DeviceLogView, LogAdds, LogHolds}
use Rattle.book_units.specs.Samples.{samples_of}
use Rattle.book_units.specs.Units.{HasRoom}

parts_give_none : (u d : ℕ) (has_fix has_sky : Bool) (fix : Fix) (sky : Sky)
    → samples_of u (of_device d ((cond has_fix (Tpv fix ∷ []) [] ++ cond has_sky (SkyBody sky ∷ []) []) ++ Device None ∷ [])) ≡ []
parts_give_none u d true true fix sky = refl
parts_give_none u d true false fix sky = refl
parts_give_none u d false true fix sky = refl
parts_give_none u d false false fix sky = refl

epoch_gives_none : (u d : ℕ) (epoch : List Dated) → samples_of u (of_device d (closing epoch ++ Device None ∷ [])) ≡ []
unfolding closing
epoch_gives_none u d epoch = parts_give_none u d (said epoch).has_fix (said epoch).has_sky (fix_of (said epoch)) (sky_of epoch)

end_gives_none : (u d : ℕ) (symbols : List Symbol) → samples_of u (of_device d (device_close symbols ++ Device None ∷ [])) ≡ []
unfolding left
end_gives_none u d symbols = epoch_gives_none u d (running (epochs_of (notes_in symbols)))

pub needs_no_room : (d : ℕ) (spare : List ℕ) (log next : DeviceLogView) (reports : List Report) → LogHolds log → LogAdds log next (ended d) reports → HasRoom spare reports
unfolding history_after
needs_no_room d spare log next reports holds adds = λ u.
    let symbols = stream d (holds.some.0 ++ log.log) in
    let bodies = device_close symbols ++ Device None ∷ [] in
    let is : of_device d bodies ++ [] ≡ reports = adds.reports_are holds.some.0 holds.some.1 in
    let none : length (samples_of u reports) ≡ 0 = ap (λ r. length (samples_of u r)) (sym is ∙ append-nil (of_device d bodies)) ∙ ap length (end_gives_none u d symbols) in
    omega arith

-- What was started on the first of these, and what became of it.
use Rattle.std.proofs.Common.{ℕ, List, Option, [], ◌∷◌}
use Rattle.std.specs.List.{AllZip}
use Rattle.gps_fixed.specs.Moment.{Moment}
use Rattle.serve_workers.specs.declared.monitors.ReadingsDone.{ReadingsDone}
use Rattle.serve_workers.specs.declared.monitors.MonitorStart.{MonitorStart}
use Rattle.serve_workers.specs.declared.monitors.MonitorPromise.{MonitorPromise}
use Rattle.serve_workers.proofs.Zips.{through}
use Rattle.gps_serve.specs.declared.starts.DeviceStart.{DeviceStart}
use Rattle.serve_end.specs.declared.device.DeviceRun.{DeviceRun}
use Rattle.serve_end.specs.Runs.{SourceFacts}
use Rattle.gps_serve.specs.declared.readers.DeviceWork.{DeviceWork}
use Rattle.gps_serve.specs.Runs.{RanOn}
use Rattle.gps_serve.specs.Works.{JoinsDevice, JoinsMonitor, ReadersAre, WatchedBy, WatchesFor}

pub devices_ran : {S R D : Type 0} (may : Option (List Moment)) (facts : SourceFacts S) (starts : List (DeviceStart S R)) (works : List (DeviceWork S D R)) (runs : List (DeviceRun S R))
    → AllZip ReadersAre starts works → AllZip (JoinsDevice may facts) works runs → AllZip (RanOn may facts) starts runs
devices_ran may facts starts works runs are joined = through ReadersAre (RanOn may facts) starts works runs are joined

pub monitors_ran : (tries : ℕ) (monitor_starts : List MonitorStart) (works : List MonitorPromise) (done : List ReadingsDone)
    → AllZip (WatchesFor tries) monitor_starts works → AllZip JoinsMonitor works done → AllZip (WatchedBy tries) monitor_starts done
monitors_ran tries [] [] [] are joined = tt
monitors_ran tries [] [] (d ∷ done) are joined = absurd joined
monitors_ran tries [] (w ∷ works) done are joined = absurd are
monitors_ran tries (x ∷ monitor_starts) [] done are joined = absurd are
monitors_ran tries (x ∷ monitor_starts) (w ∷ works) [] are joined = absurd joined
monitors_ran tries (x ∷ monitor_starts) (w ∷ works) (d ∷ done) are joined = (joined.0 tries x are.0, monitors_ran tries monitor_starts works done are.1 joined.1)

-- What a caller must know before it causes items to be put to an outlet: they are allowed.
use Rattle.std.specs.Prelude.{◌≡◌, ℕ, List, ◌++◌, None}
use Rattle.gps_report.specs.declared.report.Report.{Report}
use Rattle.session_core.specs.Holding.{Selection}
use Rattle.session_core.specs.Naming.{OutletName}
use Rattle.session_core.specs.SessionView.{SessionView}
use Rattle.session_core.specs.Stretches.{selected}

-- As many of these items as are put, in order, may be kept after those that the session's outlet keeps.
abbrev pub AllowsAll : (OutletName → List (List ℕ) → Type 0) → SessionView → List (List ℕ) → Type 0
AllowsAll may s items = (front rest : List (List ℕ)) → items ≡ front ++ rest → may s.name (s.kept ++ front)

-- If the session is open, so may be the lines that its policy selects of these reports.
abbrev pub MayReport : (OutletName → List (List ℕ) → Type 0) → Selection → List Report → SessionView → Type 0
MayReport may lines reports s = s.closing ≡ None → AllowsAll may s (selected lines s.policy reports)

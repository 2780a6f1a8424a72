-- A run in generations, each of which counts its places from 0.
use Rattle.std.specs.Prelude.{ℕ, ◌+◌, List, [], ◌∷◌, ◌++◌, length, map}
use Rattle.gps_report.specs.declared.report.Report.{Report}
use Rattle.session_core.specs.Stretches.{Stretch, items_to, AreInOrder, left_of, placed_from}
use Rattle.session_core.specs.Holding.{Selection}

-- its history, and the stretches of a session that began in it
pub record Generation : Type 0 where
  pub reports : List Report
  pub stretches : List Stretch

abbrev pub AreGenerations : List Generation → Type 0
AreGenerations [] = Unit {0}
AreGenerations (generation ∷ more) = AreInOrder (length generation.reports) generation.stretches × AreGenerations more

-- the history of the whole run
abbrev pub run_reports : List Generation → List Report
run_reports [] = []
run_reports (generation ∷ more) = generation.reports ++ run_reports more

-- the stretches of the whole run, at places of its history, from this place on
abbrev pub run_stretches : ℕ → List Generation → List Stretch
run_stretches base [] = []
run_stretches base (generation ∷ more) =
    map (placed_from base) generation.stretches ++ run_stretches (base + length generation.reports) more

-- the items of each generation, joined; `left` is what the turn before it left of the session
abbrev pub run_items : Selection → List Stretch → List Generation → List (List ℕ)
run_items lines left [] = []
run_items lines left (generation ∷ more) =
    let stretches = left ++ generation.stretches in
    items_to lines (length generation.reports) stretches generation.reports ++ run_items lines (left_of stretches) more

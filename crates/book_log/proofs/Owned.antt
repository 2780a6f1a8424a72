-- The reports of one device are of that device, and have its name.
use Rattle.std.proofs.Common.{◌≡◌, ◌<◌, ℕ, refl, sym, ap, subst, ◌∙◌, List, [], ◌∷◌, ◌&&◌, length, nat_eq, nat_lt}
use Rattle.std.specs.List.{list_all}
use Rattle.std.proofs.lemmas.Bool.{and_parts, eq-eqb, eqb-true, lt-ltb}
use Rattle.gps_report.specs.declared.report.Body.{Body}
use Rattle.gps_report.specs.declared.report.Report.{Report}
use Rattle.book_batch.specs.Sharing.{AreNamed}
use Rattle.book_log.specs.DeviceLogView.{AreOf}
use Rattle.book_log.specs.Readings.{of_device}

pub of_device_own : (d : ℕ) (bodies : List Body) → AreOf d (of_device d bodies)
of_device_own d [] = refl
of_device_own d (body ∷ bodies) = ap (λ b. b && list_all (λ (r : Report). nat_eq r.device d) (of_device d bodies)) (eq-eqb d d refl) ∙ of_device_own d bodies

pub own_ones : (d : ℕ) (bodies : List Body) (reports : List Report) → reports ≡ of_device d bodies → AreOf d reports
own_ones d bodies reports are = let P : List Report → Type 0 = λ r. AreOf d r in subst P (sym are) (of_device_own d bodies)

pub are_named : (d : ℕ) (names : List (List ℕ)) (reports : List Report) → AreOf d reports → d < length names → AreNamed names reports
are_named d names [] own within = refl
are_named d names (report ∷ more) own within =
    let parts = and_parts (nat_eq report.device d) (list_all (λ (r : Report). nat_eq r.device d) more) own in
    let same : report.device ≡ d = eqb-true report.device d parts.0 in
    ap (λ e. nat_lt e (length names) && list_all (λ (r : Report). nat_lt r.device (length names)) more) same
    ∙ ap (λ b. b && list_all (λ (r : Report). nat_lt r.device (length names)) more) (lt-ltb d (length names) within)
    ∙ are_named d names more parts.1 within

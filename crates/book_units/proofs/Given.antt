-- What reports give to units: in order, at most one sample each, and nothing to the units of another device.
use Rattle.std.proofs.Common.{◌≡◌, ◌≢◌, ℕ, ◌+◌, ◌*◌, ◌≤◌, Bool, true, false, cond, eqb, List, [], ◌∷◌, ◌++◌, length, refl, sym, ap, ◌∙◌, subst, arith, length-append}
use Rattle.std.specs.Prelude.{slice_index}
use Rattle.std.proofs.lemmas.Bool.{eqb-true, eqb-false, ne_eqb}
use Rattle.std.proofs.lemmas.Grind.{flat_map-append}
use Rattle.std.proofs.lemmas.List.Elements.{All-head, All-tail}
use Rattle.gps_report.specs.declared.report.Body.{Body}
use Rattle.gps_report.specs.declared.report.Body.TheVariants.{Packet, Tpv, Sky, Toff, Pps, Device}
use Rattle.gps_report.specs.declared.report.Report.{Report}
use Rattle.shm_segment.specs.declared.sample.Sample.{Sample}
use Rattle.book_units.specs.Samples.{samples_in, samples_of, sample_of, serial_precision, pulse_precision}
use Rattle.book_units.specs.Units.{HasRoom, HasRoomAt, AreOf}

pub joined : (u : ℕ) (reports more : List Report) → samples_of u (reports ++ more) ≡ samples_of u reports ++ samples_of u more
joined u reports more = flat_map-append (λ (r : Report). samples_in u r.device r.body) reports more

one_of : (b : Bool) (s : Sample) → length (cond b (s ∷ []) []) ≤ 1
one_of true s = omega arith
one_of false s = omega arith

one_in : (u device : ℕ) (body : Body) → length (samples_in u device body) ≤ 1
one_in u device (Toff pair) = one_of (eqb u (2 * device)) (sample_of serial_precision pair)
one_in u device (Pps pair) = one_of (eqb u (2 * device + 1)) (sample_of pulse_precision pair)
one_in u device (Packet p) = omega arith
one_in u device (Tpv f) = omega arith
one_in u device (Sky s) = omega arith
one_in u device (Device at) = omega arith

pub few : (u : ℕ) (reports : List Report) → length (samples_of u reports) ≤ length reports
few u [] = omega arith
few u (r ∷ reports) =
    let one = one_in u r.device r.body in
    let rest = few u reports in
    let parts = length-append (samples_in u r.device r.body) (samples_of u reports) in
    omega arith

none_in : (u device : ℕ) (body : Body) → u ≢ 2 * device → u ≢ 2 * device + 1 → samples_in u device body ≡ []
none_in u device (Toff pair) serial pulse = ap (λ (b : Bool). cond b (sample_of serial_precision pair ∷ []) []) (ne_eqb u (2 * device) serial)
none_in u device (Pps pair) serial pulse = ap (λ (b : Bool). cond b (sample_of pulse_precision pair ∷ []) []) (ne_eqb u (2 * device + 1) pulse)
none_in u device (Packet p) serial pulse = refl
none_in u device (Tpv f) serial pulse = refl
none_in u device (Sky s) serial pulse = refl
none_in u device (Device at) serial pulse = refl

pub apart : (u device : ℕ) (reports : List Report) → AreOf device reports → u ≢ 2 * device → u ≢ 2 * device + 1 → samples_of u reports ≡ []
apart u device [] ours serial pulse = refl
apart u device (r ∷ reports) ours serial pulse =
    let P : Report → Type 0 = λ q. q.device ≡ device in
    let this : r.device ≡ device = All-head P r reports ours in
    ap (λ (d : ℕ). samples_in u d r.body ++ samples_of u reports) this
    ∙ ap (λ (l : List Sample). l ++ samples_of u reports) (none_in u device r.body serial pulse)
    ∙ apart u device reports (All-tail P r reports ours) serial pulse

pub room : (device more : ℕ) (spare : List ℕ) (reports : List Report) → HasRoomAt device more spare → AreOf device reports
    → length (samples_of (2 * device) reports) ≤ more → length (samples_of (2 * device + 1) reports) ≤ more → HasRoom spare reports
room device more spare reports free ours serial pulse u = by_serial (eqb u (2 * device)) refl
  where
    by_pulse : (b : Bool) → eqb u (2 * device + 1) ≡ b → eqb u (2 * device) ≡ false → length (samples_of u reports) ≤ slice_index spare u
    by_pulse true same other =
        let P : ℕ → Type 0 = λ v. length (samples_of v reports) ≤ slice_index spare v in
        let high = free.1 in
        subst P (sym (eqb-true u (2 * device + 1) same)) (omega arith)
    by_pulse false differs other =
        let none = ap (λ (l : List Sample). length l) (apart u device reports ours (eqb-false u (2 * device) other) (eqb-false u (2 * device + 1) differs)) in
        omega arith

    by_serial : (b : Bool) → eqb u (2 * device) ≡ b → length (samples_of u reports) ≤ slice_index spare u
    by_serial true same =
        let P : ℕ → Type 0 = λ v. length (samples_of v reports) ≤ slice_index spare v in
        let low = free.0 in
        subst P (sym (eqb-true u (2 * device) same)) (omega arith)
    by_serial false other = by_pulse (eqb u (2 * device + 1)) refl other

-- One device's line goes on from each log that it stands for: by a piece, by an edge, by its end, by its loss.
use Rattle.std.proofs.Common.{◌≡◌, ◌<◌, ℕ, Bool, true, false, ◌||◌, refl, sym, ap, ◌∙◌, subst, List, [], ◌∷◌, ◌++◌, length, Option, Some, None, append-nil, arith}
use Rattle.std.specs.Option.{option_or}
use Rattle.gps_fixed.specs.Moment.{Moment}
use Rattle.gps_report.specs.declared.edge.Edge.{Edge}
use Rattle.gps_report.specs.declared.edge.Symbol.{Symbol}
use Rattle.gps_report.specs.declared.edge.Symbol.TheVariants.{Edge as EdgeSymbol}
use Rattle.gps_report.specs.declared.report.Body.{Body}
use Rattle.gps_report.specs.declared.report.Body.TheVariants.{Device}
use Rattle.gps_report.specs.declared.report.Report.{Report}
use Rattle.device_core.specs.Stream.{piece}
use Rattle.device_core.specs.Reports.{device_close, reports_from}
use Rattle.device_core.specs.Standing.{StandsFor as DeviceStands}
use Rattle.book_log.specs.declared.device_stage.DeviceStage.{DeviceStage}
use Rattle.book_log.specs.declared.device_stage.DeviceStage.TheVariants.{Running}
use Rattle.book_log.specs.Entries.{Entry, Ended, Lost, ended, got, has_end, has_lost, is_end_of, is_loss_of, lost, stream}
use Rattle.book_log.specs.Readings.{fix_in, first_stamp, given_by, last_of, of_device, sky_in, stamp_in}
use Rattle.book_log.specs.History.{history, history_after}
use Rattle.book_log.specs.Standing.{DeviceStateView, StandsAt, has_stopped, is_ended, is_lost}
use Rattle.book_log.specs.Steps.{Ends, Goes, Loses, TakesSymbols, Took, announcement, unless_known}
use Rattle.book_log.proofs.ReadingLaws.{first_of-append, last_of-append, or_none}
use Rattle.book_log.proofs.Histories.{gains_are, given_own, has_end-append, has_lost-append, history-append, history_edge, history_piece, no_end_got, no_loss_got, same, stream-append, stream_after, stream_got}
use Rattle.std.proofs.lemmas.List.Folds.{list_any-append}

-- the last value among a device's reports, after those of a log
pub last_after : {Y : Type 0} (f : Body → Option Y) (d : ℕ) (log entries : List Entry) (bodies : List Body) (value newer : Option Y)
    → history_after log entries ≡ of_device d bodies → value ≡ last_of (given_by f d) (history log) → newer ≡ last_of f bodies
    → option_or newer value ≡ last_of (given_by f d) (history (log ++ entries))
last_after f d log entries bodies value newer adds was is =
    ap (option_or newer) was
    ∙ ap (λ o. option_or o (last_of (given_by f d) (history log))) (is ∙ sym (given_own f d bodies))
    ∙ sym (last_of-append (given_by f d) (history log) (of_device d bodies))
    ∙ ap (λ r. last_of (given_by f d) (history log ++ r)) (sym adds)
    ∙ ap (last_of (given_by f d)) (sym (history-append [] log entries))

no_fix_announced : (known : Option Moment) (out : List Body) → last_of fix_in (announcement known ++ out) ≡ last_of fix_in out
no_fix_announced None out = refl
no_fix_announced (Some at) out = or_none (last_of fix_in out)

no_sky_announced : (known : Option Moment) (out : List Body) → last_of sky_in (announcement known ++ out) ≡ last_of sky_in out
no_sky_announced None out = refl
no_sky_announced (Some at) out = or_none (last_of sky_in out)

-- symbols that a device took, if a first byte among them is announced at once
pub goes_on : (d : ℕ) (old new : DeviceStateView) (symbols : List Symbol) (stamp : Option Moment) (out : List Body) (reports : List Report)
    → stamp ≡ first_stamp symbols
    → ((log : List Entry) → history_after log (got d symbols) ≡ of_device d (announcement (unless_known (first_stamp (stream d log)) stamp) ++ reports_from (stream d log) symbols))
    → old.stage ≡ Running → Took old new d symbols stamp out reports → Goes d old new (got d symbols) reports
goes_on d old new symbols stamp out reports at_first law runs took = record {
  adds = λ log was. adds log was ∙ sym took.reports_are;
  stands = λ log was. record {
    device = λ still. subst (DeviceStands new.kept) (sym (stream_after d log symbols)) (took.stands (stream d log) (was.device (ap has_stopped runs)));
    first = took.first ∙ ap (option_or old.first) at_first ∙ ap (λ o. option_or o (first_stamp symbols)) was.first
        ∙ sym (first_of-append stamp_in (stream d log) symbols) ∙ ap first_stamp (sym (stream_after d log symbols));
    ended = ap is_ended took.stage ∙ was.ended ∙ sym (has_end-append d log (got d symbols) (no_end_got d d symbols));
    lost = ap is_lost took.stage ∙ was.lost ∙ sym (has_lost-append d log (got d symbols) (no_loss_got d d symbols));
    fix = took.fix ∙ last_after fix_in d log (got d symbols) (bodies) old.fix (last_of fix_in out) (adds log was) was.fix (sym (no_fix_announced first out));
    sky = took.sky ∙ last_after sky_in d log (got d symbols) (bodies) old.sky (last_of sky_in out) (adds log was) was.sky (sym (no_sky_announced first out));
  };
  device = λ still. (
    ap has_stopped runs,
    λ past stands. subst (DeviceStands new.kept) (ap (λ s. past ++ s) (sym (stream_got d symbols))) (took.stands past stands),
  );
}
  where
    first : Option Moment
    first = unless_known old.first stamp

    bodies : List Body
    bodies = announcement first ++ out

    adds : (log : List Entry) → StandsAt old d log → history_after log (got d symbols) ≡ of_device d bodies
    adds log was =
        law log
        ∙ ap (λ o. of_device d (announcement (unless_known o stamp) ++ reports_from (stream d log) symbols)) (sym was.first)
        ∙ ap (λ r. of_device d (announcement first ++ r)) (sym (gains_are (stream d log) symbols out (took.gains (stream d log) (was.device (ap has_stopped runs)))))

piece_stamp : (at : Moment) (bytes : List ℕ) → 0 < length bytes → Some at ≡ first_stamp (piece at bytes)
piece_stamp at [] some = absurd (omega arith)
piece_stamp at (byte ∷ bytes) some = refl

pub goes_by_piece : (d : ℕ) (old new : DeviceStateView) (at : Moment) (bytes : List ℕ) (reports : List Report) → 0 < length bytes → old.stage ≡ Running
    → TakesSymbols old new d (piece at bytes) (Some at) reports → Goes d old new (got d (piece at bytes)) reports
goes_by_piece d old new at bytes reports some runs took =
    goes_on d old new (piece at bytes) (Some at) took.0 reports (piece_stamp at bytes some) (λ log. history_piece log d at bytes some) runs took.1

pub goes_by_edge : (d : ℕ) (old new : DeviceStateView) (edge : Edge) (reports : List Report) → old.stage ≡ Running
    → TakesSymbols old new d (EdgeSymbol edge ∷ []) None reports → Goes d old new (got d (EdgeSymbol edge ∷ [])) reports
goes_by_edge d old new edge reports runs took =
    goes_on d old new (EdgeSymbol edge ∷ []) None took.0 reports refl (λ log. history_edge log d edge) runs took.1

no_fix_at_end : (out : List Body) → last_of fix_in (out ++ Device None ∷ []) ≡ last_of fix_in out
no_fix_at_end out = last_of-append fix_in out (Device None ∷ [])

no_sky_at_end : (out : List Body) → last_of sky_in (out ++ Device None ∷ []) ≡ last_of sky_in out
no_sky_at_end out = last_of-append sky_in out (Device None ∷ [])

or_true : (b : Bool) → true ≡ (b || true)
or_true true = refl
or_true false = refl

nothing_more : (d : ℕ) (log entries : List Entry) → stream d entries ≡ [] → stream d (log ++ entries) ≡ stream d log
nothing_more d log entries none = stream-append d log entries ∙ ap (λ s. stream d log ++ s) none ∙ append-nil (stream d log)

has_end_now : (d : ℕ) (log : List Entry) → true ≡ has_end d (log ++ Ended d ∷ [])
has_end_now d log =
    or_true (has_end d log) ∙ ap (λ b. has_end d log || (b || false)) (sym (same d)) ∙ sym (list_any-append (is_end_of d) log (Ended d ∷ []))

has_lost_now : (d : ℕ) (log : List Entry) → true ≡ has_lost d (log ++ Lost d ∷ [])
has_lost_now d log =
    or_true (has_lost d log) ∙ ap (λ b. has_lost d log || (b || false)) (sym (same d)) ∙ sym (list_any-append (is_loss_of d) log (Lost d ∷ []))

stopped_for_good : {X : Type 0} (stage : DeviceStage) (end : DeviceStage) → stage ≡ end → has_stopped end ≡ true → has_stopped stage ≡ false → X
stopped_for_good stage end is stops runs = let e : true ≡ false = sym stops ∙ ap has_stopped (sym is) ∙ runs in cc

pub goes_by_end : (d : ℕ) (old new : DeviceStateView) (reports : List Report) → old.stage ≡ Running → Ends old new d reports → Goes d old new (ended d) reports
unfolding history_after
goes_by_end d old new reports runs (out, closed) = record {
  adds = λ log was. adds log was ∙ sym closed.reports_are;
  stands = λ log was. record {
    device = λ still. stopped_for_good new.stage _ closed.stage refl still;
    first = closed.first ∙ was.first ∙ ap first_stamp (sym (nothing_more d log (ended d) refl));
    ended = ap is_ended closed.stage ∙ has_end_now d log;
    lost = ap is_lost closed.stage ∙ sym (ap is_lost runs) ∙ was.lost ∙ sym (has_lost-append d log (ended d) refl);
    fix = closed.fix ∙ last_after fix_in d log (ended d) (out ++ Device None ∷ []) old.fix (last_of fix_in out) (adds log was) was.fix (sym (no_fix_at_end out));
    sky = closed.sky ∙ last_after sky_in d log (ended d) (out ++ Device None ∷ []) old.sky (last_of sky_in out) (adds log was) was.sky (sym (no_sky_at_end out));
  };
  device = λ still. stopped_for_good new.stage _ closed.stage refl still;
}
  where
    adds : (log : List Entry) → StandsAt old d log → history_after log (ended d) ≡ of_device d (out ++ Device None ∷ [])
    adds log was =
        append-nil (of_device d (device_close (stream d log) ++ Device None ∷ []))
        ∙ ap (λ o. of_device d (o ++ Device None ∷ [])) (sym (closed.closes (stream d log) (was.device (ap has_stopped runs))))

pub goes_by_loss : (d : ℕ) (old new : DeviceStateView) → old.stage ≡ Running → Loses old new → Goes d old new (lost d) []
unfolding history_after
goes_by_loss d old new runs loses = record {
  adds = λ log was. refl;
  stands = λ log was. record {
    device = λ still. stopped_for_good new.stage _ (ap (λ l. l.stage) loses) refl still;
    first = ap (λ l. l.first) loses ∙ was.first ∙ ap first_stamp (sym (nothing_more d log (lost d) refl));
    ended = ap (λ l. is_ended l.stage) loses ∙ sym (ap is_ended runs) ∙ was.ended ∙ sym (has_end-append d log (lost d) refl);
    lost = ap (λ l. is_lost l.stage) loses ∙ has_lost_now d log;
    fix = ap (λ l. l.fix) loses ∙ last_after fix_in d log (lost d) [] old.fix None refl was.fix refl;
    sky = ap (λ l. l.sky) loses ∙ last_after sky_in d log (lost d) [] old.sky None refl was.sky refl;
  };
  device = λ still. stopped_for_good new.stage _ (ap (λ l. l.stage) loses) refl still;
}

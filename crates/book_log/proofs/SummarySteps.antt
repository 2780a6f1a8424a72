-- All devices go on from each log that is stood for, if one of them does.
use Rattle.std.proofs.Common.{◌≡◌, ◌<◌, ℕ, inl, inr, ◌⊎◌, Bool, true, false, ◌||◌, refl, sym, ap, ◌∙◌, subst, List, [], ◌∷◌, ◌++◌, length, get_or, Option, Some, None, append-nil, append_assoc, nat_eq, arith, eqb-true}
use Rattle.std.proofs.lemmas.Bool.{eqb-false}
use Rattle.std.specs.Option.{option_or}
use Rattle.std.proofs.Math.ListN.{set}
use Rattle.std.proofs.lemmas.List.{get_or-set_same, get_or-set_other, length-set}
use Rattle.gps_fixed.specs.Moment.{Moment}
use Rattle.gps_report.specs.declared.edge.Symbol.{Symbol}
use Rattle.gps_report.specs.declared.edge.Symbol.TheVariants.{Edge as EdgeSymbol}
use Rattle.gps_report.specs.declared.edge.Edge.{Edge}
use Rattle.gps_report.specs.declared.report.Body.{Body}
use Rattle.gps_report.specs.declared.report.Report.{Report}
use Rattle.device_core.specs.Stream.{piece}
use Rattle.device_core.specs.Standing.{StandsFor as DeviceStands}
use Rattle.book_log.specs.declared.device_stage.DeviceStage.TheVariants.{Running}
use Rattle.book_log.specs.Entries.{Entry, Got, GoesOn, IsLog, ended, got, has_end, has_lost, lost, stops_in, stream}
use Rattle.book_log.specs.Readings.{fix_in, first_stamp, given_by, last_of, last_stamp, of_device, sky_in, stamp_at}
use Rattle.book_log.specs.History.{history, history_after}
use Rattle.book_log.specs.Standing.{DeviceStateView, StandsAt, StandsFor, DeviceStatesView, DevicesGoOn, GoesOnBy, is_ended, is_lost}
use Rattle.book_log.specs.Steps.{EndsAt, Goes, GoesAll, LosesAt, TakesAt}
use Rattle.book_log.proofs.ReadingLaws.{last_of-append}
use Rattle.book_log.proofs.Histories.{IsQuiet, given_other, has_end-append, has_lost-append, history-append, quiet_end, quiet_got, quiet_loss, stream-append}
use Rattle.book_log.proofs.LineSteps.{goes_by_edge, goes_by_end, goes_by_loss, goes_by_piece}

pub goes-append : (n : ℕ) (before xs ys : List Entry) → GoesOn n before xs → GoesOn n (before ++ xs) ys → GoesOn n before (xs ++ ys)
unfolding GoesOn
goes-append n before [] ys one two = let P : List Entry → Type 0 = λ b. GoesOn n b ys in subst P (append-nil before) two
goes-append n before (x ∷ xs) ys one two =
    let P : List Entry → Type 0 = λ b. GoesOn n b ys in
    (one.0, one.1, goes-append n (before ++ x ∷ []) xs ys one.2 (subst P (sym (append_assoc before (x ∷ []) xs)) two))

stops_got : (d : ℕ) (log : List Entry) (symbol : Symbol) → stops_in d log ≡ false → stops_in d (log ++ Got d symbol ∷ []) ≡ false
stops_got d log symbol runs =
    ap (λ b. b || has_lost d (log ++ Got d symbol ∷ [])) (has_end-append d log (Got d symbol ∷ []) refl)
    ∙ ap (λ b. has_end d log || b) (has_lost-append d log (Got d symbol ∷ []) refl) ∙ runs

pub goes_got : (n d : ℕ) (log : List Entry) (symbols : List Symbol) → d < n → stops_in d log ≡ false → GoesOn n log (got d symbols)
unfolding GoesOn
goes_got n d log [] within runs = tt
goes_got n d log (x ∷ symbols) within runs = (within, runs, goes_got n d (log ++ Got d x ∷ []) symbols within (stops_got d log x runs))

goes_end : (n d : ℕ) (log : List Entry) → d < n → stops_in d log ≡ false → GoesOn n log (ended d)
unfolding GoesOn
goes_end n d log within runs = (within, runs, tt)

goes_loss : (n d : ℕ) (log : List Entry) → d < n → stops_in d log ≡ false → GoesOn n log (lost d)
unfolding GoesOn
goes_loss n d log within runs = (within, runs, tt)

pub runs_in : (d : ℕ) (line : DeviceStateView) (log : List Entry) → line.stage ≡ Running → StandsAt line d log → stops_in d log ≡ false
runs_in d line log runs was =
    ap (λ b. b || has_lost d log) (sym was.ended ∙ ap is_ended runs) ∙ sym was.lost ∙ ap is_lost runs

last_stays : {Y : Type 0} (f : Body → Option Y) (d e : ℕ) (log entries : List Entry) (bodies : List Body) (value : Option Y) → nat_eq d e ≡ false
    → history_after log entries ≡ of_device d bodies → value ≡ last_of (given_by f e) (history log) → value ≡ last_of (given_by f e) (history (log ++ entries))
last_stays f d e log entries bodies value other adds was =
    was
    ∙ ap (λ o. option_or o (last_of (given_by f e) (history log))) (sym (given_other f d e bodies other))
    ∙ sym (last_of-append (given_by f e) (history log) (of_device d bodies))
    ∙ ap (λ r. last_of (given_by f e) (history log ++ r)) (sym adds)
    ∙ ap (last_of (given_by f e)) (sym (history-append [] log entries))

nothing_more : (d : ℕ) (log entries : List Entry) → stream d entries ≡ [] → stream d (log ++ entries) ≡ stream d log
nothing_more d log entries none = stream-append d log entries ∙ ap (λ s. stream d log ++ s) none ∙ append-nil (stream d log)

-- another device's line stays as it is
stays : (d e : ℕ) (line : DeviceStateView) (log entries : List Entry) (bodies : List Body) → nat_eq d e ≡ false → IsQuiet e entries
    → history_after log entries ≡ of_device d bodies → StandsAt line e log → StandsAt line e (log ++ entries)
stays d e line log entries bodies other quiet adds was = record {
  device = λ runs. subst (DeviceStands line.kept) (sym (nothing_more e log entries quiet.no_symbols)) (was.device runs);
  first = was.first ∙ ap first_stamp (sym (nothing_more e log entries quiet.no_symbols));
  ended = was.ended ∙ sym (has_end-append e log entries quiet.no_end);
  lost = was.lost ∙ sym (has_lost-append e log entries quiet.no_loss);
  fix = last_stays fix_in d e log entries bodies line.fix other adds was.fix;
  sky = last_stays sky_in d e log entries bodies line.sky other adds was.sky;
}

-- a device that was given nothing
pub stands_still : (line : DeviceStateView) (symbols : List Symbol) → symbols ≡ [] → GoesOnBy line line symbols
stands_still line symbols none = λ runs. (runs, λ past stands. subst (DeviceStands line.kept) (sym (ap (λ s. past ++ s) none ∙ append-nil past)) stands)

pub all_stand_still : (old new : DeviceStatesView) (log : List Entry) → old ≡ new → log ≡ [] → DevicesGoOn old new log
all_stand_still old new log same none = λ d free within.
    let P : DeviceStatesView → Type 0 = λ o. GoesOnBy (get_or o.lines d free) (get_or new.lines d free) (stream d log) in
    subst P (sym same) (stands_still (get_or new.lines d free) (stream d log) (ap (stream d) none))

bool_cases : (b : Bool) → (b ≡ true) ⊎ (b ≡ false)
bool_cases true = inl refl
bool_cases false = inr refl

all_go : (old new : DeviceStatesView) (d : ℕ) (entries : List Entry) (bodies : List Body) (reports : List Report) (next : DeviceStateView)
    → d < length old.lines → new.lines ≡ set old.lines d next → ((free : DeviceStateView) → Goes d (get_or old.lines d free) next entries reports)
    → ((e : ℕ) → nat_eq d e ≡ false → IsQuiet e entries) → reports ≡ of_device d bodies
    → ((log : List Entry) → StandsFor old log → GoesOn (length old.lines) log entries)
    → ((log : List Entry) → StandsFor old log → new.stamp ≡ last_stamp (log ++ entries))
    → GoesAll old new entries reports
all_go old new d entries bodies reports next within are goes quiet own on stamps = record {
  adds = λ log was. adds log was next;
  stands = λ log was. record {
    is_log = let P : ℕ → Type 0 = λ n. IsLog n (log ++ entries) in subst P (sym count) (goes-append (length old.lines) [] log entries was.is_log (on log was));
    lines = λ e free inside. let P : List DeviceStateView → Type 0 = λ lines. StandsAt (get_or lines e free) e (log ++ entries) in
        subst P (sym are) (line log was e free (subst (λ n. e < n) count inside));
    stamp = stamps log was;
  };
  devices = λ e free inside. let P : List DeviceStateView → Type 0 = λ lines. GoesOnBy (get_or old.lines e free) (get_or lines e free) (stream e entries) in
      subst P (sym are) (device e free);
  count = count;
}
  where
    count : length new.lines ≡ length old.lines
    count = ap length are ∙ length-set old.lines d next

    adds : (log : List Entry) → StandsFor old log → (free : DeviceStateView) → history_after log entries ≡ reports
    adds log was free = (goes free).adds log (was.lines d free within)

    line : (log : List Entry) → StandsFor old log → (e : ℕ) (free : DeviceStateView) → e < length old.lines → StandsAt (get_or (set old.lines d next) e free) e (log ++ entries)
    line log was e free inside =
        elim (bool_cases (nat_eq d e)) [
          | inl same ↦
              let is : d ≡ e = eqb-true d e same in
              let P : ℕ → Type 0 = λ k. StandsAt (get_or (set old.lines d next) k free) k (log ++ entries) in
              let Q : DeviceStateView → Type 0 = λ l. StandsAt l d (log ++ entries) in
              subst P is (subst Q (sym (get_or-set_same old.lines d next free within)) ((goes free).stands log (was.lines d free within)))
          | inr other ↦
              let Q : DeviceStateView → Type 0 = λ l. StandsAt l e (log ++ entries) in
              subst Q (sym (get_or-set_other old.lines d e next free (λ (p : e ≡ d). eqb-false d e other (sym p))))
              (stays d e (get_or old.lines e free) log entries bodies other (quiet e other) (adds log was free ∙ own) (was.lines e free inside))
        ]

    device : (e : ℕ) (free : DeviceStateView) → GoesOnBy (get_or old.lines e free) (get_or (set old.lines d next) e free) (stream e entries)
    device e free =
        elim (bool_cases (nat_eq d e)) [
          | inl same ↦
              let is : d ≡ e = eqb-true d e same in
              let P : ℕ → Type 0 = λ k. GoesOnBy (get_or old.lines k free) (get_or (set old.lines d next) k free) (stream k entries) in
              let Q : DeviceStateView → Type 0 = λ l. GoesOnBy (get_or old.lines d free) l (stream d entries) in
              subst P is (subst Q (sym (get_or-set_same old.lines d next free within)) (goes free).device)
          | inr other ↦
              let Q : DeviceStateView → Type 0 = λ l. GoesOnBy (get_or old.lines e free) l (stream e entries) in
              subst Q (sym (get_or-set_other old.lines d e next free (λ (p : e ≡ d). eqb-false d e other (sym p))))
              (stands_still (get_or old.lines e free) (stream e entries) (quiet e other).no_symbols)
        ]

stamp_of_piece : (d : ℕ) (at : Moment) (bytes : List ℕ) → option_or (last_stamp (got d (piece at bytes))) (Some at) ≡ Some at
stamp_of_piece d at [] = refl
stamp_of_piece d at (byte ∷ bytes) = ap (λ o. option_or o (Some at)) (stamp_of_piece d at bytes)

stamp_fed : (d : ℕ) (at : Moment) (bytes : List ℕ) → 0 < length bytes → last_stamp (got d (piece at bytes)) ≡ Some at
stamp_fed d at [] some = absurd (omega arith)
stamp_fed d at (byte ∷ bytes) some = stamp_of_piece d at bytes

stamp_after : (old : DeviceStatesView) (now : Option Moment) (log entries : List Entry) (stamp : Option Moment) → StandsFor old log
    → now ≡ option_or stamp old.stamp → last_stamp entries ≡ stamp → now ≡ last_stamp (log ++ entries)
stamp_after old now log entries stamp was is last =
    is ∙ ap (option_or stamp) was.stamp ∙ ap (λ o. option_or o (last_stamp log)) (sym last) ∙ sym (last_of-append stamp_at log entries)

-- the device of this number runs
abbrev pub RunsAt : DeviceStatesView → ℕ → Type 0
RunsAt old d = (free : DeviceStateView) → (get_or old.lines d free).stage ≡ Running

pub fed_all : (old new : DeviceStatesView) (d : ℕ) (at : Moment) (bytes : List ℕ) (reports : List Report) → d < length old.lines → 0 < length bytes → RunsAt old d
    → TakesAt old new d (piece at bytes) (Some at) reports → GoesAll old new (got d (piece at bytes)) reports
fed_all old new d at bytes reports within some runs takes =
    let next = takes.lines_are.next in
    let took = takes.lines_are.changes next in
    all_go old new d (got d (piece at bytes)) _ reports next within takes.lines_are.news_are
    (λ free. goes_by_piece d (get_or old.lines d free) next at bytes reports some (runs free) (takes.lines_are.changes free))
    (λ e other. quiet_got d e (piece at bytes) other) took.1.reports_are
    (λ log was. goes_got (length old.lines) d log (piece at bytes) within (runs_in d (get_or old.lines d next) log (runs next) (was.lines d next within)))
    (λ log was. stamp_after old new.stamp log (got d (piece at bytes)) (Some at) was takes.stamp_is (stamp_fed d at bytes some))

pub edged_all : (old new : DeviceStatesView) (d : ℕ) (edge : Edge) (reports : List Report) → d < length old.lines → RunsAt old d
    → TakesAt old new d (EdgeSymbol edge ∷ []) None reports → GoesAll old new (got d (EdgeSymbol edge ∷ [])) reports
edged_all old new d edge reports within runs takes =
    let next = takes.lines_are.next in
    let took = takes.lines_are.changes next in
    all_go old new d (got d (EdgeSymbol edge ∷ [])) _ reports next within takes.lines_are.news_are
    (λ free. goes_by_edge d (get_or old.lines d free) next edge reports (runs free) (takes.lines_are.changes free))
    (λ e other. quiet_got d e (EdgeSymbol edge ∷ []) other) took.1.reports_are
    (λ log was. goes_got (length old.lines) d log (EdgeSymbol edge ∷ []) within (runs_in d (get_or old.lines d next) log (runs next) (was.lines d next within)))
    (λ log was. stamp_after old new.stamp log (got d (EdgeSymbol edge ∷ [])) None was takes.stamp_is refl)

pub ended_all : (old new : DeviceStatesView) (d : ℕ) (reports : List Report) → d < length old.lines → RunsAt old d
    → EndsAt old new d reports → GoesAll old new (ended d) reports
ended_all old new d reports within runs ends =
    let next = ends.lines_are.next in
    let closed = ends.lines_are.changes next in
    all_go old new d (ended d) _ reports next within ends.lines_are.news_are
    (λ free. goes_by_end d (get_or old.lines d free) next reports (runs free) (ends.lines_are.changes free))
    (λ e other. quiet_end d e other) closed.1.reports_are
    (λ log was. goes_end (length old.lines) d log within (runs_in d (get_or old.lines d next) log (runs next) (was.lines d next within)))
    (λ log was. stamp_after old new.stamp log (ended d) None was ends.stamp_is refl)

pub lost_all : (old new : DeviceStatesView) (d : ℕ) → d < length old.lines → RunsAt old d → LosesAt old new d → GoesAll old new (lost d) []
lost_all old new d within runs loses =
    let next = loses.lines_are.next in
    all_go old new d (lost d) [] [] next within loses.lines_are.news_are
    (λ free. goes_by_loss d (get_or old.lines d free) next (runs free) (loses.lines_are.changes free))
    (λ e other. quiet_loss d e other) refl
    (λ log was. goes_loss (length old.lines) d log within (runs_in d (get_or old.lines d next) log (runs next) (was.lines d next within)))
    (λ log was. stamp_after old new.stamp log (lost d) None was loses.stamp_is refl)

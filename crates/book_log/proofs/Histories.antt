-- What entries add to the streams, the stops and the history of a log.
use Rattle.std.proofs.Common.{◌≡◌, ◌<◌, ℕ, suc, Bool, true, false, ◌||◌, refl, sym, ap, ◌∙◌, List, [], ◌∷◌, ◌++◌, length, drop, append_assoc, append-nil, Option, Some, None, cond, nat_eq, arith}
use Rattle.std.specs.Option.{option_or}
use Rattle.std.specs.List.{filter}
use Rattle.std.proofs.Math.Seq.{drop-append_seam}
use Rattle.std.proofs.lemmas.Bool.{eq-eqb}
use Rattle.std.proofs.lemmas.List.Concat.{flat_map-append}
use Rattle.std.proofs.lemmas.List.Elements.{filter-append}
use Rattle.std.proofs.lemmas.List.Folds.{list_any-append}
use Rattle.gps_fixed.specs.Moment.{Moment}
use Rattle.gps_report.specs.declared.edge.Edge.{Edge}
use Rattle.gps_report.specs.declared.edge.Symbol.{Symbol}
use Rattle.gps_report.specs.declared.edge.Symbol.TheVariants.{Byte, Edge as EdgeSymbol}
use Rattle.gps_report.specs.declared.report.Body.{Body}
use Rattle.gps_report.specs.declared.report.Body.TheVariants.{Device}
use Rattle.device_core.specs.Stream.{piece}
use Rattle.device_core.specs.Reports.{device_reports, gained, reports_from, Gains}
use Rattle.device_core.proofs.Streams.{reports-append}
use Rattle.book_log.specs.Entries.{Entry, Got, Ended, Lost, got, has_end, has_lost, is_end_of, is_loss_of, is_symbol, stream, symbol_of, symbols_in}
use Rattle.book_log.specs.Readings.{first_stamp, given_by, last_of, of_device, stamp_in}
use Rattle.book_log.specs.History.{announced, history_after, reports_at}
use Rattle.book_log.specs.Steps.{announcement, unless_known}
use Rattle.book_log.proofs.ReadingLaws.{first_of-append, of_device-append}

pub same : (d : ℕ) → nat_eq d d ≡ true
same d = eq-eqb d d refl

pub history-append : (before xs ys : List Entry) → history_after before (xs ++ ys) ≡ history_after before xs ++ history_after (before ++ xs) ys
unfolding history_after
history-append before [] ys = ap (λ b. history_after b ys) (sym (append-nil before))
history-append before (x ∷ xs) ys =
    ap (λ r. reports_at before x ++ r) (history-append (before ++ x ∷ []) xs ys)
    ∙ ap (λ b. reports_at before x ++ (history_after (before ++ x ∷ []) xs ++ history_after b ys)) (append_assoc before (x ∷ []) xs)
    ∙ sym (append_assoc (reports_at before x) (history_after (before ++ x ∷ []) xs) (history_after (before ++ x ∷ xs) ys))

pub stream-append : (d : ℕ) (xs ys : List Entry) → stream d (xs ++ ys) ≡ stream d xs ++ stream d ys
stream-append d xs ys = flat_map-append (symbol_of d) xs ys

pub stream_got : (d : ℕ) (symbols : List Symbol) → stream d (got d symbols) ≡ symbols
stream_got d [] = refl
stream_got d (x ∷ symbols) = ap (λ b. cond b (x ∷ []) [] ++ stream d (got d symbols)) (same d) ∙ ap (λ s. x ∷ s) (stream_got d symbols)

pub stream_after : (d : ℕ) (log : List Entry) (symbols : List Symbol) → stream d (log ++ got d symbols) ≡ stream d log ++ symbols
stream_after d log symbols = stream-append d log (got d symbols) ∙ ap (λ s. stream d log ++ s) (stream_got d symbols)

-- an entry is no symbol, no end and no loss of another device
pub record IsQuiet (e : ℕ) (entries : List Entry) : Type 0 where
  pub no_symbols : stream e entries ≡ []
  pub no_end : has_end e entries ≡ false
  pub no_loss : has_lost e entries ≡ false

pub quiet_got : (d e : ℕ) (symbols : List Symbol) → nat_eq d e ≡ false → IsQuiet e (got d symbols)
quiet_got d e [] other = record { no_symbols = refl; no_end = refl; no_loss = refl }
quiet_got d e (x ∷ symbols) other =
    let more = quiet_got d e symbols other in
    record {
      no_symbols = ap (λ b. cond b (x ∷ []) [] ++ stream e (got d symbols)) other ∙ more.no_symbols;
      no_end = more.no_end;
      no_loss = more.no_loss;
    }

pub quiet_end : (d e : ℕ) → nat_eq d e ≡ false → IsQuiet e (Ended d ∷ [])
quiet_end d e other = record { no_symbols = refl; no_end = ap (λ b. b || false) other; no_loss = refl }

pub quiet_loss : (d e : ℕ) → nat_eq d e ≡ false → IsQuiet e (Lost d ∷ [])
quiet_loss d e other = record { no_symbols = refl; no_end = refl; no_loss = ap (λ b. b || false) other }

pub no_end_got : (d e : ℕ) (symbols : List Symbol) → has_end e (got d symbols) ≡ false
no_end_got d e [] = refl
no_end_got d e (x ∷ symbols) = no_end_got d e symbols

pub no_loss_got : (d e : ℕ) (symbols : List Symbol) → has_lost e (got d symbols) ≡ false
no_loss_got d e [] = refl
no_loss_got d e (x ∷ symbols) = no_loss_got d e symbols

pub or_false : (b : Bool) → (b || false) ≡ b
or_false true = refl
or_false false = refl

pub has_end-append : (d : ℕ) (xs ys : List Entry) → has_end d ys ≡ false → has_end d (xs ++ ys) ≡ has_end d xs
has_end-append d xs ys none = list_any-append (is_end_of d) xs ys ∙ ap (λ b. has_end d xs || b) none ∙ or_false (has_end d xs)

pub has_lost-append : (d : ℕ) (xs ys : List Entry) → has_lost d ys ≡ false → has_lost d (xs ++ ys) ≡ has_lost d xs
has_lost-append d xs ys none = list_any-append (is_loss_of d) xs ys ∙ ap (λ b. has_lost d xs || b) none ∙ or_false (has_lost d xs)

pub symbols_in-append : (xs ys : List Entry) → symbols_in (xs ++ ys) ≡ length (filter is_symbol xs ++ filter is_symbol ys)
symbols_in-append xs ys = ap length (filter-append is_symbol xs ys)

pub symbols_got : (d : ℕ) (symbols : List Symbol) → symbols_in (got d symbols) ≡ length symbols
symbols_got d [] = refl
symbols_got d (x ∷ symbols) = ap (λ n. suc n) (symbols_got d symbols)

-- after the first byte a device is not announced any more
pub history_known : (before : List Entry) (d : ℕ) (at : Moment) (symbols : List Symbol) → first_stamp (stream d before) ≡ Some at
    → history_after before (got d symbols) ≡ of_device d (reports_from (stream d before) symbols)
unfolding history_after reports_from
history_known before d at [] known = refl
history_known before d at (x ∷ symbols) known =
    let s = stream d before in
    let next = stream_after d before (x ∷ []) in
    let still : first_stamp (stream d (before ++ Got d x ∷ [])) ≡ Some at =
    ap first_stamp next ∙ first_of-append stamp_in s (x ∷ []) ∙ ap (λ o. option_or o (first_stamp (x ∷ []))) known in
    ap (λ o. of_device d (announced o x ++ gained s x) ++ history_after (before ++ Got d x ∷ []) (got d symbols)) known
    ∙ ap (λ r. of_device d (gained s x) ++ r) (history_known (before ++ Got d x ∷ []) d at symbols still)
    ∙ ap (λ t. of_device d (gained s x) ++ of_device d (reports_from t symbols)) next
    ∙ sym (of_device-append d (gained s x) (reports_from (s ++ x ∷ []) symbols))

-- a first symbol that is a byte
first_byte : (before : List Entry) (d : ℕ) (at : Moment) (byte : ℕ) (symbols : List Symbol) (known : Option Moment) → first_stamp (stream d before) ≡ known
    → history_after before (got d (Byte at byte ∷ symbols)) ≡ of_device d (announcement (unless_known known (Some at)) ++ reports_from (stream d before) (Byte at byte ∷ symbols))
unfolding history_after reports_from
first_byte before d at byte symbols (Some first) is = history_known before d first (Byte at byte ∷ symbols) is
first_byte before d at byte symbols None is =
    let s = stream d before in
    let x = Byte at byte in
    let next = stream_after d before (x ∷ []) in
    let now : first_stamp (stream d (before ++ Got d x ∷ [])) ≡ Some at =
    ap first_stamp next ∙ first_of-append stamp_in s (x ∷ []) ∙ ap (λ o. option_or o (first_stamp (x ∷ []))) is in
    ap (λ o. of_device d (announced o x ++ gained s x) ++ history_after (before ++ Got d x ∷ []) (got d symbols)) is
    ∙ ap (λ r. of_device d (Device (Some at) ∷ gained s x) ++ r) (history_known (before ++ Got d x ∷ []) d at symbols now)
    ∙ ap (λ t. of_device d (Device (Some at) ∷ gained s x) ++ of_device d (reports_from t symbols)) next
    ∙ sym (of_device-append d (Device (Some at) ∷ gained s x) (reports_from (s ++ x ∷ []) symbols))

-- what a piece adds, and what an edge adds
pub history_piece : (before : List Entry) (d : ℕ) (at : Moment) (bytes : List ℕ) → 0 < length bytes
    → history_after before (got d (piece at bytes)) ≡ of_device d (announcement (unless_known (first_stamp (stream d before)) (Some at)) ++ reports_from (stream d before) (piece at bytes))
history_piece before d at [] some = absurd (omega arith)
history_piece before d at (byte ∷ bytes) some = first_byte before d at byte (piece at bytes) (first_stamp (stream d before)) refl

quiet_edge : (known : Option Moment) (edge : Edge) → announced known (EdgeSymbol edge) ≡ announcement (unless_known known None)
quiet_edge (Some first) edge = refl
quiet_edge None edge = refl

pub history_edge : (before : List Entry) (d : ℕ) (edge : Edge)
    → history_after before (got d (EdgeSymbol edge ∷ [])) ≡ of_device d (announcement (unless_known (first_stamp (stream d before)) None) ++ reports_from (stream d before) (EdgeSymbol edge ∷ []))
unfolding history_after reports_from
history_edge before d edge =
    let s = stream d before in
    append-nil (of_device d (announced (first_stamp s) (EdgeSymbol edge) ++ gained s (EdgeSymbol edge)))
    ∙ ap (λ a. of_device d (a ++ gained s (EdgeSymbol edge))) (quiet_edge (first_stamp s) edge)
    ∙ ap (λ g. of_device d (announcement (unless_known (first_stamp s) None) ++ g)) (sym (append-nil (gained s (EdgeSymbol edge))))

pub gains_are : (stream symbols : List Symbol) (out : List Body) → Gains stream symbols out → out ≡ reports_from stream symbols
gains_are stream symbols out gains =
    sym (drop-append_seam (device_reports stream) out)
    ∙ ap (drop (length (device_reports stream))) (sym gains ∙ reports-append [] stream symbols)
    ∙ drop-append_seam (device_reports stream) (reports_from stream symbols)

-- what the reports of a device give of it, and of another one
pub given_own : {Y : Type 0} (f : Body → Option Y) (d : ℕ) (bodies : List Body) → last_of (given_by f d) (of_device d bodies) ≡ last_of f bodies
given_own f d [] = refl
given_own f d (body ∷ bodies) =
    ap (λ o. option_or o (given_by f d (record { device = d; body = body }))) (given_own f d bodies)
    ∙ ap (λ b. option_or (last_of f bodies) (cond b (f body) None)) (same d)

pub given_other : {Y : Type 0} (f : Body → Option Y) (d e : ℕ) (bodies : List Body) → nat_eq d e ≡ false → last_of (given_by f e) (of_device d bodies) ≡ None
given_other f d e [] other = refl
given_other f d e (body ∷ bodies) other =
    ap (λ o. option_or o (given_by f e (record { device = d; body = body }))) (given_other f d e bodies other)
    ∙ ap (λ b. cond b (f body) None) other

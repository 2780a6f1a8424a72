-- The bytes of a session that asked once: its replies, and then the packets, joined; and the packets of a history.
use Rattle.std.proofs.Common.{◌≡◌, ◌+◌, ◌-◌, ◌==◌, ℕ, zero, suc, Bool, true, false, cond, List, [], ◌∷◌, ◌++◌, Option, Some, None, length, take, drop, nat_eq, refl, sym, ap, subst, ◌∙◌, arith, take-append-drop}
use Rattle.std.specs.Prelude.{slice_index_or}
use Rattle.std.specs.List.{AllByRecursion, concat, list_all}
use Rattle.std.proofs.Math.Seq.{drop-append_seam}
use Rattle.std.proofs.lemmas.Bool.{and_parts, eqb-true}
use Rattle.std.proofs.lemmas.List.{append_assoc, append-nil, length-append, take_all, length-drop}
use Rattle.std.proofs.lemmas.List.Concat.{flat_map-append}
use Rattle.std.proofs.lemmas.List.Folds.{concat-append, list_all-append}
use Rattle.gps_fixed.specs.Moment.{Moment}
use Rattle.gps_report.specs.declared.edge.Symbol.{Symbol}
use Rattle.gps_report.specs.declared.edge.Symbol.TheVariants.{Byte, Edge as EdgeSymbol}
use Rattle.gps_report.specs.declared.packet.Packet.{Packet}
use Rattle.gps_report.specs.declared.packet.PacketKind.{PacketKind}
use Rattle.gps_report.specs.declared.packet.PacketKind.TheVariants.{Nmea, Ubx}
use Rattle.gps_report.specs.declared.report.Body.{Body}
use Rattle.gps_report.specs.declared.report.Body.TheVariants as body
use Rattle.gps_report.specs.declared.report.Report.{Report}
use Rattle.json_line.specs.Lines.{text, text_of}
use Rattle.watch_policy.specs.Selection.{packet_form, watches}
use Rattle.device_core.specs.Reports.{device_close, gained}
use Rattle.device_core.specs.Stream.{notes_in, packets_in}
use Rattle.packet_cut.specs.Packets.{parts_from}
use Rattle.session_core.specs.SessionView.{opening_policy}
use Rattle.session_core.specs.Stretches.{between, selected}
use Rattle.book_batch.specs.Lines.{line_for, line_in}
use Rattle.book_log.specs.Entries.{Entry, Got, Ended, Lost, stream}
use Rattle.book_log.specs.Readings.{first_stamp, of_device}
use Rattle.book_log.specs.History.{announced, history, history_after, reports_at}
use Rattle.book_log.proofs.Histories.{stream-append}
use Rattle.book_log.proofs.HistoryLaws.{whole_history}
use Rattle.book_replies.specs.ReplyDataView.{ReplyDataView}
use Rattle.book_replies.specs.Replies.{opening_reply}
use Rattle.upstream_laws.specs.Alike.{packet_in, reported}
use Rattle.upstream_laws.specs.Joined.{AreWhole, IsWhole, joined}
use Rattle.upstream_laws.specs.Carried.{carried, is_watched, packets_policy, session_bytes, watch_reply}
use Rattle.upstream_laws.specs.Across.{reports_since}
use Rattle.upstream_laws.proofs.Watched.{WatchesOnly, same_truth}
use Rattle.upstream_laws.proofs.Streams.{gained_whole, left_no_packet, new_packets, packets_grow, reported_gained}

-- one report
packet_is : (names : List (List ℕ)) (device : Option (List ℕ)) (number : ℕ) (p : Packet) (kind : PacketKind)
    → concat (line_in names (record { device = number; body = body.Packet p }) (packet_form (packets_policy device) kind)) ≡ p.bytes ++ []
unfolding text text_of
packet_is names device number p Nmea = refl
packet_is names device number p Ubx = refl

line_is : (names : List (List ℕ)) (device : Option (List ℕ)) (number : ℕ) (b : Body)
    → concat (line_for names (packets_policy device) (record { device = number; body = b }))
    ≡ joined (cond (watches device (slice_index_or names number [])) (packet_in b) [])
line_is names device number b = go (watches device (slice_index_or names number [])) refl b
  where
    go : (w : Bool) → watches device (slice_index_or names number []) ≡ w → (b : Body)
        → concat (line_for names (packets_policy device) (record { device = number; body = b })) ≡ joined (cond (watches device (slice_index_or names number [])) (packet_in b) [])
    go false is b = rw is refl
    go true is (body.Packet p) = rw is (packet_is names device number p p.kind)
    go true is (body.Tpv fix) = rw is refl
    go true is (body.Sky sky) = rw is refl
    go true is (body.Toff pair) = rw is refl
    go true is (body.Pps pair) = rw is refl
    go true is (body.Device at) = rw is refl

lines_are : (names : List (List ℕ)) (device : Option (List ℕ)) (reports : List Report)
    → concat (selected (line_for names) (packets_policy device) reports) ≡ joined (carried device names reports)
lines_are names device [] = refl
lines_are names device (report ∷ reports) =
    concat-append (line_for names (packets_policy device) report) (selected (line_for names) (packets_policy device) reports)
    ∙ ap (λ t. t ++ concat (selected (line_for names) (packets_policy device) reports)) (line_is names device report.device report.body)
    ∙ ap (λ t. joined (cond (is_watched device names report) (packet_in report.body) []) ++ t) (lines_are names device reports)
    ∙ sym (flat_map-append (λ p. p.bytes) (cond (is_watched device names report) (packet_in report.body) []) (carried device names reports))

-- nothing is selected before the request
none_before : (names : List (List ℕ)) (reports : List Report) → selected (line_for names) opening_policy reports ≡ []
none_before names [] = refl
none_before names (report ∷ reports) = none_before names reports

pub replies_and_packets : (device : Option (List ℕ)) (names : List (List ℕ)) (opening mark end : ℕ) (known : ReplyDataView) (log : List Entry)
    → session_bytes device names opening mark end known log
    ≡ (opening_reply ++ watch_reply device names known) ++ joined (carried device names (between mark end (history log)))
replies_and_packets device names opening mark end known log =
    ap (λ t. concat ((opening_reply ∷ t) ++ ((watch_reply device names known ∷ lines) ++ []))) (none_before names (between opening mark (history log)))
    ∙ ap (λ t. opening_reply ++ (watch_reply device names known ++ concat t)) (append-nil lines)
    ∙ ap (λ t. opening_reply ++ (watch_reply device names known ++ t)) (lines_are names device (between mark end (history log)))
    ∙ sym (append_assoc opening_reply (watch_reply device names known) (joined (carried device names (between mark end (history log)))))
  where
    lines : List (List ℕ)
    lines = selected (line_for names) (packets_policy device) (between mark end (history log))

-- the packets of a history are whole
abbrev IsCarrier : Report → Type 0
IsCarrier report = AreWhole (packet_in report.body)

all_joined : {X : Type 0} (P : X → Type 0) (xs ys : List X) → AllByRecursion P xs → AllByRecursion P ys → AllByRecursion P (xs ++ ys)
all_joined P [] ys one two = two
all_joined P (x ∷ xs) ys one two = (one.0, all_joined P xs ys one.1 two)

all_front : {X : Type 0} (P : X → Type 0) (xs ys : List X) → AllByRecursion P (xs ++ ys) → AllByRecursion P xs × AllByRecursion P ys
all_front P [] ys all = (tt, all)
all_front P (x ∷ xs) ys all = let rest : AllByRecursion P xs × AllByRecursion P ys = all_front P xs ys all.1 in ((all.0, rest.0), rest.1)

all_taken : {X : Type 0} (P : X → Type 0) (n : ℕ) (xs : List X) → AllByRecursion P xs → AllByRecursion P (take n xs)
all_taken P zero xs all = tt
all_taken P (suc n) [] all = tt
all_taken P (suc n) (x ∷ xs) all = (all.0, all_taken P n xs all.1)

all_dropped : {X : Type 0} (P : X → Type 0) (n : ℕ) (xs : List X) → AllByRecursion P xs → AllByRecursion P (drop n xs)
all_dropped P zero xs all = all
all_dropped P (suc n) [] all = tt
all_dropped P (suc n) (x ∷ xs) all = all_dropped P n xs all.1

carriers : (d : ℕ) (bodies : List Body) → AreWhole (reported bodies) → AllByRecursion IsCarrier (of_device d bodies)
carriers d [] all = tt
carriers d (b ∷ bodies) all =
    let parts : AreWhole (packet_in b) × AreWhole (reported bodies) = all_front IsWhole (packet_in b) (reported bodies) all in (parts.0, carriers d bodies parts.1)

no_announced : (first : Option Moment) (x : Symbol) → reported (announced first x) ≡ []
no_announced (Some first) x = refl
no_announced None (Byte at b) = refl
no_announced None (EdgeSymbol edge) = refl

-- the packets that an entry adds
added : (s : List Symbol) (x : Symbol) → reported (announced (first_stamp s) x ++ gained s x) ≡ new_packets s x
added s x =
    flat_map-append packet_in (announced (first_stamp s) x) (gained s x) ∙ ap (λ t. t ++ reported (gained s x)) (no_announced (first_stamp s) x) ∙ reported_gained s x

closed : (s : List Symbol) → reported (device_close s ++ body.Device None ∷ []) ≡ []
closed s = flat_map-append packet_in (device_close s) (body.Device None ∷ []) ∙ ap (λ t. t ++ []) (left_no_packet (notes_in s))

entry_whole : (before : List Entry) (entry : Entry) → AllByRecursion IsCarrier (reports_at before entry)
entry_whole before (Got d x) =
    carriers d (announced (first_stamp (stream d before)) x ++ gained (stream d before) x)
    (subst AreWhole (reported_gained (stream d before) x ∙ sym (added (stream d before) x)) (gained_whole (stream d before) x))
entry_whole before (Ended d) =
    carriers d (device_close (stream d before) ++ body.Device None ∷ []) (subst AreWhole (sym (closed (stream d before))) tt)
entry_whole before (Lost d) = tt

history_whole : (before log : List Entry) → AllByRecursion IsCarrier (history_after before log)
unfolding history_after
history_whole before [] = tt
history_whole before (entry ∷ log) =
    all_joined IsCarrier (reports_at before entry) (history_after (before ++ entry ∷ []) log) (entry_whole before entry) (history_whole (before ++ entry ∷ []) log)

carried_whole : (device : Option (List ℕ)) (names : List (List ℕ)) (reports : List Report) → AllByRecursion IsCarrier reports → AreWhole (carried device names reports)
carried_whole device names [] all = tt
carried_whole device names (report ∷ reports) all =
    all_joined IsWhole _ (carried device names reports) (chosen (is_watched device names report)) (carried_whole device names reports all.1)
  where
    chosen : (b : Bool) → AreWhole (cond b (packet_in report.body) [])
    chosen true = all.0
    chosen false = tt

pub packets_are_whole : (device : Option (List ℕ)) (names : List (List ℕ)) (mark end : ℕ) (log : List Entry) → AreWhole (carried device names (between mark end (history log)))
packets_are_whole device names mark end log =
    carried_whole device names (between mark end (history log))
    (all_taken IsCarrier (end - mark) (drop mark (history log)) (all_dropped IsCarrier mark (history log) (history_whole [] log)))

-- of one device alone: the packets of its stream
carried-append : (device : Option (List ℕ)) (names : List (List ℕ)) (a b : List Report) → carried device names (a ++ b) ≡ carried device names a ++ carried device names b
carried-append device names a b = flat_map-append (λ report. cond (is_watched device names report) (packet_in report.body) []) a b

-- up to an earlier place of the history they are a beginning
pub further : (device : Option (List ℕ)) (names : List (List ℕ)) (opening mark end : ℕ) (known : ReplyDataView) (log : List Entry)
    → session_bytes device names opening mark (length (history log)) known log
    ≡ session_bytes device names opening mark end known log ++ joined (carried device names (drop (end - mark) (drop mark (history log))))
further device names opening mark end known log =
    let behind : List Report = drop mark (history log) in
    let first : List Packet = carried device names (between mark end (history log)) in
    let others : List Packet = carried device names (drop (end - mark) behind) in
    let replies : List ℕ = opening_reply ++ watch_reply device names known in
    let all : between mark (length (history log)) (history log) ≡ take (end - mark) behind ++ drop (end - mark) behind =
    take_all (length (history log) - mark) behind (omega (arith, length-drop mark (history log))) ∙ sym (take-append-drop (end - mark) behind) in
    replies_and_packets device names opening mark (length (history log)) known log
    ∙ ap (λ reports. replies ++ joined (carried device names reports)) all
    ∙ ap (λ packets. replies ++ joined packets) (carried-append device names (take (end - mark) behind) (drop (end - mark) behind))
    ∙ ap (λ t. replies ++ t) (flat_map-append (λ p. p.bytes) first others)
    ∙ sym (append_assoc replies (joined first) (joined others))
    ∙ ap (λ t. t ++ joined others) (sym (replies_and_packets device names opening mark end known log))

of_truth : (w same : Bool) → same_truth w same ≡ true → w ≡ same
of_truth true same e = sym e
of_truth false true e = cc
of_truth false false e = refl

module _ (device : Option (List ℕ)) (names : List (List ℕ)) (d : ℕ) where
  own : (e : ℕ) (bodies : List Body) → WatchesOnly device names d (of_device e bodies) → carried device names (of_device e bodies) ≡ cond (nat_eq e d) (reported bodies) []
  own e [] all = either (nat_eq e d)
    where
      either : (b : Bool) → [] ≡ cond b (reported []) []
      either true = refl
      either false = refl
  own e (b ∷ bodies) all =
      let parts : (same_truth (watches device (slice_index_or names e [])) (e == d) ≡ true) × WatchesOnly device names d (of_device e bodies) = and_parts _ _ all in
      ap (λ w. cond w (packet_in b) [] ++ carried device names (of_device e bodies)) (of_truth (watches device (slice_index_or names e [])) (e == d) parts.0)
      ∙ ap (λ t. cond (nat_eq e d) (packet_in b) [] ++ t) (own e bodies parts.1) ∙ either (nat_eq e d)
    where
      either : (w : Bool) → cond w (packet_in b) [] ++ cond w (reported bodies) [] ≡ cond w (reported (b ∷ bodies)) []
      either true = refl
      either false = refl

  entry_own : (before : List Entry) (entry : Entry) → WatchesOnly device names d (reports_at before entry)
      → packets_in (stream d before) ++ carried device names (reports_at before entry) ≡ packets_in (stream d (before ++ entry ∷ []))
  entry_own before (Got e x) all =
      ap (λ t. packets_in (stream d before) ++ t) (own e (announced (first_stamp (stream e before)) x ++ gained (stream e before) x) all)
      ∙ either (nat_eq e d) refl
      ∙ ap packets_in (sym (stream-append d before (Got e x ∷ [])))
    where
      either : (same : Bool) → nat_eq e d ≡ same
          → packets_in (stream d before) ++ cond same (reported (announced (first_stamp (stream e before)) x ++ gained (stream e before) x)) []
          ≡ packets_in (stream d before ++ (cond (nat_eq e d) (x ∷ []) [] ++ []))
      either true is =
          let equal : e ≡ d = eqb-true e d is in
          rw (is, equal, added (stream d before) x) (packets_grow (stream d before) x)
      either false is = rw is (append-nil (packets_in (stream d before)) ∙ ap packets_in (sym (append-nil (stream d before))))
  entry_own before (Ended e) all =
      ap (λ t. packets_in (stream d before) ++ t) (own e (device_close (stream e before) ++ body.Device None ∷ []) all ∙ ap (λ t. cond (nat_eq e d) t []) (closed (stream e before)) ∙ either (nat_eq e d))
      ∙ append-nil (packets_in (stream d before)) ∙ ap packets_in (sym (append-nil (stream d before)) ∙ sym (stream-append d before (Ended e ∷ [])))
    where
      either : (b : Bool) → ◌≡◌ {A = List Packet} (cond b [] []) []
      either true = refl
      either false = refl
  entry_own before (Lost e) all =
      append-nil (packets_in (stream d before)) ∙ ap packets_in (sym (append-nil (stream d before)) ∙ sym (stream-append d before (Lost e ∷ [])))

  history_own : (before log : List Entry) → WatchesOnly device names d (history_after before log)
      → packets_in (stream d before) ++ carried device names (history_after before log) ≡ packets_in (stream d (before ++ log))
  unfolding history_after
  history_own before [] all = append-nil (packets_in (stream d before)) ∙ ap (λ t. packets_in (stream d t)) (sym (append-nil before))
  history_own before (entry ∷ log) all =
      let later : List Report = history_after (before ++ entry ∷ []) log in
      let parts : WatchesOnly device names d (reports_at before entry) × WatchesOnly device names d later =
      and_parts _ _ (sym (list_all-append (λ report. same_truth (is_watched device names report) (report.device == d)) (reports_at before entry) later) ∙ all) in
      ap (λ t. packets_in (stream d before) ++ t) (carried-append device names (reports_at before entry) later)
      ∙ sym (append_assoc (packets_in (stream d before)) (carried device names (reports_at before entry)) (carried device names later))
      ∙ ap (λ t. t ++ carried device names later) (entry_own before entry parts.0)
      ∙ history_own (before ++ entry ∷ []) log parts.1 ∙ ap (λ t. packets_in (stream d t)) (append_assoc before (entry ∷ []) log)

  pub gained_packets : (before later : List Entry) → WatchesOnly device names d (history (before ++ later))
      → packets_in (stream d before) ++ carried device names (reports_since before later) ≡ packets_in (stream d (before ++ later))
  gained_packets before later all =
      let whole : history (before ++ later) ≡ history before ++ history_after before later = whole_history before later in
      let parts : WatchesOnly device names d (history before) × WatchesOnly device names d (history_after before later) =
      and_parts _ _ (sym (ap (list_all (λ report. same_truth (is_watched device names report) (report.device == d))) whole
      ∙ list_all-append (λ report. same_truth (is_watched device names report) (report.device == d)) (history before) (history_after before later)) ∙ all) in
      let dropped : drop (length (history before)) (history (before ++ later)) ≡ history_after before later =
      ap (drop (length (history before))) whole ∙ drop-append_seam (history before) (history_after before later) in
      let size : length (history (before ++ later)) ≡ length (history before) + length (history_after before later) =
      ap length whole ∙ length-append (history before) (history_after before later) in
      let cut : reports_since before later ≡ history_after before later =
      ap (take (length (history (before ++ later)) - length (history before))) dropped ∙ take_all _ (history_after before later) (omega arith) in
      ap (λ reports. packets_in (stream d before) ++ carried device names reports) cut ∙ history_own before later parts.1

  -- of a device that had no byte before
  pub all_of_device : (before later : List Entry) → WatchesOnly device names d (history (before ++ later)) → stream d before ≡ []
      → carried device names (reports_since before later) ≡ packets_in (stream d (before ++ later))
  unfolding parts_from
  all_of_device before later all none =
      let start : packets_in (stream d before) ≡ [] = ap packets_in none in
      ap (λ t. t ++ carried device names (reports_since before later)) (sym start) ∙ gained_packets before later all

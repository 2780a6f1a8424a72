-- No stamp of a report lies before 1970, if none of the device's stream does. So each sample of a unit is read back from its words.
use Rattle.std.proofs.Common.{◌≡◌, ℕ, zero, suc, ◌+◌, ◌-◌, Bool, true, false, cond, ◌&&◌, List, [], ◌∷◌, ◌++◌, map, take, drop, sym, subst, arith, Option, Some, None, IfSome, option_map, option_to_list}
use Rattle.std.specs.Prelude.{ℤ, pos, ◌≤ℤ◌, reverse, unsigned_abs, unwrap_or}
use Rattle.std.specs.Int.{w64, cast_signed, cast_unsigned}
use Rattle.std.specs.List.{AllByRecursion}
use Rattle.std.specs.Option.{option_or}
use Rattle.std.proofs.lemmas.Int.{ints}
use Rattle.std.proofs.lemmas.List.{reverse-append}
use Rattle.std.proofs.lemmas.List.Concat.{flat_map-cons}
use Rattle.gps_fixed.specs.Moment.{Moment}
use Rattle.gps_report.specs.declared.edge.Edge.{Edge}
use Rattle.gps_report.specs.declared.edge.Symbol.{Symbol}
use Rattle.gps_report.specs.declared.edge.Symbol.TheVariants.{Byte, Edge as EdgeSymbol}
use Rattle.gps_report.specs.declared.fix.Pair.{Pair}
use Rattle.gps_report.specs.declared.packet.Packet.{Packet}
use Rattle.gps_report.specs.declared.report.Body.{Body}
use Rattle.gps_report.specs.declared.report.Body.TheVariants as body
use Rattle.gps_report.specs.declared.report.Report.{Report}
use Rattle.packet_cut.specs.declared.head.Head.{Head}
use Rattle.packet_cut.specs.declared.head.Head.TheVariants as head
use Rattle.packet_cut.specs.Packets.{Part, Stamped, by_head, head_of_stream, packet, parts_from}
use Rattle.epoch_core.specs.declared.heard.Heard.{Heard}
use Rattle.epoch_core.specs.Days.{Dated, dated}
use Rattle.epoch_core.specs.Epochs.{all_closed, all_told, begins, closing, epochs, epochs_of, has_ended, joined, left, reports, running, sky_of, toffs}
use Rattle.epoch_core.specs.Fixes.{fix_of}
use Rattle.epoch_core.specs.Past.{earliest}
use Rattle.epoch_core.specs.Quantities.{said, serial_time, stamped}
use Rattle.pps_edges.specs.Pulse.{paired, pps_of, pulse, last_assert, is_next, is_second_after, is_fresh, is_assert}
use Rattle.device_core.specs.Reports.{all_told as packets_told, beyond, device_close, gained, last_toff, told, toff_in}
use Rattle.device_core.specs.Stream.{byte_in, bytes_in, edges_in, heard, notes_in, notes_of, packets_in}
use Rattle.book_log.specs.Entries.{Entry, Got, Ended, Lost, stream, symbol_of}
use Rattle.book_log.specs.History.{announced, history, history_after, reports_at}
use Rattle.book_log.specs.Readings.{first_stamp, of_device}
use Rattle.book_units.specs.Samples.{pulse_precision, sample_of, samples_in, samples_of, serial_precision}
use Rattle.replay_laws.proofs.Loads.{IsKept}

abbrev pub IsLate : Moment → Type 0
IsLate at = pos 0 ≤ℤ at.sec

abbrev pub IsLateSymbol : Symbol → Type 0
IsLateSymbol (Byte at byte) = IsLate at
IsLateSymbol (EdgeSymbol edge) = IsLate edge.at

-- ---- lists
pub all_both : {X : Type 0} (P : X → Type 0) (xs ys : List X) → AllByRecursion P xs → AllByRecursion P ys → AllByRecursion P (xs ++ ys)
all_both P [] ys a b = b
all_both P (x ∷ xs) ys a b = (a.0, all_both P xs ys a.1 b)

pub all_map : {X Y : Type 0} (f : X → Y) (P : X → Type 0) (Q : Y → Type 0) → ((x : X) → P x → Q (f x)) → (xs : List X) → AllByRecursion P xs → AllByRecursion Q (map f xs)
all_map f P Q h [] a = tt
all_map f P Q h (x ∷ xs) a = (h x a.0, all_map f P Q h xs a.1)

all_drop : {X : Type 0} (P : X → Type 0) (n : ℕ) (xs : List X) → AllByRecursion P xs → AllByRecursion P (drop n xs)
all_drop P zero [] a = tt
all_drop P zero (x ∷ xs) a = a
all_drop P (suc n) [] a = tt
all_drop P (suc n) (x ∷ xs) a = all_drop P n xs a.1

all_where : {X : Type 0} (P : X → Type 0) (b : Bool) (xs : List X) → AllByRecursion P xs → AllByRecursion P (cond b xs [])
all_where P true xs a = a
all_where P false xs a = tt

all_onto : {X : Type 0} (P : X → Type 0) (xs : List X) → AllByRecursion P xs → AllByRecursion P (reverse xs)
all_onto P [] a = tt
all_onto P (x ∷ xs) a = subst (AllByRecursion P) (sym (reverse-append (x ∷ []) xs)) (all_both P (reverse xs) (x ∷ []) (all_onto P xs a.1) (a.0, tt))

-- ---- bytes and packets
abbrev IsLateByte : Stamped → Type 0
IsLateByte b = IsLate b.0

abbrev IsLatePart : Part Stamped → Type 0
IsLatePart part = IsLate part.first.0

parts_in : (place skip : ℕ) (items : List Stamped) → AllByRecursion IsLateByte items → AllByRecursion IsLatePart (parts_from head_of_stream place skip items)
unfolding parts_from
parts_in place zero [] all = tt
parts_in place (suc skip) [] all = tt
parts_in place (suc skip) (item ∷ items) all = parts_in (place + 1) skip items all.1
parts_in place zero (item ∷ items) all = by_heads (head_of_stream (item ∷ items)) (λ n. parts_in (place + 1) (n - 1) items all.1) (parts_in (place + 1) 0 items all.1)
  where
    by_heads : (h : Head) → ((n : ℕ) → AllByRecursion IsLatePart (parts_from head_of_stream (place + 1) (n - 1) items)) → AllByRecursion IsLatePart (parts_from head_of_stream (place + 1) 0 items)
        → AllByRecursion IsLatePart (by_head (λ kind n. record { kind = kind; start = place; first = item; items = take n (item ∷ items) } ∷ parts_from head_of_stream (place + 1) (n - 1) items) [] (parts_from head_of_stream (place + 1) 0 items) h)
    by_heads (head.Packet kind n) more junk = (all.0, more n)
    by_heads head.Pending more junk = tt
    by_heads head.Junk more junk = junk

abbrev IsLatePacket : Packet → Type 0
IsLatePacket p = IsLate p.at

bytes_are : (symbols : List Symbol) → AllByRecursion IsLateSymbol symbols → AllByRecursion IsLateByte (bytes_in symbols)
bytes_are [] all = tt
bytes_are (Byte at byte ∷ symbols) all = subst (AllByRecursion IsLateByte) (sym (flat_map-cons byte_in (Byte at byte) symbols)) (all.0, bytes_are symbols all.1)
bytes_are (EdgeSymbol edge ∷ symbols) all = subst (AllByRecursion IsLateByte) (sym (flat_map-cons byte_in (EdgeSymbol edge) symbols)) (bytes_are symbols all.1)

packets_are : (symbols : List Symbol) → AllByRecursion IsLateSymbol symbols → AllByRecursion IsLatePacket (packets_in symbols)
packets_are symbols all = all_map packet IsLatePart IsLatePacket (λ part late. late) (parts_from head_of_stream 0 0 (bytes_in symbols)) (parts_in 0 0 (bytes_in symbols) (bytes_are symbols all))

-- ---- epochs
abbrev IsLateNote : Heard → Type 0
IsLateNote h = IsLate h.first

notes_are : (packets : List Packet) → AllByRecursion IsLatePacket packets → AllByRecursion IsLateNote (notes_of packets)
notes_are packets all = all_map heard IsLatePacket IsLateNote (λ p late. late) packets all

abbrev Good : List Dated → Type 0
Good epoch = AllByRecursion (λ (d : Dated). IsLate d.first) epoch

dated_are : (past : List Heard) → AllByRecursion IsLateNote past → Good (dated past)
unfolding dated
dated_are [] all = tt
dated_are (h ∷ past) all = (all.0, dated_are past all.1)

joined_are : (d : Dated) (es : List (List Dated)) → IsLate d.first → AllByRecursion Good es → AllByRecursion Good (joined d es)
joined_are d [] late all = ((late, tt), tt)
joined_are d (epoch ∷ earlier) late all = by_test (begins d epoch)
  where
    by_test : (b : Bool) → AllByRecursion Good (cond b ((d ∷ []) ∷ epoch ∷ earlier) ((d ∷ epoch) ∷ earlier))
    by_test true = ((late, tt), all)
    by_test false = ((late, all.0), all.1)

epochs_are : (past : List Dated) → Good past → AllByRecursion Good (epochs past)
unfolding epochs
epochs_are [] all = tt
epochs_are (d ∷ past) all = joined_are d (epochs past) all.0 (epochs_are past all.1)

-- a pair of clocks that are not before 1970
abbrev pub IsLatePair : Pair → Type 0
IsLatePair pair = IsLate pair.reference × IsLate pair.host

abbrev pub IsLateBody : Body → Type 0
IsLateBody (body.Packet p) = Unit {0}
IsLateBody (body.Tpv fix) = Unit {0}
IsLateBody (body.Sky sky) = Unit {0}
IsLateBody (body.Toff pair) = IsLatePair pair
IsLateBody (body.Pps pair) = IsLatePair pair
IsLateBody (body.Device activated) = Unit {0}

serial_is : (tod day : Option ℕ) → IfSome (serial_time tod day) IsLate
serial_is None day = tt
serial_is (Some tod) None = tt
serial_is (Some tod) (Some day) = omega (arith, ints)

or_is : {X : Type 0} (P : X → Type 0) (a b : Option X) → IfSome a P → IfSome b P → IfSome (option_or a b) P
or_is P None b p q = q
or_is P (Some x) b p q = p

stamped_is : (epoch : List Dated) → IfSome (earliest stamped epoch) IsLate
stamped_is [] = tt
stamped_is (d ∷ past) = or_is IsLate (earliest stamped past) (stamped d) (stamped_is past) (serial_is d.note.tod d.day)

first_is : (epoch : List Dated) → Good epoch → IfSome (earliest (λ (d : Dated). Some d.first) epoch) IsLate
first_is [] all = tt
first_is (d ∷ past) all = or_is IsLate (earliest (λ (e : Dated). Some e.first) past) (Some d.first) (first_is past all.1) all.0

toffs_are : (epoch : List Dated) → Good epoch → AllByRecursion IsLateBody (toffs epoch)
unfolding said
toffs_are epoch all = by_stamp (earliest stamped epoch) (earliest (λ (d : Dated). Some d.first) epoch) (stamped_is epoch) (first_is epoch all)
  where
    by_stamp : (at first : Option Moment) → IfSome at IsLate → IfSome first IsLate → AllByRecursion IsLateBody (option_to_list (option_map (λ x. body.Toff (record { reference = x; host = unwrap_or first x })) at))
    by_stamp None first h k = tt
    by_stamp (Some at) None h k = ((h, h), tt)
    by_stamp (Some at) (Some first) h k = ((h, k), tt)

-- a closed epoch gives no pair
closing_are : (epoch : List Dated) → AllByRecursion IsLateBody (closing epoch)
unfolding closing
closing_are epoch =
    all_both IsLateBody (cond (said epoch).has_fix (body.Tpv (fix_of (said epoch)) ∷ []) []) (cond (said epoch).has_sky (body.Sky (sky_of epoch) ∷ []) [])
    (all_where IsLateBody (said epoch).has_fix (body.Tpv (fix_of (said epoch)) ∷ []) (tt, tt)) (all_where IsLateBody (said epoch).has_sky (body.Sky (sky_of epoch) ∷ []) (tt, tt))

all_closed_are : (es : List (List Dated)) → AllByRecursion Good es → AllByRecursion IsLateBody (all_closed es)
all_closed_are [] all = tt
all_closed_are (epoch ∷ earlier) all =
    all_both IsLateBody (all_closed earlier ++ toffs epoch) (closing epoch) (all_both IsLateBody (all_closed earlier) (toffs epoch) (all_closed_are earlier all.1) (toffs_are epoch all.0)) (closing_are epoch)

all_told_are : (es : List (List Dated)) → AllByRecursion Good es → AllByRecursion IsLateBody (all_told es)
all_told_are [] all = tt
all_told_are (epoch ∷ earlier) all =
    all_both IsLateBody (all_closed earlier ++ toffs epoch) (cond (has_ended epoch) (closing epoch) []) (all_both IsLateBody (all_closed earlier) (toffs epoch) (all_closed_are earlier all.1) (toffs_are epoch all.0))
    (all_where IsLateBody (has_ended epoch) (closing epoch) (closing_are epoch))

reports_are : (notes : List Heard) → AllByRecursion IsLateNote notes → AllByRecursion IsLateBody (reports notes)
unfolding reports
reports_are notes all = all_told_are (epochs_of notes) (epochs_are (dated (reverse notes)) (dated_are (reverse notes) (all_onto IsLateNote notes all)))

left_are : (notes : List Heard) → AllByRecursion IsLateBody (left notes)
unfolding left
left_are notes = closing_are (running (epochs_of notes))

-- ---- what a symbol adds
told_are : (before : List Packet) (p : Packet) → AllByRecursion IsLatePacket before → IsLatePacket p → AllByRecursion IsLateBody (told before p)
told_are before p all late = (tt, all_drop IsLateBody _ (reports (notes_of (before ++ p ∷ []))) (reports_are (notes_of (before ++ p ∷ [])) (notes_are (before ++ p ∷ []) (all_both IsLatePacket before (p ∷ []) all (late, tt)))))

packets_told_are : (before packets : List Packet) → AllByRecursion IsLatePacket before → AllByRecursion IsLatePacket packets → AllByRecursion IsLateBody (packets_told before packets)
packets_told_are before [] all more = tt
packets_told_are before (p ∷ packets) all more =
    all_both IsLateBody (told before p) (packets_told (before ++ p ∷ []) packets) (told_are before p all more.0)
    (packets_told_are (before ++ p ∷ []) packets (all_both IsLatePacket before (p ∷ []) all (more.0, tt)) more.1)

toff_is : (b : Body) → IsLateBody b → IfSome (toff_in b) IsLatePair
toff_is (body.Packet p) h = tt
toff_is (body.Tpv fix) h = tt
toff_is (body.Sky s) h = tt
toff_is (body.Toff pair) h = h
toff_is (body.Pps pair) h = tt
toff_is (body.Device activated) h = tt

last_is : (bodies : List Body) → AllByRecursion IsLateBody bodies → IfSome (last_toff bodies) IsLatePair
last_is [] all = tt
last_is (b ∷ more) all = or_is IsLatePair (last_toff more) (toff_in b) (last_is more all.1) (toff_is b all.0)

pulse_is : (toff : Pair) (edge : Edge) → IsLatePair toff → IsLate edge.at → IsLatePair (pulse toff edge)
pulse_is toff edge h at = let low = h.0 in (omega (arith, ints, low), at)

paired_are : (edge : Edge) (last : Option Edge) (toff : Option Pair) → IfSome toff IsLatePair → IsLate edge.at → AllByRecursion IsLateBody (option_to_list (option_map (λ pair. body.Pps pair) (paired edge last toff)))
unfolding paired
paired_are edge None toff h at = tt
paired_are edge (Some last) None h at = tt
paired_are edge (Some last) (Some toff) h at = by_test (is_next last edge && is_second_after last edge && is_fresh toff edge)
  where
    by_test : (b : Bool) → AllByRecursion IsLateBody (option_to_list (option_map (λ pair. body.Pps pair) (cond b (Some (pulse toff edge)) None)))
    by_test true = (pulse_is toff edge h at, tt)
    by_test false = tt

pps_are : (past : List Edge) (toff : Option Pair) (edge : Edge) → IfSome toff IsLatePair → IsLate edge.at → AllByRecursion IsLateBody (option_to_list (option_map (λ pair. body.Pps pair) (pps_of past toff edge)))
unfolding pps_of
pps_are past toff edge h at = by_test (is_assert edge.kind)
  where
    by_test : (b : Bool) → AllByRecursion IsLateBody (option_to_list (option_map (λ pair. body.Pps pair) (cond b (paired edge (last_assert past) toff) None)))
    by_test true = paired_are edge (last_assert past) toff h at
    by_test false = tt

gained_are : (before : List Symbol) (symbol : Symbol) → AllByRecursion IsLateSymbol before → IsLateSymbol symbol → AllByRecursion IsLateBody (gained before symbol)
gained_are before (Byte at byte) all late =
    packets_told_are (packets_in before) (beyond (packets_in before) (packets_in (before ++ Byte at byte ∷ []))) (packets_are before all)
    (all_drop IsLatePacket _ (packets_in (before ++ Byte at byte ∷ [])) (packets_are (before ++ Byte at byte ∷ []) (all_both IsLateSymbol before (Byte at byte ∷ []) all (late, tt))))
gained_are before (EdgeSymbol edge) all late =
    pps_are (edges_in before) (last_toff (reports (notes_in before))) edge (last_is (reports (notes_in before)) (reports_are (notes_in before) (notes_are (packets_in before) (packets_are before all)))) late

-- ---- the history of a log
abbrev pub IsLateEntry : Entry → Type 0
IsLateEntry (Got d symbol) = IsLateSymbol symbol
IsLateEntry (Ended d) = Unit {0}
IsLateEntry (Lost d) = Unit {0}

stream_is : (d : ℕ) (log : List Entry) → AllByRecursion IsLateEntry log → AllByRecursion IsLateSymbol (stream d log)
stream_is d [] all = tt
stream_is d (entry ∷ log) all = all_both IsLateSymbol (symbol_of d entry) (stream d log) (symbol_is entry all.0) (stream_is d log all.1)
  where
    symbol_is : (entry : Entry) → IsLateEntry entry → AllByRecursion IsLateSymbol (symbol_of d entry)
    symbol_is (Got e symbol) late = all_where IsLateSymbol _ (symbol ∷ []) (late, tt)
    symbol_is (Ended e) late = tt
    symbol_is (Lost e) late = tt

abbrev IsLateReport : Report → Type 0
IsLateReport r = IsLateBody r.body

announced_are : (first : Option Moment) (symbol : Symbol) → AllByRecursion IsLateBody (announced first symbol)
announced_are (Some at) symbol = tt
announced_are None (Byte at byte) = (tt, tt)
announced_are None (EdgeSymbol edge) = tt

of_device_are : (d : ℕ) (bodies : List Body) → AllByRecursion IsLateBody bodies → AllByRecursion IsLateReport (of_device d bodies)
of_device_are d bodies all = all_map (λ (b : Body). record { device = d; body = b }) IsLateBody IsLateReport (λ b late. late) bodies all

entry_are : (before : List Entry) (entry : Entry) → AllByRecursion IsLateEntry before → IsLateEntry entry → AllByRecursion IsLateReport (reports_at before entry)
entry_are before (Got d symbol) all late =
    of_device_are d (announced (first_stamp (stream d before)) symbol ++ gained (stream d before) symbol)
    (all_both IsLateBody (announced (first_stamp (stream d before)) symbol) (gained (stream d before) symbol) (announced_are (first_stamp (stream d before)) symbol) (gained_are (stream d before) symbol (stream_is d before all) late))
entry_are before (Ended d) all late =
    of_device_are d (device_close (stream d before) ++ body.Device None ∷ [])
    (all_both IsLateBody (device_close (stream d before)) (body.Device None ∷ []) (left_are (notes_in (stream d before))) (tt, tt))
entry_are before (Lost d) all late = tt

after_are : (before log : List Entry) → AllByRecursion IsLateEntry before → AllByRecursion IsLateEntry log → AllByRecursion IsLateReport (history_after before log)
unfolding history_after
after_are before [] all more = tt
after_are before (entry ∷ log) all more =
    all_both IsLateReport (reports_at before entry) (history_after (before ++ entry ∷ []) log) (entry_are before entry all more.0)
    (after_are (before ++ entry ∷ []) log (all_both IsLateEntry before (entry ∷ []) all (more.0, tt)) more.1)

-- ---- samples
unsigned : (z : ℤ) → pos 0 ≤ℤ z → pos (unsigned_abs z) ≡ z
unsigned z low = omega (arith, ints)

serial_back : cast_signed w64 (cast_unsigned w64 serial_precision) ≡ serial_precision
serial_back = omega (arith, ints)

pulse_back : cast_signed w64 (cast_unsigned w64 pulse_precision) ≡ pulse_precision
pulse_back = omega (arith, ints)

pair_kept : (precision : ℤ) (pair : Pair) → cast_signed w64 (cast_unsigned w64 precision) ≡ precision → IsLatePair pair → IsKept (sample_of precision pair)
pair_kept precision pair back late =
    let reference = unsigned pair.reference.sec late.0 in
    let host = unsigned pair.host.sec late.1 in
    λ i. record { reference = record { sec = reference i; nsec = pair.reference.nsec }; host = record { sec = host i; nsec = pair.host.nsec }; precision = back i }

body_kept : (u device : ℕ) (b : Body) → IsLateBody b → AllByRecursion IsKept (samples_in u device b)
body_kept u device (body.Packet p) late = tt
body_kept u device (body.Tpv fix) late = tt
body_kept u device (body.Sky sky) late = tt
body_kept u device (body.Toff pair) late = all_where IsKept _ (sample_of serial_precision pair ∷ []) (pair_kept serial_precision pair serial_back late, tt)
body_kept u device (body.Pps pair) late = all_where IsKept _ (sample_of pulse_precision pair ∷ []) (pair_kept pulse_precision pair pulse_back late, tt)
body_kept u device (body.Device activated) late = tt

reports_kept : (u : ℕ) (reports : List Report) → AllByRecursion IsLateReport reports → AllByRecursion IsKept (samples_of u reports)
reports_kept u [] all = tt
reports_kept u (r ∷ more) all = all_both IsKept (samples_in u r.device r.body) (samples_of u more) (body_kept u r.device r.body all.0) (reports_kept u more all.1)

-- each sample of a unit is read back from its words
pub samples_kept : (u : ℕ) (log : List Entry) → AllByRecursion IsLateEntry log → AllByRecursion IsKept (samples_of u (history log))
samples_kept u log all = reports_kept u (history log) (after_are [] log tt all)

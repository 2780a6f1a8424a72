-- The reports of a device's stream are within the ranges of a line, and each is read back from its line.
use Rattle.std.proofs.Common.{◌≡◌, ℕ, zero, suc, ◌+◌, ◌-◌, ◌<◌, Bool, true, false, cond, ◌&&◌, List, [], ◌∷◌, ◌++◌, length, take, drop, refl, sym, ap, subst, arith, Option, Some, None, IfSome, option_map, option_to_list}
use Rattle.std.specs.List.{list_all, AllByRecursion}
use Rattle.std.specs.Option.{option_or}
use Rattle.std.proofs.lemmas.Bool.{and_from, lt-ltb}
use Rattle.std.proofs.lemmas.Int.{ints}
use Rattle.std.proofs.lemmas.List.Concat.{flat_map-cons}
use Rattle.gps_fixed.specs.Iso.{in_milliseconds}
use Rattle.gps_fixed.specs.Moment.{Moment}
use Rattle.gps_fixed.proofs.IsoLaws.{same_text}
use Rattle.gps_report.specs.declared.edge.Edge.{Edge}
use Rattle.gps_report.specs.declared.edge.Symbol.{Symbol}
use Rattle.gps_report.specs.declared.edge.Symbol.TheVariants.{Byte, Edge as EdgeSymbol}
use Rattle.gps_report.specs.declared.fix.Pair.{Pair}
use Rattle.gps_report.specs.declared.fix.Fix.{Fix}
use Rattle.gps_report.specs.declared.fix.Sky.{Sky}
use Rattle.gps_report.specs.declared.packet.Packet.{Packet}
use Rattle.gps_report.specs.declared.packet.PacketKind.{PacketKind}
use Rattle.gps_report.specs.declared.packet.PacketKind.TheVariants.{Nmea, Ubx}
use Rattle.gps_report.specs.declared.report.Body.{Body}
use Rattle.gps_report.specs.declared.report.Body.TheVariants as body
use Rattle.packet_cut.specs.declared.head.Head.{Head}
use Rattle.packet_cut.specs.declared.head.Head.TheVariants as head
use Rattle.packet_cut.specs.Packets.{Part, Stamped, by_head, bytes_of, head_of_stream, packet, packets_of, parts_from}
use Rattle.ubx_frame.specs.Frame.{is_byte}
use Rattle.epoch_core.specs.Epochs.{reports}
use Rattle.pps_edges.specs.Pulse.{paired, pps_of, pulse, last_assert, is_next, is_second_after, is_fresh, is_assert}
use Rattle.device_core.specs.Reports.{all_told, beyond, device_close, device_reports, gained, last_toff, reports_from, told, toff_in}
use Rattle.device_core.specs.Stream.{byte_in, bytes_in, edges_in, heard, notes_in, notes_of, packets_in}
use Rattle.std.specs.Fmt.{decimal}
use Rattle.std.specs.Prelude.{codes, count_by}
use Rattle.json_line.specs.declared.names.Class.TheVariants as class
use Rattle.json_line.specs.Json.{array, closing, fixed, hundredths, line_end, member, member_if, quoted, time}
use Rattle.json_line.specs.Names.{head_of, label_of}
use Rattle.json_line.specs.declared.names.Key.{Key}
use Rattle.json_line.specs.declared.names.Key.TheVariants as key
use Rattle.json_line.specs.Lines.{device, object as json_object, position_members, satellite, sky, text as line_text, toff, tpv}
use Rattle.gps_client.specs.History.{AreReadBack, IsCountable, IsReadBack, IsStream, IsSymbol, cut_fix, cut_sky, cut_time}
use Rattle.gps_client.specs.Ranges.{IsName, IsStamp}
use Rattle.gps_client.specs.Texts.{object}
use Rattle.gps_client.proofs.Epoched.{BodyIn, IsHeard, IsLow, all_both, all_map, cut_in, left_in, reports_in}
use Rattle.gps_client.proofs.Noted.{sentence_fits, sentence_ranged, frame_ranged}
use Rattle.ubx_decode.proofs.Fitting.{frame_fits}

-- ---- bytes and packets
abbrev IsByte : Stamped → Type 0
IsByte b = IsStamp b.0 × (b.1 < 256)

all_take : {X : Type 0} (P : X → Type 0) (n : ℕ) (xs : List X) → AllByRecursion P xs → AllByRecursion P (take n xs)
all_take P zero [] a = tt
all_take P zero (x ∷ xs) a = tt
all_take P (suc n) [] a = tt
all_take P (suc n) (x ∷ xs) a = (a.0, all_take P n xs a.1)

all_drop : {X : Type 0} (P : X → Type 0) (n : ℕ) (xs : List X) → AllByRecursion P xs → AllByRecursion P (drop n xs)
all_drop P zero [] a = tt
all_drop P zero (x ∷ xs) a = a
all_drop P (suc n) [] a = tt
all_drop P (suc n) (x ∷ xs) a = all_drop P n xs a.1

record IsPartIn (part : Part Stamped) : Type 0 where
  first_in : IsByte part.first
  items_in : AllByRecursion IsByte part.items

parts_in : (place skip : ℕ) (items : List Stamped) → AllByRecursion IsByte items → AllByRecursion IsPartIn (parts_from head_of_stream place skip items)
unfolding parts_from
parts_in place zero [] all = tt
parts_in place (suc skip) [] all = tt
parts_in place (suc skip) (item ∷ items) all = parts_in (place + 1) skip items all.1
parts_in place zero (item ∷ items) all = by_heads (head_of_stream (item ∷ items)) (λ n. parts_in (place + 1) (n - 1) items all.1) (parts_in (place + 1) 0 items all.1)
  where
    by_heads : (h : Head) → ((n : ℕ) → AllByRecursion IsPartIn (parts_from head_of_stream (place + 1) (n - 1) items)) → AllByRecursion IsPartIn (parts_from head_of_stream (place + 1) 0 items)
        → AllByRecursion IsPartIn (by_head (λ kind n. record { kind = kind; start = place; first = item; items = take n (item ∷ items) } ∷ parts_from head_of_stream (place + 1) (n - 1) items) [] (parts_from head_of_stream (place + 1) 0 items) h)
    by_heads (head.Packet kind n) more junk = (record { first_in = all.0; items_in = all_take IsByte n (item ∷ items) all }, more n)
    by_heads head.Pending more junk = tt
    by_heads head.Junk more junk = junk

record IsPacketIn (p : Packet) : Type 0 where
  at_in : IsStamp p.at
  bytes_in : list_all is_byte p.bytes ≡ true

bytes_pass : (items : List Stamped) → AllByRecursion IsByte items → list_all is_byte (bytes_of items) ≡ true
bytes_pass [] all = refl
bytes_pass (item ∷ items) all = and_from (is_byte item.1) (list_all is_byte (bytes_of items)) (lt-ltb item.1 256 all.0.1) (bytes_pass items all.1)

packets_are : (stream : List Stamped) → AllByRecursion IsByte stream → AllByRecursion IsPacketIn (packets_of stream)
packets_are stream all = all_map packet IsPartIn IsPacketIn (λ part is. record { at_in = is.first_in.0; bytes_in = bytes_pass part.items is.items_in }) (parts_from head_of_stream 0 0 stream) (parts_in 0 0 stream all)

bytes_are : (stream : List Symbol) → IsStream stream → AllByRecursion IsByte (bytes_in stream)
bytes_are [] all = tt
bytes_are (Byte at byte ∷ stream) all = subst (AllByRecursion IsByte) (sym (flat_map-cons byte_in (Byte at byte) stream)) (all.0, bytes_are stream all.1)
bytes_are (EdgeSymbol edge ∷ stream) all = subst (AllByRecursion IsByte) (sym (flat_map-cons byte_in (EdgeSymbol edge) stream)) (bytes_are stream all.1)

in_packets : (stream : List Symbol) → IsStream stream → AllByRecursion IsPacketIn (packets_in stream)
in_packets stream all = packets_are (bytes_in stream) (bytes_are stream all)

heard_in : (p : Packet) → IsPacketIn p → IsHeard (heard p)
heard_in p is = by_kind p.kind p.bytes p.at is.bytes_in is.at_in
  where
    by_kind : (kind : PacketKind) (bytes : List ℕ) (at : Moment) → list_all is_byte bytes ≡ true → IsStamp at → IsHeard (heard (record { kind = kind; at = at; bytes = bytes }))
    by_kind Nmea bytes at all stamp = record { fits = sentence_fits bytes; ranged = sentence_ranged bytes; first = stamp }
    by_kind Ubx bytes at all stamp = record { fits = frame_fits bytes all; ranged = frame_ranged bytes all; first = stamp }

notes_are : (packets : List Packet) → AllByRecursion IsPacketIn packets → AllByRecursion IsHeard (notes_of packets)
notes_are packets all = all_map heard IsPacketIn IsHeard heard_in packets all

-- ---- reports
told_in : (before : List Packet) (p : Packet) → AllByRecursion IsPacketIn before → IsPacketIn p → AllByRecursion BodyIn (told before p)
told_in before p all is = (tt, all_drop BodyIn _ (reports (notes_of (before ++ p ∷ []))) (reports_in (notes_of (before ++ p ∷ [])) (notes_are (before ++ p ∷ []) (all_both IsPacketIn before (p ∷ []) all (is, tt)))))

all_told_in : (before packets : List Packet) → AllByRecursion IsPacketIn before → AllByRecursion IsPacketIn packets → AllByRecursion BodyIn (all_told before packets)
all_told_in before [] all more = tt
all_told_in before (p ∷ packets) all more =
    all_both BodyIn (told before p) (all_told (before ++ p ∷ []) packets) (told_in before p all more.0)
    (all_told_in (before ++ p ∷ []) packets (all_both IsPacketIn before (p ∷ []) all (more.0, tt)) more.1)

-- the serial time before an edge leaves a second
abbrev IsPairIn : Pair → Type 0
IsPairIn pair = IsLow pair.reference × IsStamp pair.host

toff_is : (b : Body) → BodyIn b → IfSome (toff_in b) IsPairIn
toff_is (body.Packet p) h = tt
toff_is (body.Tpv fix) h = tt
toff_is (body.Sky s) h = tt
toff_is (body.Toff pair) h = h
toff_is (body.Pps pair) h = tt
toff_is (body.Device activated) h = tt

or_pair : (a b : Option Pair) → IfSome a IsPairIn → IfSome b IsPairIn → IfSome (option_or a b) IsPairIn
or_pair None b p q = q
or_pair (Some x) b p q = p

last_is : (bodies : List Body) → AllByRecursion BodyIn bodies → IfSome (last_toff bodies) IsPairIn
last_is [] all = tt
last_is (b ∷ more) all = or_pair (last_toff more) (toff_in b) (last_is more all.1) (toff_is b all.0)

pulse_in : (toff : Pair) (edge : Edge) → IsPairIn toff → IsStamp edge.at → BodyIn (body.Pps (pulse toff edge))
pulse_in toff edge h at = record { reference_in = record { from = omega (arith, ints, h.0.stamp.from); to = omega (arith, ints, h.0.low); within = omega arith }; host_in = at }

paired_in : (edge : Edge) (last : Option Edge) (toff : Option Pair) → IfSome toff IsPairIn → IsStamp edge.at → AllByRecursion BodyIn (option_to_list (option_map (λ pair. body.Pps pair) (paired edge last toff)))
unfolding paired
paired_in edge None toff h at = tt
paired_in edge (Some last) None h at = tt
paired_in edge (Some last) (Some toff) h at = by_test (is_next last edge && is_second_after last edge && is_fresh toff edge)
  where
    by_test : (b : Bool) → AllByRecursion BodyIn (option_to_list (option_map (λ pair. body.Pps pair) (cond b (Some (pulse toff edge)) None)))
    by_test true = (pulse_in toff edge h at, tt)
    by_test false = tt

pps_in : (past : List Edge) (toff : Option Pair) (edge : Edge) → IfSome toff IsPairIn → IsStamp edge.at → AllByRecursion BodyIn (option_to_list (option_map (λ pair. body.Pps pair) (pps_of past toff edge)))
unfolding pps_of
pps_in past toff edge h at = by_test (is_assert edge.kind)
  where
    by_test : (b : Bool) → AllByRecursion BodyIn (option_to_list (option_map (λ pair. body.Pps pair) (cond b (paired edge (last_assert past) toff) None)))
    by_test true = paired_in edge (last_assert past) toff h at
    by_test false = tt

gained_in : (before : List Symbol) (symbol : Symbol) → IsStream before → IsSymbol symbol → AllByRecursion BodyIn (gained before symbol)
gained_in before (Byte at byte) all is =
    let now = before ++ Byte at byte ∷ [] in
    all_told_in (packets_in before) (beyond (packets_in before) (packets_in (before ++ Byte at byte ∷ []))) (in_packets before all)
    (all_drop IsPacketIn _ (packets_in (before ++ Byte at byte ∷ [])) (in_packets (before ++ Byte at byte ∷ []) (all_both IsSymbol before (Byte at byte ∷ []) all (is, tt))))
gained_in before (EdgeSymbol edge) all is =
    pps_in (edges_in before) (last_toff (reports (notes_in before))) edge (last_is (reports (notes_in before)) (reports_in (notes_in before) (notes_are (packets_in before) (in_packets before all)))) is

from_in : (before stream : List Symbol) → IsStream before → IsStream stream → AllByRecursion BodyIn (reports_from before stream)
unfolding reports_from
from_in before [] all more = tt
from_in before (symbol ∷ stream) all more =
    all_both BodyIn (gained before symbol) (reports_from (before ++ symbol ∷ []) stream) (gained_in before symbol all more.0)
    (from_in (before ++ symbol ∷ []) stream (all_both IsSymbol before (symbol ∷ []) all (more.0, tt)) more.1)

-- ---- lines
time_same : (at : Moment) → time (in_milliseconds at) ≡ time at
unfolding time
time_same at = ap (λ t. codes "\"" ++ t ++ codes "\"") (sym (same_text at))

cut_same : (k : Key) (o : Option Moment) → member_if k time (cut_time o) ≡ member_if k time o
unfolding member_if
cut_same k None = refl
cut_same k (Some at) = ap (λ t. label_of k ++ t) (time_same at)

tpv_same : (name : List ℕ) (fix : Fix) → tpv name (cut_fix fix) ≡ tpv name fix
unfolding tpv
tpv_same name fix =
    ap (λ t.
    head_of class.Tpv
    ++ member key.Device (quoted name)
    ++ member key.Mode (decimal fix.mode)
    ++ t
    ++ position_members fix.position
    ++ member_if key.AltHae (fixed 3) fix.alt_hae
    ++ member_if key.AltMsl (fixed 3) fix.alt_msl
    ++ member_if key.GeoidSep (fixed 3) fix.geoid_sep
    ++ member_if key.Track (fixed 4) fix.track
    ++ member_if key.Speed (fixed 3) fix.speed
    ++ member_if key.Climb (fixed 3) fix.climb
    ++ closing) (cut_same key.Time fix.time)

sky_same : (name : List ℕ) (s : Sky) → sky name (cut_sky s) ≡ sky name s
unfolding sky
sky_same name s =
    ap (λ t.
    head_of class.Sky
    ++ member key.Device (quoted name)
    ++ t
    ++ member_if key.Pdop hundredths s.pdop
    ++ member_if key.Hdop hundredths s.hdop
    ++ member_if key.Vdop hundredths s.vdop
    ++ member key.NSat (decimal (length s.sats))
    ++ member key.USat (decimal (count_by (λ satellite. satellite.used) s.sats))
    ++ member key.Satellites (array satellite s.sats)
    ++ closing) (cut_same key.Time s.time)

device_same : (name : List ℕ) (activated : Option Moment) → device name (cut_time activated) ≡ device name activated
unfolding device
device_same name activated = ap (λ t. head_of class.Device ++ member key.Path (quoted name) ++ t ++ closing) (cut_same key.Activated activated)

pub read_back : (name : List ℕ) → IsName name → (b : Body) → BodyIn b → IsCountable b → IsReadBack name b
unfolding line_text json_object object
read_back name is (body.Packet p) h c = tt
read_back name is (body.Tpv fix) h c = record { in_range = (is, h); written = ap (λ t. t ++ line_end) (sym (tpv_same name fix)) }
read_back name is (body.Sky s) h c = record { in_range = (is, h c); written = ap (λ t. t ++ line_end) (sym (sky_same name s)) }
read_back name is (body.Toff pair) h c = record { in_range = (is, record { reference_in = h.0.stamp; host_in = h.1 }); written = refl }
read_back name is (body.Pps pair) h c = record { in_range = (is, h); written = refl }
read_back name is (body.Device activated) h c = record { in_range = (is, cut_in activated h); written = ap (λ t. t ++ line_end) (sym (device_same name activated)) }

all_back : (name : List ℕ) → IsName name → (bodies : List Body) → AllByRecursion BodyIn bodies → AreReadBack name bodies
all_back name is [] all = tt
all_back name is (b ∷ bodies) all = (read_back name is b all.0, all_back name is bodies all.1)

pub history_back : (name : List ℕ) (stream : List Symbol) → IsName name → IsStream stream → AreReadBack name (device_reports stream)
history_back name stream is all = all_back name is (device_reports stream) (from_in [] stream tt all)

pub close_back : (name : List ℕ) (stream : List Symbol) → IsName name → IsStream stream → AreReadBack name (device_close stream)
close_back name stream is all = all_back name is (device_close stream) (left_in (notes_in stream) (notes_are (packets_in stream) (in_packets stream all)))

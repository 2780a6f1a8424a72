-- No line of a made script is refused.
use Rattle.std.proofs.Common.{◌≡◌, ℕ, zero, suc, ◌+◌, ◌*◌, ◌/◌, ◌%◌, ◌^◌, ◌<◌, ◌≤◌, Bool, true, false, cond, List, [], ◌∷◌, ◌++◌, length, nat_le, nat_lt, Option, Some, None, option_map, option_and_then, codes, refl, sym, ap, ◌∙◌, subst, arith, append_assoc, if◌then◌else◌}
use Rattle.std.specs.Fmt.{decimal}
use Rattle.std.specs.List.{list_all}
use Rattle.std.specs.Str.Parse.{digits_value}
use Rattle.std.proofs.lemmas.Bool.{and_from}
use Rattle.std.proofs.lemmas.Bool.Decides.{nat_tests}
use Rattle.gps_fixed.specs.Text.{digits_in}
use Rattle.gps_report.specs.declared.edge.Symbol.TheVariants.{Edge as EdgeSymbol}
use Rattle.device_core.specs.Stream.{piece}
use Rattle.nmea_frame.specs.Sentence.{checksum}
use Rattle.pps_edges.specs.EdgeLine.{IsNumber, edge_from}
use Rattle.line_player.specs.Courses.{whole_course}
use Rattle.replay_script.specs.declared.event.ScriptEvent.{ScriptEvent}
use Rattle.replay_script.specs.declared.event.ScriptEvent.TheVariants.{Device, Edge, Feed, Input, Load, Monitor, Open, Store, Take}
use Rattle.pps_edges.specs.Scan.{number_in}
use Rattle.replay_script.specs.Words.{halves, number_and_count, number_between, numbered, stamp_of, text_in}
use Rattle.replay_script.specs.Events.{bytes_event, device_in, event_in, input_in, monitor_in, number_event, open_in}
use Rattle.replay_player.specs.Effects.{EventEffect, effect}
use Rattle.replay_player.specs.States.{State}
use Rattle.gps_fixed.specs.Hexadecimal.{upper_digit}
use Rattle.replay_script.specs.Sentences.{fraction, gga, gll, gsa, gsv, place, quality, rmc, sentence, time, vtg}
use Rattle.replay_script.specs.Workload.{decimals_at, edge_end, edge_line, edge_number, head, receiver_lines, second_lines, seconds, steps, text_line, line_cut, whole_second, workload_of}
use Rattle.gps_replay.specs.Closings.{closing_rules, silent}
use Rattle.gps_replay.specs.Generated.{default_queue}
use Rattle.gps_replay.specs.Run.{of_line}
use Rattle.gps_replay.proofs.AllPlayed.{LeadsTo, Runs, all_played, and_then, no_lines, one_line}
use Rattle.gps_replay.proofs.MadeLines.{nought, pulse_of, read_edge, read_feed, tenth}
use Rattle.gps_replay.proofs.MadeStates.{Begins, Going, HasOne, HasTwo, Leads, Opened, Opens, asking, first_device, going, loading, monitor, opening, second_device, storing, symbols_come, taking}
use Rattle.gps_replay.proofs.Printing.{IsPlain, at_most, bare, cat, fixed, no_feed, number, plain_digits, plain_number, prints, value}

-- a script of made lines
abbrev Makes : (State → Type 0) → (State → Type 0) → List ℕ → Type 0
Makes from to bytes = Runs (closing_rules default_queue) from to bytes

silenced : (to : State → Type 0) (e : Option EventEffect) → Leads to e → LeadsTo to (option_map silent (option_map of_line e))
silenced to (Some e) leads = leads
silenced to None leads = absurd leads

leads_line : (to : State → Type 0) (text : List ℕ) (event : ScriptEvent) (s : State) → event_in text ≡ Some event
    → Leads to (effect default_queue s event) → LeadsTo to ((closing_rules default_queue).effect s text)
leads_line to text event s is leads =
    let Goal : Option ScriptEvent → Type 0 = λ o. LeadsTo to (option_map silent (option_map of_line (option_and_then (effect default_queue s) o))) in
    subst Goal (sym is) (silenced to (effect default_queue s event) leads)

-- a line of printing bytes that is an event
line_runs : (from to : State → Type 0) (text : List ℕ) (event : ScriptEvent) → IsPlain 4_096 text → event_in text ≡ Some event
    → ((s : State) → from s → Leads to (effect default_queue s event)) → Makes from to (text ++ 10 ∷ [])
line_runs from to text event plain is leads =
    let few = plain.few in
    let short : nat_lt 4_096 (length text) ≡ false = grind (arith, nat_tests) in
    one_line (closing_rules default_queue) from to text (no_feed text plain.plain) (bare text plain.plain) short
    (λ s at. leads_line to text event s is (leads s at))

-- the same of a written line
written : (from to : State → Type 0) (text : List ℕ) (event : ScriptEvent) → list_all prints text ≡ true → length text ≤ 4_096 → event_in text ≡ Some event
    → ((s : State) → from s → Leads to (effect default_queue s event)) → Makes from to (text ++ 10 ∷ [])
written from to text event plain few is leads = line_runs from to text event (record { plain = plain; few = few }) is leads

join : {from between to : State → Type 0} {a b : List ℕ} → Makes from between a → Makes between to b → Makes from to (a ++ b)
join {from} {between} {to} {a} {b} first second = and_then (closing_rules default_queue) from between to a b first second

-- the head

to_going : (o : Option EventEffect) → Leads (Opened 3) o → Leads Going o
to_going (Some e) is = going e.state is
to_going None is = is

devices_run : Makes Begins HasTwo (codes "device a\ndevice b\n")
unfolding event_in halves bytes_event device_in
devices_run =
    join (written Begins HasOne (codes "device a") (Device (codes "a")) refl (omega arith) refl (first_device default_queue))
    (written HasOne HasTwo (codes "device b") (Device (codes "b")) refl (omega arith) refl (second_device default_queue))

monitor_runs : Makes HasTwo (Opened 0) (codes "monitor 0 0\n")
unfolding event_in halves bytes_event number_event monitor_in numbered number_in
monitor_runs = written HasTwo (Opened 0) (codes "monitor 0 0") (Monitor 0 0) refl (omega arith) refl (monitor default_queue)

first_runs : Makes (Opened 0) (Opened 1) (codes "open 0\nsay 0 ?WATCH={\"json\":true};\n")
unfolding event_in halves bytes_event number_event open_in input_in numbered number_in text_in
first_runs =
    join (written (Opened 0) (Opens 0) (codes "open 0") (Open 0 None) refl (omega arith) refl (λ s. opening default_queue 0 s (omega arith)))
    (written (Opens 0) (Opened 1) (codes "say 0 ?WATCH={\"json\":true};") (Input 0 (codes "?WATCH={\"json\":true};\n")) refl (omega arith) refl
    (asking default_queue 0 (codes "?WATCH={\"json\":true};\n")))

second_runs : Makes (Opened 1) (Opened 2) (codes "open 1\nsay 1 ?WATCH={\"nmea\":true,\"device\":\"b\"};\n")
unfolding event_in halves bytes_event number_event open_in input_in numbered number_in text_in
second_runs =
    join (written (Opened 1) (Opens 1) (codes "open 1") (Open 1 None) refl (omega arith) refl (λ s. opening default_queue 1 s (omega arith)))
    (written (Opens 1) (Opened 2) (codes "say 1 ?WATCH={\"nmea\":true,\"device\":\"b\"};") (Input 1 (codes "?WATCH={\"nmea\":true,\"device\":\"b\"};\n")) refl (omega arith) refl
    (asking default_queue 1 (codes "?WATCH={\"nmea\":true,\"device\":\"b\"};\n")))

third_runs : Makes (Opened 2) Going (codes "open 2\nsay 2 ?WATCH={\"pps\":true};\n")
unfolding event_in halves bytes_event number_event open_in input_in numbered number_in text_in
third_runs =
    join (written (Opened 2) (Opens 2) (codes "open 2") (Open 2 None) refl (omega arith) refl (λ s. opening default_queue 2 s (omega arith)))
    (written (Opens 2) Going (codes "say 2 ?WATCH={\"pps\":true};") (Input 2 (codes "?WATCH={\"pps\":true};\n")) refl (omega arith) refl
    (λ s is. to_going (effect default_queue s (Input 2 (codes "?WATCH={\"pps\":true};\n"))) (asking default_queue 2 (codes "?WATCH={\"pps\":true};\n") s is)))

head_runs : Makes Begins Going head
unfolding head
head_runs = join devices_run (join monitor_runs (join first_runs (join second_runs third_runs)))

-- the lines that are the same each second

store_line : (u : ℕ) (text : List ℕ) → u < 4 → list_all prints text ≡ true → length text ≤ 4_096 → event_in text ≡ Some (Store u 13) → Makes Going Going (text ++ 10 ∷ [])
store_line u text low plain few is = written Going Going text (Store u 13) plain few is (λ s. storing default_queue u 13 s low)

take_line : (n : ℕ) (text : List ℕ) → n < 3 → list_all prints text ≡ true → length text ≤ 4_096 → event_in text ≡ Some (Take n 64) → Makes Going Going (text ++ 10 ∷ [])
take_line n text low plain few is = written Going Going text (Take n 64) plain few is (λ s. taking default_queue n 64 s low)

steps_run : Makes Going Going steps
unfolding steps event_in halves bytes_event number_event number_and_count number_between number_in numbered
steps_run =
    join (store_line 0 (codes "store 0 13") (omega arith) refl (omega arith) refl)
    (join (store_line 1 (codes "store 1 13") (omega arith) refl (omega arith) refl)
    (join (store_line 2 (codes "store 2 13") (omega arith) refl (omega arith) refl)
    (join (store_line 3 (codes "store 3 13") (omega arith) refl (omega arith) refl)
    (join (written Going Going (codes "load 0 12") (Load 0 12) refl (omega arith) refl (loading default_queue 12))
    (join (take_line 0 (codes "take 0 64") (omega arith) refl (omega arith) refl)
    (join (take_line 1 (codes "take 1 64") (omega arith) refl (omega arith) refl)
    (take_line 2 (codes "take 2 64") (omega arith) refl (omega arith) refl)))))))

-- the pulses

edge_runs : (d t : ℕ) → d < 2 → t < 10_000 → Makes Going Going (edge_line d t)
unfolding edge_line edge_end whole_second edge_number
edge_runs d t low small =
    let device : List ℕ = decimal d in
    let second : List ℕ = decimal (1_717_243_200 + t) in
    let count : List ℕ = decimal (t + 1) in
    let front : List ℕ = ((codes "edge " ++ device) ++ codes " assert ") ++ second in
    let back : List ℕ = codes ".000000000#" ++ count in
    let is_device : IsNumber 10 device = number d (omega (arith, low)) in
    let is_second : IsNumber 10 second = number (1_717_243_200 + t) (omega (arith, small)) in
    let is_count : IsNumber 10 count = number (t + 1) (omega (arith, small)) in
    let counted : digits_value 10 count ≡ t + 1 = value (t + 1) (omega (arith, small)) in
    let named : digits_value 10 device ≡ d = value d (omega (arith, low)) in
    let plain : IsPlain (((5 + 10) + 8 + 10) + (11 + 10)) (front ++ back) =
    cat _ _ front back
    (cat _ _ _ second (cat _ _ _ (codes " assert ") (cat _ _ (codes "edge ") device (fixed (codes "edge ") refl) (plain_number device is_device)) (fixed (codes " assert ") refl)) (plain_number second is_second))
    (cat _ _ (codes ".000000000#") count (fixed (codes ".000000000#") refl) (plain_number count is_count)) in
    let parts : front ++ back ≡ codes "edge" ++ 32 ∷ (device ++ 32 ∷ (codes "assert " ++ (second ++ 46 ∷ (nought ++ 35 ∷ count)))) =
    ap (λ r. codes "edge" ++ 32 ∷ r) (append_assoc (device ++ codes " assert ") second back ∙ append_assoc device (codes " assert ") (second ++ back)) in
    let is : event_in (front ++ back) ≡ Some (Edge (digits_value 10 device) (edge_from (pulse_of second count))) =
    ap event_in parts ∙ read_edge device second count is_device is_second is_count (omega (arith, counted, small)) in
    subst (λ text. Makes Going Going text) (append_assoc front back (10 ∷ []))
    (line_runs Going Going (front ++ back) (Edge (digits_value 10 device) (edge_from (pulse_of second count))) (at_most _ 4_096 (front ++ back) plain (omega arith)) is
    (λ s. symbols_come (digits_value 10 device) (EdgeSymbol (edge_from (pulse_of second count)) ∷ []) s (omega (arith, named, low))))

-- the sentences

upper_prints : (n : ℕ) → prints (upper_digit n) ≡ true
upper_prints n = go (nat_lt n 10)
  where
    go : (b : Bool) → prints (if b then 48 + n else 55 + n) ≡ true
    go true = grind (arith, nat_tests)
    go false = grind (arith, nat_tests)

plain_sentence : (body : List ℕ) → IsPlain 500 body → IsPlain 510 (sentence body)
unfolding sentence
plain_sentence body plain =
    let ends : IsPlain 3 (42 ∷ upper_digit (checksum body / 16) ∷ upper_digit (checksum body % 16) ∷ []) = record {
      plain = and_from _ _ (upper_prints (checksum body / 16)) (and_from _ _ (upper_prints (checksum body % 16)) refl);
      few = omega arith;
    } in
    at_most _ 510 _ (cat _ _ _ _ (cat _ _ (codes "$") body (fixed (codes "$") refl) plain) ends) (omega arith)

some_sentence : (body : List ℕ) → 0 < length (sentence body)
unfolding sentence
some_sentence body = omega arith

text_runs : (d t : ℕ) (body : List ℕ) → d < 2 → t < 10_000 → IsPlain 500 body → Makes Going Going (text_line d t body)
unfolding text_line whole_second
text_runs d t body low small plain_body =
    let device : List ℕ = decimal d in
    let second : List ℕ = decimal (1_717_243_200 + t) in
    let payload : List ℕ = sentence body in
    let is_device : IsNumber 10 device = number d (omega (arith, low)) in
    let is_second : IsNumber 10 second = number (1_717_243_200 + t) (omega (arith, small)) in
    let named : digits_value 10 device ≡ d = value d (omega (arith, low)) in
    let good : IsPlain 510 payload = plain_sentence body plain_body in
    let text : List ℕ = (((codes "text " ++ device) ++ codes " ") ++ second) ++ codes ".100000000 " ++ payload in
    let plain : IsPlain ((((5 + 10) + 1) + 10) + 11 + 510) text =
    cat _ _ _ payload
    (cat _ _ _ (codes ".100000000 ")
    (cat _ _ _ second (cat _ _ _ (codes " ") (cat _ _ (codes "text ") device (fixed (codes "text ") refl) (plain_number device is_device)) (fixed (codes " ") refl)) (plain_number second is_second))
    (fixed (codes ".100000000 ") refl)) good in
    let parts : text ≡ codes "text" ++ 32 ∷ (device ++ 32 ∷ ((second ++ 46 ∷ tenth) ++ 32 ∷ payload)) =
    ap (λ r. codes "text" ++ 32 ∷ r)
    (append_assoc ((device ++ codes " ") ++ second) (codes ".100000000 ") payload
    ∙ append_assoc (device ++ codes " ") second (codes ".100000000 " ++ payload)
    ∙ append_assoc device (codes " ") (second ++ (codes ".100000000 " ++ payload))
    ∙ ap (λ r. device ++ 32 ∷ r) (sym (append_assoc second (46 ∷ tenth) (32 ∷ payload)))) in
    let bytes : List ℕ = payload ++ 13 ∷ 10 ∷ [] in
    let event : ScriptEvent = Feed (digits_value 10 device) (stamp_of (digits_value 10 second) 100_000_000) bytes in
    let is : event_in text ≡ Some event =
    ap event_in parts ∙ read_feed device second payload is_device is_second (some_sentence body) good.few in
    line_runs Going Going text event (at_most _ 4_096 text plain (omega arith)) is
    (λ s. symbols_come (digits_value 10 device) (piece (stamp_of (digits_value 10 second) 100_000_000) bytes) s (omega (arith, named, low)))

plain_time : (second : ℕ) → IsPlain 7 (time second)
unfolding time
plain_time second =
    cat 6 1 _ (codes ",") (cat 4 2 _ _ (cat 2 2 _ _ (plain_digits 2 (second / 3_600)) (plain_digits 2 (second / 60 % 60))) (plain_digits 2 (second % 60))) (fixed (codes ",") refl)

plain_place : (n : ℕ) → IsPlain 27 (place n)
unfolding place fraction
plain_place n =
    cat 24 3 _ (codes ",E,")
    (cat 19 5 _ _ (cat 10 9 _ (codes ",N,01131.") (cat 5 5 (codes "4807.") _ (fixed (codes "4807.") refl) (plain_digits 5 n)) (fixed (codes ",N,01131.") refl)) (plain_digits 5 n))
    (fixed (codes ",E,") refl)

plain_rmc : (second n : ℕ) → IsPlain 500 (rmc second n)
unfolding rmc
plain_rmc second n =
    at_most _ 500 _
    (cat _ _ _ _ (cat _ _ _ _ (cat _ _ _ _ (cat _ _ (codes "GPRMC,") _ (fixed (codes "GPRMC,") refl) (plain_time second)) (fixed (codes "A,") refl)) (plain_place n)) (fixed (codes "0.50,84.40,010624,,,A") refl))
    (omega arith)

plain_gga : (second n : ℕ) → IsPlain 500 (gga second n)
unfolding gga quality
plain_gga second n =
    at_most _ 500 _
    (cat _ _ _ _ (cat _ _ _ _ (cat _ _ (codes "GPGGA,") _ (fixed (codes "GPGGA,") refl) (plain_time second)) (plain_place n)) (fixed (codes "1,04,0.90,545.4,M,46.9,M,,") refl))
    (omega arith)

plain_gll : (second n : ℕ) → IsPlain 500 (gll second n)
unfolding gll
plain_gll second n =
    at_most _ 500 _
    (cat _ _ _ _ (cat _ _ _ _ (cat _ _ (codes "GPGLL,") _ (fixed (codes "GPGLL,") refl) (plain_place n)) (plain_time second)) (fixed (codes "A,A") refl))
    (omega arith)

plain_vtg : IsPlain 500 vtg
unfolding vtg
plain_vtg = at_most _ 500 _ (fixed (codes "GPVTG,84.40,T,,M,0.50,N,0.93,K,A") refl) (omega arith)

plain_gsa : IsPlain 500 gsa
unfolding gsa
plain_gsa = at_most _ 500 _ (fixed (codes "GPGSA,A,3,01,02,12,14,,,,,,,,,2.50,1.30,2.10") refl) (omega arith)

plain_gsv : IsPlain 500 gsv
unfolding gsv
plain_gsv = at_most _ 500 _ (fixed (codes "GPGSV,1,1,04,01,40,083,46,02,17,308,41,12,07,344,39,14,22,228,45") refl) (omega arith)

receiver_runs : (d t n : ℕ) → d < 2 → t < 10_000 → Makes Going Going (line_cut d t n)
unfolding line_cut receiver_lines
receiver_runs d t n low small =
    join (join (join (join (join
    (text_runs d t (rmc (43_200 + t) n) low small (plain_rmc (43_200 + t) n))
    (text_runs d t vtg low small plain_vtg))
    (text_runs d t (gga (43_200 + t) n) low small (plain_gga (43_200 + t) n)))
    (text_runs d t gsa low small plain_gsa))
    (text_runs d t gsv low small plain_gsv))
    (text_runs d t (gll (43_200 + t) n) low small (plain_gll (43_200 + t) n))

-- the whole script

whole_second_runs : (t n : ℕ) → t < 10_000 → Makes Going Going (second_lines t n)
unfolding second_lines
whole_second_runs t n small =
    join (join (join (join (edge_runs 0 t (omega arith) small) (edge_runs 1 t (omega arith) small))
    (receiver_runs 0 t n (omega arith) small)) (receiver_runs 1 t n (omega arith) small)) steps_run

seconds_run : (seed size : ℕ) → size ≤ 10_000 → Makes Going Going (seconds seed size)
unfolding seconds
seconds_run seed zero few = no_lines (closing_rules default_queue) Going
seconds_run seed (suc t) few = join (seconds_run seed t (omega (arith, few))) (whole_second_runs t (decimals_at seed t) (omega (arith, few)))

pub playable : (seed size : ℕ) → size ≤ 10_000 → (whole_course (closing_rules default_queue) (workload_of seed size)).refused ≡ None
playable seed size few =
    all_played (closing_rules default_queue) Begins Going (workload_of seed size) (join head_runs (seconds_run seed size few)) refl

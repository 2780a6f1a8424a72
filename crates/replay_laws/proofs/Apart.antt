-- No item of a session is `drained ..`: a reply and an object begin with a brace, a packet with `$` or 0xb5.
use Rattle.std.proofs.Common.{◌≡◌, ℕ, zero, suc, ◌-◌, ◌/◌, ◌%◌, Bool, true, false, ◌||◌, cond, List, [], ◌∷◌, ◌++◌, length, take, drop, Option, Some, None, refl, sym, ap, ◌∙◌, subst, arith, if◌then◌else◌, option_to_list}
use Rattle.std.specs.Prelude.{◌==◌, nat_eq, slice_index, Result, Ok, Err, IfSome}
use Rattle.std.specs.List.{AllByRecursion, flat_map}
use Rattle.std.proofs.lemmas.Bool.{eqb-true}
use Rattle.std.proofs.lemmas.List.{take_all}
use Rattle.gps_command.specs.Commands.{command_in}
use Rattle.gps_command.specs.Policies.{policy_with}
use Rattle.gps_command.specs.declared.command.Command.{Command}
use Rattle.gps_command.specs.declared.command.Command.TheVariants.{Version, Devices, Poll, Watch}
use Rattle.gps_command.specs.declared.request.RawCommand.{RawCommand}
use Rattle.gps_report.specs.declared.packet.Packet.{Packet}
use Rattle.gps_report.specs.declared.packet.PacketKind.{PacketKind}
use Rattle.gps_report.specs.declared.policy.CommandFault.{CommandFault}
use Rattle.gps_report.specs.declared.policy.Form.{Form}
use Rattle.gps_report.specs.declared.policy.Form.TheVariants as form
use Rattle.gps_report.specs.declared.policy.Policy.{Policy}
use Rattle.gps_report.specs.declared.report.Body.{Body}
use Rattle.gps_report.specs.declared.report.Body.TheVariants as body
use Rattle.gps_report.specs.declared.report.Report.{Report}
use Rattle.nmea_frame.specs.declared.sentence.Shape.TheVariants.{No as NoSentence}
use Rattle.nmea_frame.specs.Scan.{after_dollar, shape_of as sentence_shape}
use Rattle.ubx_frame.specs.declared.frame.Shape.TheVariants.{No as NoFrame}
use Rattle.ubx_frame.specs.Scan.{shape_behind_first, shape_of as frame_shape}
use Rattle.packet_cut.specs.declared.head.Head.TheVariants as head
use Rattle.packet_cut.specs.Heads.{first_of, head_of}
use Rattle.json_line.specs.Json.{line_end}
use Rattle.json_line.specs.Lines.{bytes_of, device, devices, error, hex, hex_digit, name_of, object, poll, pps, sky, text, text_of, toff, tpv, version}
use Rattle.json_line.specs.Names.{head_of as object_head}
use Rattle.watch_policy.specs.Selection.{selected as selected_form}
use Rattle.session_core.specs.Stretches.{Stretch, between, items_to, next_place, selected}
use Rattle.book_batch.specs.Lines.{line_for, line_in}
use Rattle.book_log.specs.Entries.{Entry}
use Rattle.book_log.specs.History.{history}
use Rattle.book_replies.specs.declared.answering.Answer.{Answer}
use Rattle.book_replies.specs.ReplyDataView.{ReplyDataView}
use Rattle.book_replies.specs.Replies.{answered, opening_reply, reply_by, reply_to}
use Rattle.upstream_laws.specs.Alike.{packet_in}
use Rattle.upstream_laws.specs.Carried.{carried}
use Rattle.upstream_laws.specs.Joined.{AreWhole, IsWhole}
use Rattle.upstream_laws.proofs.Carrying.{packets_are_whole}
use Rattle.replay_laws.proofs.Stamps.{all_both}

-- an item that does not begin with `d`
abbrev pub IsApart : List ℕ → Type 0
IsApart item = nat_eq 100 (slice_index item 0) ≡ false

abbrev pub HasApartReply : Stretch → Type 0
HasApartReply stretch = IfSome stretch.reply IsApart

-- ---- replies

pub opening_apart : IsApart opening_reply
unfolding version object_head
opening_apart = refl

command_apart : (known : ReplyDataView) (names : List (List ℕ)) (policy : Policy) (command : Command) → IsApart (reply_to known names policy command)
unfolding version devices poll object_head
command_apart known names policy Version = refl
command_apart known names policy Devices = refl
command_apart known names policy Poll = refl
command_apart known names policy (Watch change) = refl

result_apart : (known : ReplyDataView) (names : List (List ℕ)) (policy : Policy) (r : Result Command CommandFault) → IsApart (reply_by known names policy r)
unfolding error object_head
result_apart known names policy (Ok command) = command_apart known names policy command
result_apart known names policy (Err fault) = refl

abbrev pub IsApartAnswer : Answer → Type 0
IsApartAnswer a = IsApart a.reply

pub answers_apart : (known : ReplyDataView) (names : List (List ℕ)) (policy : Policy) (requests : List RawCommand) → AllByRecursion IsApartAnswer (answered known names policy requests)
unfolding answered
answers_apart known names policy [] = tt
answers_apart known names policy (request ∷ requests) =
    (result_apart known names (policy_with policy request) (command_in request), answers_apart known names (policy_with policy request) requests)

-- ---- packets

record Begins (bytes : List ℕ) : Type 0 where
  first : ℕ
  rest : List ℕ
  is : bytes ≡ first ∷ rest
  kind : ((first == 36) || (first == 0xb5)) ≡ true

packet_begins : (bytes : List ℕ) (kind : PacketKind) (n : ℕ) → head_of bytes ≡ head.Packet kind n → Begins bytes
unfolding head_of sentence_shape frame_shape
packet_begins [] kind n is = absurd (cc)
packet_begins (c ∷ text) kind n is = by_first (c == 36) (c == 0xb5) refl refl is
  where
    by_first : (a b : Bool) → (c == 36) ≡ a → (c == 0xb5) ≡ b
        → first_of (if a then after_dollar text else NoSentence) (cond b (shape_behind_first text) NoFrame) ≡ head.Packet kind n → Begins (c ∷ text)
    by_first true b one two e = record { first = c; rest = text; is = refl; kind = ap (λ (x : Bool). x || (c == 0xb5)) one }
    by_first false true one two e = record { first = c; rest = text; is = refl; kind = ap (λ (x : Bool). x || (c == 0xb5)) one ∙ two }
    by_first false false one two e = absurd (cc)

byte_apart : (c : ℕ) → ((c == 36) || (c == 0xb5)) ≡ true → (nat_eq 100 c ≡ false) × (nat_eq 100 (hex_digit (c / 16)) ≡ false)
byte_apart c is = by_first (c == 36) refl is
  where
    by_first : (b : Bool) → (c == 36) ≡ b → (b || (c == 0xb5)) ≡ true → (nat_eq 100 c ≡ false) × (nat_eq 100 (hex_digit (c / 16)) ≡ false)
    by_first true one e =
        subst (λ (n : ℕ). (nat_eq 100 n ≡ false) × (nat_eq 100 (hex_digit (n / 16)) ≡ false)) (sym (eqb-true c 36 one)) (refl, refl)
    by_first false one e =
        subst (λ (n : ℕ). (nat_eq 100 n ≡ false) × (nat_eq 100 (hex_digit (n / 16)) ≡ false)) (sym (eqb-true c 0xb5 e)) (refl, refl)

-- a report whose packet is a whole one
abbrev pub IsCarrier : Report → Type 0
IsCarrier report = AreWhole (packet_in report.body)

packet_apart : (p : Packet) → IsWhole p → (IsApart p.bytes) × (IsApart (hex p.bytes ++ line_end))
unfolding hex
packet_apart p whole =
    let b : Begins p.bytes = packet_begins p.bytes p.kind (length p.bytes) whole in
    let t = byte_apart b.first b.kind in
    subst (λ (l : List ℕ). (IsApart l) × (IsApart (flat_map (λ byte. hex_digit (byte / 16) ∷ hex_digit (byte % 16) ∷ []) l ++ line_end))) (sym b.is) (t.0, t.1)

object_apart : (name : List ℕ) (b : Body) → IsApart (object name b ++ line_end)
unfolding object tpv sky toff pps device object_head
object_apart name (body.Packet p) = refl
object_apart name (body.Tpv fix) = refl
object_apart name (body.Sky s) = refl
object_apart name (body.Toff pair) = refl
object_apart name (body.Pps pair) = refl
object_apart name (body.Device at) = refl

bytes_apart : (b : Body) → AreWhole (packet_in b) → (IsApart (bytes_of b)) × (IsApart (hex (bytes_of b) ++ line_end))
unfolding hex
bytes_apart (body.Packet p) whole = packet_apart p whole.0
bytes_apart (body.Tpv fix) whole = (refl, refl)
bytes_apart (body.Sky s) whole = (refl, refl)
bytes_apart (body.Toff pair) whole = (refl, refl)
bytes_apart (body.Pps pair) whole = (refl, refl)
bytes_apart (body.Device at) whole = (refl, refl)

text_apart : (f : Form) (names : List (List ℕ)) (report : Report) → IsCarrier report → IsApart (text_of f names report)
unfolding text_of text
text_apart form.Json names report whole = object_apart (name_of names report.device) report.body
text_apart form.Text names report whole = (bytes_apart report.body whole).0
text_apart form.Hex names report whole = (bytes_apart report.body whole).1
text_apart form.Verbatim names report whole = (bytes_apart report.body whole).0

line_apart : (names : List (List ℕ)) (report : Report) (f : Option Form) → IsCarrier report → AllByRecursion IsApart (line_in names report f)
line_apart names report None whole = tt
line_apart names report (Some f) whole = (text_apart f names report whole, tt)

-- ---- items

all_front : {X : Type 0} (P : X → Type 0) (xs ys : List X) → AllByRecursion P (xs ++ ys) → AllByRecursion P xs × AllByRecursion P ys
all_front P [] ys all = (tt, all)
all_front P (x ∷ xs) ys all = let rest : AllByRecursion P xs × AllByRecursion P ys = all_front P xs ys all.1 in ((all.0, rest.0), rest.1)

pub all_taken : {X : Type 0} (P : X → Type 0) (n : ℕ) (xs : List X) → AllByRecursion P xs → AllByRecursion P (take n xs)
all_taken P zero xs all = tt
all_taken P (suc n) [] all = tt
all_taken P (suc n) (x ∷ xs) all = (all.0, all_taken P n xs all.1)

pub all_dropped : {X : Type 0} (P : X → Type 0) (n : ℕ) (xs : List X) → AllByRecursion P xs → AllByRecursion P (drop n xs)
all_dropped P zero xs all = all
all_dropped P (suc n) [] all = tt
all_dropped P (suc n) (x ∷ xs) all = all_dropped P n xs all.1

selected_apart : (names : List (List ℕ)) (policy : Policy) (reports : List Report) → AllByRecursion IsCarrier reports → AllByRecursion IsApart (selected (line_for names) policy reports)
selected_apart names policy [] all = tt
selected_apart names policy (report ∷ reports) all =
    all_both IsApart (line_for names policy report) (selected (line_for names) policy reports)
    (line_apart names report (selected_form policy names report) all.0) (selected_apart names policy reports all.1)

reply_apart : (o : Option (List ℕ)) → IfSome o IsApart → AllByRecursion IsApart (option_to_list o)
reply_apart None is = tt
reply_apart (Some text) is = (is, tt)

items_apart : (names : List (List ℕ)) (end : ℕ) (stretches : List Stretch) (h : List Report) → AllByRecursion HasApartReply stretches → AllByRecursion IsCarrier h
    → AllByRecursion IsApart (items_to (line_for names) end stretches h)
items_apart names end [] h replies all = tt
items_apart names end (stretch ∷ more) h replies all =
    let part : List Report = between stretch.place (next_place end more) h in
    let here : AllByRecursion IsCarrier part = all_taken IsCarrier (next_place end more - stretch.place) (drop stretch.place h) (all_dropped IsCarrier stretch.place h all) in
    all_both IsApart (option_to_list stretch.reply ++ selected (line_for names) stretch.policy part) (items_to (line_for names) end more h)
    (all_both IsApart (option_to_list stretch.reply) (selected (line_for names) stretch.policy part) (reply_apart stretch.reply replies.0) (selected_apart names stretch.policy part here))
    (items_apart names end more h replies.1 all)

-- the packets of a history are whole
carriers : (reports : List Report) → AreWhole (carried None [] reports) → AllByRecursion IsCarrier reports
carriers [] all = tt
carriers (report ∷ reports) all =
    let parts : AreWhole (packet_in report.body) × AreWhole (carried None [] reports) = all_front IsWhole (packet_in report.body) (carried None [] reports) all in
    (parts.0, carriers reports parts.1)

history_carries : (log : List Entry) → AllByRecursion IsCarrier (history log)
history_carries log =
    let h : List Report = history log in
    let whole : AreWhole (carried None [] (between 0 (length h) h)) = packets_are_whole None [] 0 (length h) log in
    let same : between 0 (length h) h ≡ h = take_all (length h - 0) h (omega arith) in
    carriers h (subst (λ (l : List Report). AreWhole (carried None [] l)) same whole)

pub session_apart : (names : List (List ℕ)) (log : List Entry) (end : ℕ) (stretches : List Stretch) → AllByRecursion HasApartReply stretches
    → AllByRecursion IsApart (items_to (line_for names) end stretches (history log))
session_apart names log end stretches replies = items_apart names end stretches (history log) replies (history_carries log)

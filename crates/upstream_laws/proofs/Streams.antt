-- The fixes and the skies of a stream are those of its notes, and its packets those among its reports; so streams with the same packets,
-- whatever their stamps, are alike.
use Rattle.std.proofs.Common.{◌≡◌, ℕ, Bool, true, false, cond, List, [], ◌∷◌, ◌++◌, Option, Some, None, map, reverse, refl, sym, ap, ◌∙◌, append_assoc, append-nil, option_map, option_to_list, subst, unwrap_or, take, drop, take-append-drop}
use Rattle.std.specs.Prelude.{pos}
use Rattle.std.specs.List.{filter}
use Rattle.std.proofs.lemmas.List.{map-append}
use Rattle.std.proofs.lemmas.List.Concat.{flat_map-append}
use Rattle.gps_fixed.specs.Moment.{Moment}
use Rattle.gps_report.specs.declared.edge.Edge.{Edge}
use Rattle.gps_report.specs.declared.edge.Symbol.{Symbol}
use Rattle.gps_report.specs.declared.edge.Symbol.TheVariants.{Byte, Edge as EdgeSymbol}
use Rattle.gps_report.specs.declared.fix.Fix.{Fix}
use Rattle.gps_report.specs.declared.fix.Pair.{Pair}
use Rattle.gps_report.specs.declared.fix.Sky.{Sky}
use Rattle.gps_report.specs.declared.packet.Packet.{Packet}
use Rattle.gps_report.specs.declared.packet.PacketKind.{PacketKind}
use Rattle.gps_report.specs.declared.report.Body.{Body}
use Rattle.gps_report.specs.declared.report.Body.TheVariants as body
use Rattle.packet_cut.specs.Packets.{packets_of, parts_from, rest_of}
use Rattle.epoch_core.specs.declared.heard.Heard.{Heard}
use Rattle.epoch_core.specs.declared.said.Said.{Said}
use Rattle.epoch_core.specs.Days.{Dated, dated}
use Rattle.epoch_core.specs.Kept.{kept_of}
use Rattle.epoch_core.specs.Steps.{kept_caused}
use Rattle.epoch_core.specs.Fixes.{fix_of}
use Rattle.epoch_core.specs.Quantities.{said}
use Rattle.epoch_core.specs.Epochs.{all_closed, all_told as epochs_told, closed, closing, closings, epochs, epochs_of, has_ended, is_no_toff, left, reports, running, sky_of, toff_of, toffs}
use Rattle.epoch_core.proofs.Told.{gained as note_gained}
use Rattle.epoch_core.proofs.EpochLaws.{reports_are_closings}
use Rattle.pps_edges.specs.Pulse.{pps_of}
use Rattle.device_core.specs.Stream.{byte_in, bytes_in, edges_in, heard, notes_in, notes_of, packets_in}
use Rattle.device_core.specs.Reports.{all_told, device_reports, gained, last_toff, reports_from, told}
use Rattle.device_core.proofs.Streams.{beyond_is, byte_gains, packets_join}
use Rattle.upstream_laws.specs.Alike.{AreAlike, BeginsAlike, is_shown, packet_in, reported, shown}
use Rattle.upstream_laws.specs.Joined.{AreWhole, plain}
use Rattle.upstream_laws.proofs.Cutting.{packets_whole}
use Rattle.upstream_laws.proofs.Restamped.{closings_at, heard_at, left_at}

-- notes that are the same but for their stamps
abbrev no_moment : Moment
no_moment = record { sec = pos 0; nsec = 0 }

one_stamp : (a b : List Packet) → map plain a ≡ map plain b → map (heard_at no_moment) (notes_of a) ≡ map (heard_at no_moment) (notes_of b)
one_stamp [] [] e = refl
one_stamp [] (q ∷ b) e = cc
one_stamp (p ∷ a) [] e = cc
one_stamp (p ∷ a) (q ∷ b) e =
    let same : plain p ≡ plain q = cc in
    let others : map plain a ≡ map plain b = cc in
    ap (λ (k : PacketKind × List ℕ). heard_at no_moment (heard (record { kind = k.0; at = no_moment; bytes = k.1 })) ∷ map (heard_at no_moment) (notes_of a)) same
    ∙ ap (λ t. heard_at no_moment (heard q) ∷ t) (one_stamp a b others)

closings_same : (a b : List Packet) → map plain a ≡ map plain b → closings (closed (epochs_of (notes_of a))) ≡ closings (closed (epochs_of (notes_of b)))
closings_same a b e =
    sym (closings_at no_moment (notes_of a)) ∙ ap (λ n. closings (closed (epochs_of n))) (one_stamp a b e) ∙ closings_at no_moment (notes_of b)

left_same : (a b : List Packet) → map plain a ≡ map plain b → left (notes_of a) ≡ left (notes_of b)
left_same a b e = sym (left_at no_moment (notes_of a)) ∙ ap left (one_stamp a b e) ∙ left_at no_moment (notes_of b)

-- what is shown is no serial time
shown_passes : (x : Body) (xs : List Body) → shown (filter is_no_toff (x ∷ xs)) ≡ shown (x ∷ filter is_no_toff xs)
shown_passes (body.Packet p) xs = refl
shown_passes (body.Tpv f) xs = refl
shown_passes (body.Sky s) xs = refl
shown_passes (body.Toff p) xs = refl
shown_passes (body.Pps p) xs = refl
shown_passes (body.Device a) xs = refl

shown_no_toff : (xs : List Body) → shown xs ≡ shown (filter is_no_toff xs)
shown_no_toff [] = refl
shown_no_toff (x ∷ xs) = ap (λ t. cond (is_shown x) (x ∷ t) t) (shown_no_toff xs) ∙ sym (shown_passes x xs)

shown-append : (xs ys : List Body) → shown (xs ++ ys) ≡ shown xs ++ shown ys
shown-append [] ys = refl
shown-append (x ∷ xs) ys = ap (λ t. cond (is_shown x) (x ∷ t) t) (shown-append xs ys) ∙ choose (is_shown x)
  where
    choose : (b : Bool) → cond b (x ∷ (shown xs ++ shown ys)) (shown xs ++ shown ys) ≡ cond b (x ∷ shown xs) (shown xs) ++ shown ys
    choose true = refl
    choose false = refl

reported-append : (xs ys : List Body) → reported (xs ++ ys) ≡ reported xs ++ reported ys
reported-append xs ys = flat_map-append packet_in xs ys

-- what a packet's note causes
abbrev caused : List Packet → Packet → List Body
caused before packet = kept_caused (kept_of (reverse (notes_of before))) (heard packet)

grows : (before : List Packet) (packet : Packet) → reports (notes_of (before ++ packet ∷ [])) ≡ reports (notes_of before) ++ caused before packet
grows before packet =
    ap reports (map-append heard before (packet ∷ [])) ∙ (note_gained (kept_of (reverse (notes_of before))) (notes_of before) (heard packet) refl).0

told_is : (before : List Packet) (packet : Packet) → told before packet ≡ body.Packet packet ∷ caused before packet
told_is before packet =
    ap (λ t. body.Packet packet ∷ t) (beyond_is (reports (notes_of before)) (caused before packet) (reports (notes_of (before ++ packet ∷ []))) (grows before packet))

-- shown, of packets
shown_told : (before packets : List Packet) → shown (reports (notes_of before)) ++ shown (all_told before packets) ≡ shown (reports (notes_of (before ++ packets)))
shown_told before [] = append-nil (shown (reports (notes_of before))) ∙ ap (λ p. shown (reports (notes_of p))) (sym (append-nil before))
shown_told before (packet ∷ more) =
    let rest : List Body = all_told (before ++ packet ∷ []) more in
    ap (λ t. shown (reports (notes_of before)) ++ t)
    (ap (λ t. shown (t ++ rest)) (told_is before packet) ∙ shown-append (caused before packet) rest)
    ∙ sym (append_assoc (shown (reports (notes_of before))) (shown (caused before packet)) (shown rest))
    ∙ ap (λ t. t ++ shown rest) (sym (shown-append (reports (notes_of before)) (caused before packet)) ∙ ap shown (sym (grows before packet)))
    ∙ shown_told (before ++ packet ∷ []) more ∙ ap (λ p. shown (reports (notes_of p))) (append_assoc before (packet ∷ []) more)

-- no packet is among what notes cause
module _ {X : Type 0} where
  of_option : (f : X → Pair) (o : Option X) → reported (option_to_list (option_map (λ x. body.Toff (f x)) o)) ≡ []
  of_option f None = refl
  of_option f (Some x) = refl

toffs_no_packet : (s : Said) → reported (toff_of s) ≡ []
toffs_no_packet s = of_option (λ at. record { reference = at; host = unwrap_or s.first at }) s.stamped

closing_by : (fix : Fix) (sky : Sky) (a b : Bool) → reported (cond a (body.Tpv fix ∷ []) [] ++ cond b (body.Sky sky ∷ []) []) ≡ []
closing_by fix sky true true = refl
closing_by fix sky true false = refl
closing_by fix sky false true = refl
closing_by fix sky false false = refl

closing_no_packet : (epoch : List Dated) → reported (closing epoch) ≡ []
unfolding closing
closing_no_packet epoch = closing_by (fix_of (said epoch)) (sky_of epoch) (said epoch).has_fix (said epoch).has_sky

three_none : (a b c : List Body) → reported a ≡ [] → reported b ≡ [] → reported c ≡ [] → reported (a ++ b ++ c) ≡ []
three_none a b c one two three = rw (reported-append (a ++ b) c, reported-append a b, one, two, three) refl

closed_no_packet : (es : List (List Dated)) → reported (all_closed es) ≡ []
closed_no_packet [] = refl
closed_no_packet (epoch ∷ earlier) =
    three_none (all_closed earlier) (toffs epoch) (closing epoch) (closed_no_packet earlier) (toffs_no_packet (said epoch)) (closing_no_packet epoch)

chosen_no_packet : (b : Bool) (xs : List Body) → reported xs ≡ [] → reported (cond b xs []) ≡ []
chosen_no_packet true xs e = e
chosen_no_packet false xs e = refl

told_no_packet : (es : List (List Dated)) → reported (epochs_told es) ≡ []
told_no_packet [] = refl
told_no_packet (epoch ∷ earlier) =
    three_none (all_closed earlier) (toffs epoch) (cond (has_ended epoch) (closing epoch) []) (closed_no_packet earlier) (toffs_no_packet (said epoch))
    (chosen_no_packet (has_ended epoch) (closing epoch) (closing_no_packet epoch))

reports_no_packet : (notes : List Heard) → reported (reports notes) ≡ []
unfolding reports
reports_no_packet notes = told_no_packet (epochs_of notes)

pub left_no_packet : (notes : List Heard) → reported (left notes) ≡ []
unfolding left
left_no_packet notes = closing_no_packet (running (epochs_of notes))

caused_no_packet : (before : List Packet) (packet : Packet) → reported (caused before packet) ≡ []
caused_no_packet before packet =
    sym (ap (λ t. t ++ reported (caused before packet)) (reports_no_packet (notes_of before)))
    ∙ sym (reported-append (reports (notes_of before)) (caused before packet)) ∙ ap reported (sym (grows before packet))
    ∙ reports_no_packet (notes_of (before ++ packet ∷ []))

reported_told : (before packets : List Packet) → reported (all_told before packets) ≡ packets
reported_told before [] = refl
reported_told before (packet ∷ more) =
    let rest : List Body = all_told (before ++ packet ∷ []) more in
    ap (λ t. reported (t ++ rest)) (told_is before packet)
    ∙ ap (λ t. packet ∷ t) (reported-append (caused before packet) rest ∙ ap (λ t. t ++ reported rest) (caused_no_packet before packet) ∙ reported_told (before ++ packet ∷ []) more)

-- one symbol
abbrev pub new_packets : List Symbol → Symbol → List Packet
new_packets s (Byte at b) = packets_of (rest_of (bytes_in s) ++ (at, b) ∷ [])
new_packets s (EdgeSymbol edge) = []

one_edge : (s : List Symbol) (edge : Edge) → packets_in (s ++ EdgeSymbol edge ∷ []) ≡ packets_in s
one_edge s edge = ap packets_of (flat_map-append byte_in s (EdgeSymbol edge ∷ []) ∙ append-nil (bytes_in s))

pub packets_grow : (s : List Symbol) (x : Symbol) → packets_in s ++ new_packets s x ≡ packets_in (s ++ x ∷ [])
packets_grow s (Byte at b) = sym (packets_join s (Byte at b ∷ []))
packets_grow s (EdgeSymbol edge) = append-nil (packets_in s) ∙ sym (one_edge s edge)

pulse_none : (o : Option Pair) → (shown (option_to_list (option_map (λ pair. body.Pps pair) o)) ≡ []) × (reported (option_to_list (option_map (λ pair. body.Pps pair) o)) ≡ [])
pulse_none None = (refl, refl)
pulse_none (Some pair) = (refl, refl)

pub reported_gained : (s : List Symbol) (x : Symbol) → reported (gained s x) ≡ new_packets s x
reported_gained s (Byte at b) = ap reported (byte_gains s at b) ∙ reported_told (packets_in s) (packets_of (rest_of (bytes_in s) ++ (at, b) ∷ []))
reported_gained s (EdgeSymbol edge) = (pulse_none (pps_of (edges_in s) (last_toff (reports (notes_in s))) edge)).1

shown_gained : (s : List Symbol) (x : Symbol) → shown (reports (notes_in s)) ++ shown (gained s x) ≡ shown (reports (notes_in (s ++ x ∷ [])))
shown_gained s (Byte at b) =
    ap (λ t. shown (reports (notes_in s)) ++ shown t) (byte_gains s at b)
    ∙ shown_told (packets_in s) (packets_of (rest_of (bytes_in s) ++ (at, b) ∷ []))
    ∙ ap (λ p. shown (reports (notes_of p))) (packets_grow s (Byte at b))
shown_gained s (EdgeSymbol edge) =
    ap (λ t. shown (reports (notes_in s)) ++ t) (pulse_none (pps_of (edges_in s) (last_toff (reports (notes_in s))) edge)).0
    ∙ append-nil (shown (reports (notes_in s))) ∙ ap (λ p. shown (reports (notes_of p))) (sym (one_edge s edge))

new_whole : (s : List Symbol) (x : Symbol) → AreWhole (new_packets s x)
new_whole s (Byte at b) = packets_whole (rest_of (bytes_in s) ++ (at, b) ∷ [])
new_whole s (EdgeSymbol edge) = tt

pub gained_whole : (s : List Symbol) (x : Symbol) → AreWhole (reported (gained s x))
gained_whole s x = subst AreWhole (sym (reported_gained s x)) (new_whole s x)

-- all symbols
module _ {X : Type 0} (f : List Body → List X) (m : List Symbol → List X) (none : f [] ≡ []) (appends : (a b : List Body) → f (a ++ b) ≡ f a ++ f b)
    (grow : (s : List Symbol) (x : Symbol) → m s ++ f (gained s x) ≡ m (s ++ x ∷ [])) where
  pub from_symbols : (before s : List Symbol) → m before ++ f (reports_from before s) ≡ m (before ++ s)
  unfolding reports_from
  from_symbols before [] = ap (λ t. m before ++ t) none ∙ append-nil (m before) ∙ ap m (sym (append-nil before))
  from_symbols before (x ∷ s) =
      ap (λ t. m before ++ t) (appends (gained before x) (reports_from (before ++ x ∷ []) s))
      ∙ sym (append_assoc (m before) (f (gained before x)) (f (reports_from (before ++ x ∷ []) s)))
      ∙ ap (λ t. t ++ f (reports_from (before ++ x ∷ []) s)) (grow before x)
      ∙ from_symbols (before ++ x ∷ []) s ∙ ap m (append_assoc before (x ∷ []) s)

pub shown_reports : (s : List Symbol) → shown (device_reports s) ≡ shown (reports (notes_in s))
unfolding parts_from reports epochs dated
shown_reports s = from_symbols shown (λ t. shown (reports (notes_in t))) refl shown-append shown_gained [] s

shown_closings : (s : List Symbol) → shown (device_reports s) ≡ shown (closings (closed (epochs_of (notes_in s))))
shown_closings s = shown_reports s ∙ shown_no_toff (reports (notes_in s)) ∙ ap shown (reports_are_closings (notes_in s))

pub alike : (a b : List Symbol) → map plain (packets_in a) ≡ map plain (packets_in b) → AreAlike a b
alike a b e = record {
  reports = shown_closings a ∙ ap shown (closings_same (packets_in a) (packets_in b) e) ∙ sym (shown_closings b);
  close = ap shown (left_same (packets_in a) (packets_in b) e);
}

-- a stream with the first packets of another
shown_same : (a b : List Packet) → map plain a ≡ map plain b → shown (reports (notes_of a)) ≡ shown (reports (notes_of b))
shown_same a b e =
    shown_no_toff (reports (notes_of a)) ∙ ap shown (reports_are_closings (notes_of a)) ∙ ap shown (closings_same a b e)
    ∙ sym (shown_no_toff (reports (notes_of b)) ∙ ap shown (reports_are_closings (notes_of b)))

pub begins_alike : (a b : List Symbol) (k : ℕ) → map plain (packets_in a) ≡ map plain (take k (packets_in b)) → BeginsAlike a b
begins_alike a b k e =
    let first : List Packet = take k (packets_in b) in
    let others : List Packet = drop k (packets_in b) in (
      shown (all_told first others),
      shown_reports b ∙ ap (λ p. shown (reports (notes_of p))) (sym (take-append-drop k (packets_in b))) ∙ sym (shown_told first others)
          ∙ ap (λ t. t ++ shown (all_told first others)) (sym (shown_reports a ∙ shown_same (packets_in a) first e)),
    )

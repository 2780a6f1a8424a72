-- The packets of what was handed on, and those of what was taken.
use Rattle.std.proofs.Common.{◌≡◌, ◌≤◌, ◌+◌, ℕ, Bool, true, false, not, ◌++◌, ◌∷◌, [], List, length, filter, if◌then◌else◌, Option, Some, None, ap, refl, sym, subst, arith, ◌∙◌, append_assoc}
use Rattle.std.specs.List.{last_or}
use Rattle.std.proofs.lemmas.List.{append-nil, length-append, map-append}
use Rattle.std.proofs.lemmas.List.Elements.{filter-append}
use Rattle.gps_report.specs.declared.packet.Packet.{Packet}
use Rattle.packet_cut.specs.Packets.{parts_from, stamped, packets_of, rest_of}
use Rattle.packet_cut.proofs.StreamLaws.{packets_gain, rest_gain}
use Rattle.cycle_gap.specs.End.{IsRunning, Joined, Woven, end_of_epoch, end_packet, is_end, no_stamp, open_in, others, packets_in}
use Rattle.cycle_gap.specs.End.{nothing, goes_on, frame_follows, no_packet, next_packet, end_follows}
use Rattle.cycle_gap.proofs.Ends.{packets_split, rest_split, end_alone, end_rests}

pub stamped-append : (a b : List ℕ) → stamped no_stamp (a ++ b) ≡ stamped no_stamp a ++ stamped no_stamp b
stamped-append a b = map-append (λ byte. (no_stamp, byte)) a b

-- what more bytes add
pub packets_on : (given piece : List ℕ) → packets_in (given ++ piece) ≡ packets_in given ++ packets_of (open_in given ++ stamped no_stamp piece)
packets_on given piece = ap (λ t. packets_of t) (stamped-append given piece) ∙ packets_gain (stamped no_stamp given) (stamped no_stamp piece)

pub open_on : (given piece : List ℕ) → open_in (given ++ piece) ≡ rest_of (open_in given ++ stamped no_stamp piece)
open_on given piece = ap (λ t. rest_of t) (stamped-append given piece) ∙ rest_gain (stamped no_stamp given) (stamped no_stamp piece)

-- what a frame adds
pub packets_with_end : (given : List ℕ) → open_in given ≡ [] → packets_in (given ++ end_of_epoch) ≡ packets_in given ++ end_packet no_stamp ∷ []
packets_with_end given none =
    ap (λ t. packets_of t) (stamped-append given end_of_epoch)
    ∙ packets_split (stamped no_stamp given) (stamped no_stamp end_of_epoch) none
    ∙ ap (λ t. packets_in given ++ t) (end_alone no_stamp)

pub open_with_end : (given : List ℕ) → open_in given ≡ [] → open_in (given ++ end_of_epoch) ≡ []
open_with_end given none =
    ap (λ t. rest_of t) (stamped-append given end_of_epoch)
    ∙ rest_split (stamped no_stamp given) (stamped no_stamp end_of_epoch) none
    ∙ end_rests no_stamp

pub woven_open : (given taken : List ℕ) → Woven given taken → open_in given ≡ open_in taken
woven_open _ _ nothing = refl
woven_open _ _ (goes_on given taken piece w) =
    open_on given piece ∙ ap (λ t. rest_of (t ++ stamped no_stamp piece)) (woven_open given taken w) ∙ sym (open_on taken piece)
woven_open _ _ (frame_follows given taken w none running) = open_with_end given none ∙ sym none ∙ woven_open given taken w

joined_on : (more given taken : List Packet) → Joined given taken → Joined (given ++ more) (taken ++ more)
joined_on [] given taken j = subst (λ g. Joined g (taken ++ [])) (sym (append-nil given)) (subst (λ t. Joined given t) (sym (append-nil taken)) j)
joined_on (next ∷ more) given taken j =
    subst (λ g. Joined g (taken ++ next ∷ more)) (append_assoc given (next ∷ []) more)
    (subst (λ t. Joined ((given ++ next ∷ []) ++ more) t) (append_assoc taken (next ∷ []) more)
    (joined_on more (given ++ next ∷ []) (taken ++ next ∷ []) (next_packet given taken next j)))

-- no bytes have no packets
none_joined : Joined (packets_in []) (packets_in [])
unfolding parts_from
none_joined = no_packet

pub woven_packets : (given taken : List ℕ) → Woven given taken → Joined (packets_in given) (packets_in taken)
woven_packets _ _ nothing = none_joined
woven_packets _ _ (goes_on given taken piece w) =
    let more = packets_of (open_in given ++ stamped no_stamp piece) in
    let same : packets_in (taken ++ piece) ≡ packets_in taken ++ more =
    packets_on taken piece ∙ ap (λ t. packets_in taken ++ packets_of (t ++ stamped no_stamp piece)) (sym (woven_open given taken w)) in
    subst (λ g. Joined g (packets_in (taken ++ piece))) (sym (packets_on given piece))
    (subst (λ t. Joined (packets_in given ++ more) t) (sym same) (joined_on more (packets_in given) (packets_in taken) (woven_packets given taken w)))
woven_packets _ _ (frame_follows given taken w none running) =
    subst (λ g. Joined g (packets_in taken)) (sym (packets_with_end given none))
    (end_follows (packets_in given) (packets_in taken) (woven_packets given taken w) running)

-- ---- how many are put in

last_at : (o : Option Packet) (front : List Packet) (last : Packet) → last_or o (front ++ last ∷ []) ≡ Some last
last_at o [] last = refl
last_at o (p ∷ front) last = last_at (Some p) front last

some_is : (x y : Packet) → Some x ≡ Some y → x ≡ y
some_is x y is = cc

last_same : (a b : List Packet) (x y : Packet) → a ++ x ∷ [] ≡ b ++ y ∷ [] → x ≡ y
last_same a b x y is = some_is x y (sym (last_at None a x) ∙ ap (λ t. last_or None t) is ∙ last_at None b y)

-- whether the last one is a NAV-EOE
running_last : (front : List Packet) (last : Packet) → IsRunning (front ++ last ∷ []) → is_end last ≡ false
running_last front last r = ap (λ p. is_end p) (last_same front r.front last r.last r.are) ∙ r.other

none_running : IsRunning [] → 1 ≤ 0
none_running r = omega (arith, ap (λ t. length t) r.are, length-append r.front (r.last ∷ []))

true_is_end : is_end (end_packet no_stamp) ≡ true
unfolding is_end
true_is_end = refl

clash : (b : Bool) → b ≡ true → b ≡ false → 1 ≤ 0
clash true t f = absurd (cc)
clash false t f = absurd (cc)

abbrev one_if : Bool → ℕ
one_if true = 0
one_if false = 1

others_on : (taken : List Packet) (next : Packet) → others (taken ++ next ∷ []) ≡ others taken + one_if (is_end next)
unfolding others
others_on taken next =
    ap (λ t. length t) (filter-append (λ packet. not (is_end packet)) taken (next ∷ []))
    ∙ length-append (filter (λ packet. not (is_end packet)) taken) (filter (λ packet. not (is_end packet)) (next ∷ []))
    ∙ ap (λ n. length (filter (λ packet. not (is_end packet)) taken) + n) (alone (is_end next))
  where
    alone : (b : Bool) → length (if not b then next ∷ [] else []) ≡ one_if b
    alone true = refl
    alone false = refl

-- the bound, and one less if another one may follow
record Few (given taken : List Packet) : Type 0 where
  all : length given ≤ length taken + others taken
  running : IsRunning given → length given + 1 ≤ length taken + others taken

few : (given taken : List Packet) → Joined given taken → Few given taken
few _ _ no_packet = record { all = omega arith; running = λ r. absurd (omega (arith, none_running r)) }
few _ _ (next_packet given taken next j) =
    let h = few given taken j in
    let more = length-append given (next ∷ []) in
    let more_taken = length-append taken (next ∷ []) in
    let more_others = others_on taken next in
    record {
      all = omega (arith, h.all, more, more_taken, more_others);
      running = λ r. let one : one_if (is_end next) ≡ 1 = ap (λ b. one_if b) (running_last given next r) in omega (arith, h.all, more, more_taken, more_others, one);
    }
few _ _ (end_follows given taken j running) =
    let h = few given taken j in
    record {
      all = omega (arith, h.running running, length-append given (end_packet no_stamp ∷ []));
      running = λ r. absurd (omega (arith, clash (is_end (end_packet no_stamp)) true_is_end (running_last given (end_packet no_stamp) r)));
    }

pub joined_few : (given taken : List Packet) → Joined given taken → length given ≤ length taken + others taken
joined_few given taken j = (few given taken j).all

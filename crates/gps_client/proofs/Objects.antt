-- The other objects are read exactly.
use Rattle.std.proofs.Common.{◌≡◌, ℕ, ◌≤◌, List, [], ◌∷◌, ◌++◌, Option, Some, None, refl, sym, ap, ◌∙◌, append_assoc, arith, length, codes, map, ℤ, pos, negsuc, ◌≤ℤ◌, unsigned_abs}
use Rattle.std.specs.Fmt.{decimal}
use Rattle.std.specs.List.{AllByRecursion, zip}
use Rattle.std.proofs.lemmas.Bool.Decides.{nat_tests}
use Rattle.std.proofs.lemmas.Int.{ints}
use Rattle.gps_fixed.specs.Moment.{Moment, IsMoment}
use Rattle.gps_report.specs.declared.fix.Pair.{Pair}
use Rattle.gps_report.specs.declared.fix.Fix.{Fix}
use Rattle.gps_report.specs.declared.policy.CommandFault.{CommandFault}
use Rattle.gps_report.specs.declared.policy.CommandFault.TheVariants as fault
use Rattle.gps_report.specs.declared.policy.Policy.{Policy}
use Rattle.json_line.specs.declared.names.Class.TheVariants as class
use Rattle.json_line.specs.declared.names.Key.TheVariants as key
use Rattle.json_line.specs.Json.{array, closing, member, member_if, quoted, time, truth}
use Rattle.json_line.specs.Lines.{device, devices, error, message, pair_members, pps, seconds, toff, tpv, watch}
use Rattle.json_line.specs.Names.{head_of, label_of}
use Rattle.gps_client.specs.declared.line.Polled.{Polled}
use Rattle.gps_client.specs.Objects.{are_few, device_at, devices_at, error_at, pair_at, policy_at, poll_at, polled_at, pps_at, sky_at, toff_at, tpv_at, watch_at}
use Rattle.gps_client.specs.Ranges.{IsListed, IsName, IsNamedFix, IsNamedSky, IsPair, IsPolicy, IsPolled}
use Rattle.gps_client.specs.Reading.{Reading, ◌then◌, behind, truth_at, member_at, member_if_at, name_at, time_at, up_to, list_at, such, word_at, or_at}
use Rattle.gps_client.specs.Texts.{listed_device, named_sky, named_tpv, polled}
use Rattle.gps_client.proofs.InView.{u8_value, sky_whole, sky_begins}
use Rattle.gps_client.proofs.Parts.{whole_closed, whole_ended, whole_labelled, whole_as, whole_list}
use Rattle.gps_client.proofs.Quoted.{Any, truth_whole, word_says, or_sound}
use Rattle.gps_client.proofs.Rowed.{member_row, member_if_row, object_whole, time_value, name_value, tpv_whole}
use Rattle.gps_client.proofs.Rows.{IsPart, IsRow, IsWhole, After, AllClear, part_as, part_such, row_made, row_then, whole_part}
use Rattle.gps_client.proofs.Whole.{up_to_value}

abbrev device_label : List ℕ
device_label = label_of key.Device

-- two stamps
sec_value : IsPart [] (λ n. n ≤ 9_999_999_999) decimal (up_to 9_999_999_999)
sec_value = up_to_value 9_999_999_999 (omega arith)

nsec_value : IsPart [] (λ n. n ≤ 999_999_999) decimal (up_to 999_999_999)
nsec_value = up_to_value 999_999_999 (omega arith)

abbrev pair_labels : List (List ℕ)
pair_labels = label_of key.RealSec ∷ label_of key.RealNsec ∷ label_of key.ClockSec ∷ label_of key.ClockNsec ∷ []

abbrev PairRow : Type 0
PairRow = ℕ × (ℕ × (ℕ × ℕ))

abbrev stamp_of : ℕ → ℕ → Moment
stamp_of sec nsec = record { sec = pos sec; nsec = nsec }

abbrev pair_of : PairRow → Pair
pair_of r = record { reference = stamp_of r.0 r.1.0; host = stamp_of r.1.1.0 r.1.1.1 }

natural : (z : ℤ) → pos 0 ≤ℤ z → pos (unsigned_abs z) ≡ z
natural (pos n) h = refl
natural (negsuc n) h = absurd (omega (arith, ints, h))

is_stamp : (sec nsec : ℕ) → sec ≤ 9_999_999_999 → nsec ≤ 999_999_999 → IsMoment (pos sec) nsec
is_stamp sec nsec s n = record { from = omega (arith, ints); to = omega (arith, ints, s); within = omega (arith, n) }

sec_few : (at : Moment) → IsMoment at.sec at.nsec → unsigned_abs at.sec ≤ 9_999_999_999
sec_few at is = omega (arith, ints, natural at.sec is.from, is.to)

pair_row : IsRow pair_labels IsPair pair_members pair_at
unfolding pair_at pair_members seconds label_of
pair_row =
    row_made (record { back = back; again = again; to = to; from = from; same = same })
    (row_then (member_row key.RealSec (λ t. refl) sec_value)
    (row_then (member_row key.RealNsec (λ t. refl) nsec_value)
    (row_then (member_row key.ClockSec (λ t. refl) sec_value)
    (member_row key.ClockNsec (λ t. refl) nsec_value) refl) refl) refl)
  where
    back : Pair → PairRow
    back p = (unsigned_abs p.reference.sec, (p.reference.nsec, (unsigned_abs p.host.sec, p.host.nsec)))

    again : (p : Pair) → IsPair p → pair_of (back p) ≡ p
    again p s = ap (λ z. record { reference = record { sec = z; nsec = p.reference.nsec }; host = stamp_of (unsigned_abs p.host.sec) p.host.nsec }) (natural p.reference.sec s.reference_in.from)
        ∙ ap (λ z. record { reference = p.reference; host = record { sec = z; nsec = p.host.nsec } }) (natural p.host.sec s.host_in.from)

    Range : PairRow → Type 0
    Range r = (r.0 ≤ 9_999_999_999) × ((r.1.0 ≤ 999_999_999) × ((r.1.1.0 ≤ 9_999_999_999) × (r.1.1.1 ≤ 999_999_999)))

    to : (r : PairRow) → Range r → IsPair (pair_of r)
    to r s = record { reference_in = is_stamp r.0 r.1.0 s.0 s.1.0; host_in = is_stamp r.1.1.0 r.1.1.1 s.1.1.0 s.1.1.1 }

    from : (p : Pair) → IsPair p → Range (back p)
    from p s = (sec_few p.reference s.reference_in, (omega (arith, s.reference_in.within), (sec_few p.host s.host_in, omega (arith, s.host_in.within))))

    same : (r : PairRow) → Range r → member key.RealSec (decimal r.0) ++ (member key.RealNsec (decimal r.1.0) ++ (member key.ClockSec (decimal r.1.1.0) ++ member key.ClockNsec (decimal r.1.1.1))) ≡ pair_members (pair_of r)
    same r s = simp append_assoc

abbrev IsNamedPair : List ℕ × Pair → Type 0
IsNamedPair t = IsName t.0 × IsPair t.1

named_pair : IsRow (device_label ∷ pair_labels) IsNamedPair (λ t. member key.Device (quoted t.0) ++ pair_members t.1) (member_at key.Device name_at then pair_at)
unfolding label_of
named_pair = row_then (member_row key.Device (λ t. refl) name_value) pair_row refl

toff_closes : (rest : List ℕ) → AllClear (device_label ∷ pair_labels) (closing ++ rest)
unfolding label_of behind
toff_closes rest = (refl, (refl, (refl, (refl, (refl, tt)))))

toff_is : (t : List ℕ × Pair) → head_of class.Toff ++ ((member key.Device (quoted t.0) ++ pair_members t.1) ++ closing) ≡ toff t.0 t.1
unfolding toff
toff_is t = simp append_assoc

pub toff_whole : IsWhole IsNamedPair (λ t. toff t.0 t.1) toff_at
unfolding toff_at
toff_whole = whole_as (λ x r. r) (λ x r. r) toff_is (object_whole (head_of class.Toff) toff_closes named_pair.is_part)

precision_clear : (rest : List ℕ) → After (device_label ∷ pair_labels) (label_of key.Precision ++ rest)
unfolding label_of behind
precision_clear rest = (refl, (refl, (refl, (refl, (refl, (refl, tt))))))

pps_is : (t : List ℕ × Pair) → head_of class.Pps ++ ((((member key.Device (quoted t.0) ++ pair_members t.1) ++ label_of key.Precision) ++ codes "-20") ++ closing) ≡ pps t.0 t.1
unfolding pps member
pps_is t = simp append_assoc

pub pps_whole : IsWhole IsNamedPair (λ t. pps t.0 t.1) pps_at
unfolding pps_at
pps_whole = whole_as (λ x r. r) (λ x r. r) pps_is (whole_labelled (head_of class.Pps) (whole_closed closing (whole_closed (codes "-20") (whole_ended (label_of key.Precision) precision_clear named_pair.is_part))))

-- a device, and all of them
device_row : IsRow (label_of key.Path ∷ label_of key.Activated ∷ []) IsListed (λ d. member key.Path (quoted d.0) ++ member_if key.Activated time d.1) (member_at key.Path name_at then member_if_at key.Activated time_at)
unfolding label_of
device_row = row_then (member_row key.Path (λ t. refl) name_value) (member_if_row key.Activated (λ t. refl) time_value) refl

device_closes : (rest : List ℕ) → AllClear (label_of key.Path ∷ label_of key.Activated ∷ []) (closing ++ rest)
unfolding label_of behind
device_closes rest = (refl, (refl, tt))

device_is : (d : List ℕ × Option Moment) → head_of class.Device ++ ((member key.Path (quoted d.0) ++ member_if key.Activated time d.1) ++ closing) ≡ listed_device d
unfolding device
device_is d = simp append_assoc

pub device_whole : IsWhole IsListed listed_device device_at
unfolding device_at
device_whole = whole_as (λ x r. r) (λ x r. r) device_is (object_whole (head_of class.Device) device_closes device_row.is_part)

device_begins : (d : List ℕ × Option Moment) (rest : List ℕ) → IsListed d → behind (codes "]") (listed_device d ++ rest) ≡ None
unfolding device head_of behind
device_begins d rest r = refl

abbrev AreListed : List (List ℕ × Option Moment) → Type 0
AreListed listed = AllByRecursion IsListed listed × (length listed ≤ 8)

few_value : IsPart [] AreListed (array listed_device) (such are_few (list_at device_at))
few_value = part_as (λ xs r. (r.0, grind (arith, nat_tests, r.1))) (λ xs r. (r.0, grind (arith, nat_tests, r.1))) (λ xs. refl) (part_such are_few (whole_part (whole_list IsListed listed_device device_at device_whole device_begins) []))

zipped : {X Y : Type 0} (xs : List (X × Y)) → zip (map (λ (p : X × Y). p.0) xs) (map (λ (p : X × Y). p.1) xs) ≡ xs
zipped [] = refl
zipped (x ∷ xs) = ap (λ ys. x ∷ ys) (zipped xs)

devices_closes : (rest : List ℕ) → AllClear (label_of key.Devices ∷ []) (closing ++ rest)
unfolding label_of behind
devices_closes rest = (refl, tt)

devices_is : (xs : List (List ℕ × Option Moment)) → head_of class.Devices ++ (member key.Devices (array listed_device xs) ++ closing) ≡ devices (map (λ d. d.0) xs) (map (λ d. d.1) xs)
unfolding devices
devices_is xs = sym (append_assoc (head_of class.Devices) (member key.Devices (array listed_device xs)) closing)
    ∙ ap (λ ys. head_of class.Devices ++ member key.Devices (array listed_device ys) ++ closing) (sym (zipped xs))

pub devices_whole : IsWhole AreListed (λ xs. devices (map (λ d. d.0) xs) (map (λ d. d.1) xs)) devices_at
unfolding devices_at label_of
devices_whole = whole_as (λ x r. r) (λ x r. r) devices_is (object_whole (head_of class.Devices) devices_closes (member_row key.Devices (λ t. refl) few_value).is_part)

-- what a session watches
abbrev policy_labels : List (List ℕ)
policy_labels = label_of key.Enable ∷ label_of key.Json ∷ label_of key.Nmea ∷ label_of key.Raw ∷ label_of key.Pps ∷ label_of key.Device ∷ []

truth_value : IsPart [] Any truth truth_at
truth_value = whole_part truth_whole []

abbrev policy_text : Policy → List ℕ
policy_text p =
    member key.Enable (truth p.enable) ++ (member key.Json (truth p.json) ++ (member key.Nmea (truth p.nmea) ++ (member key.Raw (decimal p.raw)
    ++ (member key.Pps (truth p.pps) ++ member_if key.Device quoted p.device))))

policy_row : IsRow policy_labels IsPolicy policy_text policy_at
unfolding policy_at label_of
policy_row =
    row_made (record {
      back = λ p. (p.enable, (p.json, (p.nmea, (p.raw, (p.pps, p.device)))));
      again = λ p s. refl;
      to = λ x r. record { raw_in = r.1.1.1.0; device_in = r.1.1.1.1.1 };
      from = λ p s. (tt, (tt, (tt, (s.raw_in, (tt, s.device_in)))));
      same = λ x r. refl;
    })
    (row_then (member_row key.Enable (λ t. refl) truth_value)
    (row_then (member_row key.Json (λ t. refl) truth_value)
    (row_then (member_row key.Nmea (λ t. refl) truth_value)
    (row_then (member_row key.Raw (λ t. refl) (up_to_value 2 (omega arith)))
    (row_then (member_row key.Pps (λ t. refl) truth_value)
    (member_if_row key.Device (λ t. refl) name_value) refl) refl) refl) refl) refl)

policy_closes : (rest : List ℕ) → AllClear policy_labels (closing ++ rest)
unfolding label_of behind
policy_closes rest = (refl, (refl, (refl, (refl, (refl, (refl, tt))))))

watch_is : (p : Policy) → head_of class.Watch ++ (policy_text p ++ closing) ≡ watch p
unfolding watch
watch_is p = simp append_assoc

pub watch_whole : IsWhole IsPolicy watch watch_at
unfolding watch_at
watch_whole = whole_as (λ x r. r) (λ x r. r) watch_is (object_whole (head_of class.Watch) policy_closes policy_row.is_part)

-- the answer to a POLL
tpv_begins : (t : List ℕ × Fix) (rest : List ℕ) → IsNamedFix t → behind (codes "]") (named_tpv t ++ rest) ≡ None
unfolding tpv head_of behind
tpv_begins t rest r = refl

abbrev poll_labels : List (List ℕ)
poll_labels = label_of key.Time ∷ label_of key.Active ∷ label_of key.Tpv ∷ label_of key.Sky ∷ []

abbrev poll_text : Polled → List ℕ
poll_text p = member_if key.Time time p.time ++ (member key.Active (decimal p.active) ++ (member key.Tpv (array named_tpv p.tpv) ++ member key.Sky (array named_sky p.sky)))

poll_row : IsRow poll_labels IsPolled poll_text polled_at
unfolding polled_at label_of
poll_row =
    row_made (record {
      back = λ p. (p.time, (p.active, (p.tpv, p.sky)));
      again = λ p s. refl;
      to = λ x r. record { time_in = r.0; active_in = r.1.0; tpv_in = r.1.1.0; sky_in = r.1.1.1 };
      from = λ p s. (s.time_in, (s.active_in, (s.tpv_in, s.sky_in)));
      same = λ x r. refl;
    })
    (row_then (member_if_row key.Time (λ t. refl) time_value)
    (row_then (member_row key.Active (λ t. refl) u8_value)
    (row_then (member_row key.Tpv (λ t. refl) (whole_part (whole_list IsNamedFix named_tpv tpv_at tpv_whole tpv_begins) []))
    (member_row key.Sky (λ t. refl) (whole_part (whole_list IsNamedSky named_sky sky_at sky_whole sky_begins) [])) refl) refl) refl)

poll_closes : (rest : List ℕ) → AllClear poll_labels (closing ++ rest)
unfolding label_of behind
poll_closes rest = (refl, (refl, (refl, (refl, tt))))

poll_is : (p : Polled) → head_of class.Poll ++ (poll_text p ++ closing) ≡ polled p
unfolding polled
poll_is p = simp append_assoc

pub poll_whole : IsWhole IsPolled polled poll_at
unfolding poll_at
poll_whole = whole_as (λ x r. r) (λ x r. r) poll_is (object_whole (head_of class.Poll) poll_closes poll_row.is_part)

-- the four faults
abbrev last_at : Reading CommandFault
last_at t = word_at (error fault.TooLong) fault.TooLong t

abbrev third_at : Reading CommandFault
third_at t = or_at (word_at (error fault.BadWatch) fault.BadWatch t) last_at t

abbrev second_at : Reading CommandFault
second_at t = or_at (word_at (error fault.BadJson) fault.BadJson t) third_at t

error_sound : (b : List ℕ) (f : CommandFault) (rest : List ℕ) → error_at b ≡ Some (f, rest) → b ≡ error f ++ rest
unfolding error_at
error_sound b =
    let P : CommandFault → List ℕ → Type 0 = λ f rest. b ≡ error f ++ rest in
    or_sound (word_at (error fault.Unknown) fault.Unknown b) second_at b P (word_says (error fault.Unknown) fault.Unknown error b refl)
    (or_sound (word_at (error fault.BadJson) fault.BadJson b) third_at b P (word_says (error fault.BadJson) fault.BadJson error b refl)
    (or_sound (word_at (error fault.BadWatch) fault.BadWatch b) last_at b P (word_says (error fault.BadWatch) fault.BadWatch error b refl)
    (word_says (error fault.TooLong) fault.TooLong error b refl)))

error_full : (f : CommandFault) (rest : List ℕ) → Any f → error_at (error f ++ rest) ≡ Some (f, rest)
unfolding error_at error head_of member label_of quoted message behind
error_full fault.Unknown rest r = refl
error_full fault.BadJson rest r = refl
error_full fault.BadWatch rest r = refl
error_full fault.TooLong rest r = refl

pub error_whole : IsWhole Any error error_at
error_whole = record { sound = λ b f rest e. (tt, error_sound b f rest e); full = error_full }

-- The lines before the packets: no byte within their objects ends a line, and they are short.
use Rattle.std.proofs.Common.{◌≡◌, ◌≤◌, ◌+◌, ◌*◌, ◌/◌, ◌%◌, ◌^◌, ◌==◌, ◌&&◌, ℕ, zero, suc, Bool, true, false, not, List, [], ◌∷◌, ◌++◌, Option, Some, None, length, refl, sym, ap, subst, ◌∙◌, arith, codes, nat_le, nat_lt, unsigned_abs}
use Rattle.std.specs.Prelude.{zip, nat_eq, IfSome}
use Rattle.std.specs.List.{list_all}
use Rattle.std.specs.Fmt.{decimal}
use Rattle.std.proofs.lemmas.Bool.{and_from, and_parts, leb-true, ne_eqb}
use Rattle.std.proofs.lemmas.List.{append_assoc, append-nil, length-append}
use Rattle.std.proofs.lemmas.List.Folds.{list_all-append}
use Rattle.gps_fixed.specs.Moment.{Moment}
use Rattle.gps_fixed.specs.Civil.{civil_of}
use Rattle.gps_fixed.specs.Text.{clock_text, date_text, digits_in, iso_of}
use Rattle.gps_fixed.proofs.TextLaws.{decimal_one}
use Rattle.gps_report.specs.Name.{is_name, is_name_byte}
use Rattle.gps_report.specs.declared.policy.Policy.{Policy}
use Rattle.json_line.specs.declared.names.Class.{Class}
use Rattle.json_line.specs.declared.names.Class.TheVariants as class
use Rattle.json_line.specs.declared.names.Key.TheVariants as key
use Rattle.json_line.specs.Json.{array, behind_commas, closing, line_end, member, member_if, quoted, separated, time, truth}
use Rattle.json_line.specs.Lines.{device, devices, version, watch}
use Rattle.json_line.specs.Names.{head_of, label_of}
use Rattle.book_replies.specs.Replies.{opening_reply}
use Rattle.gps_client.specs.Texts.{Begins}
use Rattle.gps_client.proofs.Heads.{version_is}
use Rattle.upstream_laws.specs.Head.{most}
use Rattle.upstream_laws.specs.Lines.{IsEarlier, IsHead, IsLine, is_plain}
use Rattle.upstream_laws.specs.Carried.{AreNames, packets_policy, watch_reply}
use Rattle.book_replies.specs.ReplyDataView.{ReplyDataView}

-- a text of at most this number of bytes, without an end of a line
pub record Neat (most : ℕ) (text : List ℕ) : Type 0 where
  pub plain : is_plain text ≡ true
  pub short : length text ≤ most

pub joins : (a b : ℕ) (x y : List ℕ) → Neat a x → Neat b y → Neat (a + b) (x ++ y)
joins a b x y one two = record {
  plain = list_all-append (λ byte. not (byte == 10)) x y ∙ and_from (is_plain x) (is_plain y) one.plain two.plain;
  short = omega (arith, length-append x y, one.short, two.short);
}

wider : (a b : ℕ) (x : List ℕ) → a ≤ b → Neat a x → Neat b x
wider a b x less neat = record { plain = neat.plain; short = omega (arith, neat.short) }

-- names
name_byte : (b : ℕ) → is_name_byte b ≡ true → not (b == 10) ≡ true
name_byte b is =
    let one : ((nat_le 0x21 b && nat_le b 0x7E && not (nat_eq b 34) && not (nat_eq b 92)) ≡ true) × (not (nat_eq b 61) ≡ true) = and_parts _ _ is in
    let two : ((nat_le 0x21 b && nat_le b 0x7E && not (nat_eq b 34)) ≡ true) × (not (nat_eq b 92) ≡ true) = and_parts _ _ one.0 in
    let three : ((nat_le 0x21 b && nat_le b 0x7E) ≡ true) × (not (nat_eq b 34) ≡ true) = and_parts _ _ two.0 in
    let least : 0x21 ≤ b = leb-true 0x21 b (and_parts _ _ three.0).0 in
    ap not (ne_eqb b 10 (λ e. absurd (omega arith)))

all_name : (text : List ℕ) → list_all is_name_byte text ≡ true → is_plain text ≡ true
all_name [] all = refl
all_name (b ∷ text) all =
    let parts : (is_name_byte b ≡ true) × (list_all is_name_byte text ≡ true) = and_parts _ _ all in
    and_from (not (b == 10)) (is_plain text) (name_byte b parts.0) (all_name text parts.1)

name_neat : (name : List ℕ) → is_name name ≡ true → Neat 64 name
name_neat name is =
    let parts : ((nat_lt 0 (length name) && nat_le (length name) 64) ≡ true) × (list_all is_name_byte name ≡ true) = and_parts _ _ is in
    record { plain = all_name name parts.1; short = leb-true (length name) 64 (and_parts _ _ parts.0).1 }

quoted_neat : (name : List ℕ) → is_name name ≡ true → Neat 66 (quoted name)
unfolding quoted
quoted_neat name is =
    let one : Neat (1 + 64) (codes "\"" ++ name) = joins 1 64 (codes "\"") name record { plain = refl; short = omega arith } (name_neat name is) in
    joins 65 1 (codes "\"" ++ name) (codes "\"") one record { plain = refl; short = omega arith }

-- times
digit_plain : (n : ℕ) → not (48 + n % 10 == 10) ≡ true
digit_plain n = ap not (ne_eqb (48 + n % 10) 10 (λ e. absurd (omega arith)))

digits_neat : (k n : ℕ) → Neat k (digits_in k n)
digits_neat zero n = record { plain = refl; short = omega arith }
digits_neat (suc k) n =
    let more : Neat k (digits_in k n) = digits_neat k n in
    record { plain = and_from _ (is_plain (digits_in k n)) (digit_plain (n / 10 ^ k)) more.plain; short = omega (arith, more.short) }

word_neat : (k : ℕ) (word : List ℕ) → is_plain word ≡ true → length word ≤ k → Neat k word
word_neat k word plain short = record { plain = plain; short = short }

iso_neat : (at : Moment) → Neat 24 (iso_of at)
unfolding iso_of
iso_neat at =
    let second : ℕ = unsigned_abs at.sec in
    let date = civil_of (second / 86_400) in
    let clock : ℕ = second % 86_400 in
    let year : Neat 5 (digits_in 4 date.year ++ codes "-") = joins 4 1 _ _ (digits_neat 4 date.year) (word_neat 1 (codes "-") refl (omega arith)) in
    let month : Neat 7 (digits_in 4 date.year ++ codes "-" ++ digits_in 2 date.month) = joins 5 2 _ _ year (digits_neat 2 date.month) in
    let dash : Neat 8 (digits_in 4 date.year ++ codes "-" ++ digits_in 2 date.month ++ codes "-") = joins 7 1 _ _ month (word_neat 1 (codes "-") refl (omega arith)) in
    let day : Neat 10 (date_text date) = joins 8 2 _ _ dash (digits_neat 2 date.day) in
    let hour : Neat 3 (digits_in 2 (clock / 3_600) ++ codes ":") = joins 2 1 _ _ (digits_neat 2 (clock / 3_600)) (word_neat 1 (codes ":") refl (omega arith)) in
    let minute : Neat 5 (digits_in 2 (clock / 3_600) ++ codes ":" ++ digits_in 2 (clock / 60 % 60)) = joins 3 2 _ _ hour (digits_neat 2 (clock / 60 % 60)) in
    let colon : Neat 6 (digits_in 2 (clock / 3_600) ++ codes ":" ++ digits_in 2 (clock / 60 % 60) ++ codes ":") = joins 5 1 _ _ minute (word_neat 1 (codes ":") refl (omega arith)) in
    let time_of_day : Neat 8 (clock_text clock) = joins 6 2 _ _ colon (digits_neat 2 (clock % 60)) in
    let with_t : Neat 11 (date_text date ++ codes "T") = joins 10 1 _ _ day (word_neat 1 (codes "T") refl (omega arith)) in
    let with_clock : Neat 19 (date_text date ++ codes "T" ++ clock_text clock) = joins 11 8 _ _ with_t time_of_day in
    let with_point : Neat 20 (date_text date ++ codes "T" ++ clock_text clock ++ codes ".") = joins 19 1 _ _ with_clock (word_neat 1 (codes ".") refl (omega arith)) in
    let with_millis : Neat 23 (date_text date ++ codes "T" ++ clock_text clock ++ codes "." ++ digits_in 3 (at.nsec / 10 ^ 6)) = joins 20 3 _ _ with_point (digits_neat 3 (at.nsec / 10 ^ 6)) in
    joins 23 1 _ _ with_millis (word_neat 1 (codes "Z") refl (omega arith))

time_neat : (at : Moment) → Neat 26 (time at)
unfolding time
time_neat at =
    let one : Neat 25 (codes "\"" ++ iso_of at) = joins 1 24 (codes "\"") (iso_of at) (word_neat 1 (codes "\"") refl (omega arith)) (iso_neat at) in
    joins 25 1 (codes "\"" ++ iso_of at) (codes "\"") one (word_neat 1 (codes "\"") refl (omega arith))

-- members
truth_neat : (b : Bool) → Neat 5 (truth b)
unfolding truth
truth_neat true = word_neat 5 (codes "true") refl (omega arith)
truth_neat false = word_neat 5 (codes "false") refl (omega arith)

path_neat : (name : List ℕ) → is_name name ≡ true → Neat 80 (member key.Path (quoted name))
unfolding member label_of
path_neat name is = joins 14 66 (label_of key.Path) (quoted name) (word_neat 14 (label_of key.Path) refl (omega arith)) (quoted_neat name is)

activated_neat : (at : Option Moment) → Neat 40 (member_if key.Activated time at)
unfolding member_if label_of
activated_neat None = word_neat 40 [] refl (omega arith)
activated_neat (Some at) = joins 14 26 (label_of key.Activated) (time at) (word_neat 14 (label_of key.Activated) refl (omega arith)) (time_neat at)

device_neat : (name : List ℕ) (at : Option Moment) → is_name name ≡ true → Neat 139 (device name at)
unfolding device head_of
device_neat name at is =
    let path : Neat 98 (head_of class.Device ++ member key.Path (quoted name)) =
    joins 18 80 (head_of class.Device) (member key.Path (quoted name)) (word_neat 18 (head_of class.Device) refl (omega arith)) (path_neat name is) in
    let stamp : Neat 138 (head_of class.Device ++ member key.Path (quoted name) ++ member_if key.Activated time at) =
    joins 98 40 (head_of class.Device ++ member key.Path (quoted name)) (member_if key.Activated time at) path (activated_neat at) in
    joins 138 1 (head_of class.Device ++ member key.Path (quoted name) ++ member_if key.Activated time at) closing stamp (word_neat 1 closing refl (omega arith))

-- the texts of a list of pairs of a name and a stamp
abbrev pair_text : List ℕ × Option Moment → List ℕ
pair_text d = device d.0 d.1

behind_neat : (names : List (List ℕ)) (firsts : List (Option Moment)) → list_all is_name names ≡ true
    → Neat (140 * length names) (behind_commas pair_text (zip names firsts))
unfolding behind_commas
behind_neat [] firsts all = word_neat 0 [] refl (omega arith)
behind_neat (name ∷ names) [] all = word_neat _ [] refl (omega arith)
behind_neat (name ∷ names) (at ∷ firsts) all =
    let parts : (is_name name ≡ true) × (list_all is_name names ≡ true) = and_parts _ _ all in
    let one : Neat 140 (codes "," ++ device name at) = joins 1 139 (codes ",") (device name at) (word_neat 1 (codes ",") refl (omega arith)) (device_neat name at parts.0) in
    let more : Neat (140 * length names) (behind_commas pair_text (zip names firsts)) = behind_neat names firsts parts.1 in
    wider (140 + 140 * length names) (140 * length (name ∷ names)) _ (omega arith)
    (joins 140 (140 * length names) (codes "," ++ device name at) (behind_commas pair_text (zip names firsts)) one more)

separated_neat : (names : List (List ℕ)) (firsts : List (Option Moment)) → list_all is_name names ≡ true
    → Neat (140 * length names) (separated pair_text (zip names firsts))
unfolding separated
separated_neat [] firsts all = word_neat 0 [] refl (omega arith)
separated_neat (name ∷ names) [] all = word_neat _ [] refl (omega arith)
separated_neat (name ∷ names) (at ∷ firsts) all =
    let parts : (is_name name ≡ true) × (list_all is_name names ≡ true) = and_parts _ _ all in
    let more : Neat (140 * length names) (behind_commas pair_text (zip names firsts)) = behind_neat names firsts parts.1 in
    wider (139 + 140 * length names) (140 * length (name ∷ names)) _ (omega arith)
    (joins 139 (140 * length names) (device name at) (behind_commas pair_text (zip names firsts)) (device_neat name at parts.0) more)

devices_neat : (names : List (List ℕ)) (firsts : List (Option Moment)) → list_all is_name names ≡ true → Neat (40 + 140 * length names) (devices names firsts)
unfolding devices array member head_of label_of
devices_neat names firsts all =
    let n : ℕ = 140 * length names in
    let list : Neat (1 + n + 1) (codes "[" ++ separated pair_text (zip names firsts) ++ codes "]") =
    joins (1 + n) 1 (codes "[" ++ separated pair_text (zip names firsts)) (codes "]")
    (joins 1 n (codes "[") (separated pair_text (zip names firsts)) (word_neat 1 (codes "[") refl (omega arith)) (separated_neat names firsts all))
    (word_neat 1 (codes "]") refl (omega arith)) in
    let labelled : Neat (14 + (1 + n + 1)) (label_of key.Devices ++ (codes "[" ++ separated pair_text (zip names firsts) ++ codes "]")) =
    joins 14 (1 + n + 1) (label_of key.Devices) _ (word_neat 14 (label_of key.Devices) refl (omega arith)) list in
    wider (18 + (14 + (1 + n + 1)) + 1) (40 + 140 * length names) _ (omega arith)
    (joins (18 + (14 + (1 + n + 1))) 1 _ closing
    (joins 18 (14 + (1 + n + 1)) (head_of class.Devices) _ (word_neat 18 (head_of class.Devices) refl (omega arith)) labelled)
    (word_neat 1 closing refl (omega arith)))

watched_neat : (name : Option (List ℕ)) → IfSome name (λ n. is_name n ≡ true) → Neat 80 (member_if key.Device quoted name)
unfolding member_if label_of
watched_neat None is = word_neat 80 [] refl (omega arith)
watched_neat (Some name) is = joins 14 66 (label_of key.Device) (quoted name) (word_neat 14 (label_of key.Device) refl (omega arith)) (quoted_neat name is)

raw_neat : Neat 8 (member key.Raw (decimal 2))
unfolding member label_of
raw_neat = subst (λ t. Neat 8 (label_of key.Raw ++ t)) (sym (decimal_one 2 (omega arith))) (word_neat 8 (codes ",\"raw\":2") refl (omega arith))

-- the members of a WATCH line up to `raw`
flags_neat : Neat 60 (head_of class.Watch ++ member key.Enable (truth true) ++ member key.Json (truth false) ++ member key.Nmea (truth false))
unfolding head_of member label_of truth
flags_neat = word_neat 60 _ refl (omega arith)

pps_neat : Neat 12 (member key.Pps (truth false))
unfolding member label_of truth
pps_neat = word_neat 12 _ refl (omega arith)

watch_neat : (name : Option (List ℕ)) → IfSome name (λ n. is_name n ≡ true) → Neat 161 (watch (packets_policy name))
unfolding watch
watch_neat name is =
    joins 160 1 _ closing
    (joins 80 80 _ (member_if key.Device quoted name)
    (joins 68 12 _ (member key.Pps (truth false)) (joins 60 8 _ (member key.Raw (decimal 2)) flags_neat raw_neat) pps_neat) (watched_neat name is))
    (word_neat 1 closing refl (omega arith))

version_neat : Neat 90 version
version_neat = subst (Neat 90) version_is (word_neat 90 _ refl (omega arith))

-- how objects begin
begins_more : (c : Class) (x y : List ℕ) → Begins c x → Begins c (x ++ y)
begins_more c x y b = (b.0 ++ y, ap (λ t. t ++ y) b.1 ∙ append_assoc (head_of c) b.0 y)

begins_first : (c : Class) (y : List ℕ) → Begins c (head_of c ++ y)
begins_first c y = (y, refl)

version_begins : Begins class.Version version
unfolding version
version_begins =
    begins_more class.Version _ closing (begins_more class.Version _ _ (begins_more class.Version _ _ (begins_more class.Version _ _ (begins_first class.Version _))))

devices_begins : (names : List (List ℕ)) (firsts : List (Option Moment)) → Begins class.Devices (devices names firsts)
unfolding devices
devices_begins names firsts = begins_more class.Devices _ closing (begins_first class.Devices _)

watch_begins : (policy : Policy) → Begins class.Watch (watch policy)
unfolding watch
watch_begins policy =
    begins_more class.Watch _ closing (begins_more class.Watch _ _ (begins_more class.Watch _ _ (begins_more class.Watch _ _ (begins_more class.Watch _ _
    (begins_more class.Watch _ _ (begins_first class.Watch _))))))

-- an object and the line end are a line
object_line : (c : Class) (n : ℕ) (object : List ℕ) → Begins c object → Neat n object → IsLine c (object ++ line_end)
object_line c n object begins neat = record {
  text = object ++ 13 ∷ [];
  spelled = sym (append_assoc object (13 ∷ []) (10 ∷ []));
  begins = begins_more c object (13 ∷ []) begins;
  plain = (joins n 1 object (13 ∷ []) neat (word_neat 1 (13 ∷ []) refl (omega arith))).plain;
}

-- what a session is written before the packets is a head
version_is_earlier : IsEarlier (version ++ line_end)
version_is_earlier = record { kind = class.Version; is_line = object_line class.Version 90 version version_begins version_neat; other = λ e. cc }

devices_are_earlier : (names : List (List ℕ)) (firsts : List (Option Moment)) → Neat (40 + 140 * length names) (devices names firsts)
    → IsEarlier (devices names firsts ++ line_end)
devices_are_earlier names firsts neat = record {
  kind = class.Devices;
  is_line = object_line class.Devices (40 + 140 * length names) (devices names firsts) (devices_begins names firsts) neat;
  other = λ e. cc;
}

pub replies_are_head : (device : Option (List ℕ)) (names : List (List ℕ)) (known : ReplyDataView) → AreNames device names
    → IsHead (opening_reply ++ watch_reply device names known)
replies_are_head name names known are =
    let first : List ℕ = version ++ line_end in
    let second : List ℕ = devices names known.firsts ++ line_end in
    let third : List ℕ = watch (packets_policy name) ++ line_end in
    let listed : Neat (40 + 140 * length names) (devices names known.firsts) = devices_neat names known.firsts are.names_are in
    let watched : Neat 161 (watch (packets_policy name)) = watch_neat name are.device_is in
    let few : length names ≤ 8 = are.few in
    let size : length (first ++ (second ++ third)) ≤ most = omega (
      arith,
      length-append first (second ++ third),
      length-append second third,
      length-append version line_end,
      length-append (devices names known.firsts) line_end,
      length-append (watch (packets_policy name)) line_end,
      version_neat.short,
      listed.short,
      watched.short,
    ) in
    record {
      earlier = first ∷ second ∷ [];
      last = third;
      joined = ap (λ t. first ++ t) (ap (λ t. t ++ third) (sym (append-nil second))) ∙ sym (append_assoc first (second ++ []) third);
      others = (version_is_earlier, (devices_are_earlier names known.firsts listed, tt));
      watch = object_line class.Watch 161 (watch (packets_policy name)) (watch_begins (packets_policy name)) watched;
      short = size;
    }

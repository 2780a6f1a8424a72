-- The objects of fixes and skies have no line feed.
use Rattle.std.proofs.Common.{◌≡◌, ℕ, suc, ◌+◌, ◌/◌, ◌%◌, ◌^◌, ◌<◌, ◌≤◌, Bool, true, false, ◌||◌, List, [], ◌∷◌, ◌++◌, length, codes, refl, ap, ◌∙◌, arith, Option, Some, None, IfSome, ℤ, pos, negsuc, unsigned_abs}
use Rattle.std.specs.Prelude.{count_by}
use Rattle.std.specs.Char.{is_ascii_digit}
use Rattle.std.specs.Fmt.{decimal}
use Rattle.std.specs.List.{AllByRecursion, list_all}
use Rattle.std.proofs.Math.Nat.{div-le_self, pow-le-pow_right}
use Rattle.std.proofs.lemmas.Bool.{and_parts, ne_eqb}
use Rattle.std.proofs.lemmas.Int.{ints}
use Rattle.std.proofs.lemmas.List.Folds.{list_any-append}
use Rattle.std.proofs.lemmas.List.Sums.{count_by-le-length}
use Rattle.gps_fixed.specs.Civil.{civil_of}
use Rattle.gps_fixed.specs.Iso.{IsWhole}
use Rattle.gps_fixed.specs.Moment.{Moment}
use Rattle.gps_fixed.specs.Text.{clock_text, date_text, digits_in, iso_of, scaled_text, unsigned_text}
use Rattle.gps_report.specs.declared.fix.Fix.{Fix}
use Rattle.gps_report.specs.declared.fix.Sky.{Sky}
use Rattle.gps_report.specs.declared.note.Position.{Position}
use Rattle.gps_report.specs.declared.satellite.Satellite.{Satellite}
use Rattle.line_cut.specs.Lines.{has_feed, is_feed}
use Rattle.json_line.specs.declared.names.Class.TheVariants as class
use Rattle.json_line.specs.declared.names.Key.{Key}
use Rattle.json_line.specs.declared.names.Key.TheVariants as key
use Rattle.json_line.specs.Json.{array, behind_commas, closing, fixed, hundredths, member, member_if, quoted, separated, signed, time, truth}
use Rattle.json_line.specs.Lines.{gnss_members, position_members, satellite, sky, tpv}
use Rattle.json_line.specs.Names.{head_of, label_of, satellite_head}
use Rattle.gps_client.specs.Ranges.{HasNineDigits, IsFix, IsI32, IsPlace, IsSatellite, IsSky, IsU16, IsU32, IsU8}
use Rattle.gps_client.proofs.Decimals.{decimal_is, digit_in, digits_pass}
use Rattle.command_laws.specs.Composed.{stdin}

pub record Plain (text : List ℕ) : Type 0 where
  pub none : has_feed text ≡ false

pub word : (text : List ℕ) → has_feed text ≡ false → Plain text
word text none = record { none = none }

pub both : {a b : List ℕ} → Plain a → Plain b → Plain (a ++ b)
both {a} {b} one two = record { none = list_any-append is_feed a b ∙ (ap (λ x. x || has_feed b) one.none ∙ two.none) }

-- ---- numbers
all_digits : (ds : List ℕ) → list_all is_ascii_digit ds ≡ true → has_feed ds ≡ false
all_digits [] all = refl
all_digits (d ∷ ds) all =
    let parts : (is_ascii_digit d ≡ true) × (list_all is_ascii_digit ds ≡ true) = and_parts (is_ascii_digit d) (list_all is_ascii_digit ds) all in
    let least : 48 ≤ d = (digit_in d parts.0).0 in
    ap (λ b. b || has_feed ds) (ne_eqb d 10 (λ e. absurd (omega (arith, e, least)))) ∙ all_digits ds parts.1

decimal_plain : (n : ℕ) → n < 2 ^ 64 → Plain (decimal n)
decimal_plain n h = word (decimal n) (all_digits (decimal n) (decimal_is n h).all)

digits_plain : (k n : ℕ) → Plain (digits_in k n)
digits_plain k n = word (digits_in k n) (all_digits (digits_in k n) (digits_pass k n))

below : (a b c : ℕ) → a ≤ b → b < c → a < c
below a b c one two = omega (arith, one, two)

unsigned_plain : (k n : ℕ) → n < 2 ^ 64 → Plain (unsigned_text k n)
unsigned_plain k n h =
    both (both (decimal_plain (n / 10 ^ k) (below (n / 10 ^ k) n (2 ^ 64) (div-le_self n (10 ^ k)) h)) (word (codes ".") refl)) (digits_plain k (n % 10 ^ k))

scaled_plain : (k : ℕ) (v : ℤ) → unsigned_abs v < 2 ^ 64 → Plain (scaled_text k v)
scaled_plain k (pos n) h = unsigned_plain k n h
scaled_plain k (negsuc n) h = both (word (codes "-") refl) (unsigned_plain k (suc n) h)

fixed_plain : (k : ℕ) → k ≤ 9 → (v : ℤ) → HasNineDigits k v → Plain (fixed k v)
unfolding fixed
fixed_plain k few v h =
    let all : 9 + k ≤ 18 = omega (arith, few) in
    let power : 10 ^ (9 + k) ≤ 10 ^ 18 = pow-le-pow_right {n = 10} (omega arith) all in
    scaled_plain k v (omega (arith, h, power))

hundredths_plain : (n : ℕ) → IsU32 n → Plain (hundredths n)
unfolding hundredths
hundredths_plain n h = scaled_plain 2 (pos n) (omega (arith, h))

signed_plain : (z : ℤ) → IsI32 z → Plain (signed z)
unfolding signed
signed_plain (pos n) h = decimal_plain n (omega (arith, ints, h.1))
signed_plain (negsuc n) h = both (word (codes "-") refl) (decimal_plain (suc n) (omega (arith, ints, h.0)))

u32_plain : (n : ℕ) → IsU32 n → Plain (decimal n)
u32_plain n h = decimal_plain n (omega (arith, h))

u16_plain : (n : ℕ) → IsU16 n → Plain (decimal n)
u16_plain n h = decimal_plain n (omega (arith, h))

u8_plain : (n : ℕ) → IsU8 n → Plain (decimal n)
u8_plain n h = decimal_plain n (omega (arith, h))

truth_plain : (b : Bool) → Plain (truth b)
unfolding truth
truth_plain true = word (codes "true") refl
truth_plain false = word (codes "false") refl

-- ---- times
date_plain : (year month day : ℕ) → Plain (date_text (record { year = year; month = month; day = day }))
date_plain year month day = both (both (both (both (digits_plain 4 year) (word (codes "-") refl)) (digits_plain 2 month)) (word (codes "-") refl)) (digits_plain 2 day)

clock_plain : (s : ℕ) → Plain (clock_text s)
clock_plain s = both (both (both (both (digits_plain 2 (s / 3_600)) (word (codes ":") refl)) (digits_plain 2 (s / 60 % 60))) (word (codes ":") refl)) (digits_plain 2 (s % 60))

iso_plain : (at : Moment) → Plain (iso_of at)
unfolding iso_of
iso_plain at =
    let date = civil_of (unsigned_abs at.sec / 86_400) in
    both (both (both (both (both (date_plain date.year date.month date.day) (word (codes "T") refl)) (clock_plain (unsigned_abs at.sec % 86_400))) (word (codes ".") refl))
    (digits_plain 3 (at.nsec / 10 ^ 6))) (word (codes "Z") refl)

time_plain : (at : Moment) → IsWhole at → Plain (time at)
unfolding time
time_plain at whole = both (both (word (codes "\"") refl) (iso_plain at)) (word (codes "\"") refl)

-- ---- members
member_plain : (k : Key) {text : List ℕ} → has_feed (label_of k) ≡ false → Plain text → Plain (member k text)
unfolding member
member_plain k label plain = both (word (label_of k) label) plain

member_if_plain : {X : Type 0} (k : Key) (text : X → List ℕ) (R : X → Type 0) (o : Option X) → has_feed (label_of k) ≡ false
    → ((x : X) → R x → Plain (text x)) → IfSome o R → Plain (member_if k text o)
unfolding member_if
member_if_plain k text R None label each is = word [] refl
member_if_plain k text R (Some x) label each is = both (word (label_of k) label) (each x is)

device_plain : Plain (member key.Device (quoted stdin))
unfolding label_of quoted
device_plain = member_plain key.Device refl (word (quoted stdin) refl)

position_plain : (o : Option Position) → IfSome o IsPlace → Plain (position_members o)
unfolding position_members label_of
position_plain None is = word [] refl
position_plain (Some p) is =
    both (member_plain key.Lat refl (fixed_plain 9 (omega arith) p.lat is.0)) (member_plain key.Lon refl (fixed_plain 9 (omega arith) p.lon is.1))

three_plain : (v : ℤ) → HasNineDigits 3 v → Plain (fixed 3 v)
three_plain v h = fixed_plain 3 (omega arith) v h

pub tpv_plain : (fix : Fix) → IsFix fix → Plain (tpv stdin fix)
unfolding tpv head_of label_of
tpv_plain fix is =
    both (both (both (both (both (both (both (both (both (both (both
    (word (head_of class.Tpv) refl)
    device_plain)
    (member_plain key.Mode refl (decimal_plain fix.mode (omega (arith, is.mode_in.1)))))
    (member_if_plain key.Time time IsWhole fix.time refl time_plain is.time_in))
    (position_plain fix.position is.position_in))
    (member_if_plain key.AltHae (fixed 3) (HasNineDigits 3) fix.alt_hae refl three_plain is.alt_hae_in))
    (member_if_plain key.AltMsl (fixed 3) (HasNineDigits 3) fix.alt_msl refl three_plain is.alt_msl_in))
    (member_if_plain key.GeoidSep (fixed 3) (HasNineDigits 3) fix.geoid_sep refl three_plain is.geoid_sep_in))
    (member_if_plain key.Track (fixed 4) (HasNineDigits 4) fix.track refl (fixed_plain 4 (omega arith)) is.track_in))
    (member_if_plain key.Speed (fixed 3) (HasNineDigits 3) fix.speed refl three_plain is.speed_in))
    (member_if_plain key.Climb (fixed 3) (HasNineDigits 3) fix.climb refl three_plain is.climb_in))
    (word closing refl)

-- ---- skies
gnss_plain : (o : Option (ℕ × ℕ)) → IfSome o (λ (g : ℕ × ℕ). IsU8 g.0 × IsU16 g.1) → Plain (gnss_members o)
unfolding gnss_members label_of
gnss_plain None is = word [] refl
gnss_plain (Some g) is = both (member_plain key.Gnssid refl (u8_plain g.0 is.0)) (member_plain key.Svid refl (u16_plain g.1 is.1))

satellite_plain : (s : Satellite) → IsSatellite s → Plain (satellite s)
unfolding satellite satellite_head label_of
satellite_plain s is =
    both (both (both (both (both (both (both (both
    (word satellite_head refl)
    (u32_plain s.prn is.prn_in))
    (member_if_plain key.El signed IsI32 s.el refl signed_plain is.el_in))
    (member_if_plain key.Az decimal IsU32 s.az refl u32_plain is.az_in))
    (member_if_plain key.Ss decimal IsU32 s.ss refl u32_plain is.ss_in))
    (member_plain key.Used refl (truth_plain s.used)))
    (gnss_plain s.gnss is.gnss_in))
    (member_if_plain key.Sigid decimal IsU8 s.signal refl u8_plain is.signal_in))
    (word closing refl)

behind_plain : (sats : List Satellite) → AllByRecursion IsSatellite sats → Plain (behind_commas satellite sats)
unfolding behind_commas
behind_plain [] all = word [] refl
behind_plain (s ∷ sats) all = both (both (word (codes ",") refl) (satellite_plain s all.0)) (behind_plain sats all.1)

separated_plain : (sats : List Satellite) → AllByRecursion IsSatellite sats → Plain (separated satellite sats)
unfolding separated
separated_plain [] all = word [] refl
separated_plain (s ∷ sats) all = both (satellite_plain s all.0) (behind_plain sats all.1)

array_plain : (sats : List Satellite) → AllByRecursion IsSatellite sats → Plain (array satellite sats)
unfolding array
array_plain sats all = both (both (word (codes "[") refl) (separated_plain sats all)) (word (codes "]") refl)

pub sky_plain : (s : Sky) → IsSky s → Plain (sky stdin s)
unfolding sky head_of label_of
sky_plain s is =
    let used : count_by (λ satellite. satellite.used) s.sats ≤ length s.sats = count_by-le-length (λ satellite. satellite.used) s.sats in
    both (both (both (both (both (both (both (both (both
    (word (head_of class.Sky) refl)
    device_plain)
    (member_if_plain key.Time time IsWhole s.time refl time_plain is.time_in))
    (member_if_plain key.Pdop hundredths IsU32 s.pdop refl hundredths_plain is.pdop_in))
    (member_if_plain key.Hdop hundredths IsU32 s.hdop refl hundredths_plain is.hdop_in))
    (member_if_plain key.Vdop hundredths IsU32 s.vdop refl hundredths_plain is.vdop_in))
    (member_plain key.NSat refl (decimal_plain (length s.sats) (omega (arith, is.sats_short)))))
    (member_plain key.USat refl (decimal_plain (count_by (λ satellite. satellite.used) s.sats) (omega (arith, used, is.sats_short)))))
    (member_plain key.Satellites refl (array_plain s.sats is.sats_in)))
    (word closing refl)

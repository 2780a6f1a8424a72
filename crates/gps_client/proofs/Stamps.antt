-- What is read of an ISO text is the stamp that it is the text of.
use Rattle.std.proofs.Common.{◌≡◌, ℕ, ◌+◌, ◌*◌, ◌/◌, ◌%◌, ◌^◌, ◌≤◌, refl, sym, ap, ◌∙◌, subst, ◌↔◌, Bool, true, false, cond, arith, nat_le, nat_lt, Option, Some, None, ℤ, pos, negsuc, ◌≤ℤ◌, unsigned_abs, List, slice_index, ◌&&◌}
use Rattle.std.specs.Str.{bytes_eq}
use Rattle.std.specs.Cmp.Lexicographic.{bytes_decides}
use Rattle.std.proofs.lemmas.Bool.{and_parts, and_from, cond-true}
use Rattle.std.proofs.lemmas.Bool.Decides.{nat_tests}
use Rattle.jiff_core.specs.Calendar.{days_from_civil}
use Rattle.jiff_core.proofs.SignedLemmas.{signed_arith}
use Rattle.gps_fixed.specs.Iso.{IsIsoOf, IsWhole, in_milliseconds, two_at}
use Rattle.gps_fixed.specs.Moment.{Moment, IsMoment}
use Rattle.gps_fixed.specs.Text.{iso_of}
use Rattle.gps_fixed.proofs.IsoLaws.{says, on_calendar}
use Rattle.gps_client.specs.Reading.{said, is_stamp, stamp_in}

-- a test that chose
chosen : {X : Type 0} (b : Bool) (x y : X) → cond b (Some x) None ≡ Some y → (b ≡ true) × (x ≡ y)
chosen true x y e = (refl, cc)
chosen false x y e = cc

is_moment : (n m : ℕ) → is_stamp (record { sec = pos n; nsec = m }) ≡ true → IsMoment (pos n) m
is_moment n m h =
    let parts = and_parts (nat_le n 9_999_999_999) (nat_lt m 1_000_000_000) h in
    let few : n ≤ 9_999_999_999 = grind (arith, nat_tests, parts.0) in
    record { from = omega (arith, signed_arith); to = omega (arith, signed_arith, few); within = grind (arith, nat_tests, parts.1) }

natural : (z : ℤ) → pos 0 ≤ℤ z → z ≡ pos (unsigned_abs z)
natural (pos n) h = refl
natural (negsuc n) h = absurd (omega (arith, signed_arith, h))

moment_is : (at : Moment) → IsMoment at.sec at.nsec → is_stamp at ≡ true
moment_is at is =
    let few : unsigned_abs at.sec ≤ 9_999_999_999 = omega (arith, signed_arith, is.to, natural at.sec is.from) in
    and_from (nat_le (unsigned_abs at.sec) 9_999_999_999) (nat_lt at.nsec 1_000_000_000) (grind (arith, nat_tests, few)) (grind (arith, nat_tests, is.within))

moment_from : (day second millisecond : ℕ) (at : Moment) → day ≡ unsigned_abs at.sec / 86_400 → second ≡ unsigned_abs at.sec % 86_400 → millisecond ≡ at.nsec / 10 ^ 6 → at.sec ≡ pos (unsigned_abs at.sec)
    → Path Moment (record { sec = pos (86_400 * day + second); nsec = 10 ^ 6 * millisecond }) (in_milliseconds at)
moment_from day second millisecond at d s m z =
    let whole : 86_400 * day + second ≡ unsigned_abs at.sec = omega (arith, d, s) in
    ap (λ n. record { sec = pos n; nsec = 10 ^ 6 * millisecond }) whole ∙ (ap (λ z. record { sec = z; nsec = 10 ^ 6 * millisecond }) (sym z) ∙ ap (λ k. record { sec = at.sec; nsec = k }) (omega (arith, m)))

said_of : (at : Moment) (text : List ℕ) → IsMoment at.sec at.nsec → text ≡ iso_of at → said text ≡ in_milliseconds at
said_of at text is e =
    let s = says at text is e in
    let on = on_calendar (unsigned_abs at.sec / 86_400) (100 * two_at 0 text + two_at 2 text) (two_at 5 text) (two_at 8 text) s.days s.date in
    moment_from (unsigned_abs (days_from_civil (pos (100 * two_at 0 text + two_at 2 text)) (two_at 5 text) (two_at 8 text))) (3_600 * two_at 11 text + 60 * two_at 14 text + two_at 17 text) (10 * two_at 20 text + slice_index text 22 % 16) at (ap unsigned_abs on.number) s.clock s.milli s.second

whole_said : (n m : ℕ) → is_stamp (record { sec = pos n; nsec = 10 ^ 6 * m }) ≡ true → IsWhole (record { sec = pos n; nsec = 10 ^ 6 * m })
whole_said n m h = record { stamp = is_moment n (10 ^ 6 * m) h; whole = ap (λ k. record { sec = pos n; nsec = k }) (omega arith) }

-- a stamp that is read is in whole milliseconds, and this is its text
pub stamp_sound : (text : List ℕ) (at : Moment) → stamp_in text ≡ Some at → IsIsoOf at text
unfolding stamp_in
stamp_sound text at e =
    let c = chosen (is_stamp (said text) && bytes_eq text (iso_of (said text))) (said text) at e in
    let parts = and_parts (is_stamp (said text)) (bytes_eq text (iso_of (said text))) c.0 in
    subst (λ a. IsIsoOf a text) c.1 (record { stamp = whole_said _ _ parts.0; written = (bytes_decides text (iso_of (said text))).0 parts.1 })

pub stamp_full : (text : List ℕ) (at : Moment) → IsIsoOf at text → stamp_in text ≡ Some at
unfolding stamp_in
stamp_full text at is =
    let same : said text ≡ at = said_of at text is.stamp.stamp is.written ∙ is.stamp.whole in
    let text_is : text ≡ iso_of (said text) = is.written ∙ ap iso_of (sym same) in
    let test : (is_stamp (said text) && bytes_eq text (iso_of (said text))) ≡ true = and_from (is_stamp (said text)) (bytes_eq text (iso_of (said text))) (ap is_stamp same ∙ moment_is at is.stamp.stamp) ((bytes_decides text (iso_of (said text))).1 text_is) in
    cond-true (is_stamp (said text) && bytes_eq text (iso_of (said text))) (Some (said text)) None test ∙ ap Some same

-- two readings with the same answers are one
pub same_stamp : (r : Option Moment) (text : List ℕ) → ((at : Moment) → (r ≡ Some at) ↔ IsIsoOf at text) → r ≡ stamp_in text
same_stamp (Some at) text exact = sym (stamp_full text at ((exact at).0 refl))
same_stamp None text exact = none (stamp_in text) refl
  where
    none : (r : Option Moment) → stamp_in text ≡ r → None ≡ stamp_in text
    none None e = sym e
    none (Some at) e = let is = (exact at).1 (stamp_sound text at e) in cc

-- Each line of what `decode` wrote is read, and their numbers are those of the fixes and skies.
use Rattle.std.proofs.Common.{◌≡◌, ℕ, ◌+◌, ◌≤◌, Bool, false, cond, List, [], ◌∷◌, ◌++◌, length, refl, sym, ap, ◌∙◌, subst, arith, append_assoc, zero-add, Option, Some}
use Rattle.std.specs.Prelude.{◌==◌, count_by, nat_lt}
use Rattle.std.specs.List.{AllByRecursion, flat_map}
use Rattle.std.proofs.lemmas.Bool.Decides.{nat_tests}
use Rattle.std.proofs.lemmas.Grind.{flat_map-append}
use Rattle.std.proofs.lemmas.List.Sums.{sum_by-cons}
use Rattle.gps_report.specs.declared.edge.Symbol.{Symbol}
use Rattle.gps_report.specs.declared.report.Body.{Body}
use Rattle.gps_report.specs.declared.report.Body.TheVariants as body
use Rattle.json_line.specs.Json.{line_end}
use Rattle.json_line.specs.Lines.{is_sky, is_tpv}
use Rattle.line_cut.specs.Lines.{has_feed, last_lines, lines, open_line}
use Rattle.line_cut.proofs.Splits.{line_lines, line_opens}
use Rattle.device_core.specs.Reports.{device_close, device_reports}
use Rattle.gps_client.specs.declared.line.Line.{Line}
use Rattle.gps_client.specs.declared.line.Line.TheVariants as line
use Rattle.gps_client.specs.History.{AreReadBack, IsCountable, IsReadBack, IsStream, cut_fix, cut_sky}
use Rattle.gps_client.specs.Texts.{IsLineOf, object}
use Rattle.gps_client.proofs.Epoched.{all_both}
use Rattle.gps_client.proofs.Streams.{close_back, history_back}
use Rattle.gps_client.proofs.Theorem.{line_full}
use Rattle.gps_decode.specs.Texts.{line_of, texts_to_end}
use Rattle.class_counts.specs.Lines.{AreRead, IsRead, whole_lines}
use Rattle.class_counts.specs.Tallies.{class_of, number, numbers_of, numbers_text, summary}
use Rattle.command_laws.specs.Composed.{HasNumbers, HasShortLine, fixes_and_skies, reports_to_end, stdin}
use Rattle.command_laws.proofs.Long.{countable}
use Rattle.command_laws.proofs.Plain.{Plain, both, sky_plain, tpv_plain, word}

-- ---- one line more
one_line : (text rest : List ℕ) → has_feed text ≡ false → whole_lines ((text ++ 10 ∷ []) ++ rest) ≡ (text ++ 10 ∷ []) ∷ whole_lines rest
one_line text rest plain =
    ap (λ ls. ls ++ last_lines (open_line ((text ++ 10 ∷ []) ++ rest))) (line_lines text rest plain)
    ∙ ap (λ o. ((text ++ 10 ∷ []) ∷ lines rest) ++ last_lines o) (line_opens text rest)

object_line : (text rest : List ℕ) → Plain text → whole_lines ((text ++ line_end) ++ rest) ≡ (text ++ line_end) ∷ whole_lines rest
object_line text rest plain =
    let spelled : text ++ line_end ≡ (text ++ 13 ∷ []) ++ 10 ∷ [] = sym (append_assoc text (13 ∷ []) (10 ∷ [])) in
    let with_end : Plain (text ++ 13 ∷ []) = both plain (word (13 ∷ []) refl) in
    ap (λ l. whole_lines (l ++ rest)) spelled ∙ one_line (text ++ 13 ∷ []) rest with_end.none ∙ ap (λ l. l ∷ whole_lines rest) (sym spelled)

not_more : (most n : ℕ) → n ≤ most → nat_lt most n ≡ false
not_more most n h = grind (arith, nat_tests, h)

step : (v : Line) (written text rest : List ℕ) (values : List Line) → written ≡ text ++ line_end → Plain text → IsLineOf v written → length written ≤ 1_048_576
    → AreRead values (whole_lines rest) → AreRead (v ∷ values) (whole_lines (written ++ rest))
step v written text rest values is plain value short more =
    let are : whole_lines (written ++ rest) ≡ written ∷ whole_lines rest =
    ap (λ l. whole_lines (l ++ rest)) is ∙ object_line text rest plain ∙ ap (λ l. l ∷ whole_lines rest) (sym is) in
    let one : IsRead v written = record { of_value = value; fits = not_more 1_048_576 (length written) short } in
    subst (AreRead (v ∷ values)) (sym are) (one, more)

-- ---- the lines of reports
abbrev value_in : Body → List Line
value_in (body.Tpv fix) = line.Tpv stdin (cut_fix fix) ∷ []
value_in (body.Sky s) = line.Sky stdin (cut_sky s) ∷ []
value_in (body.Packet p) = []
value_in (body.Toff pair) = []
value_in (body.Pps pair) = []
value_in (body.Device activated) = []

abbrev values_of : List Body → List Line
values_of bodies = flat_map value_in bodies

no_lines : AreRead [] (whole_lines [])
unfolding lines open_line
no_lines = tt

all_read : (bodies : List Body) → AreReadBack stdin bodies → AllByRecursion HasShortLine bodies → AreRead (values_of bodies) (whole_lines (flat_map line_of bodies))
unfolding object
all_read [] back short = no_lines
all_read (body.Tpv fix ∷ bodies) back short =
    let value : IsLineOf (line.Tpv stdin (cut_fix fix)) (line_of (body.Tpv fix)) = back.0 tt in
    step (line.Tpv stdin (cut_fix fix)) (line_of (body.Tpv fix)) (object (line.Tpv stdin (cut_fix fix))) (flat_map line_of bodies) (values_of bodies)
    value.written (tpv_plain (cut_fix fix) value.in_range.1) value short.0 (all_read bodies back.1 short.1)
all_read (body.Sky s ∷ bodies) back short =
    let value : IsLineOf (line.Sky stdin (cut_sky s)) (line_of (body.Sky s)) = back.0 (countable s short.0) in
    step (line.Sky stdin (cut_sky s)) (line_of (body.Sky s)) (object (line.Sky stdin (cut_sky s))) (flat_map line_of bodies) (values_of bodies)
    value.written (sky_plain (cut_sky s) value.in_range.1) value short.0 (all_read bodies back.1 short.1)
all_read (body.Packet p ∷ bodies) back short = all_read bodies back.1 short.1
all_read (body.Toff pair ∷ bodies) back short = all_read bodies back.1 short.1
all_read (body.Pps pair ∷ bodies) back short = all_read bodies back.1 short.1
all_read (body.Device activated ∷ bodies) back short = all_read bodies back.1 short.1

-- ---- a line is that of one value
same_value : (v w : Line) → Path (Option Line) (Some v) (Some w) → v ≡ w
same_value v w e = cc

one_reading : (a b : List Line) (split : List (List ℕ)) → AreRead a split → AreRead b split → a ≡ b
one_reading [] [] [] x y = refl
one_reading [] (w ∷ b) [] x y = absurd y
one_reading (v ∷ a) b [] x y = absurd x
one_reading [] b (l ∷ split) x y = absurd x
one_reading (v ∷ a) [] (l ∷ split) x y = absurd y
one_reading (v ∷ a) (w ∷ b) (l ∷ split) x y =
    let one : v ≡ w = same_value v w (sym (line_full l v x.0.of_value) ∙ line_full l w y.0.of_value) in
    let rest : a ≡ b = one_reading a b split x.1 y.1 in
    λ i. one i ∷ rest i

-- ---- their numbers
abbrev adds : ℕ → Line → ℕ
adds class v = cond (class_of v == class) 1 0

abbrev tells : (Body → Bool) → Body → ℕ
tells test b = cond (test b) 1 0

nothing_more : (b : Bool) (n : ℕ) → b ≡ false → cond b 1 0 + n ≡ n
nothing_more b n e = ap (λ c. cond c 1 0 + n) e ∙ zero-add n

-- one of another class
other : (class : ℕ) (v : Line) (values : List Line) → (class_of v == class) ≡ false → number class (v ∷ values) ≡ number class values
other class v values e = sum_by-cons (adds class) v values ∙ nothing_more (class_of v == class) (number class values) e

none_told : (test : Body → Bool) (b : Body) (bodies : List Body) → test b ≡ false → count_by test (b ∷ bodies) ≡ count_by test bodies
none_told test b bodies e = sum_by-cons (tells test) b bodies ∙ nothing_more (test b) (count_by test bodies) e

no_others : (class : ℕ) → (5 == class) ≡ false → (6 == class) ≡ false → (bodies : List Body) → number class (values_of bodies) ≡ 0
no_others class five six [] = refl
no_others class five six (body.Tpv fix ∷ bodies) = other class (line.Tpv stdin (cut_fix fix)) (values_of bodies) five ∙ no_others class five six bodies
no_others class five six (body.Sky s ∷ bodies) = other class (line.Sky stdin (cut_sky s)) (values_of bodies) six ∙ no_others class five six bodies
no_others class five six (body.Packet p ∷ bodies) = no_others class five six bodies
no_others class five six (body.Toff pair ∷ bodies) = no_others class five six bodies
no_others class five six (body.Pps pair ∷ bodies) = no_others class five six bodies
no_others class five six (body.Device activated ∷ bodies) = no_others class five six bodies

fixes_counted : (bodies : List Body) → number 5 (values_of bodies) ≡ count_by is_tpv bodies
fixes_counted [] = refl
fixes_counted (body.Tpv fix ∷ bodies) =
    sum_by-cons (adds 5) (line.Tpv stdin (cut_fix fix)) (values_of bodies) ∙ ap (λ n. 1 + n) (fixes_counted bodies) ∙ sym (sum_by-cons (tells is_tpv) (body.Tpv fix) bodies)
fixes_counted (body.Sky s ∷ bodies) = other 5 (line.Sky stdin (cut_sky s)) (values_of bodies) refl ∙ fixes_counted bodies ∙ sym (none_told is_tpv (body.Sky s) bodies refl)
fixes_counted (body.Packet p ∷ bodies) = fixes_counted bodies ∙ sym (none_told is_tpv (body.Packet p) bodies refl)
fixes_counted (body.Toff pair ∷ bodies) = fixes_counted bodies ∙ sym (none_told is_tpv (body.Toff pair) bodies refl)
fixes_counted (body.Pps pair ∷ bodies) = fixes_counted bodies ∙ sym (none_told is_tpv (body.Pps pair) bodies refl)
fixes_counted (body.Device activated ∷ bodies) = fixes_counted bodies ∙ sym (none_told is_tpv (body.Device activated) bodies refl)

skies_counted : (bodies : List Body) → number 6 (values_of bodies) ≡ count_by is_sky bodies
skies_counted [] = refl
skies_counted (body.Tpv fix ∷ bodies) = other 6 (line.Tpv stdin (cut_fix fix)) (values_of bodies) refl ∙ skies_counted bodies ∙ sym (none_told is_sky (body.Tpv fix) bodies refl)
skies_counted (body.Sky s ∷ bodies) =
    sum_by-cons (adds 6) (line.Sky stdin (cut_sky s)) (values_of bodies) ∙ ap (λ n. 1 + n) (skies_counted bodies) ∙ sym (sum_by-cons (tells is_sky) (body.Sky s) bodies)
skies_counted (body.Packet p ∷ bodies) = skies_counted bodies ∙ sym (none_told is_sky (body.Packet p) bodies refl)
skies_counted (body.Toff pair ∷ bodies) = skies_counted bodies ∙ sym (none_told is_sky (body.Toff pair) bodies refl)
skies_counted (body.Pps pair ∷ bodies) = skies_counted bodies ∙ sym (none_told is_sky (body.Pps pair) bodies refl)
skies_counted (body.Device activated ∷ bodies) = skies_counted bodies ∙ sym (none_told is_sky (body.Device activated) bodies refl)

numbers_are : (bodies : List Body) → numbers_of (values_of bodies) ≡ fixes_and_skies bodies
numbers_are bodies =
    let n0 : number 0 (values_of bodies) ≡ 0 = no_others 0 refl refl bodies in
    let n1 : number 1 (values_of bodies) ≡ 0 = no_others 1 refl refl bodies in
    let n2 : number 2 (values_of bodies) ≡ 0 = no_others 2 refl refl bodies in
    let n3 : number 3 (values_of bodies) ≡ 0 = no_others 3 refl refl bodies in
    let n4 : number 4 (values_of bodies) ≡ 0 = no_others 4 refl refl bodies in
    let fixes : number 5 (values_of bodies) ≡ count_by is_tpv bodies = fixes_counted bodies in
    let skies : number 6 (values_of bodies) ≡ count_by is_sky bodies = skies_counted bodies in
    let n7 : number 7 (values_of bodies) ≡ 0 = no_others 7 refl refl bodies in
    let n8 : number 8 (values_of bodies) ≡ 0 = no_others 8 refl refl bodies in
    let n9 : number 9 (values_of bodies) ≡ 0 = no_others 9 refl refl bodies in
    λ i. n0 i ∷ n1 i ∷ n2 i ∷ n3 i ∷ n4 i ∷ fixes i ∷ skies i ∷ n7 i ∷ n8 i ∷ n9 i ∷ []

pub numbers : (stream : List Symbol) → IsStream stream → AllByRecursion HasShortLine (reports_to_end stream)
    → HasNumbers (texts_to_end line_of stream) (fixes_and_skies (reports_to_end stream))
numbers stream is short =
    let back : AreReadBack stdin (reports_to_end stream) =
    all_both (λ b. IsCountable b → IsReadBack stdin b) (device_reports stream) (device_close stream) (history_back stdin stream refl is) (close_back stdin stream refl is) in
    let read : AreRead (values_of (reports_to_end stream)) (whole_lines (texts_to_end line_of stream)) =
    subst (λ t. AreRead (values_of (reports_to_end stream)) (whole_lines t)) (flat_map-append line_of (device_reports stream) (device_close stream))
    (all_read (reports_to_end stream) back short) in
    record {
      values = values_of (reports_to_end stream);
      are = read;
      only = λ others are.
          ap summary (one_reading others (values_of (reports_to_end stream)) (whole_lines (texts_to_end line_of stream)) are read)
          ∙ ap numbers_text (numbers_are (reports_to_end stream));
    }

-- How the lines of a made script are read.
use Rattle.std.proofs.Common.{◌≡◌, ℕ, ◌+◌, ◌<◌, ◌≤◌, Bool, true, false, ◌&&◌, not, cond, List, [], ◌∷◌, ◌++◌, length, take, drop, nat_eq, nat_le, nat_lt, Option, Some, None, codes, refl, sym, ap, ◌∙◌, subst, arith, append_assoc, lit<, if◌then◌else◌}
use Rattle.std.specs.Prelude.{◌==◌, option_map}
use Rattle.std.specs.List.{list_all, prefix_len}
use Rattle.std.specs.Str.Parse.{digits_value}
use Rattle.std.proofs.Math.Seq.{take-append_seam, drop-append_seam}
use Rattle.std.proofs.lemmas.List.{drop_at, length-append, length_push}
use Rattle.std.proofs.lemmas.List.Folds.{list_all-append}
use Rattle.std.proofs.lemmas.Bool.{and_parts, and_from, eq-eqb}
use Rattle.std.proofs.lemmas.Bool.Decides.{nat_tests}
use Rattle.gps_report.specs.declared.edge.Edge.{Edge as PulseEdge}
use Rattle.gps_report.specs.declared.edge.EdgeKind.TheVariants.{Assert}
use Rattle.pps_edges.specs.EdgeLine.{AreParts, IsNumber, Parts, edge_from, is_digit, spelling}
use Rattle.pps_edges.specs.Scan.{begins, capture_in, edge_in, is_not, nine_in, number_in, past_first, up_to_first}
use Rattle.replay_script.specs.declared.event.ScriptEvent.TheVariants.{Edge, Feed}
use Rattle.replay_script.specs.Words.{HasNone, halves, numbered, stamp_in, stamp_of, stamped, text_in}
use Rattle.replay_script.specs.Events.{bytes_event, edge_at, event_in, feed_in, number_event}

-- what comes before the first such byte, and what follows it

abbrev is_other : ℕ → ℕ → Bool
is_other mark c = not (c == mark)

place : (mark : ℕ) (word rest : List ℕ) → HasNone mark word → prefix_len (is_other mark) (word ++ mark ∷ rest) ≡ length word
place mark [] rest none = let e : is_other mark mark ≡ false = grind (arith, nat_tests) in ap (λ b. cond b (1 + prefix_len (is_other mark) rest) 0) e
place mark (c ∷ word) rest none =
    let p : (is_other mark c ≡ true) × (list_all (is_other mark) word ≡ true) = and_parts _ _ none in
    let h : prefix_len (is_other mark) (word ++ mark ∷ rest) ≡ length word = place mark word rest p.1 in
    ap (λ b. cond b (1 + prefix_len (is_other mark) (word ++ mark ∷ rest)) 0) p.0 ∙ omega (arith, h)

abbrev parts_at : ℕ → List ℕ → List ℕ × List ℕ
parts_at k text = (take k text, drop (k + 1) text)

behind : (mark : ℕ) (word rest : List ℕ) → drop (length word + 1) (word ++ mark ∷ rest) ≡ rest
behind mark word rest =
    ap (λ t. drop (length word + 1) t) (sym (append_assoc word (mark ∷ []) rest)) ∙ drop_at (word ++ mark ∷ []) rest (length word + 1) (length_push word mark)

from_parts : (mark : ℕ) (word rest : List ℕ) → HasNone mark word → halves mark (word ++ mark ∷ rest) ≡ Some (word, rest)
unfolding halves
from_parts mark word rest none =
    let at : prefix_len (is_other mark) (word ++ mark ∷ rest) ≡ length word = place mark word rest none in
    let long = length-append word (mark ∷ rest) in
    let within : nat_lt (prefix_len (is_other mark) (word ++ mark ∷ rest)) (length (word ++ mark ∷ rest)) ≡ true = grind (arith, nat_tests) in
    ap (λ b. option_map (λ k. parts_at k (word ++ mark ∷ rest)) (cond b (Some (prefix_len (is_other mark) (word ++ mark ∷ rest))) None)) within
    ∙ ap (λ k. Some (parts_at k (word ++ mark ∷ rest))) at
    ∙ ap (λ w. Some (w, drop (length word + 1) (word ++ mark ∷ rest))) (take-append_seam word (mark ∷ rest))
    ∙ ap (λ r. Some (word, r)) (behind mark word rest)

other_digit : (mark c : ℕ) → mark < 48 → is_digit c ≡ true → is_other mark c ≡ true
other_digit mark c low is = grind (arith, nat_tests)

no_mark : (mark : ℕ) (text : List ℕ) → mark < 48 → list_all is_digit text ≡ true → HasNone mark text
no_mark mark [] low all = refl
no_mark mark (c ∷ text) low all =
    let p : (is_digit c ≡ true) × (list_all is_digit text ≡ true) = and_parts _ _ all in
    and_from _ _ (other_digit mark c low p.0) (no_mark mark text low p.1)

no_mark-append : (mark : ℕ) (xs ys : List ℕ) → HasNone mark xs → HasNone mark ys → HasNone mark (xs ++ ys)
no_mark-append mark xs ys first second = list_all-append (is_other mark) xs ys ∙ and_from _ _ first second

-- numbers and stamps

read_number : (text : List ℕ) → IsNumber 10 text → number_in text ≡ Some (digits_value 10 text)
unfolding number_in
read_number text is =
    let some : nat_lt 0 (length text) ≡ true = let h = is.some in grind (arith, nat_tests) in
    let few : nat_le (length text) 10 ≡ true = let h = is.few in grind (arith, nat_tests) in
    let t : (nat_lt 0 (length text) && nat_le (length text) 10 && list_all is_digit text) ≡ true = and_from _ _ (and_from _ _ some few) is.digits in
    ap (λ b. cond b (Some (digits_value 10 text)) None) t

read_numbered : (text rest : List ℕ) → IsNumber 10 text → numbered (text ++ 32 ∷ rest) ≡ Some (digits_value 10 text, rest)
unfolding numbered
read_numbered text rest is =
    simp (from_parts 32 text rest (no_mark 32 text (lit< tt) is.digits), read_number text is) refl

-- a tenth of a second after a whole one
abbrev pub tenth : List ℕ
tenth = codes "100000000"

read_stamp : (text : List ℕ) → IsNumber 10 text → stamp_in (text ++ 46 ∷ tenth) ≡ Some (stamp_of (digits_value 10 text) 100_000_000)
unfolding stamp_in nine_in
read_stamp text is = simp (from_parts 46 text tenth (no_mark 46 text (lit< tt) is.digits), read_number text is) refl

read_stamped : (text rest : List ℕ) → IsNumber 10 text → stamped ((text ++ 46 ∷ tenth) ++ 32 ∷ rest) ≡ Some (stamp_of (digits_value 10 text) 100_000_000, rest)
unfolding stamped
read_stamped text rest is =
    let none : HasNone 32 (text ++ 46 ∷ tenth) = no_mark-append 32 text (46 ∷ tenth) (no_mark 32 text (lit< tt) is.digits) refl in
    simp (from_parts 32 (text ++ 46 ∷ tenth) rest none, read_stamp text is) refl

read_text : (payload : List ℕ) → 0 < length payload → length payload ≤ 510 → text_in 510 (13 ∷ 10 ∷ []) payload ≡ Some (payload ++ 13 ∷ 10 ∷ [])
unfolding text_in
read_text payload some few =
    let a : nat_lt 0 (length payload) ≡ true = grind (arith, nat_tests) in
    let b : nat_le (length payload) 510 ≡ true = grind (arith, nat_tests) in
    ap (λ t. if t then Some (payload ++ 13 ∷ 10 ∷ []) else None) (and_from _ _ a b)

-- the whole lines

pub read_feed : (device second payload : List ℕ) → IsNumber 10 device → IsNumber 10 second → 0 < length payload → length payload ≤ 510
    → event_in (codes "text" ++ 32 ∷ (device ++ 32 ∷ ((second ++ 46 ∷ tenth) ++ 32 ∷ payload)))
    ≡ Some (Feed (digits_value 10 device) (stamp_of (digits_value 10 second) 100_000_000) (payload ++ 13 ∷ 10 ∷ []))
unfolding event_in bytes_event feed_in
read_feed device second payload is at some few =
    let rest : List ℕ = (second ++ 46 ∷ tenth) ++ 32 ∷ payload in
    simp (from_parts 32 (codes "text") (device ++ 32 ∷ rest) refl, read_numbered device rest is, read_stamped second payload at, read_text payload some few) refl

-- the line of an edge

digit_is_not : (mark byte : ℕ) → mark < 48 → is_digit byte ≡ true → is_not mark byte ≡ true
digit_is_not mark byte low is = grind (arith, nat_tests)

run : (mark : ℕ) (xs rest : List ℕ) → mark < 48 → list_all is_digit xs ≡ true → prefix_len (is_not mark) (xs ++ mark ∷ rest) ≡ length xs
run mark [] rest low all = let e : is_not mark mark ≡ false = grind (arith, nat_tests) in ap (λ b. cond b (1 + prefix_len (is_not mark) rest) 0) e
run mark (x ∷ xs) rest low all =
    let p : (is_digit x ≡ true) × (list_all is_digit xs ≡ true) = and_parts _ _ all in
    let e : is_not mark x ≡ true = digit_is_not mark x low p.0 in
    let h : prefix_len (is_not mark) (xs ++ mark ∷ rest) ≡ length xs = run mark xs rest low p.1 in
    ap (λ b. cond b (1 + prefix_len (is_not mark) (xs ++ mark ∷ rest)) 0) e ∙ omega (arith, h)

up_to_run : (mark : ℕ) (xs rest : List ℕ) → mark < 48 → list_all is_digit xs ≡ true → up_to_first mark (xs ++ mark ∷ rest) ≡ xs
unfolding up_to_first
up_to_run mark xs rest low all = rw (run mark xs rest low all) (take-append_seam xs (mark ∷ rest))

past_run : (mark : ℕ) (xs rest : List ℕ) → mark < 48 → list_all is_digit xs ≡ true → past_first mark (xs ++ mark ∷ rest) ≡ rest
unfolding past_first
past_run mark xs rest low all = rw (run mark xs rest low all) (ap (λ t. drop 1 t) (drop-append_seam xs (mark ∷ rest)))

-- a whole second
abbrev pub nought : List ℕ
nought = codes "000000000"

abbrev pub pulse_of : List ℕ → List ℕ → Parts
pulse_of second number = record { kind = Assert; seconds = second; nanoseconds = nought; sequence = number }

capture_reads : (second number : List ℕ) → IsNumber 10 second → IsNumber 10 number → digits_value 10 number ≤ 4_294_967_295
    → capture_in Assert (second ++ 46 ∷ (nought ++ 35 ∷ number)) ≡ Some (edge_from (pulse_of second number))
unfolding capture_in nine_in
capture_reads second number at is fits =
    let back : List ℕ = nought ++ 35 ∷ number in
    let a : up_to_first 46 (second ++ 46 ∷ back) ≡ second = up_to_run 46 second back (lit< tt) at.digits in
    let b : past_first 46 (second ++ 46 ∷ back) ≡ back = past_run 46 second back (lit< tt) at.digits in
    let c : up_to_first 35 back ≡ nought = up_to_run 35 nought number (lit< tt) refl in
    let d : past_first 35 back ≡ number = past_run 35 nought number (lit< tt) refl in
    let n : nat_le (digits_value 10 number) 4_294_967_295 ≡ true = grind (arith, nat_tests) in
    simp (a, b, c, d, read_number second at, read_number number is)
    (ap (λ b. cond b (Some (edge_from (pulse_of second number))) None) n)

edge_reads : (second number : List ℕ) → IsNumber 10 second → IsNumber 10 number → digits_value 10 number ≤ 4_294_967_295
    → edge_in (codes "assert " ++ (second ++ 46 ∷ (nought ++ 35 ∷ number))) ≡ Some (edge_from (pulse_of second number))
unfolding edge_in begins
edge_reads second number at is fits = capture_reads second number at is fits

pub read_edge : (device second number : List ℕ) → IsNumber 10 device → IsNumber 10 second → IsNumber 10 number → digits_value 10 number ≤ 4_294_967_295
    → event_in (codes "edge" ++ 32 ∷ (device ++ 32 ∷ (codes "assert " ++ (second ++ 46 ∷ (nought ++ 35 ∷ number)))))
    ≡ Some (Edge (digits_value 10 device) (edge_from (pulse_of second number)))
unfolding event_in bytes_event number_event edge_at
read_edge device second number is at counts fits =
    let rest : List ℕ = codes "assert " ++ (second ++ 46 ∷ (nought ++ 35 ∷ number)) in
    simp (from_parts 32 (codes "edge") (device ++ 32 ∷ rest) refl, read_numbered device rest is, edge_reads second number at counts fits) refl

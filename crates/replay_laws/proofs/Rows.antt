-- How the lines of a run's output begin, and that each is one line.
use Rattle.std.proofs.Common.{◌≡◌, ℕ, zero, suc, ◌+◌, ◌/◌, ◌%◌, ◌^◌, ◌<◌, ◌≤◌, Bool, true, false, not, ◌&&◌, ◌||◌, List, [], ◌∷◌, ◌++◌, drop, refl, sym, ap, ◌∙◌, subst, append-nil, append_assoc, arith, if◌then◌else◌, codes, nat_le, nat_lt, nat_eq}
use Rattle.std.specs.Prelude.{◌==◌, ℤ, pos, negsuc, unsigned_abs}
use Rattle.std.specs.List.{concat, filter, flat_map, list_all, starts_with}
use Rattle.std.specs.Fmt.{decimal, digit_glyph, digits, digits_onto, signed_decimal}
use Rattle.std.proofs.lemmas.Bool.{and_from, and_parts}
use Rattle.std.proofs.lemmas.Bool.Decides.{nat_tests}
use Rattle.std.proofs.lemmas.Fmt.{decimal_injective}
use Rattle.std.proofs.lemmas.List.Folds.{list_all-append}
use Rattle.gps_fixed.specs.Hexadecimal.{lower_digit}
use Rattle.gps_fixed.specs.Moment.{Moment}
use Rattle.gps_fixed.specs.Text.{digits_in}
use Rattle.shm_segment.specs.declared.sample.Sample.{Sample}
use Rattle.shm_monitor.specs.declared.reading.Reading.{Reading}
use Rattle.shm_monitor.specs.declared.reading.Reading.TheVariants.{Taken, NotReady, Clash}
use Rattle.session_core.specs.declared.mark.Close.{Close}
use Rattle.session_core.specs.declared.mark.Close.TheVariants.{HungUp, ReadFault, DaemonEnd, TooManyRequests, Overrun, NoMemory}
use Rattle.book_units.specs.declared.unit.UnitState.{UnitState}
use Rattle.line_cut.specs.Lines.{AreLines, IsLine}
use Rattle.line_player.specs.Courses.{bad_line}
use Rattle.output_lines.specs.declared.closing.SessionEnd.TheVariants.{Drained}
use Rattle.output_lines.specs.Closings.{cause_word, closing_line, end_word, unit_line, unit_text}
use Rattle.output_lines.specs.Items.{escaped, escaped_text, is_plain, item_line}
use Rattle.output_lines.specs.Readings.{reading_line, reading_text, sample_text, stamp_text, taken_text, two_numbers}
use Rattle.output_lines.specs.Words.{line_end, numbered}
use Rattle.gps_replay.proofs.Printing.{no_feed, prints}
use Rattle.replay_laws.specs.Outputs.{after_space, begins_with, is_of, is_other_line}
use Rattle.replay_laws.proofs.Apart.{IsApart}

-- ---- bytes above the space

abbrev is_dark : ℕ → Bool
is_dark c = nat_le 33 c

dark_is_no_space : (c : ℕ) → is_dark c ≡ true → nat_eq c 32 ≡ true → ⊥
dark_is_no_space c dark e =
    let one : c ≡ 32 = grind (arith, nat_tests) in
    let two : 33 ≤ c = grind (arith, nat_tests) in
    omega arith

space_is_not_dark : (c : ℕ) → is_dark c ≡ true → nat_eq 32 c ≡ true → ⊥
space_is_not_dark c dark e =
    let one : 32 ≡ c = grind (arith, nat_tests) in
    let two : 33 ≤ c = grind (arith, nat_tests) in
    omega arith

prints_both : (xs ys : List ℕ) → list_all prints xs ≡ true → list_all prints ys ≡ true → list_all prints (xs ++ ys) ≡ true
prints_both xs ys one two = list_all-append prints xs ys ∙ and_from _ _ one two

-- two words before a space
apart : (a b rest : List ℕ) → list_all is_dark a ≡ true → list_all is_dark b ≡ true → begins_with (a ++ 32 ∷ []) ((b ++ 32 ∷ []) ++ rest) ≡ true → a ≡ b
apart [] [] rest da db e = refl
apart [] (y ∷ b) rest da db e = absurd (space_is_not_dark y (and_parts _ _ db).0 (and_parts (nat_eq 32 y) _ e).0)
apart (x ∷ a) [] rest da db e = absurd (dark_is_no_space x (and_parts _ _ da).0 (and_parts (nat_eq x 32) _ e).0)
apart (x ∷ a) (y ∷ b) rest da db e =
    let p : (nat_eq x y ≡ true) × (begins_with (a ++ 32 ∷ []) ((b ++ 32 ∷ []) ++ rest) ≡ true) = and_parts _ _ e in
    let q : nat_eq x y ≡ true = p.0 in
    let head : x ≡ y = grind (arith, nat_tests) in
    let tail : a ≡ b = apart a b rest (and_parts _ _ da).1 (and_parts _ _ db).1 p.1 in
    λ i. head i ∷ tail i

pub begins_itself : (a rest : List ℕ) → begins_with a (a ++ rest) ≡ true
begins_itself [] rest = refl
begins_itself (x ∷ a) rest =
    let same : nat_eq x x ≡ true = grind (arith, nat_tests) in
    and_from _ _ same (begins_itself a rest)

-- ---- numbers

glyph_dark : (n : ℕ) → is_dark (digit_glyph false n) ≡ true
glyph_dark n = by_size (nat_lt n 10)
  where
    by_size : (b : Bool) → is_dark (if b then 48 + n else (if false then 55 + n else 87 + n)) ≡ true
    by_size true = grind (arith, nat_tests)
    by_size false = grind (arith, nat_tests)

digits_dark : (k n : ℕ) (behind : List ℕ) → list_all is_dark behind ≡ true → list_all is_dark (digits_onto k 10 false n behind) ≡ true
digits_dark zero n behind dark = dark
digits_dark (suc k) n behind dark =
    let one : list_all is_dark (digit_glyph false (n % 10) ∷ behind) ≡ true = and_from _ _ (glyph_dark (n % 10)) dark in
    by_last (n / 10 == 0) one (digits_dark k (n / 10) (digit_glyph false (n % 10) ∷ behind) one)
  where
    by_last : (b : Bool) → list_all is_dark (digit_glyph false (n % 10) ∷ behind) ≡ true
        → list_all is_dark (digits_onto k 10 false (n / 10) (digit_glyph false (n % 10) ∷ behind)) ≡ true
        → list_all is_dark (if b then digit_glyph false (n % 10) ∷ behind else digits_onto k 10 false (n / 10) (digit_glyph false (n % 10) ∷ behind)) ≡ true
    by_last true one more = one
    by_last false one more = more

pub number_dark : (n : ℕ) → list_all is_dark (decimal n) ≡ true
unfolding digits
number_dark n = digits_dark 64 n [] refl

dark_prints : (c : ℕ) → is_dark c ≡ true → prints c ≡ true
dark_prints c dark = grind (arith, nat_tests)

all_print : (text : List ℕ) → list_all is_dark text ≡ true → list_all prints text ≡ true
all_print [] dark = refl
all_print (c ∷ text) dark =
    let p : (is_dark c ≡ true) × (list_all is_dark text ≡ true) = and_parts _ _ dark in
    and_from _ _ (dark_prints c p.0) (all_print text p.1)

number_prints : (n : ℕ) → list_all prints (decimal n) ≡ true
number_prints n = all_print (decimal n) (number_dark n)

pub numbered_prints : (word : List ℕ) (n : ℕ) → list_all prints word ≡ true → list_all prints (numbered word n) ≡ true
unfolding numbered
numbered_prints word n plain = prints_both word (decimal n) plain (number_prints n)

-- ---- a word of one letter, a number, and a space

pub of_number : (c n k : ℕ) (rest : List ℕ) → list_all is_dark (c ∷ []) ≡ true → n < 2 ^ 64 → k < 2 ^ 64
    → begins_with (numbered (c ∷ []) n ++ 32 ∷ []) ((numbered (c ∷ []) k ++ 32 ∷ []) ++ rest) ≡ nat_eq k n
unfolding numbered
of_number c n k rest dark low high = by_number (nat_eq k n) refl
  where
    dark_word : (m : ℕ) → list_all is_dark (c ∷ decimal m) ≡ true
    dark_word m = and_from _ _ (and_parts _ _ dark).0 (number_dark m)

    differ : nat_eq k n ≡ false → c ∷ decimal n ≡ c ∷ decimal k → ⊥
    differ test e =
        let same : n ≡ k = decimal_injective n k low high (ap (drop 1) e) in
        let equal : nat_eq k n ≡ true = grind (arith, nat_tests) in
        cc

    not_begun : nat_eq k n ≡ false → (b : Bool) → begins_with ((c ∷ decimal n) ++ 32 ∷ []) (((c ∷ decimal k) ++ 32 ∷ []) ++ rest) ≡ b → b ≡ false
    not_begun test true e = absurd (differ test (apart (c ∷ decimal n) (c ∷ decimal k) rest (dark_word n) (dark_word k) e))
    not_begun test false e = refl

    by_number : (b : Bool) → nat_eq k n ≡ b → begins_with ((c ∷ decimal n) ++ 32 ∷ []) (((c ∷ decimal k) ++ 32 ∷ []) ++ rest) ≡ b
    by_number true test =
        let same : k ≡ n = grind (arith, nat_tests) in
        subst (λ (m : ℕ). begins_with ((c ∷ decimal n) ++ 32 ∷ []) (((c ∷ decimal m) ++ 32 ∷ []) ++ rest) ≡ true) (sym same)
        (begins_itself ((c ∷ decimal n) ++ 32 ∷ []) rest)
    by_number false test = not_begun test _ refl

-- ---- the lines

pub a_line : (text : List ℕ) → list_all prints text ≡ true → IsLine (text ++ 10 ∷ [])
a_line text plain = record { text = text; plain = no_feed text plain; spelled = refl }

digit_prints : (n : ℕ) → prints (lower_digit n) ≡ true
digit_prints n = by_size (nat_lt n 10)
  where
    by_size : (b : Bool) → prints (if b then 48 + n else 87 + n) ≡ true
    by_size true = grind (arith, nat_tests)
    by_size false = grind (arith, nat_tests)

byte_prints : (byte : ℕ) → list_all prints (escaped byte) ≡ true
byte_prints byte = by_kind (is_plain byte) refl
  where
    by_kind : (b : Bool) → is_plain byte ≡ b → list_all prints (if b then byte ∷ [] else 92 ∷ 120 ∷ lower_digit (byte / 16) ∷ lower_digit (byte % 16) ∷ []) ≡ true
    by_kind true plain = and_from _ _ (and_parts _ _ (and_parts _ _ plain).0).0 refl
    by_kind false plain = and_from _ _ (digit_prints (byte / 16)) (and_from _ _ (digit_prints (byte % 16)) refl)

escaped_prints : (bytes : List ℕ) → list_all prints (escaped_text bytes) ≡ true
unfolding escaped_text
escaped_prints [] = refl
escaped_prints (byte ∷ bytes) = prints_both (escaped byte) (flat_map escaped bytes) (byte_prints byte) (escaped_prints bytes)

pub item_is_line : (s : ℕ) (item : List ℕ) → IsLine (item_line s item)
unfolding item_line
item_is_line s item =
    a_line (numbered (codes "s") s ++ codes " " ++ escaped_text item)
    (prints_both (numbered (codes "s") s ++ codes " ") (escaped_text item) (prints_both (numbered (codes "s") s) (codes " ") (numbered_prints (codes "s") s refl) refl) (escaped_prints item))

-- readings
nine_print : (k n : ℕ) → list_all prints (digits_in k n) ≡ true
nine_print zero n = refl
nine_print (suc k) n =
    let first : prints (48 + n / 10 ^ k % 10) ≡ true = grind (arith, nat_tests) in
    and_from _ _ first (nine_print k n)

stamp_prints : (at : Moment) → list_all prints (stamp_text at) ≡ true
unfolding stamp_text
stamp_prints at =
    prints_both (decimal (unsigned_abs at.sec) ++ codes ".") (digits_in 9 at.nsec)
    (prints_both (decimal (unsigned_abs at.sec)) (codes ".") (number_prints (unsigned_abs at.sec)) refl) (nine_print 9 at.nsec)

signed_prints : (z : ℤ) → list_all prints (signed_decimal z) ≡ true
signed_prints (pos n) = number_prints n
signed_prints (negsuc n) = and_from _ _ refl (number_prints (suc n))

sample_prints : (sample : Sample) → list_all prints (sample_text sample) ≡ true
unfolding sample_text
sample_prints sample =
    let one = stamp_text sample.reference in
    let two = stamp_text sample.host in
    prints_both (one ++ codes " " ++ two ++ codes " ") (signed_decimal sample.precision)
    (prints_both (one ++ codes " " ++ two) (codes " ")
    (prints_both (one ++ codes " ") two (prints_both one (codes " ") (stamp_prints sample.reference) refl) (stamp_prints sample.host)) refl)
    (signed_prints sample.precision)

two_print : (word : List ℕ) (first second : ℕ) → list_all prints word ≡ true → list_all prints (two_numbers word first second) ≡ true
unfolding two_numbers
two_print word first second plain = prints_both (numbered word first) (numbered (codes " ") second) (numbered_prints word first plain) (numbered_prints (codes " ") second refl)

reading_prints : (reading : Reading) → list_all prints (reading_text reading) ≡ true
unfolding reading_text taken_text
reading_prints (Taken pair) =
    prints_both (numbered (codes "taken ") pair.number ++ codes " ") (sample_text pair.sample)
    (prints_both (numbered (codes "taken ") pair.number) (codes " ") (numbered_prints (codes "taken ") pair.number refl) refl) (sample_prints pair.sample)
reading_prints (Clash before after) = two_print (codes "clash ") before after refl
reading_prints (NotReady count valid) = two_print (codes "notready ") count valid refl

pub reading_is_line : (m : ℕ) (reading : Reading) → IsLine (reading_line m reading)
unfolding reading_line
reading_is_line m reading =
    a_line (numbered (codes "m") m ++ codes " " ++ reading_text reading)
    (prints_both (numbered (codes "m") m ++ codes " ") (reading_text reading) (prints_both (numbered (codes "m") m) (codes " ") (numbered_prints (codes "m") m refl) refl) (reading_prints reading))

-- the end of a run
cause_prints : (why : Close) → list_all prints (cause_word why) ≡ true
cause_prints HungUp = refl
cause_prints ReadFault = refl
cause_prints DaemonEnd = refl
cause_prints TooManyRequests = refl
cause_prints Overrun = refl
cause_prints NoMemory = refl

pub closing_is_line : (s : ℕ) (why : Close) (items : ℕ) → IsLine (closing_line s Drained why items)
unfolding closing_line
closing_is_line s why items =
    let s_is : List ℕ = numbered (codes "s") s in
    a_line (s_is ++ codes " " ++ end_word Drained ++ codes " " ++ cause_word why ++ numbered (codes " ") items)
    (prints_both (s_is ++ codes " " ++ end_word Drained ++ codes " " ++ cause_word why) (numbered (codes " ") items)
    (prints_both (s_is ++ codes " " ++ end_word Drained ++ codes " ") (cause_word why)
    (prints_both (s_is ++ codes " " ++ end_word Drained) (codes " ")
    (prints_both (s_is ++ codes " ") (end_word Drained) (prints_both s_is (codes " ") (numbered_prints (codes "s") s refl) refl) refl) refl) (cause_prints why))
    (numbered_prints (codes " ") items refl))

unit_is_line : (u : ℕ) (state : UnitState) → IsLine (unit_line u state)
unfolding unit_line
unit_is_line u state =
    let one : List ℕ = numbered (codes "u") u in
    let two : List ℕ = numbered (codes " published ") state.published in
    let three : List ℕ = numbered (codes " count ") state.count in
    let four : List ℕ = numbered (codes " left ") state.left in
    a_line (one ++ two ++ three ++ four)
    (prints_both (one ++ two ++ three) four
    (prints_both (one ++ two) three (prints_both one two (numbered_prints (codes "u") u refl) (numbered_prints (codes " published ") state.published refl)) (numbered_prints (codes " count ") state.count refl))
    (numbered_prints (codes " left ") state.left refl))

pub bad_is_line : (n : ℕ) → IsLine (bad_line n)
unfolding bad_line
bad_is_line n = a_line (codes "bad line " ++ decimal n) (prints_both (codes "bad line ") (decimal n) refl (number_prints n))

-- the lines of a unit: one or none
abbrev pub unit_rows : ℕ → UnitState → List (List ℕ)
unit_rows u state = if state.published + state.left == 0 then [] else unit_line u state ∷ []

pub unit_rows_are : (u : ℕ) (state : UnitState) → concat (unit_rows u state) ≡ unit_text u state
unfolding unit_text
unit_rows_are u state = by_sum (state.published + state.left == 0)
  where
    by_sum : (b : Bool) → concat (if b then [] else unit_line u state ∷ []) ≡ (if b then [] else unit_line u state)
    by_sum true = refl
    by_sum false = append-nil (unit_line u state)

pub unit_rows_lines : (u : ℕ) (state : UnitState) → AreLines (unit_rows u state)
unit_rows_lines u state = by_sum (state.published + state.left == 0)
  where
    by_sum : (b : Bool) → AreLines (if b then [] else unit_line u state ∷ [])
    by_sum true = tt
    by_sum false = (unit_is_line u state, tt)

-- ---- how they begin

pub item_of : (s t : ℕ) (item : List ℕ) → s < 2 ^ 64 → t < 2 ^ 64 → is_of (codes "s") s (item_line t item) ≡ nat_eq t s
unfolding item_line
item_of s t item low high =
    ap (λ (l : List ℕ). begins_with (numbered (codes "s") s ++ codes " ") l) (append_assoc (numbered (codes "s") t ++ codes " ") (escaped_text item) line_end)
    ∙ of_number 115 s t (escaped_text item ++ line_end) refl low high

pub closing_of : (s t : ℕ) (why : Close) (items : ℕ) → s < 2 ^ 64 → t < 2 ^ 64 → is_of (codes "s") s (closing_line t Drained why items) ≡ nat_eq t s
unfolding closing_line
closing_of s t why items low high =
    let word : List ℕ = numbered (codes "s") t ++ codes " " in
    let a = end_word Drained in
    let b = codes " " in
    let c = cause_word why in
    let d = numbered (codes " ") items in
    let joined : word ++ a ++ b ++ c ++ d ++ line_end ≡ word ++ (a ++ (b ++ (c ++ (d ++ line_end)))) =
    append_assoc (word ++ a ++ b ++ c) d line_end
    ∙ append_assoc (word ++ a ++ b) c (d ++ line_end)
    ∙ append_assoc (word ++ a) b (c ++ (d ++ line_end))
    ∙ append_assoc word a (b ++ (c ++ (d ++ line_end))) in
    ap (λ (l : List ℕ). begins_with (numbered (codes "s") s ++ codes " ") l) joined
    ∙ of_number 115 s t (a ++ (b ++ (c ++ (d ++ line_end)))) refl low high

pub reading_of : (m k : ℕ) (reading : Reading) → m < 2 ^ 64 → k < 2 ^ 64 → is_of (codes "m") m (reading_line k reading) ≡ nat_eq k m
unfolding reading_line
reading_of m k reading low high =
    ap (λ (l : List ℕ). begins_with (numbered (codes "m") m ++ codes " ") l) (append_assoc (numbered (codes "m") k ++ codes " ") (reading_text reading) line_end)
    ∙ of_number 109 m k (reading_text reading ++ line_end) refl low high

-- lines of other kinds begin with another letter
pub item_of_no_monitor : (m s : ℕ) (item : List ℕ) → is_of (codes "m") m (item_line s item) ≡ false
unfolding item_line numbered
item_of_no_monitor m s item = refl

pub closing_of_no_monitor : (m s : ℕ) (why : Close) (items : ℕ) → is_of (codes "m") m (closing_line s Drained why items) ≡ false
unfolding closing_line numbered
closing_of_no_monitor m s why items = refl

pub reading_of_no_session : (s m : ℕ) (reading : Reading) → is_of (codes "s") s (reading_line m reading) ≡ false
unfolding reading_line numbered
reading_of_no_session s m reading = refl

pub bad_of_no_session : (s n : ℕ) → is_of (codes "s") s (bad_line n) ≡ false
unfolding bad_line numbered
bad_of_no_session s n = refl

pub bad_of_no_monitor : (m n : ℕ) → is_of (codes "m") m (bad_line n) ≡ false
unfolding bad_line numbered
bad_of_no_monitor m n = refl

pub unit_of_no_session : (s u : ℕ) (state : UnitState) → filter (is_of (codes "s") s) (unit_rows u state) ≡ []
unfolding unit_line numbered
unit_of_no_session s u state = by_sum (state.published + state.left == 0)
  where
    by_sum : (b : Bool) → filter (is_of (codes "s") s) (if b then [] else unit_line u state ∷ []) ≡ []
    by_sum true = refl
    by_sum false = refl

pub unit_of_no_monitor : (m u : ℕ) (state : UnitState) → filter (is_of (codes "m") m) (unit_rows u state) ≡ []
unfolding unit_line numbered
unit_of_no_monitor m u state = by_sum (state.published + state.left == 0)
  where
    by_sum : (b : Bool) → filter (is_of (codes "m") m) (if b then [] else unit_line u state ∷ []) ≡ []
    by_sum true = refl
    by_sum false = refl

-- ---- lines that are of no item and of no reading

after_word : (a rest : List ℕ) → list_all is_dark a ≡ true → after_space (a ++ 32 ∷ rest) ≡ rest
after_word [] rest dark = refl
after_word (c ∷ a) rest dark =
    let p : (is_dark c ≡ true) × (list_all is_dark a ≡ true) = and_parts _ _ dark in
    let q : is_dark c ≡ true = p.0 in
    let other : (c == 32) ≡ false = grind (arith, nat_tests) in
    ap (λ (b : Bool). if b then a ++ 32 ∷ rest else after_space (a ++ 32 ∷ rest)) other ∙ after_word a rest p.1

s_dark : (s : ℕ) → list_all is_dark (numbered (codes "s") s) ≡ true
unfolding numbered
s_dark s = and_from _ _ refl (number_dark s)

not_drained : (item : List ℕ) → IsApart item → begins_with (codes "drained ") (escaped_text item ++ line_end) ≡ false
unfolding escaped_text
not_drained [] other = refl
not_drained (byte ∷ item) other = by_kind (is_plain byte)
  where
    rest : List ℕ
    rest = flat_map escaped item

    by_kind : (b : Bool)
        → begins_with (codes "drained ") (((if b then byte ∷ [] else 92 ∷ 120 ∷ lower_digit (byte / 16) ∷ lower_digit (byte % 16) ∷ []) ++ rest) ++ line_end) ≡ false
    by_kind true = ap (λ (b : Bool). b && starts_with nat_eq (rest ++ line_end) (codes "rained ")) other
    by_kind false = refl

item_other : (s : ℕ) (rest : List ℕ) (b : Bool) → begins_with (codes "drained ") rest ≡ b → is_other_line (numbered (codes "s") s ++ 32 ∷ rest) ≡ b
unfolding numbered
item_other s rest b is =
    let behind : after_space (numbered (codes "s") s ++ 32 ∷ rest) ≡ rest = after_word (numbered (codes "s") s) rest (s_dark s) in
    ap (λ (l : List ℕ). not (not (begins_with (codes "drained ") l) || false)) behind ∙ ap (λ (c : Bool). not (not c || false)) is ∙ same b
  where
    same : (c : Bool) → not (not c || false) ≡ c
    same true = refl
    same false = refl

pub item_no_other : (s : ℕ) (item : List ℕ) → IsApart item → is_other_line (item_line s item) ≡ false
unfolding item_line
item_no_other s item distinct =
    let word : List ℕ = numbered (codes "s") s in
    ap is_other_line (append_assoc (word ++ codes " ") (escaped_text item) line_end ∙ append_assoc word (codes " ") (escaped_text item ++ line_end))
    ∙ item_other s (escaped_text item ++ line_end) false (not_drained item distinct)

pub reading_no_other : (m : ℕ) (reading : Reading) → is_other_line (reading_line m reading) ≡ false
unfolding reading_line numbered
reading_no_other m reading = refl

pub closing_other : (s : ℕ) (why : Close) (items : ℕ) → is_other_line (closing_line s Drained why items) ≡ true
unfolding closing_line
closing_other s why items =
    let word : List ℕ = numbered (codes "s") s in
    let a = end_word Drained in
    let b = codes " " in
    let c = cause_word why in
    let d = numbered (codes " ") items in
    let joined : word ++ b ++ a ++ b ++ c ++ d ++ line_end ≡ word ++ (b ++ (a ++ (b ++ (c ++ (d ++ line_end))))) =
    append_assoc (word ++ b ++ a ++ b ++ c) d line_end
    ∙ append_assoc (word ++ b ++ a ++ b) c (d ++ line_end)
    ∙ append_assoc (word ++ b ++ a) b (c ++ (d ++ line_end))
    ∙ append_assoc (word ++ b) a (b ++ (c ++ (d ++ line_end)))
    ∙ append_assoc word b (a ++ (b ++ (c ++ (d ++ line_end)))) in
    ap is_other_line joined ∙ item_other s (a ++ (b ++ (c ++ (d ++ line_end)))) true refl

pub bad_other : (n : ℕ) → is_other_line (bad_line n) ≡ true
unfolding bad_line
bad_other n = refl

pub unit_other : (u : ℕ) (state : UnitState) → filter is_other_line (unit_rows u state) ≡ unit_rows u state
unfolding unit_line numbered
unit_other u state = by_sum (state.published + state.left == 0)
  where
    by_sum : (b : Bool) → filter is_other_line (if b then [] else unit_line u state ∷ []) ≡ (if b then [] else unit_line u state ∷ [])
    by_sum true = refl
    by_sum false = refl

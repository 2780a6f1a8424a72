-- Reading from the start of a text: what is there, and what follows it.
use Rattle.std.specs.Prelude.{ℕ, zero, suc, ◌+◌, ◌*◌, ◌%◌, ◌^◌, slice_index, Bool, true, false, not, ◌&&◌, ◌||◌, ◌==◌, unsigned_abs, List, [], ◌∷◌, length, take, drop, Option, Some, None, nat_le, nat_lt, ℤ, pos, negsuc, neg_ℤ, codes, if◌then◌else◌}
use Rattle.std.specs.Str.{bytes_eq}
use Rattle.std.specs.List.{prefix_len}
use Rattle.std.specs.Char.{is_ascii_digit}
use Rattle.jiff_core.specs.Calendar.{days_from_civil}
use Rattle.gps_fixed.specs.Iso.{two_at}
use Rattle.gps_fixed.specs.Moment.{Moment}
use Rattle.gps_fixed.specs.Numeral.{number}
use Rattle.gps_fixed.specs.Scaled.{has_minus, without_minus, scaled}
use Rattle.gps_fixed.specs.Text.{iso_of}
use Rattle.json_line.specs.declared.names.Key.{Key}
use Rattle.json_line.specs.Names.{label_of}
use Rattle.gps_report.specs.Name.{is_name}

abbrev pub Reading : Type 0 → Type 0
Reading X = List ℕ → Option (X × List ℕ)

infixl 10 ◌>>=◌
abbrev pub ◌>>=◌ : {A B : Type 0} → Option A → (A → Option B) → Option B
(Some x) >>= f = f x
None >>= f = None

-- one after another, another value made of it, and a test of it
infixr 11 ◌then◌
abbrev pub ◌then◌ : {X Y : Type 0} → Reading X → Reading Y → Reading (X × Y)
(r then s) text = do
  x ← r text
  y ← s x.1
  Some ((x.0, y.0), y.1)

abbrev pub made : {X Y : Type 0} → (X → Y) → Reading X → Reading Y
made f r text = do
  x ← r text
  Some (f x.0, x.1)

abbrev pub such : {X : Type 0} → (X → Bool) → Reading X → Reading X
such test r text = do
  x ← r text
  if test x.0 then Some x else None

-- what follows these bytes, if the text begins with them
unfoldable pub behind : List ℕ → List ℕ → Option (List ℕ)
behind head text = if bytes_eq (take (length head) text) head then Some (drop (length head) text) else None

-- a value after these bytes; if they are not there, no value
abbrev pub labelled : {X : Type 0} → List ℕ → Reading X → Reading X
labelled label value text = do
  rest ← behind label text
  value rest

abbrev pub optional : {X : Type 0} → Option (List ℕ) → Reading X → Reading (Option X)
optional None value text = Some (None, text)
optional (Some rest) value text = made (λ x. Some x) value rest

abbrev pub labelled_if : {X : Type 0} → List ℕ → Reading X → Reading (Option X)
labelled_if label value text = optional (behind label text) value text

abbrev pub member_at : {X : Type 0} → Key → Reading X → Reading X
member_at key value text = labelled (label_of key) value text

abbrev pub member_if_at : {X : Type 0} → Key → Reading X → Reading (Option X)
member_if_at key value text = labelled_if (label_of key) value text

-- a value with these bytes after it
abbrev pub ended : {X : Type 0} → List ℕ → Reading X → Reading X
ended end value text = do
  x ← value text
  rest ← behind end x.1
  Some (x.0, rest)

-- digits without a leading zero, at most nineteen of them
abbrev pub is_plain : List ℕ → Bool
is_plain [] = false
is_plain (c ∷ []) = true
is_plain (c ∷ d ∷ digits) = not (c == 48) && nat_le (length digits) 17

unfoldable pub whole_at : Reading ℕ
whole_at text =
    let n = prefix_len is_ascii_digit text in
    if is_plain (take n text) then Some (number (take n text), drop n text) else None

abbrev pub up_to : ℕ → Reading ℕ
up_to most text = such (λ n. nat_le n most) whole_at text

-- below zero after a `-`
abbrev pub negated_at : Option (List ℕ) → Reading ℤ
negated_at (Some rest) text = made (λ n. neg_ℤ (pos n)) (such (λ n. nat_lt 0 n && nat_le n 2_147_483_648) whole_at) rest
negated_at None text = made (λ n. pos n) (up_to 2_147_483_647) text

unfoldable pub signed_at : Reading ℤ
signed_at text = negated_at (behind (codes "-") text) text

-- a number with the given number of decimals, written as it must be
abbrev pub is_number_byte : ℕ → Bool
is_number_byte c = is_ascii_digit c || (c == 45) || (c == 46)

unfoldable pub is_written_so : ℕ → List ℕ → ℤ → Bool
is_written_so decimals token value =
    let digits = without_minus token in
    let whole = prefix_len is_ascii_digit digits in
    is_plain (take whole digits) && (length digits == whole + 1 + decimals) && not (has_minus token && (unsigned_abs value == 0))

unfoldable pub fixed_at : ℕ → Reading ℤ
fixed_at decimals text =
    let n = prefix_len is_number_byte text in do
      value ← scaled decimals (take n text)
      if is_written_so decimals (take n text) value then Some (value, drop n text) else None

-- hundredths
abbrev pub is_hundredths : ℤ → Bool
is_hundredths (pos n) = nat_le n 4_294_967_295
is_hundredths (negsuc n) = false

unfoldable pub hundredths_at : Reading ℕ
hundredths_at text = made unsigned_abs (such is_hundredths (fixed_at 2)) text

-- the stamp that an ISO text says, if it is that of a stamp
abbrev pub said : List ℕ → Moment
said text =
    let day = unsigned_abs (days_from_civil (pos (100 * two_at 0 text + two_at 2 text)) (two_at 5 text) (two_at 8 text)) in
    let second = 3_600 * two_at 11 text + 60 * two_at 14 text + two_at 17 text in
    let millisecond = 10 * two_at 20 text + slice_index text 22 % 16 in
    record { sec = pos (86_400 * day + second); nsec = 10 ^ 6 * millisecond }

abbrev pub is_stamp : Moment → Bool
is_stamp at = nat_le (unsigned_abs at.sec) 9_999_999_999 && nat_lt at.nsec 1_000_000_000

unfoldable pub stamp_in : List ℕ → Option Moment
stamp_in text = if is_stamp (said text) && bytes_eq text (iso_of (said text)) then Some (said text) else None

abbrev pub stamp_at : Reading Moment
stamp_at text = do
  at ← stamp_in (take 24 text)
  Some (at, drop 24 text)

abbrev pub quote : List ℕ
quote = codes "\""

unfoldable pub time_at : Reading Moment
time_at text = labelled quote (ended quote stamp_at) text

-- a name, up to the quote after it
abbrev pub is_no_quote : ℕ → Bool
is_no_quote c = not (c == 34)

abbrev pub unquoted_at : Reading (List ℕ)
unquoted_at text = let n = prefix_len is_no_quote text in Some (take n text, drop n text)

unfoldable pub name_at : Reading (List ℕ)
name_at text = labelled quote (ended quote (such is_name unquoted_at)) text

abbrev pub word_at : {X : Type 0} → List ℕ → X → Reading X
word_at word value text = do
  rest ← behind word text
  Some (value, rest)

abbrev pub or_at : {X : Type 0} → Option (X × List ℕ) → Reading X → Reading X
or_at (Some x) other text = Some x
or_at None other text = other text

unfoldable pub truth_at : Reading Bool
truth_at text = or_at (word_at (codes "true") true text) (word_at (codes "false") false) text

-- at most n items, each after a comma, and the bracket after them
abbrev pub next_at : {X : Type 0} → Option (List ℕ) → Reading X → Reading (List X) → Reading (List X)
next_at (Some rest) item more text = made (λ p. p.0 ∷ p.1) (item then more) rest
next_at None item more text = word_at (codes "]") [] text

abbrev pub items_at : {X : Type 0} → ℕ → Reading X → Reading (List X)
items_at zero item text = None
items_at (suc most) item text = next_at (behind (codes ",") text) item (items_at most item) text

abbrev pub more_at : {X : Type 0} → X → Option (List X × List ℕ) → Option (List X × List ℕ)
more_at first more = more >>= λ p. Some (first ∷ p.0, p.1)

abbrev pub list_from : {X : Type 0} → Option (List ℕ) → Reading X → Reading (List X)
list_from (Some rest) item text = Some ([], rest)
list_from None item text = do
  first ← item text
  more_at first.0 (items_at (length first.1) item first.1)

unfoldable pub list_at : {X : Type 0} → Reading X → Reading (List X)
list_at item text = do
  rest ← behind (codes "[") text
  list_from (behind (codes "]") rest) item rest

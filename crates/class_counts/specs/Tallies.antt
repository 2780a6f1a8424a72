-- How many lines are of each class, and how that is written.
use Rattle.std.specs.Prelude.{◌≡◌, ℕ, ◌==◌, ◌^◌, ◌-◌, ◌<◌, List, [], ◌∷◌, ◌++◌, codes, count_by, min, slice_index_or}
use Rattle.std.specs.Fmt.{decimal}
use Rattle.gps_client.specs.declared.line.Line.{Line}
use Rattle.gps_client.specs.declared.line.Line.TheVariants as line

-- the classes in the order in which their numbers are written
abbrev pub class_of : Line → ℕ
class_of line.Version = 0
class_of (line.Devices listed) = 1
class_of (line.Device path activated) = 2
class_of (line.Watch policy) = 3
class_of (line.Poll polled) = 4
class_of (line.Tpv device fix) = 5
class_of (line.Sky device sky) = 6
class_of (line.Toff device pair) = 7
class_of (line.Pps device pair) = 8
class_of (line.Error fault) = 9

abbrev pub number : ℕ → List Line → ℕ
number class values = count_by (λ v. class_of v == class) values

-- a name, followed by a number
unfoldable pub counted : List ℕ → ℕ → List ℕ
counted name n = name ++ decimal n

-- one line with the numbers of all classes
unfoldable pub numbers_text : List ℕ → List ℕ
numbers_text numbers =
    counted (codes "version ") (slice_index_or numbers 0 0)
    ++ counted (codes " devices ") (slice_index_or numbers 1 0)
    ++ counted (codes " device ") (slice_index_or numbers 2 0)
    ++ counted (codes " watch ") (slice_index_or numbers 3 0)
    ++ counted (codes " poll ") (slice_index_or numbers 4 0)
    ++ counted (codes " tpv ") (slice_index_or numbers 5 0)
    ++ counted (codes " sky ") (slice_index_or numbers 6 0)
    ++ counted (codes " toff ") (slice_index_or numbers 7 0)
    ++ counted (codes " pps ") (slice_index_or numbers 8 0)
    ++ counted (codes " error ") (slice_index_or numbers 9 0)
    ++ codes "\n"

abbrev pub numbers_of : List Line → List ℕ
numbers_of values =
    number 0 values ∷ number 1 values ∷ number 2 values ∷ number 3 values ∷ number 4 values
    ∷ number 5 values ∷ number 6 values ∷ number 7 values ∷ number 8 values ∷ number 9 values ∷ []

abbrev pub summary : List Line → List ℕ
summary values = numbers_text (numbers_of values)

unfoldable pub bad_line : ℕ → List ℕ
bad_line number = codes "bad line " ++ decimal number ++ codes "\n"

-- a number as it is kept: it stays at the greatest value of 64 bits, which no input reaches
abbrev pub kept_number : ℕ → ℕ
kept_number n = min n (2 ^ 64 - 1)

-- the numbers that are kept are those of these lines
abbrev pub Tallies : List ℕ → List Line → Type 0
Tallies numbers values = (class : ℕ) → class < 10 → slice_index_or numbers class 0 ≡ kept_number (number class values)

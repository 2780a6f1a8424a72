-- The words of a script's line: numbers, stamps, hexadecimal bytes and texts.
use Rattle.std.specs.Prelude.{◌≡◌, ℕ, pos, ◌+◌, Bool, true, not, ◌&&◌, ◌==◌, List, [], ◌∷◌, ◌++◌, length, take, drop, nat_lt, nat_le, position, Option, Some, None, option_and_then, Result, Ok, Err, if◌then◌else◌}
use Rattle.std.specs.Option.{option_map}
use Rattle.std.specs.List.{list_all}
use Rattle.hex.specs.Hex.{decode_of}
use Rattle.hex.specs.declared.error.FromHexError.{FromHexError}
use Rattle.gps_fixed.specs.Limits.{longest_piece}
use Rattle.gps_fixed.specs.Moment.{Moment}
use Rattle.pps_edges.specs.Scan.{number_in, nine_in}
use Rattle.replay_script.specs.declared.payload.Payload.{Payload}
use Rattle.replay_script.specs.declared.payload.Payload.TheVariants.{Hex, Sentence, Part, Request}

-- what comes before the first such byte, and what follows it
unfoldable pub halves : ℕ → List ℕ → Option (List ℕ × List ℕ)
halves mark text = option_map (λ k. (take k text, drop (k + 1) text)) (position (λ c. c == mark) text)

-- no such byte is in the text
abbrev pub HasNone : ℕ → List ℕ → Type 0
HasNone mark text = list_all (λ c. not (c == mark)) text ≡ true

abbrev pub between : ℕ → ℕ → ℕ → Option ℕ
between least most n = if nat_le least n && nat_le n most then Some n else None

-- a number that is not below the one and not above the other
unfoldable pub number_between : ℕ → ℕ → List ℕ → Option ℕ
number_between least most text = option_and_then (between least most) (number_in text)

abbrev pub stamp_of : ℕ → ℕ → Moment
stamp_of sec nsec = record { sec = pos sec; nsec = nsec }

-- seconds, a point, and nine digits of nanoseconds
unfoldable pub stamp_in : List ℕ → Option Moment
stamp_in text =
    option_and_then (λ p. option_and_then (λ sec. option_map (λ nsec. stamp_of sec nsec) (nine_in p.1)) (number_in p.0)) (halves 46 text)

-- a number, and what follows the space after it
unfoldable pub numbered : List ℕ → Option (ℕ × List ℕ)
numbered text = option_and_then (λ p. option_map (λ n. (n, p.1)) (number_in p.0)) (halves 32 text)

-- a stamp, and what follows the space after it
unfoldable pub stamped : List ℕ → Option (Moment × List ℕ)
stamped text = option_and_then (λ p. option_map (λ at. (at, p.1)) (stamp_in p.0)) (halves 32 text)

-- a number, a space, and a number in a range
unfoldable pub number_and_count : ℕ → ℕ → List ℕ → Option (ℕ × ℕ)
number_and_count least most text = option_and_then (λ p. option_map (λ n. (p.0, n)) (number_between least most p.1)) (numbered text)

-- not empty, and at most so long
abbrev pub is_sized : ℕ → List ℕ → Bool
is_sized most text = nat_lt 0 (length text) && nat_le (length text) most

-- a text that is not empty and not longer than given, followed by this end
unfoldable pub text_in : ℕ → List ℕ → List ℕ → Option (List ℕ)
text_in most ending text = if is_sized most text then Some (text ++ ending) else None

abbrev pub decoded : Result (List ℕ) FromHexError → Option (List ℕ)
decoded (Ok bytes) = if is_sized longest_piece bytes then Some bytes else None
decoded (Err fault) = None

-- 1 to 512 bytes, each as two hexadecimal digits of either case
unfoldable pub hex_in : List ℕ → Option (List ℕ)
hex_in text = decoded (decode_of text)

-- the bytes that are meant: with CR LF after a sentence, LF after a request and nothing after a part of one
abbrev pub bytes_in : Payload → List ℕ → Option (List ℕ)
bytes_in Hex text = hex_in text
bytes_in Sentence text = text_in 510 (13 ∷ 10 ∷ []) text
bytes_in Part text = text_in 511 [] text
bytes_in Request text = text_in 511 (10 ∷ []) text

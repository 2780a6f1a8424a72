-- The requests of a session's input. That requests begin with `?` and end with `;` is gpsd_json(5)'s; the
-- line feed as an end, the gaps and the 1,024 bytes are this project's own.
use Rattle.std.specs.Prelude.{ℕ, zero, suc, ◌+◌, Bool, ◌||◌, false, List, [], ◌∷◌, length, take, drop, nat_eq, nat_lt, if◌then◌else◌}
use Rattle.gps_command.specs.declared.request.Quote.{Quote}
use Rattle.gps_command.specs.declared.request.Quote.TheVariants.{Outside, Inside, Escaped}
use Rattle.gps_command.specs.declared.request.RawCommand.{RawCommand}
use Rattle.gps_command.specs.declared.request.RawCommand.TheVariants.{Words, Long}

abbrev pub is_line_feed : ℕ → Bool
is_line_feed c = nat_eq c 10

-- `;` or a line feed
abbrev pub is_end : ℕ → Bool
is_end c = nat_eq c 59 || is_line_feed c

-- what is skipped between requests: space, tab, CR and the ends
abbrev pub is_gap : ℕ → Bool
is_gap c = nat_eq c 32 || nat_eq c 9 || nat_eq c 13 || is_end c

-- A quote begins a string and ends it; in a string a backslash takes the next byte with it.
abbrev pub quote_after : Quote → ℕ → Quote
quote_after Outside c = if nat_eq c 34 then Inside else Outside
quote_after Inside c = if nat_eq c 34 then Outside else (if nat_eq c 92 then Escaped else Inside)
quote_after Escaped c = Inside

abbrev pub ends : Quote → ℕ → Bool
ends Outside c = is_end c
ends Inside c = false
ends Escaped c = false

-- how many bytes come before the first end outside a string; all, if there is none
unfoldable pub open_length : Quote → List ℕ → ℕ
open_length quote [] = 0
open_length quote (c ∷ bytes) = if ends quote c then 0 else suc (open_length (quote_after quote c) bytes)

-- how many bytes a line has, with its line feed; all, if there is none
unfoldable pub line_length : List ℕ → ℕ
line_length [] = 0
line_length (c ∷ bytes) = if is_line_feed c then 1 else suc (line_length bytes)

-- What begins with a byte c and goes on with these bytes: a gap, a request of more than 1,024 bytes, one
-- that ends, or one that is open.
abbrev pub by_begin : {X : Type 0} → ℕ → List ℕ → X → X → X → X → X
by_begin c bytes gap long ended begun =
    let n = open_length Outside (c ∷ bytes) in
    if is_gap c then gap else (if nat_lt 1024 n then long else (if nat_lt n (suc (length bytes)) then ended else begun))

-- after the first byte of a request that is too long: 1,023 bytes, and the rest of the line there
abbrev pub long_length : List ℕ → ℕ
long_length bytes = 1023 + line_length (drop 1023 bytes)

-- the requests that the bytes end, if the first `skip` bytes belong to what went before
unfoldable pub requests_from : ℕ → List ℕ → List RawCommand
requests_from skip [] = []
requests_from (suc skip) (c ∷ bytes) = requests_from skip bytes
requests_from zero (c ∷ bytes) =
    let n = open_length Outside (c ∷ bytes) in
    by_begin c bytes
    (requests_from 0 bytes)
    (Long ∷ requests_from (long_length bytes) bytes)
    (Words (take n (c ∷ bytes)) ∷ requests_from n bytes)
    []

abbrev pub requests : List ℕ → List RawCommand
requests bytes = requests_from 0 bytes

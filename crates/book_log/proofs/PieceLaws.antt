-- A log by its pieces, with one more.
use Rattle.std.proofs.Common.{◌≡◌, ◌≤◌, ◌+◌, ℕ, refl, sym, ap, ◌∙◌, List, [], ◌∷◌, ◌++◌, length, drop, append_assoc, append-nil, arith, length-append, length-drop, take_all}
use Rattle.std.proofs.lemmas.List.{drop-append-le, take-append-le}
use Rattle.gps_fixed.specs.Moment.{Moment}
use Rattle.book_log.specs.declared.log.LogEvent.{LogEvent}
use Rattle.book_log.specs.declared.log.LogEvent.TheVariants.{Fed, Edged, Ended, Lost}
use Rattle.book_log.specs.Entries.{fed}
use Rattle.book_log.specs.Pieces.{bytes_of, byte_count, called, entries_of}

no_bytes : (bytes : List ℕ) → 0 ≡ length bytes → bytes ≡ []
no_bytes [] e = refl
no_bytes (b ∷ bytes) e = absurd (omega arith)

-- an event's entries do not depend on the bytes after its own
called_before : (event : LogEvent) (bytes more : List ℕ) → bytes_of event ≤ length bytes → called event (bytes ++ more) ≡ called event bytes
called_before (Fed d count at) bytes more fits = ap (fed d at) (take-append-le count bytes more fits)
called_before (Edged d kind seq at) bytes more fits = refl
called_before (Ended d) bytes more fits = refl
called_before (Lost d) bytes more fits = refl

pub entries_more : (events : List LogEvent) (event : LogEvent) (bytes more : List ℕ) → byte_count events ≡ length bytes
    → entries_of (events ++ event ∷ []) (bytes ++ more) ≡ entries_of events bytes ++ called event more
entries_more [] event bytes more fits = append-nil (called event (bytes ++ more)) ∙ ap (λ b. called event (b ++ more)) (no_bytes bytes fits)
entries_more (first ∷ events) event bytes more fits =
    let within : bytes_of first ≤ length bytes = omega arith in
    let left : byte_count events ≡ length (drop (bytes_of first) bytes) = omega (arith, length-drop (bytes_of first) bytes) in
    ap (λ e. e ++ entries_of (events ++ event ∷ []) (drop (bytes_of first) (bytes ++ more))) (called_before first bytes more within)
    ∙ ap (λ b. called first bytes ++ entries_of (events ++ event ∷ []) b) (drop-append-le (bytes_of first) bytes more within)
    ∙ ap (λ e. called first bytes ++ e) (entries_more events event (drop (bytes_of first) bytes) more left)
    ∙ sym (append_assoc (called first bytes) (entries_of events (drop (bytes_of first) bytes)) (called event more))

pub count_more : (events : List LogEvent) (event : LogEvent) → byte_count (events ++ event ∷ []) ≡ byte_count events + bytes_of event
count_more [] event = omega arith
count_more (first ∷ events) event = omega (arith, count_more events event)

pub pushed_bytes : (events : List LogEvent) (d : ℕ) (at : Moment) (bytes more : List ℕ) → byte_count events ≡ length bytes
    → entries_of (events ++ Fed d (length more) at ∷ []) (bytes ++ more) ≡ entries_of events bytes ++ fed d at more
pushed_bytes events d at bytes more fits =
    entries_more events (Fed d (length more) at) bytes more fits ∙ ap (λ b. entries_of events bytes ++ fed d at b) (take_all (length more) more (omega arith))

-- an event without bytes
pub pushed : (events : List LogEvent) (event : LogEvent) (bytes : List ℕ) → byte_count events ≡ length bytes
    → entries_of (events ++ event ∷ []) bytes ≡ entries_of events bytes ++ called event []
pushed events event bytes fits = ap (entries_of (events ++ event ∷ [])) (sym (append-nil bytes)) ∙ entries_more events event bytes [] fits

pub pushed_fits : (events now : List LogEvent) (event : LogEvent) (bytes longer more : List ℕ) → byte_count events ≡ length bytes → now ≡ events ++ event ∷ []
    → longer ≡ bytes ++ more → bytes_of event ≡ length more → byte_count now ≡ length longer
pushed_fits events now event bytes longer more fits are bytes_are own =
    ap byte_count are ∙ count_more events event ∙ joined ∙ sym (ap length bytes_are ∙ length-append bytes more)
  where
    joined : byte_count events + bytes_of event ≡ length bytes + length more
    joined = omega arith

-- A log by its pieces: what came, in order, and the bytes of all pieces joined. No public clause names it.
use Rattle.std.specs.Prelude.{◌+◌, ℕ, List, [], ◌∷◌, ◌++◌, drop, take}
use Rattle.book_log.specs.declared.log.LogEvent.{LogEvent}
use Rattle.book_log.specs.declared.log.LogEvent.TheVariants.{Fed, Edged, Ended, Lost}
use Rattle.book_log.specs.Entries.{Entry, edged, ended, fed, lost}

-- how many of the joined bytes are of an event
abbrev pub bytes_of : LogEvent → ℕ
bytes_of (Fed d count at) = count
bytes_of (Edged d kind seq at) = 0
bytes_of (Ended d) = 0
bytes_of (Lost d) = 0

abbrev pub byte_count : List LogEvent → ℕ
byte_count [] = 0
byte_count (event ∷ events) = bytes_of event + byte_count events

-- the entries of an event, whose bytes begin the given ones
abbrev pub called : LogEvent → List ℕ → List Entry
called (Fed d count at) bytes = fed d at (take count bytes)
called (Edged d kind seq at) bytes = edged d (record { kind = kind; seq = seq; at = at })
called (Ended d) bytes = ended d
called (Lost d) bytes = lost d

abbrev pub entries_of : List LogEvent → List ℕ → List Entry
entries_of [] bytes = []
entries_of (event ∷ events) bytes = called event bytes ++ entries_of events (drop (bytes_of event) bytes)

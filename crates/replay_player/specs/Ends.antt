-- What happens at a script's end: its devices end, its sessions are closed and drained, its samples are published.
use Rattle.std.specs.Prelude.{ℕ, ◌+◌, ◌-◌, ◌^◌, min, cond, List, [], ◌∷◌, ◌++◌, length, map, fold, slice_index, Option, Some, None}
use Rattle.std.specs.List.{flat_map, range_with_len}
use Rattle.session_core.specs.declared.mark.Close.{Close}
use Rattle.session_core.specs.declared.mark.Close.TheVariants.{DaemonEnd}
use Rattle.shm_segment.specs.declared.sample.Sample.{Sample}
use Rattle.book_log.specs.Entries.{Entry, ended, stops_in}
use Rattle.output_lines.specs.declared.closing.SessionEnd.TheVariants.{Drained}
use Rattle.output_lines.specs.Closings.{closing_line, unit_text}
use Rattle.replay_player.specs.Stored.{shown_state, stores_at_end}
use Rattle.replay_player.specs.Clients.{Client, closed, items_of, kept_of}
use Rattle.replay_player.specs.States.{State, came, samples_at, units_in}
use Rattle.replay_player.specs.Effects.{item_lines}

-- a device that has not ended is ended
abbrev pub ended_at : State → ℕ → State
ended_at state d = cond (stops_in d state.log) state (came (ended d) state)

-- each in order
abbrev pub all_ended : State → State
all_ended state = fold ended_at state (range_with_len 0 (length state.names))

-- each open session is closed
abbrev pub shut : State → State
shut state = record state { clients = map (closed state.log DaemonEnd) state.clients }

abbrev pub end_line : ℕ → Option (ℕ × Close) → ℕ → List ℕ
end_line s None items = []
end_line s (Some closing) items = closing_line s Drained closing.1 items

-- the number of items, which stays at its greatest value
abbrev pub counted : List (List ℕ) → ℕ
counted items = min (length items) (2 ^ 64 - 1)

-- the items of a session that are left, and its closing line with the number of all
unfoldable pub drained : List (List ℕ) → List Entry → ℕ → Client → List ℕ
drained names log s c = item_lines s (kept_of names log c) ++ end_line s c.run.closing (counted (items_of names log c))

-- of all sessions, from number s on
unfoldable pub all_drained : List (List ℕ) → List Entry → ℕ → List Client → List ℕ
all_drained names log s [] = []
all_drained names log s (c ∷ more) = drained names log s c ++ all_drained names log (s + 1) more

-- what a unit shows if its publisher makes no more stores
abbrev pub published_text : ℕ → ℕ → List Sample → List ℕ
published_text u first samples = unit_text u (shown_state first samples (stores_at_end first samples))

-- the line of a unit that had a sample
abbrev pub published : State → ℕ → List ℕ
published state u = published_text u (slice_index state.firsts u) (samples_at u state)

-- what the end of a script writes
abbrev pub last_lines : State → List ℕ
last_lines state =
    all_drained state.names state.log 0 state.clients ++ flat_map (published state) (range_with_len 0 (units_in state))

abbrev pub written_at_end : State → List ℕ
written_at_end state = last_lines (shut (all_ended state))

-- only the closing lines of all sessions, from number s on
unfoldable pub all_closed : List (List ℕ) → List Entry → ℕ → List Client → List ℕ
all_closed names log s [] = []
all_closed names log s (c ∷ more) = end_line s c.run.closing (counted (items_of names log c)) ++ all_closed names log (s + 1) more

-- the closing lines: those of sessions and those of units
abbrev pub closing_lines : State → List ℕ
closing_lines state =
    all_closed state.names state.log 0 state.clients ++ flat_map (published state) (range_with_len 0 (units_in state))

-- what the end of a script writes besides the items that are left
abbrev pub closings_at_end : State → List ℕ
closings_at_end state = closing_lines (shut (all_ended state))

-- The steps of a script's end.
use Rattle.std.specs.Prelude.{◌≡◌, ◌<◌, ◌+◌, ◌-◌, ◌*◌, ℕ, true, false, Bool, List, ◌++◌, drop, length, get_or, slice_get, slice_index, Option, Some, None, Result, Ok, Err}
use Rattle.std.specs.List.{flat_map, range_with_len}
use Rattle.gps_fixed.specs.declared.no_memory.NoMemory.{NoMemory}
use Rattle.shm_segment.specs.declared.publisher.Phase.{Phase}
use Rattle.shm_segment.specs.declared.publisher.Phase.TheVariants.{Idle, ToInvalid, ToOdd, ToBody, ToEven, ToValid}
use Rattle.book_log.specs.Entries.{stops_in}
use Rattle.book_units.specs.Steps.{state_of}
use Rattle.book_units.specs.Units.{UnitView}
use Rattle.report_book.specs.declared.fault.BookFault.{BookFault}
use Rattle.report_book.specs.declared.fault.BookFault.TheVariants as book
use Rattle.replay_player.specs.Stored.{shown_state, stores_at_end}
use Rattle.replay_player.specs.Clients.{Client, after_take}
use Rattle.replay_player.specs.Effects.{with_client}
use Rattle.replay_player.specs.Ends.{all_drained, drained, published}
use Rattle.replay_player.specs.Playing.{BookStandsFor, ReplayBookView}
use Rattle.replay_player.specs.States.{State, samples_at, units_in}

-- a call of a book was not out of memory
abbrev pub IsServed : Result (Unit {0}) BookFault → Type 0
IsServed (Ok _) = Unit {0}
IsServed (Err book.NoMemory) = ⊥
IsServed (Err fault) = Unit {0}

-- each device has ended or was lost
abbrev pub HaveStopped : State → Type 0
HaveStopped state = (d : ℕ) → d < length state.names → stops_in d state.log ≡ true

-- the names, the first numbers and the log are the same
pub record Alike (old new : State) : Type 0 where
  pub names : new.names ≡ old.names
  pub firsts : new.firsts ≡ old.firsts
  pub log : new.log ≡ old.log

-- the stage stands for a state that is alike
pub record StandsAlike (new : ReplayBookView) (state : State) : Type 0 where
  pub now : State
  pub plays : BookStandsFor new now
  pub alike : Alike state now

-- how many items are taken at once: no outlet keeps more
abbrev pub most_kept : ℕ
most_kept = 65_536

-- all items of a session are taken
abbrev pub emptied : ℕ → Client → State → State
emptied s c state = with_client s (after_take most_kept state.names state.log c) state

-- the lines of one session
pub record DrainsOne (s : ℕ) (new : ReplayBookView) (out out' : List ℕ) (state : State) (c : Client) : Type 0 where
  pub plays : BookStandsFor new (emptied s c state)
  pub written : out' ≡ out ++ drained state.names state.log s c

-- what is left to write once the devices have ended and the sessions are closed: from the session of this number on
abbrev pub left_from : ℕ → State → List ℕ
left_from n state =
    all_drained state.names state.log n (drop n state.clients) ++ flat_map (published state) (range_with_len 0 (units_in state))

-- the end of a script, and the first session whose lines are left
pub record ScriptEndView : Type 0 where
  pub book : ReplayBookView
  pub next : ℕ

-- this is left to write
pub record Leaves (e : ScriptEndView) (left : List ℕ) : Type 0 where
  pub state : State
  pub stands : BookStandsFor e.book state
  pub is : left_from e.next state ≡ left

-- The next part of what is left follows what was written, and the rest is left; or all of it is there. Out of memory, nothing is known.
abbrev pub EndAdds : Result Bool NoMemory → List ℕ → ScriptEndView → List ℕ → List ℕ → Type 0
EndAdds (Ok true) left new out out' = (part : List ℕ) × (rest : List ℕ) × (left ≡ part ++ rest) × Leaves new rest × (out' ≡ out ++ part)
EndAdds (Ok false) left new out out' = out' ≡ out ++ left
EndAdds (Err _) left new out out' = Unit {0}

abbrev pub sessions_left : ScriptEndView → ℕ
sessions_left e = length e.book.book.sessions - e.next

-- how many stores are at most left of a sample in this phase
abbrev pub phase_left : Phase → ℕ
phase_left Idle = 0
phase_left ToInvalid = 13
phase_left ToOdd = 12
phase_left (ToBody place) = 3 + (8 - place)
phase_left ToEven = 2
phase_left ToValid = 1

-- how many stores a unit has left at most: each waiting sample takes thirteen
abbrev pub unit_left : Option UnitView → ℕ
unit_left None = 0
unit_left (Some u) = 13 * length u.waiting + phase_left u.publisher.phase

abbrev pub stores_left : ℕ → List UnitView → ℕ
stores_left u units = unit_left (slice_get units u)

-- a unit shows what it shows at its end
abbrev pub IsUnitPublished : ℕ → ReplayBookView → State → Type 0
IsUnitPublished u s state =
    (free : UnitView) → state_of (get_or s.book.units u free)
    ≡ shown_state (slice_index state.firsts u) (samples_at u state) (stores_at_end (slice_index state.firsts u) (samples_at u state))

-- a step of a unit; if it makes no store, the unit has ended
pub record PublishesOne (u : ℕ) (more : Bool) (new : ReplayBookView) (state : State) : Type 0 where
  pub stands : StandsAlike new state
  pub last : more ≡ false → IsUnitPublished u new state

-- the line of one unit
pub record Shows (u : ℕ) (new : ReplayBookView) (out out' : List ℕ) (state : State) : Type 0 where
  pub stands : StandsAlike new state
  pub written : out' ≡ out ++ published state u
